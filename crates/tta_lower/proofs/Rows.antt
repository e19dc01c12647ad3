-- Rows of steps that grow.
use Rattle.std.proofs.Common.{◌≡◌, ◌<◌, ◌≤◌, ◌+◌, ◌-◌, ◌++◌, ◌∷◌, [], ℕ, zero, suc, Bool, List, Some, true, length, drop, get_or, slice_get, refl, sym, ap, ◌∙◌, arith, append_assoc}
use Rattle.std.specs.Prelude.{if◌then◌else◌}
use Rattle.std.specs.List.{list_all}
use Rattle.std.proofs.lemmas.Bool.{and_parts}
use Rattle.std.proofs.lemmas.List.{drop_more}
use Rattle.tta_lower.specs.Cited.{Src, is_src, Step, Proc, step_at, Program, RStep}
use Rattle.tta_lir.specs.declared.code.Place.TheVariants as places
use Rattle.tta_lir.specs.declared.code.RStep.TheVariants as rstep
use Rattle.tta_lower.specs.Liveness.{Homes}
use Rattle.tta_lower.specs.Layout.{var_slot, source, passes, steps_for, code_from, sets, sets_from}

-- one argument more was passed
pub passes_more : (p : Program) (home : Homes) (owner callee x : ℕ) (args : List Src) (s : Src) (prefix : List RStep) → x < length args → s ≡ get_or args x s
    → (prefix ++ rstep.Copy (places.Frame (var_slot p callee x)) (source p home owner s) ∷ []) ++ passes p home owner callee (x + 1) (drop (x + 1) args)
    ≡ prefix ++ passes p home owner callee x (drop x args)
passes_more p home owner callee x args s prefix lt is =
    append_assoc prefix (rstep.Copy (places.Frame (var_slot p callee x)) (source p home owner s) ∷ []) (passes p home owner callee (x + 1) (drop (x + 1) args))
    ∙ ap (λ l. prefix ++ passes p home owner callee x l) (ap (λ y. y ∷ drop (x + 1) args) is ∙ sym (drop_more args x s lt))

-- one of operands that are all in range
pub src_in : (vars : ℕ) (args : List Src) (x : ℕ) (s : Src) → list_all (is_src vars) args ≡ true → x < length args → s ≡ get_or args x s → is_src vars s ≡ true
src_in vars [] x s all lt is = absurd (omega (arith, lt))
src_in vars (a ∷ args) zero s all lt is = ap (is_src vars) is ∙ (and_parts (is_src vars a) _ all).0
src_in vars (a ∷ args) (suc x) s all lt is = src_in vars args x s (and_parts (is_src vars a) _ all).1 (omega (arith, lt)) is

-- one step more of a row
pub row_more : (p : Program) (home : Homes) (owner at last : ℕ) (st : Step) (prefix made : List RStep) → step_at p owner at ≡ Some st → at ≤ last
    → made ≡ prefix ++ steps_for p home owner st → made ++ code_from p home owner (at + 1) (last + 1 - (at + 1)) ≡ prefix ++ code_from p home owner at (last + 1 - at)
row_more p home owner at last st prefix made there le is =
    let e : last + 1 - at ≡ suc (last + 1 - (at + 1)) = omega (arith, le) in
    ap (λ l. l ++ code_from p home owner (at + 1) (last + 1 - (at + 1))) is
    ∙ append_assoc prefix (steps_for p home owner st) (code_from p home owner (at + 1) (last + 1 - (at + 1)))
    ∙ rw (e, there) refl

-- a step there of a procedure that is there
pub there_at : (p : Program) (owner at : ℕ) (q : Proc) (st : Step) → slice_get p.procs owner ≡ Some q → slice_get q.steps at ≡ Some st → step_at p owner at ≡ Some st
there_at p owner at q st is here = rw is here

-- one variable more of an entry, live or not
pub sets_more : (p : Program) (home : Homes) (live : ℕ → Bool) (owner x n : ℕ) (b : Bool) (prefix made : List RStep) → x < n → b ≡ live x
    → made ≡ prefix ++ (if b then sets p home owner x else [])
    → made ++ sets_from p home live owner (x + 1) (n - (x + 1)) ≡ prefix ++ sets_from p home live owner x (n - x)
sets_more p home live owner x n b prefix made lt here is =
    let e : n - x ≡ suc (n - (x + 1)) = omega (arith, lt) in
    ap (λ l. l ++ sets_from p home live owner (x + 1) (n - (x + 1))) is
    ∙ append_assoc prefix (if b then sets p home owner x else []) (sets_from p home live owner (x + 1) (n - (x + 1)))
    ∙ ap (λ t. prefix ++ ((if t then sets p home owner x else []) ++ sets_from p home live owner (x + 1) (n - (x + 1)))) here
    ∙ rw e refl
