-- Steps that only output constants and halt, along a list.
use Rattle.std.proofs.Common.{◌≡◌, ◌<◌, ◌≤◌, ◌+◌, ◌-◌, inl, inr, ℕ, Bool, true, false, List, [], ◌∷◌, get_or, drop, length, refl, sym, ap, ◌∙◌, arith}
use Rattle.std.specs.Prelude.{◌&&◌, ◌==◌}
use Rattle.std.proofs.lemmas.Bool.{cases_lt}
use Rattle.std.proofs.lemmas.Bool.Decides.{nat_tests}
use Rattle.std.proofs.lemmas.List.{length-drop}
use Rattle.tta_build.specs.Cited.{Var, Word, Step, Copy, Apply, Load, Take, Store, Put, If, Goto, When, Invoke, Return, Halt, End, is_end, only_constants, is_constant_or_halt}
use Rattle.tta_build.proofs.Served.{rest_from, nothing_left}

-- a constant and a halt are passed over
passed : (st : Step) (rest : List Step) → is_constant_or_halt st ≡ true → only_constants (st ∷ rest) ≡ only_constants rest
passed (Put (Word w)) rest e = refl
passed (Put (Var x)) rest e = absurd cc
passed Halt rest e = refl
passed (Copy d s) rest e = absurd cc
passed (Apply d op a b) rest e = absurd cc
passed (Load d a) rest e = absurd cc
passed (Take d) rest e = absurd cc
passed (Store a v) rest e = absurd cc
passed (If rel a b to) rest e = absurd cc
passed (Goto to) rest e = absurd cc
passed (When rel a b d s) rest e = absurd cc
passed (Invoke d callee args) rest e = absurd cc
passed (Return s) rest e = absurd cc
passed End rest e = absurd cc

-- any other step is `end`, and the last
stopped : (st : Step) (rest : List Step) → is_constant_or_halt st ≡ false → only_constants (st ∷ rest) ≡ (is_end st && length rest == 0)
stopped (Put (Word w)) rest e = absurd cc
stopped (Put (Var x)) rest e = refl
stopped Halt rest e = absurd cc
stopped (Copy d s) rest e = refl
stopped (Apply d op a b) rest e = refl
stopped (Load d a) rest e = refl
stopped (Take d) rest e = refl
stopped (Store a v) rest e = refl
stopped (If rel a b to) rest e = refl
stopped (Goto to) rest e = refl
stopped (When rel a b d s) rest e = refl
stopped (Invoke d callee args) rest e = refl
stopped (Return s) rest e = refl
stopped End [] e = refl
stopped End (st ∷ rest) e = let some : (length (st ∷ rest) == 0) ≡ false = grind (arith, nat_tests) in sym some

pub only_more : (steps : List Step) (i : ℕ) (d : Step) → i < length steps → is_constant_or_halt (get_or steps i d) ≡ true → only_constants (drop i steps) ≡ only_constants (drop (i + 1) steps)
only_more steps i d lt e = ap only_constants (rest_from steps i d lt) ∙ passed (get_or steps i d) (drop (i + 1) steps) e

-- whether as many are left as there are from a place on
left_over : {A : Type 0} (xs : List A) (i : ℕ) → i < length xs → (length (drop (i + 1) xs) == 0) ≡ (i + 1 == length xs)
left_over xs i lt = same_tests (length (drop (i + 1) xs)) (i + 1) (length xs) (length-drop (i + 1) xs) (omega (arith, lt)) where
  same_tests : (a b c : ℕ) → a ≡ c - b → b ≤ c → (a == 0) ≡ (b == c)
  same_tests a b c e le = elim (cases_lt b c) [
    | inl lt ↦
        let some : (a == 0) ≡ false = grind (arith, nat_tests) in
        let other : (b == c) ≡ false = grind (arith, nat_tests) in
        some ∙ sym other
    | inr ge ↦
        let none : (a == 0) ≡ true = grind (arith, nat_tests) in
        let same : (b == c) ≡ true = grind (arith, nat_tests) in
        none ∙ sym same
  ]

pub only_last : (steps : List Step) (i : ℕ) (d : Step) → i < length steps → is_constant_or_halt (get_or steps i d) ≡ false
    → only_constants (drop i steps) ≡ (is_end (get_or steps i d) && i + 1 == length steps)
only_last steps i d lt e =
    ap only_constants (rest_from steps i d lt) ∙ stopped (get_or steps i d) (drop (i + 1) steps) e ∙ ap (λ (b : Bool). is_end (get_or steps i d) && b) (left_over steps i lt)

pub only_none : (steps : List Step) (i : ℕ) → length steps ≤ i → only_constants (drop i steps) ≡ false
only_none steps i le = ap only_constants (nothing_left steps i le)
