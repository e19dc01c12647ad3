-- How many steps of register code steps become, and one value of a sum.
use Rattle.std.proofs.Common.{◌≡◌, ◌<◌, ◌≤◌, ◌+◌, ◌∷◌, [], ℕ, zero, suc, List, Some, true, length, slice_get, refl, ap, ◌∙◌, arith, length-append}
use Rattle.std.specs.Option.{option_map_or}
use Rattle.std.specs.List.{sum_by}
use Rattle.std.proofs.lemmas.List.Sums.{sum_by-cons}
use Rattle.tta_lower.specs.Cited.{Step, Load, Take, Store, When, Program, step_at}
use Rattle.tta_program.specs.declared.step.Step.TheVariants.{Copy, Apply, Put}
use Rattle.tta_lower.specs.Liveness.{Homes}
use Rattle.tta_lower.specs.Layout.{steps_for, code_from}
use Rattle.tta_lower.specs.Liveness.{PlainAt, is_plain}

-- one of a sum
pub one-of-sum : {A : Type 0} (f : A → ℕ) (xs : List A) (k : ℕ) (x : A) → slice_get xs k ≡ Some x → f x ≤ sum_by f xs
one-of-sum f [] k x is = cc
one-of-sum f (y ∷ ys) zero x is =
    let same : y ≡ x = cc in
    rw (sum_by-cons f y ys, same) (omega arith)
one-of-sum f (y ∷ ys) (suc k) x is =
    let rest = one-of-sum f ys k x is in
    rw (sum_by-cons f y ys) (omega (arith, rest))

-- a plain step becomes one step
pub one-step : (p : Program) (home : Homes) (owner : ℕ) (st : Step) → is_plain st ≡ true → length (steps_for p home owner st) ≡ 1
one-step p home owner (Copy d s) plain = refl
one-step p home owner (Apply d op a b) plain = refl
one-step p home owner (Load d a) plain = refl
one-step p home owner (Take d) plain = refl
one-step p home owner (Store a v) plain = refl
one-step p home owner (Put v) plain = refl
one-step p home owner (When rel a b d s) plain = refl
one-step p home owner st plain = cc

-- plain steps become as many steps
pub plain-length : (p : Program) (home : Homes) (owner at n : ℕ) → ((i : ℕ) → at ≤ i → i < at + n → PlainAt p owner i) → length (code_from p home owner at n) ≡ n
plain-length p home owner at zero plain = refl
plain-length p home owner at (suc n) plain =
    let now = plain at (omega arith) (omega arith) in
    let rest = plain-length p home owner (at + 1) n (λ i lo hi. plain i (omega (arith, lo)) (omega (arith, hi))) in
    let here : length (option_map_or (steps_for p home owner) (step_at p owner at) []) ≡ 1 = ap (λ o. length (option_map_or (steps_for p home owner) o [])) now.there ∙ one-step p home owner now.st now.plain in
    length-append (option_map_or (steps_for p home owner) (step_at p owner at) []) (code_from p home owner (at + 1) n) ∙ omega (arith, here, rest)
