-- The wires of a division, digit by digit.
use Rattle.std.proofs.Common.{◌≡◌, ℕ, zero, suc, ◌<◌, ◌+◌, ◌-◌, ◌*◌, ◌==◌, Bool, false, List, [], ◌++◌, refl, sym, ap, ◌∙◌, arith}
use Rattle.std.specs.Prelude.{if◌then◌else◌}
use Rattle.std.proofs.lemmas.Bool.{eqb-true, false_from_ne_true}
use Rattle.std.proofs.lemmas.Grind.{flat_map-append}
use Rattle.tta_rtl.specs.Cited.{Wire, Expr, Const, Signal, OpPort, First, Second, Inner, narrow_cut}
use Rattle.tta_rtl.specs.Variables.{line, lines}
use Rattle.tta_rtl.specs.Dividing.{rest_after, digits_after, wires_at, wires_from}

-- after a digit stands its own
some_done : (n : ℕ) → (n + 1 == 0) ≡ false
some_done n = false_from_ne_true (n + 1 == 0) (λ is. let none : n + 1 ≡ 0 = eqb-true (n + 1) 0 is in omega (arith, none))

rest_more : (n : ℕ) → rest_after (n + 1) ≡ Signal (Inner (5 * n + 3))
rest_more n =
    let number : 5 * (n + 1) - 2 ≡ 5 * n + 3 = omega arith in
    ap (λ (b : Bool). if b then Const 32 0 else Signal (Inner (5 * (n + 1) - 2))) (some_done n)
    ∙ ap (λ (k : ℕ). Signal (Inner k)) number

digits_next : (n : ℕ) → digits_after (n + 1) ≡ Inner (5 * n + 4)
digits_next n =
    let number : 5 * (n + 1) - 1 ≡ 5 * n + 4 = omega arith in
    ap (λ (b : Bool). if b then First else Inner (5 * (n + 1) - 1)) (some_done n) ∙ ap Inner number

one_less : (n : ℕ) → n ≡ suc n - 1
one_less n = omega arith

-- the wires behind those of a digit
behind : (done count first : ℕ) → (rest : Expr OpPort ⊥) → (digits : OpPort) → List (Wire OpPort ⊥)
behind done count first rest digits = (narrow_cut Inner count (done + 1) first rest (Signal digits) (Signal Second)).wires

behind_is : (done count : ℕ) → behind done count (5 * done + 5) (Signal (Inner (5 * done + 3))) (Inner (5 * done + 4)) ≡ wires_from (done + 1) count
unfolding behind
behind_is done count =
    let number : 5 * done + 5 ≡ 5 * (done + 1) = omega arith in
    ap (λ (k : ℕ). behind done count k (Signal (Inner (5 * done + 3))) (Inner (5 * done + 4))) number
    ∙ ap (λ (e : Expr OpPort ⊥). behind done count (5 * (done + 1)) e (Inner (5 * done + 4))) (sym (rest_more done))
    ∙ ap (behind done count (5 * (done + 1)) (rest_after (done + 1))) (sym (digits_next done))

-- digits are one digit and then the others
pub digits_more : (declares : Bool) (done count : ℕ) → 0 < count
    → lines declares (wires_from done count) ≡ lines declares (wires_at done) ++ lines declares (wires_from (done + 1) (count - 1))
unfolding narrow_cut behind
digits_more declares done zero some = absurd (omega (arith, some))
digits_more declares done (suc n) some =
    flat_map-append (line declares) (wires_at done) (behind done n (5 * done + 5) (Signal (Inner (5 * done + 3))) (Inner (5 * done + 4)))
    ∙ ap (λ (ws : List (Wire OpPort ⊥)). lines declares (wires_at done) ++ lines declares ws) (behind_is done n)
    ∙ ap (λ (k : ℕ). lines declares (wires_at done) ++ lines declares (wires_from (done + 1) k)) (one_less n)

-- no digits have no wires
pub no_digits : (declares : Bool) (done : ℕ) → lines declares (wires_from done 0) ≡ []
unfolding narrow_cut
no_digits declares done = refl
