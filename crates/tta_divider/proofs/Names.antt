-- The names of a divider are told apart.
use Rattle.std.proofs.Common.{◌≡◌, ℕ, ◌==◌, true, ◌&&◌, refl, sym, ap, ◌∙◌}
use Rattle.std.specs.Prelude.{if◌then◌else◌}
use Rattle.std.proofs.lemmas.Bool.{and_parts, and_from, eqb-true, eq-eqb}
use Rattle.tta_divider.specs.Cited.{TellsApart}
use Rattle.tta_divider.specs.Divider.{Part, Enable, First, Second, Rest, Digits, Divisor, Digit, Shown, number_of, stage_of, wire_of, same_part}

-- the signal of its numbers
abbrev part_of : (number stage wire : ℕ) → Part
part_of number stage wire =
    if number == 0 then Enable else if number == 1 then First else if number == 2 then Second
    else if number == 3 then Rest stage else if number == 4 then Digits stage else if number == 5 then Divisor stage
    else if number == 6 then Digit stage wire else Shown

part_is : (p : Part) → part_of (number_of p) (stage_of p) (wire_of p) ≡ p
part_is Enable = refl
part_is First = refl
part_is Second = refl
part_is (Rest stage) = refl
part_is (Digits stage) = refl
part_is (Divisor stage) = refl
part_is (Digit stage number) = refl
part_is Shown = refl

one_part : (a b : Part) → same_part a b ≡ true → a ≡ b
one_part a b same =
    let p = and_parts (number_of a == number_of b) (stage_of a == stage_of b && wire_of a == wire_of b) same in
    let q = and_parts (stage_of a == stage_of b) (wire_of a == wire_of b) p.1 in
    sym (part_is a) ∙ ap (λ n. part_of n (stage_of a) (wire_of a)) (eqb-true (number_of a) (number_of b) p.0)
    ∙ ap (λ n. part_of (number_of b) n (wire_of a)) (eqb-true (stage_of a) (stage_of b) q.0)
    ∙ ap (λ n. part_of (number_of b) (stage_of b) n) (eqb-true (wire_of a) (wire_of b) q.1) ∙ part_is b

pub parts_apart : TellsApart same_part
parts_apart = record {
  is = one_part;
  itself = λ a. and_from (number_of a == number_of a) (stage_of a == stage_of a && wire_of a == wire_of a)
      (eq-eqb (number_of a) (number_of a) refl)
      (and_from (stage_of a == stage_of a) (wire_of a == wire_of a) (eq-eqb (stage_of a) (stage_of a) refl)
      (eq-eqb (wire_of a) (wire_of a) refl));
}
