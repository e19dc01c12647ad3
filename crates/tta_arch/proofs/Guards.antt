-- When two guards are one.
use Rattle.std.proofs.Common.{◌≡◌, Bool, true, false, refl, ℕ, ap, sym, ◌∙◌, arith, ◌==◌, ◌&&◌}
use Rattle.tta_arch.specs.Joins.{is_same, is_same_guard}
use Rattle.std.proofs.lemmas.Bool.Decides.{nat_tests}
use Rattle.tta_arch.specs.declared.ends.GuardRef.{GuardRef}
use Rattle.std.proofs.lemmas.Bool.{and_from, eq-eqb}

pub is_same_is : (a b : Bool) → is_same a b ≡ true → a ≡ b
is_same_is true true h = refl
is_same_is true false h = absurd cc
is_same_is false true h = absurd cc
is_same_is false false h = refl

pub same_guard : (g h : GuardRef) → is_same_guard g h ≡ true → g ≡ h
same_guard g h is =
    let a : g.file ≡ h.file = grind (arith, nat_tests) in
    let b : g.index ≡ h.index = grind (arith, nat_tests) in
    let c : is_same g.inverted h.inverted ≡ true = grind (arith, nat_tests) in
    let d = on g.inverted h.inverted c in
    ap (λ (n : ℕ). at n g.index g.inverted) a ∙ ap (λ (n : ℕ). at h.file n g.inverted) b ∙ ap (λ (v : Bool). at h.file h.index v) d where
      at : (f i : ℕ) (v : Bool) → GuardRef
      at f i v = record { file = f; index = i; inverted = v }

      on : (a b : Bool) → is_same a b ≡ true → a ≡ b
      on true b h = sym h
      on false true h = absurd cc
      on false false h = refl

pub same_guard_itself : (a : GuardRef) → is_same_guard a a ≡ true
same_guard_itself a =
    and_from (a.file == a.file && a.index == a.index) (is_same a.inverted a.inverted)
    (and_from (a.file == a.file) (a.index == a.index) (eq-eqb a.file a.file refl) (eq-eqb a.index a.index refl)) (alike a.inverted) where
      alike : (b : Bool) → is_same b b ≡ true
      alike true = refl
      alike false = refl
