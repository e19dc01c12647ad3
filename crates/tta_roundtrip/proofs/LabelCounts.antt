-- A text has no fewer labels than its printed program.
use Rattle.std.proofs.Common.{◌≡◌, ◌≤◌, ℕ, zero, suc, ◌+◌, ◌==◌, Bool, true, false, List, [], ◌∷◌, length, refl, ap, arith}
use Rattle.std.specs.Prelude.{Option, Some, None, ◌||◌, if◌then◌else◌}
use Rattle.std.specs.Option.{option_map_or}
use Rattle.std.specs.List.{list_any}
use Rattle.std.proofs.lemmas.Bool.{eqb-true}
use Rattle.tta_roundtrip.specs.Cited.{Declared, Step, Said, label_in, labels_said, is_target}
use Rattle.tta_tac.specs.Grammar.{step_lines as lines_said}
use Rattle.tta_roundtrip.proofs.Kept.{count}

-- how many of the first numbers a test finds
pub hits : (ℕ → Bool) → ℕ → ℕ
hits test zero = 0
hits test (suc n) = hits test n + (if test n then 1 else 0)

hits_none : (n : ℕ) → hits (λ j. false) n ≡ 0
unfolding hits
hits_none zero = refl
hits_none (suc n) = ap (λ k. k + 0) (hits_none n)

-- one number is found once
hits_past : (k n : ℕ) → n ≤ k → hits (λ j. k == j) n ≡ 0
unfolding hits
hits_past k zero le = refl
hits_past k (suc n) le = by (k == n) refl (hits_past k n (omega arith)) where
  by : (b : Bool) → (k == n) ≡ b → hits (λ j. k == j) n ≡ 0 → hits (λ j. k == j) n + (if b then 1 else 0) ≡ 0
  by true e rest = let same = eqb-true k n e in absurd (omega arith)
  by false e rest = omega arith

hits_once : (k n : ℕ) → hits (λ j. k == j) n ≤ 1
unfolding hits
hits_once k zero = omega arith
hits_once k (suc n) = by (k == n) refl (hits_once k n) (hits_past k n) where
  by : (b : Bool) → (k == n) ≡ b → hits (λ j. k == j) n ≤ 1 → (n ≤ k → hits (λ j. k == j) n ≡ 0) → hits (λ j. k == j) n + (if b then 1 else 0) ≤ 1
  by true e rest past = let same = eqb-true k n e in let none = past (omega arith) in omega arith
  by false e rest past = omega arith

hits_or : (f g : ℕ → Bool) (n : ℕ) → hits (λ j. f j || g j) n ≤ hits f n + hits g n
unfolding hits
hits_or f g zero = omega arith
hits_or f g (suc n) = by (f n) (g n) (hits_or f g n) where
  by : (a b : Bool) → hits (λ j. f j || g j) n ≤ hits f n + hits g n → hits (λ j. f j || g j) n + (if a || b then 1 else 0) ≤ (hits f n + (if a then 1 else 0)) + (hits g n + (if b then 1 else 0))
  by true true rest = omega arith
  by true false rest = omega arith
  by false true rest = omega arith
  by false false rest = omega arith

pub hits_labels : (labels : Declared ℕ) (n : ℕ) → hits (λ j. list_any (λ l. l.1 == j) labels) n ≤ length labels
hits_labels [] n = let none = hits_none n in omega arith
hits_labels (d ∷ ds) n =
    let both = hits_or (λ j. d.1 == j) (λ j. list_any (λ (l : List ℕ × ℕ). l.1 == j) ds) n in
    let one = hits_once d.1 n in
    let rest = hits_labels ds n in
    omega arith

pub count_hits : (all : List Step) (labels : Declared ℕ) (n : ℕ) → ((j : ℕ) → is_target all j ≡ true → list_any (λ l. l.1 == j) labels ≡ true) → count all n ≤ hits (λ j. list_any (λ l. l.1 == j) labels) n
unfolding count hits
count_hits all labels zero all_in = omega arith
count_hits all labels (suc n) all_in = by (is_target all n) (list_any (λ (l : List ℕ × ℕ). l.1 == n) labels) (all_in n) (count_hits all labels n all_in) where
  by : (a b : Bool) → (a ≡ true → b ≡ true) → count all n ≤ hits (λ j. list_any (λ l. l.1 == j) labels) n → count all n + (if a then 1 else 0) ≤ hits (λ j. list_any (λ l. l.1 == j) labels) n + (if b then 1 else 0)
  by true true h rest = omega arith
  by true false h rest = absurd (let e = h refl in cc)
  by false true h rest = omega arith
  by false false h rest = omega arith

-- a body is its labels and its steps
pub body_size : (k : ℕ) (xs : List Said) → length xs ≡ length (lines_said xs) + length (labels_said k xs)
body_size k [] = refl
body_size k (x ∷ xs) = by (label_in x.1) (body_size k xs) (body_size (k + 1) xs) where
  by : (o : Option (List ℕ)) → length xs ≡ length (lines_said xs) + length (labels_said k xs) → length xs ≡ length (lines_said xs) + length (labels_said (k + 1) xs)
      → suc (length xs) ≡ length (option_map_or (λ name. lines_said xs) o (x.0 ∷ lines_said xs)) + length (option_map_or (λ name. (name, k) ∷ labels_said k xs) o (labels_said (k + 1) xs))
  by None same next = omega arith
  by (Some name) same next = omega arith
