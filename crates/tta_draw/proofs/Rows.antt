-- Texts that a loop makes piece by piece, and what legal code says of its instructions.
use Rattle.std.proofs.Common.{◌≡◌, ◌≤◌, ◌<◌, ℕ, Bool, false, refl, if◌then◌else◌, zero, suc, ◌+◌, List, [], ◌∷◌, length, ap, ◌∙◌, arith}
use Rattle.std.specs.List.{flat_map, range_with_len}
use Rattle.std.specs.Prelude.{IsTrue, slice_index_or}
use Rattle.std.specs.List.{All, AllByRecursion}
use Rattle.std.proofs.lemmas.Bool.{eqb-true}
use Rattle.std.proofs.lemmas.List.Elements.{All-nil, All-cons}
use Rattle.tta_draw.specs.Cited.{Machine, numbers, Instruction, is_legal}
use Rattle.tta_draw.specs.declared.span.Span.{Span}
use Rattle.tta_draw.specs.Lanes.{has_label}
use Rattle.tta_draw.specs.CodePicture.{label_row_text, labels_text}
use Rattle.tta_code.proofs.LegalParts.{legal_parts}

-- texts that are the same for each number
range_same : (f g : ℕ → List ℕ) (a n : ℕ) → ((k : ℕ) → k < a + n → f k ≡ g k) → flat_map f (range_with_len a n) ≡ flat_map g (range_with_len a n)
range_same f g a zero same = refl
range_same f g a (suc n) same =
    rw (same a (omega arith), range_same f g (a + 1) n (λ k h. same k (omega (arith, h)))) refl

-- the labels of rows, by tests that are those of the rows
pub labels-same : (labels : List Bool) (spans : List Span) (rows : ℕ) → length labels ≡ rows
    → ((row : ℕ) → row < rows → slice_index_or labels row false ≡ has_label spans row)
    → flat_map (λ row. if slice_index_or labels row false then label_row_text row else []) (numbers (length labels)) ≡ labels_text spans rows
labels-same labels spans rows size same =
    let test : (Bool → ℕ → List ℕ) = λ b row. if b then label_row_text row else [] in
    ap (λ (n : ℕ). flat_map (λ row. test (slice_index_or labels row false) row) (numbers n)) size
    ∙ range_same (λ row. test (slice_index_or labels row false) row) (λ row. test (has_label spans row) row) 0 rows
    (λ k h. ap (λ b. test b k) (same k (omega (arith, h))))

-- an instruction that a machine can carry out has a slot for each bus, so at most 16
pub few_slots : (m : Machine) (words : List Instruction) → length m.buses ≤ 16 → AllByRecursion (λ i. IsTrue (is_legal m i)) words
    → All (λ i. length i.moves ≤ 16) words
few_slots m [] few all = All-nil (λ i. length i.moves ≤ 16)
few_slots m (i ∷ is) few all = All-cons (λ i. length i.moves ≤ 16) i is one (few_slots m is few all.1) where
  one : length i.moves ≤ 16
  one = let same = eqb-true (length i.moves) (length m.buses) (legal_parts m i all.0).count in omega arith
