-- A label of a procedure is found where it stands.
use Rattle.std.proofs.Common.{◌≡◌, ℕ, suc, ◌+◌, Bool, true, false, List, [], ◌∷◌, ◌++◌, ap, ◌∙◌, arith}
use Rattle.std.specs.Prelude.{Option, Some, None, if◌then◌else◌}
use Rattle.std.specs.Option.{option_map_or}
use Rattle.std.specs.List.{list_any}
use Rattle.std.specs.Str.{bytes_eq}
use Rattle.std.proofs.lemmas.Bool.{or_parts}
use Rattle.tta_sample_laws.specs.Cited.{named_in, LabelForm, has_twice, Said, label_in, labels_said, label_names}
use Rattle.tta_roundtrip.proofs.Names.{bytes_apart}
use Rattle.tta_list.proofs.Lists.{same_bytes as bytes_self}

-- how many steps stand among lines
abbrev pub steps_in : List Said → ℕ
steps_in [] = 0
steps_in (x ∷ xs) = option_map_or (λ name. steps_in xs) (label_in x.1) (suc (steps_in xs))

-- the steps of two lists of lines
pub steps_of_both : (xs ys : List Said) → steps_in (xs ++ ys) ≡ steps_in xs + steps_in ys
steps_of_both [] ys = omega arith
steps_of_both (x ∷ xs) ys = by (label_in x.1) (steps_of_both xs ys) where
  by : (o : Option (List ℕ)) → steps_in (xs ++ ys) ≡ steps_in xs + steps_in ys
      → option_map_or (λ name. steps_in (xs ++ ys)) o (suc (steps_in (xs ++ ys))) ≡ option_map_or (λ name. steps_in xs) o (suc (steps_in xs)) + steps_in ys
  by None rest = omega arith
  by (Some name) rest = rest

-- what no label passes, one label does not pass
not_one : (test : List ℕ → Bool) (line : ℕ) (name : List ℕ) (front back : List Said) → list_any test (label_names (front ++ (line, LabelForm name) ∷ back)) ≡ false
    → test name ≡ false
not_one test line name [] back none = (or_parts (test name) (list_any test (label_names back)) none).0
not_one test line name (x ∷ xs) back none = by (label_in x.1) none (not_one test line name xs back) where
  rest : List (List ℕ)
  rest = label_names (xs ++ (line, LabelForm name) ∷ back)

  by : (o : Option (List ℕ)) → list_any test (option_map_or (λ n. n ∷ label_names (xs ++ (line, LabelForm name) ∷ back)) o (label_names (xs ++ (line, LabelForm name) ∷ back))) ≡ false
      → (list_any test (label_names (xs ++ (line, LabelForm name) ∷ back)) ≡ false → test name ≡ false) → test name ≡ false
  by None none again = again none
  by (Some n) none again = again (or_parts (test n) (list_any test (label_names (xs ++ (line, LabelForm name) ∷ back))) none).1

-- a label stands before as many steps as there are in front of it
pub label_there : (s line : ℕ) (name : List ℕ) (front back : List Said) → has_twice (label_names (front ++ (line, LabelForm name) ∷ back)) ≡ false
    → named_in (labels_said s (front ++ (line, LabelForm name) ∷ back)) name ≡ Some (s + steps_in front)
label_there s line name [] back once =
    ap (λ b. if b then Some s else named_in (labels_said s back) name) (bytes_self name) ∙ ap Some (let e : s ≡ s + 0 = omega arith in e)
label_there s line name (x ∷ xs) back once = by (label_in x.1) once (λ t. label_there t line name xs back) where
  by : (o : Option (List ℕ))
      → has_twice (option_map_or (λ n. n ∷ label_names (xs ++ (line, LabelForm name) ∷ back)) o (label_names (xs ++ (line, LabelForm name) ∷ back))) ≡ false
      → ((t : ℕ) → has_twice (label_names (xs ++ (line, LabelForm name) ∷ back)) ≡ false
      → named_in (labels_said t (xs ++ (line, LabelForm name) ∷ back)) name ≡ Some (t + steps_in xs))
      → named_in (option_map_or (λ n. (n, s) ∷ labels_said s (xs ++ (line, LabelForm name) ∷ back)) o (labels_said (s + 1) (xs ++ (line, LabelForm name) ∷ back))) name
      ≡ Some (s + option_map_or (λ n. steps_in xs) o (suc (steps_in xs)))
  by None once again = again (s + 1) once ∙ ap Some (let e : (s + 1) + steps_in xs ≡ s + suc (steps_in xs) = omega arith in e)
  by (Some n) once again =
      let parts = or_parts (list_any (λ other. bytes_eq other n) (label_names (xs ++ (line, LabelForm name) ∷ back))) (has_twice (label_names (xs ++ (line, LabelForm name) ∷ back))) once in
      let other = not_one (λ x. bytes_eq x n) line name xs back parts.0 in
      let apart : bytes_eq n name ≡ false = bytes_apart n name (λ e. let same : bytes_eq name n ≡ true = ap (bytes_eq name) e ∙ bytes_self name in cc) in
      ap (λ b. if b then Some s else named_in (labels_said s (xs ++ (line, LabelForm name) ∷ back)) name) apart ∙ again s parts.1
