-- Where the labels of a sample's procedure stand.
use Rattle.std.proofs.Common.{◌≡◌, ℕ, ◌+◌, false, List, [], ◌∷◌, ◌++◌, length, refl, sym, ap, ◌∙◌, arith}
use Rattle.std.specs.Prelude.{Some, codes}
use Rattle.std.specs.List.{flat_map}
use Rattle.std.proofs.lemmas.List.{append_assoc}
use Rattle.tta_sample_laws.specs.Cited.{named_in, Lt, Form, Named, Constant, LabelForm, CopyForm, ApplyForm, IfForm, has_twice, Draft, Units, Said, labels_said, label_names, var_name, label_name}
use Rattle.tta_roundtrip.proofs.Said.{numbered_from, numbered_append}
use Rattle.tta_sample_laws.proofs.Drawn.{Drawn, Two, One, Shown, Fixed, Loaded, Stored, Chosen, Skipped}
use Rattle.tta_sample_laws.proofs.SampleForms.{forms_of, before_forms}
use Rattle.tta_sample_laws.proofs.Labels.{steps_in, steps_of_both, label_there}
use Rattle.tta_sample_laws.proofs.Linking.{AllPlaces, Places, count_of}

module _ (u : Units) (d : Draft) (whole : List Said) (once : has_twice (label_names whole) ≡ false) where
  -- a label within the whole
  label_in_whole : (line : ℕ) (name : List ℕ) (front back : List Said) → whole ≡ front ++ (line, LabelForm name) ∷ back
      → named_in (labels_said 0 whole) name ≡ Some (steps_in front)
  label_in_whole line name front back is =
      ap (λ xs. named_in (labels_said 0 xs) name) is
      ∙ label_there 0 line name front back (ap (λ xs. has_twice (label_names xs)) (sym is) ∙ once)
      ∙ ap Some (let e : 0 + steps_in front ≡ steps_in front = omega arith in e)

  -- the label of a round's begin stands behind nine steps
  pub round_begins : (rest : List Form) → whole ≡ numbered_from 2 (before_forms ++ rest) → named_in (labels_said 0 whole) (codes "T") ≡ Some 9
  round_begins rest is =
      label_in_whole 11 (codes "T")
      ((2, CopyForm (codes "v0") (Constant 1)) ∷ (3, CopyForm (codes "v1") (Constant 2)) ∷ (4, CopyForm (codes "v2") (Constant 3)) ∷ (5, CopyForm (codes "v3") (Constant 4))
      ∷ (6, CopyForm (codes "v4") (Constant 5)) ∷ (7, CopyForm (codes "v5") (Constant 6)) ∷ (8, CopyForm (codes "v6") (Constant 7)) ∷ (9, CopyForm (codes "v7") (Constant 8))
      ∷ (10, CopyForm (codes "n") (Constant 16)) ∷ []) (numbered_from 12 rest) is

  -- the label of a line that skips a step stands behind that step
  place_of : (at line : ℕ) (l : Drawn) (more : List Form) (front : List Said) → steps_in front ≡ at → whole ≡ front ++ numbered_from line (forms_of l ++ more)
      → Places u d (labels_said 0 whole) at l
  place_of at line (Skipped label a b v) more front count is =
      let jump : Said = (line, IfForm Lt (Named (var_name a)) (Named (var_name b)) (label_name label)) in
      let add : Said = (line + 1, ApplyForm (var_name v) (codes "add") (Named (var_name v) ∷ Constant 1 ∷ [])) in
      let back : List Said = numbered_from (((line + 1) + 1) + 1) more in
      let split : front ++ jump ∷ add ∷ ((line + 1) + 1, LabelForm (label_name label)) ∷ back ≡ (front ++ jump ∷ add ∷ []) ++ ((line + 1) + 1, LabelForm (label_name label)) ∷ back
      = sym (append_assoc front (jump ∷ add ∷ []) (((line + 1) + 1, LabelForm (label_name label)) ∷ back)) in
      label_in_whole ((line + 1) + 1) (label_name label) (front ++ jump ∷ add ∷ []) back (is ∙ split)
      ∙ ap Some (steps_of_both front (jump ∷ add ∷ []) ∙ ap (λ n. n + 2) count)
  place_of at line (Two op v a b) more front count is = tt
  place_of at line (One op v a c) more front count is = tt
  place_of at line (Shown a) more front count is = tt
  place_of at line (Fixed v c) more front count is = tt
  place_of at line (Loaded v c) more front count is = tt
  place_of at line (Stored c a) more front count is = tt
  place_of at line (Chosen a b v s) more front count is = tt

  -- the steps of a line of the body
  steps_of_line : (line : ℕ) (l : Drawn) → steps_in (numbered_from line (forms_of l)) ≡ count_of l
  steps_of_line line (Skipped label a b v) = refl
  steps_of_line line (Two op v a b) = refl
  steps_of_line line (One op v a c) = refl
  steps_of_line line (Shown a) = refl
  steps_of_line line (Fixed v c) = refl
  steps_of_line line (Loaded v c) = refl
  steps_of_line line (Stored c a) = refl
  steps_of_line line (Chosen a b v s) = refl

  -- the labels of the body
  pub all_placed : (at line : ℕ) (ls : List Drawn) (more : List Form) (front : List Said) → steps_in front ≡ at
      → whole ≡ front ++ numbered_from line (flat_map forms_of ls ++ more) → AllPlaces u d (labels_said 0 whole) at ls
  all_placed at line [] more front count is = tt
  all_placed at line (l ∷ ls) more front count is =
      let rest : List Form = flat_map forms_of ls ++ more in
      let here : whole ≡ front ++ numbered_from line (forms_of l ++ rest) = is ∙ ap (λ fs. front ++ numbered_from line fs) (append_assoc (forms_of l) (flat_map forms_of ls) more) in
      let lines : List Said = numbered_from line (forms_of l) in
      let next : whole ≡ (front ++ lines) ++ numbered_from (line + length (forms_of l)) rest
      = here ∙ ap (λ xs. front ++ xs) (numbered_append line (forms_of l) rest) ∙ sym (append_assoc front lines (numbered_from (line + length (forms_of l)) rest)) in
      let steps : steps_in (front ++ lines) ≡ at + count_of l = steps_of_both front lines ∙ ap (λ n. n + steps_in lines) count ∙ ap (λ n. at + n) (steps_of_line line l) in
      (place_of at line l rest front count here, all_placed (at + count_of l) (line + length (forms_of l)) ls more (front ++ lines) steps next)
