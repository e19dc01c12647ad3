-- Each line that is taken keeps what makes a program keep the rules.
use Rattle.std.proofs.Common.{◌≡◌, ℕ, ◌+◌, ◌<◌, ◌≤◌, Bool, true, false, List, [], ◌∷◌, length, Some, Ok, refl, ◌∙◌, ap, subst, arith, length-append, inl, inr, ◌⊎◌}
use Rattle.std.specs.Prelude.{◌||◌}
use Rattle.std.specs.Option.{option_map_or, IfSome}
use Rattle.std.specs.Str.{bytes_eq}
use Rattle.std.proofs.lemmas.List.Folds.{list_any-append}
use Rattle.tta_tac.specs.Cited.{Declared, named_in, Units}
use Rattle.tta_tac.specs.Forms.{Form}
use Rattle.tta_tac.specs.Draft.{Unlinked, ProcDraft, Draft}
use Rattle.tta_tac.specs.FirstPass.{vars_after, is_end, close_if, with_step, take_form}
use Rattle.tta_tac.specs.Kept.{is_unlinked, is_end_step, IsOpen, IsKept}
use Rattle.tta_tac.proofs.VariableLists.{IsNumbered, Grows, named_more}
use Rattle.tta_tac.proofs.Taken.{with_label, LabelTaken, StepTaken, Taken, ProcBegins, DatumIsLaid, LabelIsPut, StepIsMade, form_taken}
use Rattle.tta_tac.proofs.StepsKept.{fits_form, grows_form, step_fits, step_ends, closes_last}
use Rattle.tta_tac.proofs.Growing.{with_step_kept, open_kept, ended_kept}
use Rattle.tta_tac.proofs.BegunKept.{fresh_kept}
use Rattle.tta_tac.proofs.DataKept.{datum_kept}

module _ (u : Units) (d e : Draft) (q : ProcDraft) (kept : IsKept d) (begun : d.begun ≡ Some q) where
  open_now : IsOpen q
  open_now = subst (λ o. IfSome o IsOpen) begun kept.begun

  label_kept : (name : List ℕ) → LabelTaken d e q name → IsKept e
  label_kept name t =
      subst IsKept t.made (open_kept d q (with_label q name) kept begun t.room refl (omega arith) (record {
        draft = let h = open_now.draft in assumption;
        labels = λ m k at. by m k (named_more q.labels name (length q.steps) m k at);
        no_end = open_now.no_end;
      }))
    where
      by : (m : List ℕ) (k : ℕ) → (named_in q.labels m ≡ Some k) ⊎ ((bytes_eq name m ≡ true) × (length q.steps ≡ k)) → k ≤ length q.steps
      by m k (inl at) = open_now.labels m k at
      by m k (inr at) = let same = at.1 in omega arith

  closed_kept : (ends : Bool) (vars : Declared ℕ) (s : Unlinked) (line : ℕ) → d.lines < 65536 → Grows q.vars vars → length vars ≤ 4096
      → is_unlinked (length vars) s ≡ true → is_end_step s ≡ ends
      → IsKept (close_if ends (record d { lines = d.lines + 1 }) (with_step q vars s line))
  closed_kept true vars s line room g few fit end =
      let size = length-append q.steps (s ∷ []) in
      ended_kept d q (with_step q vars s line) kept begun room refl (omega arith) (record {
        draft = with_step_kept q vars s line open_now.draft g few fit;
        labels = λ m k at. let b = open_now.labels m k at in omega arith;
        ends = closes_last q.steps s open_now.no_end end;
      })
  closed_kept false vars s line room g few fit end =
      let size = length-append q.steps (s ∷ []) in
      open_kept d q (with_step q vars s line) kept begun room refl (omega arith) (record {
        draft = with_step_kept q vars s line open_now.draft g few fit;
        labels = λ m k at. let b = open_now.labels m k at in omega arith;
        no_end = list_any-append is_end_step q.steps (s ∷ []) ∙ ap (λ t. t || (is_end_step s || false)) open_now.no_end ∙ ap (λ t. t || false) end;
      })

  step_kept : (line : ℕ) (f : Form) → fits_form f ≡ true → StepTaken u d e q line f → IsKept e
  step_kept line f fit t =
      let vars = vars_after q.vars f in
      let before : IsNumbered q.vars = record { below = open_now.draft.numbers } in
      let fits : is_unlinked (length (vars_after q.vars f)) t.step ≡ true =
      subst (λ o. option_map_or (is_unlinked (length (vars_after q.vars f))) o true ≡ true) t.is (step_fits u q.vars f before fit) in
      let end : is_end_step t.step ≡ is_end f = subst (λ o. option_map_or is_end_step o false ≡ is_end f) t.is (step_ends u vars f) in
      subst IsKept t.made (closed_kept (is_end f) vars t.step line t.room (grows_form q.vars f) t.few fits end)

taken_kept : (u : Units) (d e : Draft) (line : ℕ) (f : Form) → IsKept d → fits_form f ≡ true → Taken u d e line f → IsKept e
taken_kept u d e line f kept fit (ProcBegins name params is t) = subst IsKept t.made (fresh_kept d e kept line name params t)
taken_kept u d e line f kept fit (DatumIsLaid address value is t) =
    datum_kept d e line address value kept (subst (λ g. fits_form g ≡ true) is fit) t
taken_kept u d e line f kept fit (LabelIsPut q name begun says t) = label_kept u d e q kept begun name t
taken_kept u d e line f kept fit (StepIsMade q begun t) = step_kept u d e q kept begun line f fit t

-- a line that is not blank
pub take_form_kept : (u : Units) (d e : Draft) (line : ℕ) (f : Form) → IsKept d → fits_form f ≡ true → take_form u d line f ≡ Ok e → IsKept e
take_form_kept u d e line f kept fit taken = taken_kept u d e line f kept fit (form_taken u d e line f taken)
