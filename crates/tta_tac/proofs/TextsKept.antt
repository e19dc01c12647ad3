-- A text whose lines were all taken made a draft that keeps the rules, and in which no procedure is left open.
use Rattle.std.proofs.Common.{◌≡◌, ℕ, ◌+◌, true, List, [], ◌∷◌, Option, Some, None, Ok, refl, sym, ◌∙◌, ap, subst}
use Rattle.std.specs.Option.{option_map_or}
use Rattle.tta_tac.specs.Cited.{Line, lines_of, Declared, at_line, Units, DataLine}
use Rattle.tta_parse.proofs.Steps.{then-ok, some-ok, at_line-ok}
use Rattle.tta_tac.specs.declared.refusal.Refusal.TheVariants.{Syntax}
use Rattle.tta_tac.specs.Forms.{form_of}
use Rattle.tta_tac.specs.Draft.{ProcDraft, Draft, nothing}
use Rattle.tta_tac.specs.FirstPass.{take_line}
use Rattle.tta_tac.specs.Text.{take_lines}
use Rattle.tta_tac.specs.Kept.{IsKept}
use Rattle.tta_tac.specs.Reported.{IsDraftOf}
use Rattle.tta_tac.proofs.StepsKept.{fits_form}
use Rattle.tta_tac.proofs.FormsFit.{form_fit}
use Rattle.tta_tac.proofs.Growing.{nothing_kept}
use Rattle.tta_tac.proofs.Keeps.{take_form_kept}

module _ (u : Units) where
  -- a line that is taken keeps the rules
  pub line_kept : (line : ℕ) (d e : Draft) (words : Line) → IsKept d → take_line u line d words ≡ Ok e → IsKept e
  unfolding take_line
  line_kept line d e [] kept taken = let same : d ≡ e = cc in subst IsKept same kept
  line_kept line d e (key ∷ words) kept taken =
      let f = some-ok Syntax (form_of key words) _ e taken in
      take_form_kept u d e line f.0 kept (subst (λ o. option_map_or fits_form o true ≡ true) f.1 (form_fit key words)) f.2

  -- at the end nothing is left open
  pub closed : (line : ℕ) (names : Declared ℕ) (procs : List ProcDraft) (begun : Option ProcDraft) (init : List DataLine) (lines : ℕ) (e : Draft)
      → take_lines u line (record { names = names; procs = procs; begun = begun; init = init; lines = lines }) [] ≡ Ok e
      → (record { names = names; procs = procs; begun = begun; init = init; lines = lines } ≡ e) × (begun ≡ None)
  closed line names procs None init lines e taken =
      let same : record { names = names; procs = procs; begun = None; init = init; lines = lines } ≡ e = cc in (same, refl)
  closed line names procs (Some q) init lines e taken = absurd cc

  -- so do all lines, and at the end no procedure is open
  pub lines_kept : (lines : List Line) (line : ℕ) (d e : Draft) → IsKept d → take_lines u line d lines ≡ Ok e
      → IsKept e × (e.begun ≡ None)
  lines_kept [] line d e kept taken =
      let c = closed line d.names d.procs d.begun d.init d.lines e taken in
      (subst IsKept c.0 kept, ap (λ x. x.begun) (sym c.0) ∙ c.1)
  lines_kept (words ∷ lines) line d e kept taken =
      let c = then-ok (at_line line (take_line u line d words)) _ e taken in
      lines_kept lines (line + 1) c.0 e (line_kept line d c.0 words kept (at_line-ok line (take_line u line d words) c.0 c.1)) c.2

-- what a text made
pub text_kept : (u : Units) (text : List ℕ) (d : Draft) → IsDraftOf d u text → IsKept d × (d.begun ≡ None)
text_kept u text d made = lines_kept u (lines_of text) 1 nothing d nothing_kept made
