-- Taking the lines of a text one by one.
use Rattle.std.proofs.Common.{◌≡◌, ℕ, ◌+◌, List, ◌∷◌, Result, Ok, Err, IfOk, IfErr, refl, ap, ◌∙◌}
use Rattle.tta_machine.specs.Cited.{Line, lines_of, Units, Machine, StandsOver}
use Rattle.tta_parse.specs.Steps.{◌>>=◌}
use Rattle.tta_machine.specs.declared.refusal.Refusal.{Refusal}
use Rattle.tta_machine.specs.declared.draft.Draft.{Draft}
use Rattle.tta_machine.specs.declared.refusal.MachineError.{MachineError}
use Rattle.tta_machine.specs.declared.refusal.MachineError.TheVariants as machine_error
use Rattle.tta_machine.specs.Grammar.{IsMachineText}
use Rattle.tta_machine.specs.Draft.{nothing}
use Rattle.tta_machine.specs.Text.{take_line, take_lines, complete, machine_of_text, HasCause, Refused}
use Rattle.tta_machine.specs.Whole.{DraftEnds, CompleteEnds, TakesAll}
use Rattle.tta_machine.proofs.Said.{machine-said}
use Rattle.tta_machine.proofs.Over.{text_over}

-- a line was taken, and the others are left
pub lines_taken : (u : Units) (k : ℕ) (d next : Draft) (line : Line) (before rest : List Line) → before ≡ line ∷ rest
    → take_line u k d line ≡ Ok next → take_lines u k d before ≡ take_lines u (k + 1) next rest
lines_taken u k d next line before rest e taken = rw (e, taken) refl

-- a line was refused, and so is the text
pub lines_refused : (u : Units) (k : ℕ) (d : Draft) (line : Line) (before rest : List Line) (refusal : Refusal) → before ≡ line ∷ rest
    → take_line u k d line ≡ Err refusal → take_lines u k d before ≡ Err (k, refusal)
lines_refused u k d line before rest refusal e refused = rw (e, refused) refl

-- ---- the whole text

-- a text whose lines were all taken is read as what they declare
whole_text : (u : Units) (text : List ℕ) (d : Draft) → take_lines u 1 nothing (lines_of text) ≡ Ok d → machine_of_text u text ≡ complete d
unfolding machine_of_text
whole_text u text d taken = ap (λ r. r >>= complete) taken

-- a text of which a line was refused is refused
refused_text : (u : Units) (text : List ℕ) (refused : Refused) → take_lines u 1 nothing (lines_of text) ≡ Err refused → machine_of_text u text ≡ Err refused
unfolding machine_of_text
refused_text u text refused is = ap (λ r. r >>= complete) is

-- what is reported where the lines were not all taken
pub lines_told : (u : Units) (text : List ℕ) (e : MachineError) → DraftEnds u (lines_of text) (Err e) → HasCause u text e
lines_told u text (machine_error.Refused line code) h = (h.refusal, h.told, refused_text u text (line, h.refusal) h.refused)
lines_told u text machine_error.NoMemory h = tt

-- the machine, where they were
pub text_read : (u : Units) (text : List ℕ) (d : Draft) (r : Result Machine MachineError) → TakesAll u (lines_of text) d → CompleteEnds d r
    → IfOk r (λ m. machine_of_text u text ≡ Ok m)
text_read u text d (Ok m) t h = whole_text u text d t.taken ∙ h
text_read u text d (Err e) t h = tt

-- it is the one that the lines describe
pub text_said : (u : Units) (text : List ℕ) (r : Result Machine MachineError) → IfOk r (λ m. machine_of_text u text ≡ Ok m)
    → IfOk r (λ m. IsMachineText u (lines_of text) m)
text_said u text (Ok m) h = machine-said u text m h
text_said u text (Err e) h = tt

-- and it stands over the set of units
pub text_stands : (u : Units) (text : List ℕ) (r : Result Machine MachineError) → IfOk r (λ m. machine_of_text u text ≡ Ok m)
    → IfOk r (StandsOver u)
text_stands u text (Ok m) h = text_over u text m (machine-said u text m h)
text_stands u text (Err e) h = tt

-- what is reported where something is refused of what they declare
pub text_told : (u : Units) (text : List ℕ) (d : Draft) (r : Result Machine MachineError) → TakesAll u (lines_of text) d → CompleteEnds d r
    → IfErr r (HasCause u text)
text_told u text d (Ok m) t h = tt
text_told u text d (Err (machine_error.Refused line code)) t h = (h.refusal, h.told, whole_text u text d t.taken ∙ h.refused)
text_told u text d (Err machine_error.NoMemory) t h = tt
