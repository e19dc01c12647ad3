-- Taking the lines of a text one by one.
use Rattle.std.proofs.Common.{◌≡◌, ℕ, ◌+◌, List, [], ◌∷◌, Some, None, Ok, Err, refl, sym, ◌∙◌}
use Rattle.tta_tac.specs.Cited.{Line, lines_of, Units}
use Rattle.tta_tac.specs.declared.refusal.Refusal.{Refusal}
use Rattle.tta_tac.specs.declared.refusal.Refusal.TheVariants.{Syntax}
use Rattle.tta_tac.specs.declared.refusal.TacError.TheVariants as tac_error
use Rattle.tta_tac.specs.Refusals.{code_of}
use Rattle.tta_tac.specs.Draft.{Draft, ProcDraft, nothing}
use Rattle.tta_tac.specs.FirstPass.{take_line}
use Rattle.tta_tac.specs.Text.{take_lines, linked_text, HasCause, InPasses}
use Rattle.tta_tac.specs.Whole.{TakesAll}
use Rattle.tta_tac.proofs.TextsKept.{text_kept}

-- what the lines that are left make of a draft is what all lines make of none
abbrev pub Rest : Units → (text : List ℕ) → (line : ℕ) → Draft → (lines : List Line) → Type 0
Rest u text line d lines = take_lines u line d lines ≡ take_lines u 1 nothing (lines_of text)

-- a line was taken, and the others are left
pub line_taken : (u : Units) (k : ℕ) (d next : Draft) (line : Line) (before rest : List Line) → before ≡ line ∷ rest
    → take_line u k d line ≡ Ok next → take_lines u k d before ≡ take_lines u (k + 1) next rest
line_taken u k d next line before rest e taken = rw (e, taken) refl

-- a text whose lines are refused has that cause
refused_text : (u : Units) (text : List ℕ) (line : ℕ) (refusal : Refusal) → take_lines u 1 nothing (lines_of text) ≡ Err (line, refusal)
    → HasCause u text (tac_error.Refused line (code_of refusal))
unfolding linked_text
refused_text u text line refusal refused = (refusal, refl, InPasses line refusal (rw refused refl))

-- a line was refused, and so is the text
pub line_refused : (u : Units) (text : List ℕ) (k : ℕ) (d : Draft) (line : Line) (before rest : List Line) (refusal : Refusal)
    → take_lines u k d before ≡ take_lines u 1 nothing (lines_of text) → before ≡ line ∷ rest → take_line u k d line ≡ Err refusal
    → HasCause u text (tac_error.Refused k (code_of refusal))
line_refused u text k d line before rest refusal left e refused =
    let stops : take_lines u k d before ≡ Err (k, refusal) = rw (e, refused) refl in
    refused_text u text k refusal (sym left ∙ stops)

-- no line is left, and no procedure is open
pub text_ended : (u : Units) (text : List ℕ) (k : ℕ) (d : Draft)
    → take_lines u k d [] ≡ take_lines u 1 nothing (lines_of text) → d.begun ≡ None → TakesAll u text d
text_ended u text k d left none =
    let taken : take_lines u 1 nothing (lines_of text) ≡ Ok d = sym left ∙ (rw none refl) in
    let kept = text_kept u text d taken in
    record { taken = taken; kept = kept.0; ended = none }

-- no line is left, and a procedure is open
pub text_open : (u : Units) (text : List ℕ) (k : ℕ) (d : Draft) (q : ProcDraft)
    → take_lines u k d [] ≡ take_lines u 1 nothing (lines_of text) → d.begun ≡ Some q
    → HasCause u text (tac_error.Refused k (code_of Syntax))
text_open u text k d q left some =
    let stops : take_lines u k d [] ≡ Err (k, Syntax) = rw some refl in
    refused_text u text k Syntax (sym left ∙ stops)
