use Rattle.std.proofs.Common.{◌≡◌, [], ap, ◌+◌, ◌∷◌, List, Ok, Err, length, map, sym, subst, ◌∙◌, arith}
use Rattle.tta_parse.specs.declared.word.Word.{Word}
use Rattle.tta_tac.specs.Cited.{plain, Takes, LineError, stated}
use Rattle.tta_parse.specs.declared.line_error.LineError.TheVariants as line_error
use Rattle.tta_tac.specs.Draft.{draft_seen}
use Rattle.tta_tac.specs.FirstPass.{take_line}
use Rattle.tta_tac.specs.declared.refusal.TacError.TheVariants as tac_error
use Rattle.tta_tac.specs.Refusals.{code_of}
use Rattle.tta_tac.specs.Text.{HasCause}
use Rattle.tta_tac.specs.declared.refusal.Refusal.{Refusal}
use Rattle.tta_tac.proofs.Whole.{line_taken, line_refused, text_ended, text_open, Rest}
use Rattle.tta_tac.proofs.Lines.{not_begun, some_begun}
use Rattle.tta_tac.proofs.read.read_lines.Goals as goal

-- the first of the lines that are left was taken
pub loop-words-preserved : goal.loop-words-preserved
loop-words-preserved g c =
    let U = stated (λ v. (goal.OpUnit-dyn g v).unit_meaning v.1) c.args.units.now in
    let line = c.loop-words.line + 1 in
    let before = draft_seen c.loop-words.draft in
    let next = draft_seen c.take_line.new.self in
    let words = map plain c.next_line.new.words.items in
    let rest = c.next_line.new.self in
    let Taken : List Word → Type 0 = λ ws. take_line U line before (map plain ws) ≡ Ok next in
    let taken : take_line U line before words ≡ Ok next = subst Taken c.as_slice.ensures.value c.in-Ok.ensures.says in
    let split : c.loop-words.lines ≡ words ∷ rest = c.in_ok-next_line.ensures.more c.if-branch.true in
    let counted : length c.loop-words.lines ≡ length rest + 1 = c.in_ok-next_line.ensures.counted c.if-branch.true in
    record {
      rest = sym (line_taken U line before next words c.loop-words.lines rest split taken) ∙ c.loop-words.invariant.rest;
      kept = c.in-Ok.ensures.rules;
      room = omega (arith, c.loop-words.invariant.room, counted);
    }

-- a line was refused
pub returns-in-Err-Refused-clause-refused : goal.returns-in-Err-Refused-clause-refused
returns-in-Err-Refused-clause-refused g c =
    let U = stated (λ v. (goal.OpUnit-dyn g v).unit_meaning v.1) c.args.units.now in
    let line = c.loop-words.line + 1 in
    let before = draft_seen c.loop-words.draft in
    let words = map plain c.next_line.new.words.items in
    let rest = c.next_line.new.self in
    let Reported : LineError Refusal → List Word → Type 0 = λ e ws.
    Takes {A = Unit} (draft_seen c.take_line.new.self) (Err e) (take_line U line before (map plain ws)) in
    let reported : Reported (line_error.Refused c.in-Err-Refused.refusal) c.next_line.new.words.items =
    subst (Reported (line_error.Refused c.in-Err-Refused.refusal)) c.as_slice.ensures.value
    (subst (λ e. Reported e c.as_slice.result.now) c.in-Err-Refused.field-0-is c.in-Err-Refused.ensures.says) in
    let split : c.loop-words.lines ≡ words ∷ rest = c.in_ok-next_line.ensures.more c.if-branch.true in
    let cause = line_refused U c.args.text.now line before words c.loop-words.lines rest c.in-Err-Refused.refusal
    c.loop-words.invariant.rest split reported in
    subst (λ code. HasCause U c.args.text.now (tac_error.Refused line code))
    (sym (c.code.ensures ∙ ap code_of c.in-Err-Refused.refusal-is)) cause

-- no line is left, and a procedure is open
pub returns-then-is_some-clause-refused : goal.returns-then-is_some-clause-refused
returns-then-is_some-clause-refused g c =
    let U = stated (λ v. (goal.OpUnit-dyn g v).unit_meaning v.1) c.args.units.now in
    let line = c.loop-words.line + 1 in
    let d = c.loop-words.draft in
    let begun = some_begun d.begun c.is_some.result c.is_some.ensures c.if-is_some.true in
    let left : c.loop-words.lines ≡ [] = (c.in_ok-next_line.ensures.none c.if-branch.false).0 in
    let rest = subst (Rest U c.args.text.now line (draft_seen d)) left c.loop-words.invariant.rest in
    let cause = text_open U c.args.text.now line (draft_seen d) begun.0 rest begun.1 in
    subst (λ code. HasCause U c.args.text.now (tac_error.Refused line code)) (sym c.code-then-is_some.ensures) cause

-- no line is left, and no procedure is open
pub returns-clause-taken : goal.returns-clause-taken
returns-clause-taken g c =
    let U = stated (λ v. (goal.OpUnit-dyn g v).unit_meaning v.1) c.args.units.now in
    let line = c.loop-words.line + 1 in
    let d = c.loop-words.draft in
    let none = not_begun d.begun c.is_some.result c.is_some.ensures c.if-is_some.false in
    let left : c.loop-words.lines ≡ [] = (c.in_ok-next_line.ensures.none c.if-branch.false).0 in
    let rest = subst (Rest U c.args.text.now line (draft_seen d)) left c.loop-words.invariant.rest in
    text_ended U c.args.text.now line (draft_seen d) rest none
