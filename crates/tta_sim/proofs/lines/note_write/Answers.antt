use Rattle.std.proofs.Common.{◌≡◌, ◌%◌, ◌++◌, Some, sym, ap, ◌∙◌}
use Rattle.std.specs.Prelude.{if◌then◌else◌, option_map, option_to_list}
use Rattle.tta_sim.proofs.lines.note_write.Goals.{then-w, else-w}
use Rattle.tta_sim.proofs.lines.note_write.Goals as goal

pub returns-after-w-clause-writes : goal.returns-after-w-clause-writes
returns-after-w-clause-writes c =
    let w = c.args.w.now in
    let read = c.in-Word.word in
    let kept : c.if-w.push ≡ (if w.narrow then read % 2 else read) = elim c.if-w.branch [
      | then-w it ↦ it.push-is ∙ ap (λ b. if b then read % 2 else read) (sym it.if-w.true)
      | else-w it ↦ it.push-is ∙ ap (λ b. if b then read % 2 else read) (sym it.if-w.false)
    ] in
    c.push.ensures
    ∙ ap (λ word. c.args.writes.now ++ option_to_list (Some (record { place = w.place; word = word }))) kept
    ∙ ap (λ o. c.args.writes.now ++ option_to_list (option_map (λ word. record { place = w.place; word = if w.narrow then word % 2 else word }) o)) c.in-Word.ensures.word
