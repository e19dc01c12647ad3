use Rattle.std.proofs.Common.{◌∙◌, sym, ap, length}
use Rattle.tta_tac.specs.Draft.{draft_seen, proc_seen}
use Rattle.tta_tac.proofs.SecondPass.{proc_reported, proc_linked}
use Rattle.tta_tac.proofs.Seen.{steps_seen_length}
use Rattle.tta_tac.proofs.link.link_proc.Goals as goal

pub link_steps-requires : goal.link_steps-requires
link_steps-requires c =
    ap length c.as_slice-lines.ensures ∙ c.requires.draft.lines ∙ steps_seen_length c.args.proc.now.steps ∙ ap length (sym c.as_slice.ensures)

pub returns-in-Err : goal.returns-in-Err
returns-in-Err c =
    let reported = rw (c.as_slice.ensures, c.as_slice-lines.ensures) at c.in-Err.ensures in
    proc_reported (draft_seen c.args.draft.now) (proc_seen c.args.proc.now) c.in-Err.error reported

pub returns : goal.returns
returns c =
    let made = rw (c.as_slice.ensures, c.as_slice-lines.ensures) at c.in-Ok.ensures in
    rw (c.len.ensures, c.of.ensures, c.in_ok-from_slice.ensures.items, c.as_slice-lines.ensures)
    (proc_linked (draft_seen c.args.draft.now) (proc_seen c.args.proc.now) c.in-Ok.steps made)
