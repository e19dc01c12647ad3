-- Each procedure is linked after those that were.
use Rattle.std.proofs.Common.{◌+◌, ◌<◌, ◌∙◌, sym, ap, subst, length, get_or}
use Rattle.tta_tac.specs.Draft.{draft_seen}
use Rattle.tta_tac.proofs.SecondPass.{ended_at, put_after, procs_from, procs_more, procs_reported}
use Rattle.tta_tac.proofs.link.link_procs.Goals as goal

pub link_proc-requires : goal.link_proc-requires
link_proc-requires c =
    let below = subst (λ s. c.loop-proc.proc-index < length s) c.as_slice-proc-items.ensures c.loop-proc-test.true in
    let is = c.proc-item.is ∙ ap (λ s. get_or s c.loop-proc.proc-index c.proc-item.result) c.as_slice-proc-items.ensures in
    ended_at c.args.draft.now.procs c.loop-proc.proc-index c.proc-item.result c.requires below is

pub loop-proc-preserved : goal.loop-proc-preserved
loop-proc-preserved c =
    let below = subst (λ s. c.loop-proc.proc-index < length s) c.as_slice-proc-items.ensures c.loop-proc-test.true in
    let is = c.proc-item.is ∙ ap (λ s. get_or s c.loop-proc.proc-index c.proc-item.result) c.as_slice-proc-items.ensures in
    c.loop-proc.invariant
    ∙ procs_more (draft_seen c.args.draft.now) c.args.draft.now.procs c.loop-proc.proc-index c.proc-item.result
    c.loop-proc.linked c.in-Ok.proc below is c.in-Ok.ensures
    ∙ ap (λ done. put_after done (procs_from (draft_seen c.args.draft.now) c.args.draft.now.procs (c.loop-proc.proc-index + 1)))
    (sym c.in_ok-push-in-Ok.ensures.ok)

pub returns-in-Err : goal.returns-in-Err
returns-in-Err c =
    let below = subst (λ s. c.loop-proc.proc-index < length s) c.as_slice-proc-items.ensures c.loop-proc-test.true in
    let is = c.proc-item.is ∙ ap (λ s. get_or s c.loop-proc.proc-index c.proc-item.result) c.as_slice-proc-items.ensures in
    procs_reported (draft_seen c.args.draft.now) c.args.draft.now.procs c.loop-proc.proc-index c.proc-item.result
    c.loop-proc.linked c.in-Err.error below is c.in-Err.ensures c.loop-proc.invariant
