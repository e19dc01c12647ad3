use Rattle.std.proofs.Common.{◌≡◌}
use Rattle.tta_tac.specs.Draft.{draft_seen, procs_seen}
use Rattle.tta_tac.specs.SecondPass.{link_procs}
use Rattle.tta_tac.proofs.SecondPass.{put_after, procs_from}
use Rattle.tta_tac.proofs.link.link_procs.Given as goal

abbrev pub invariant-loop-proc : goal.invariant-loop-proc
invariant-loop-proc l =
    link_procs (draft_seen l.draft) (procs_seen l.draft.procs)
    ≡ put_after l.linked (procs_from (draft_seen l.draft) l.draft.procs l.proc-index)
