use Rattle.std.proofs.Common.{◌≡◌}
use Rattle.tta_tac.specs.Draft.{draft_seen, steps_seen}
use Rattle.tta_tac.specs.SecondPass.{link_steps}
use Rattle.tta_tac.proofs.SecondPass.{put_after, steps_from}
use Rattle.tta_tac.proofs.link.link_steps.Given as goal

abbrev pub invariant-loop-place : goal.invariant-loop-place
invariant-loop-place l =
    link_steps (draft_seen l.draft) l.labels (steps_seen l.steps) l.lines
    ≡ put_after l.linked (steps_from (draft_seen l.draft) l.labels l.steps l.lines l.place)
