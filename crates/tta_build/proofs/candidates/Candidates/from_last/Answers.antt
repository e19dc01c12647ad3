use Rattle.tta_build.proofs.Trails.{no_trails}
use Rattle.tta_build.proofs.candidates.Candidates.from_last.Goals as goal

pub returns : goal.returns
returns c =
    let m = c.args.on.now.joined.machine.now in
    let b = c.args.b.now in
    c.in_ok-push_some.ensures m b c.in_ok-more.ensures (no_trails m b c.new-lists.result.items c.new-lists.ensures.items)
