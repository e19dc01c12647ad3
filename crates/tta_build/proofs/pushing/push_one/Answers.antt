use Rattle.tta_build.proofs.Trails.{trails_more}
use Rattle.tta_build.proofs.pushing.push_one.Goals as goal

pub returns : goal.returns
returns c m b start rounds all =
    trails_more m b c.args.lists.now.items c.push.new.self.items _ c.in_ok-push.ensures.items (record { start = start; rounds = rounds }) all
