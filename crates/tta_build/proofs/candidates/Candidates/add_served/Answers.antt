use Rattle.tta_build.proofs.candidates.Candidates.add_served.Goals as goal

pub returns : goal.returns
returns c b stands all =
    let m = c.args.on.now.joined.machine.now in
    let first = c.in_ok-push_served.ensures m b stands c.in_ok-rounds.ensures all in
    c.in_ok-push_served-2.ensures m b stands c.in_ok-more.ensures first
