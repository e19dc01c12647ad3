use Rattle.tta_build.proofs.candidates.Candidates.add_bound.Goals as goal

pub returns : goal.returns
returns c is all =
    let m = c.args.on.now.joined.machine.now in
    let b = c.args.b.now in
    c.in_ok-push_some.ensures m b c.in_ok-own.ensures (c.in_ok-push_bound.ensures m b tt is all)
