use Rattle.tta_build.proofs.candidates.Candidates.of_own.Goals as goal

pub returns : goal.returns
returns c all = c.in_ok-add_first.ensures c.in_ok-bound.ensures all
