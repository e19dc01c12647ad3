use Rattle.tta_build.proofs.rounds.Rounder.as_bound.Goals as goal

pub returns : goal.returns
returns c b stands = record { ordered = tt; bound = stands; passed = c.in_ok-passed.ensures }
