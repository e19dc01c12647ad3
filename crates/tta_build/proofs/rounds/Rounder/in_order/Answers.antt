use Rattle.tta_build.proofs.rounds.Rounder.in_order.Goals as goal

pub returns : goal.returns
returns c b stands = record { ordered = stands; bound = tt; passed = c.in_ok-passed.ensures }
