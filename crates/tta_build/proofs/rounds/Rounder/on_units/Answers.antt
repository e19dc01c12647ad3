use Rattle.tta_build.proofs.rounds.Rounder.on_units.Goals as goal

pub returns : goal.returns
returns c b stands = record { ordered = stands; bound = c.requires.stands; passed = c.in_ok-passed.ensures }
