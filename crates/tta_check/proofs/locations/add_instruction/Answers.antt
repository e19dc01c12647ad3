use Rattle.std.proofs.Common.{subst}
use Rattle.tta_check.specs.Locations.{HasWritten, Adds}
use Rattle.tta_check.proofs.Added.{instruction_there}
use Rattle.tta_check.proofs.locations.add_instruction.Goals as goal

pub returns-clause-there : goal.returns-clause-there
returns-clause-there c =
    let moves = subst (λ ms. Adds HasWritten ms c.args.locations.now.items c.add_moves.new.locations.items) c.as_slice.ensures c.in_ok-add_moves.ensures in
    instruction_there c.args.m.now c.args.i.now c.args.locations.now.items c.add_moves.new.locations.items c.add_long.new.locations.items moves c.in_ok-add_long.ensures.kept c.in_ok-add_long.ensures.there
