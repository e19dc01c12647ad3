use Rattle.std.proofs.Common.{arith}
use Rattle.tta_build.proofs.FewHomes.{few_homes}
use Rattle.tta_build.proofs.WithHomes.{homes_by_len}
use Rattle.tta_build.proofs.placed_program.homes_for.Goals as goal

pub overflow_cast-homes : goal.overflow_cast-homes
overflow_cast-homes c =
    let few = few_homes c.args.on.now.joined.machine.now c.args.on.now.choice.now c.rules.ensures c.args.on.now.choice_of in
    let size = c.len-homes.ensures in omega (arith, few, size)

pub returns : goal.returns
returns c =
    homes_by_len c.args.sharing c.args.p.now c.args.on.now.choice.now c.len-homes.result c.len-homes.ensures
    c.homes_by.result c.homes_by.ensures.given c.homes_by.ensures.allotted
