use Rattle.std.proofs.Common.{rules}
use Rattle.tta_connect.proofs.Failing.{keeps_all}
use Rattle.tta_connect.proofs.choice.cover.Goals as goal

pub returns-clause-kept : goal.returns-clause-kept
returns-clause-kept c =
    keeps_all c.args.m.now c.in-Some.hub c.usable_units-usable.result (c.in-Some-guard_register.guard_file, c.in-Some-guard_register.guard_index)
    (search rules) (search rules) (search rules) (search rules) (search rules) (search rules)
