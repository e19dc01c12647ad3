use Rattle.std.proofs.Common.{◌≤◌, length, arith, rules}
use Rattle.tta_sched.specs.Cited.{fills}
use Rattle.tta_sched.proofs.Entries.{none_passes}
use Rattle.tta_sched.proofs.alone.first_template.Goals as goal

pub unreachable-requires : goal.unreachable-requires
unreachable-requires c =
    let past : length c.args.templates.now ≤ c.loop-t.t = search rules in
    let none = none_passes (fills c.args.imm c.args.reg) c.args.templates.now (λ k lt. c.loop-t.invariant k (omega arith)) in
    cc
