use Rattle.std.proofs.Common.{◌≡◌, ◌≤◌, ◌*◌, ◌++◌, drop}
use Rattle.tta_stages.specs.ProgramText.{variables_from}
use Rattle.tta_stages.proofs.text.variables.push_variables.Given as goal

abbrev pub invariant-loop-owner : goal.invariant-loop-owner
invariant-loop-owner l = record {
  text : l.out.items ++ variables_from l.on.m.now l.on.homes.now l.p l.lowered l.owner l.next (drop l.owner l.p.procs)
      ≡ l.initial.out.items ++ variables_from l.on.m.now l.on.homes.now l.p l.lowered 0 0 l.p.procs;
  few : l.next ≤ 4294967298 * l.owner;
}
