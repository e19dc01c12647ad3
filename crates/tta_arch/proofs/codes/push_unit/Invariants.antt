use Rattle.std.proofs.Common.{◌≡◌, ◌++◌, map}
use Rattle.tta_arch.specs.Fields.{numbers}
use Rattle.tta_arch.specs.declared.ends.Dest.TheVariants as dest
use Rattle.tta_arch.proofs.codes.push_unit.Given as goal

abbrev pub invariant-loop-op : goal.invariant-loop-op
invariant-loop-op l = l.list.items ≡ l.initial.list.items ++ map (dest.Trigger l.unit) (numbers l.op)
