use Rattle.std.proofs.Common.{◌≡◌, ◌++◌, map}
use Rattle.tta_arch.specs.Fields.{numbers}
use Rattle.tta_arch.specs.declared.ends.Source.TheVariants as source
use Rattle.tta_arch.proofs.codes.push_imm.Given as goal

abbrev pub invariant-loop-index : goal.invariant-loop-index
invariant-loop-index l = l.list.items ≡ l.initial.list.items ++ map (source.Imm l.unit) (numbers l.index)
