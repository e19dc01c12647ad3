use Rattle.std.proofs.Common.{◌≡◌, ◌++◌, drop, map}
use Rattle.std.specs.List.{flat_map, enumerate_from}
use Rattle.tta_arch.specs.Fields.{numbers}
use Rattle.tta_arch.specs.declared.ends.Source.TheVariants as source
use Rattle.tta_arch.specs.Layout.{imm_sources}
use Rattle.tta_arch.proofs.codes.push_imms.Given as goal

abbrev pub invariant-loop-unit : goal.invariant-loop-unit
invariant-loop-unit l =
    l.list.items ++ flat_map (λ u. map (source.Imm u.0) (numbers u.1.size)) (enumerate_from l.unit (drop l.unit l.imms)) ≡ l.initial.list.items ++ imm_sources l.imms
