use Rattle.std.proofs.Common.{◌≡◌, ◌++◌, drop, [], ◌∷◌}
use Rattle.std.specs.List.{flat_map, enumerate_from}
use Rattle.std.specs.Option.{option_map_or}
use Rattle.tta_arch.specs.declared.ends.Source.TheVariants as source
use Rattle.tta_arch.specs.Layout.{result_sources}
use Rattle.tta_arch.proofs.codes.push_results.Given as goal

abbrev pub invariant-loop-unit : goal.invariant-loop-unit
invariant-loop-unit l =
    l.list.items ++ flat_map (λ u. option_map_or (λ r. source.Shown u.0 ∷ []) u.1.result []) (enumerate_from l.unit (drop l.unit l.units)) ≡ l.initial.list.items ++ result_sources l.units
