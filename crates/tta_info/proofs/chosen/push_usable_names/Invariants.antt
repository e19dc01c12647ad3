use Rattle.std.proofs.Common.{◌≡◌, ◌++◌, drop, []}
use Rattle.std.specs.List.{flat_map, enumerate_from}
use Rattle.tta_info.specs.Lines.{named_if}
use Rattle.tta_connect.specs.Coverage.{is_usable_at}
use Rattle.tta_info.proofs.chosen.push_usable_names.Given as goal

abbrev pub invariant-loop-unit : goal.invariant-loop-unit
invariant-loop-unit l =
    l.out.items ++ flat_map (λ q. named_if (is_usable_at l.m l.hub q.0) q.1.name []) (enumerate_from l.unit (drop l.unit l.units)) ≡ l.initial.out.items ++ flat_map (λ q. named_if (is_usable_at l.m l.hub q.0) q.1.name []) (enumerate_from 0 l.units)
