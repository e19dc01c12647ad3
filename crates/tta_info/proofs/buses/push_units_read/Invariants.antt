use Rattle.std.proofs.Common.{◌≡◌, ◌++◌, take, false}
use Rattle.std.specs.List.{flat_map}
use Rattle.std.specs.Prelude.{codes}
use Rattle.tta_arch.specs.Joins.{has_socket}
use Rattle.tta_info.specs.Lines.{named_if}
use Rattle.tta_info.proofs.buses.push_units_read.Given as goal

abbrev pub invariant-loop-q : goal.invariant-loop-q
invariant-loop-q l = l.out.items ≡ l.initial.out.items ++ flat_map (λ q. named_if (has_socket l.m false q.result l.bus) q.name (codes ".r")) (take l.q-index l.units)
