use Rattle.std.proofs.Common.{◌≡◌, ◌++◌, take, Some, [], false}
use Rattle.std.specs.List.{flat_map}
use Rattle.tta_arch.specs.Joins.{has_socket}
use Rattle.tta_info.specs.Lines.{named_if}
use Rattle.tta_info.proofs.buses.push_imms_read.Given as goal

abbrev pub invariant-loop-i : goal.invariant-loop-i
invariant-loop-i l = l.out.items ≡ l.initial.out.items ++ flat_map (λ i. named_if (has_socket l.m false (Some i.out) l.bus) i.name []) (take l.i-index l.imms)
