use Rattle.std.proofs.Common.{◌≡◌, ◌++◌, take, Some, [], true}
use Rattle.std.specs.List.{flat_map}
use Rattle.tta_arch.specs.Joins.{has_socket}
use Rattle.tta_info.specs.Lines.{named_if}
use Rattle.tta_info.proofs.buses.push_files_written.Given as goal

abbrev pub invariant-loop-f : goal.invariant-loop-f
invariant-loop-f l = l.out.items ≡ l.initial.out.items ++ flat_map (λ f. named_if (has_socket l.m true (Some f.into) l.bus) f.name []) (take l.f-index l.files)
