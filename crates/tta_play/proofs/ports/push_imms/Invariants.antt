use Rattle.std.proofs.Common.{◌≡◌, ◌++◌, take}
use Rattle.std.specs.List.{flat_map}
use Rattle.tta_play.specs.Ports.{imm_port}
use Rattle.tta_play.proofs.ports.push_imms.Given as goal

abbrev pub invariant-loop-i : goal.invariant-loop-i
invariant-loop-i l = l.out.items ≡ l.initial.out.items ++ flat_map (imm_port l.m) (take l.i-index l.imms)
