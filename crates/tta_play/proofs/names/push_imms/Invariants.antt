use Rattle.std.proofs.Common.{◌≡◌, ◌++◌, take}
use Rattle.std.specs.Prelude.{codes}
use Rattle.std.specs.List.{flat_map}
use Rattle.tta_play.specs.Statement.{name_text}
use Rattle.tta_play.proofs.names.push_imms.Given as goal

abbrev pub invariant-loop-i : goal.invariant-loop-i
invariant-loop-i l = l.out.items ≡ l.initial.out.items ++ flat_map (λ i. name_text (codes "imm ") i.name) (take l.i-index l.imms)
