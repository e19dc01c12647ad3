use Rattle.std.proofs.Common.{◌≡◌, ◌++◌, take}
use Rattle.std.specs.Prelude.{codes}
use Rattle.std.specs.List.{flat_map}
use Rattle.tta_play.specs.Statement.{name_text}
use Rattle.tta_play.proofs.names.push_units.Given as goal

abbrev pub invariant-loop-q : goal.invariant-loop-q
invariant-loop-q l = l.out.items ≡ l.initial.out.items ++ flat_map (λ q. name_text (codes "unit ") q.name) (take l.q-index l.units)
