use Rattle.std.proofs.Common.{◌≡◌, ◌++◌, drop}
use Rattle.std.specs.List.{flat_map, enumerate_from}
use Rattle.tta_play.specs.Cited.{State, Stands}
use Rattle.tta_play.specs.States.{imm_text}
use Rattle.tta_play.proofs.places.push_imms.Given as goal

abbrev pub invariant-loop-unit : goal.invariant-loop-unit
invariant-loop-unit l = (s : State) → Stands l.sim s
    → l.out.items ++ flat_map (λ i. imm_text s i.0 i.1) (enumerate_from l.unit (drop l.unit l.imms)) ≡ l.initial.out.items ++ flat_map (λ i. imm_text s i.0 i.1) (enumerate_from 0 l.imms)
