use Rattle.std.proofs.Common.{take}
use Rattle.std.specs.Prelude.{◌&&◌, not}
use Rattle.tta_flow.specs.Search.{is_found}
use Rattle.tta_flow.specs.Settle.{Puts}
use Rattle.tta_flow.specs.Steps.{assigns_at}
use Rattle.tta_flow.proofs.settle.Settling.carry_to.Given as goal

abbrev pub invariant-loop-place : goal.invariant-loop-place
invariant-loop-place l = Puts (λ k. is_found (take l.place-index l.places) k && not (assigns_at l.steps k l.var)) l.var l.initial.self l.self
