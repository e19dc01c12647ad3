use Rattle.std.proofs.Common.{inl, inr}
use Rattle.tta_exit_laws.specs.Cited.{no_memory, IsImageFor, RefusesImage}
use Rattle.tta_tool.specs.Dis.{IsShown}
use Rattle.tta_exit_laws.proofs.PairsTaken.{image_only, one_whole, writes_only}
use Rattle.tta_exit_laws.proofs.laws.dis_completes.Goals as goal

pub returns : goal.returns
returns c = λ u store faults latest M IMG OUT after s pair none ends.
    let file = pair.machine.value in
    let whole = pair.second.value in
    let held = pair.machine.held in
    elim (writes_only u store faults latest after none IsImageFor RefusesImage (IsShown u) (λ file whole. no_memory) M IMG OUT s pair
    (λ bytes is. image_only u held.bytes file bytes whole s held.says is) (λ bytes v. one_whole u held.bytes file bytes v whole held.says) ends) [
      | inl done ↦ done
      | inr lacks ↦ inr lacks
    ]
