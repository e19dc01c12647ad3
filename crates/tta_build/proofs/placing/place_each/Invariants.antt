use Rattle.std.proofs.Common.{◌≡◌, length}
use Rattle.tta_build.specs.Cited.{Respects, IsFirstFit, HasRoom}
use Rattle.tta_build.proofs.Placements.{SoFar}
use Rattle.tta_build.proofs.placing.place_each.Given as goal

abbrev pub invariant-loop-b : goal.invariant-loop-b
invariant-loop-b l = record {
  count : length l.ps.items ≡ l.b-index;
  first : SoFar (λ b p. IsFirstFit l.on.machine.now b.items p) l.lists l.ps.items;
  respects : SoFar (λ b p. Respects l.on.machine.now b.items p) l.lists l.ps.items;
  room : SoFar (λ b p. HasRoom l.on.machine.now b.items p) l.lists l.ps.items;
}
