use Rattle.std.proofs.Common.{◌≡◌, drop}
use Rattle.tta_machine.specs.Declarations.{has_other}
use Rattle.tta_machine.specs.Services.{serves}
use Rattle.tta_machine.proofs.services.has_other.Given as goal

abbrev pub invariant-loop-at : goal.invariant-loop-at
invariant-loop-at l = has_other (serves l.service) l.place l.at (drop l.at l.units) ≡ has_other (serves l.service) l.place 0 l.units
