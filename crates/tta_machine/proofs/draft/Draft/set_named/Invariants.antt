use Rattle.std.proofs.Common.{◌≡◌, Some, option_map, take}
use Rattle.tta_machine.specs.Cited.{texts}
use Rattle.tta_machine.specs.BusSets.{set_once}
use Rattle.tta_machine.specs.Declarations.{buses_named}
use Rattle.tta_machine.proofs.draft.Draft.set_named.Given as goal

abbrev pub invariant-loop-name : goal.invariant-loop-name
invariant-loop-name l = option_map set_once (buses_named l.self (texts (take l.name-index l.names))) ≡ Some l.set
