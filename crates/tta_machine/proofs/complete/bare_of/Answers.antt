use Rattle.std.proofs.Common.{◌≡◌, subst, sym, refl}
use Rattle.tta_machine.specs.Cited.{Machine, IsMachine}
use Rattle.tta_machine.specs.Draft.{machine_of, without_templates}
use Rattle.tta_machine.proofs.Completed.{rules_without}
use Rattle.tta_machine.proofs.complete.bare_of.Goals as goal

pub invariant_of-machine : goal.invariant_of-machine
invariant_of-machine c =
    let d = c.args.draft in
    let k = c.args.control in
    let built : Machine = record (machine_of d k) { templates = c.new.result; data_words = c.unwrap_or.result; frame_words = c.unwrap_or-2.result } in
    let bare : built ≡ without_templates (machine_of d k) = rw (c.new.ensures, c.unwrap_or.ensures, c.unwrap_or-2.ensures) refl in
    subst IsMachine (sym bare) (rules_without d k c.requires.rules c.requires.control c.requires.bus)
