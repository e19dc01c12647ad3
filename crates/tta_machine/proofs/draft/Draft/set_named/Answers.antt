use Rattle.std.proofs.Common.{ap, sym, ◌∙◌, option_map}
use Rattle.tta_machine.specs.BusSets.{set_once}
use Rattle.tta_machine.proofs.BusMasks.{set_named-push, set_named-unknown}
use Rattle.tta_machine.proofs.draft.Draft.set_named.Goals as goal

pub returns-in_err-bus : goal.returns-in_err-bus
returns-in_err-bus c =
    c.from_residual.ensures
    ∙ sym (ap (option_map set_once) (set_named-unknown c.args.self.now c.args.names.now c.loop-name.name-index _ c.loop-name-test.true c.in_err-bus.ensures.value))

pub loop-name-preserved : goal.loop-name-preserved
loop-name-preserved c =
    set_named-push c.args.self.now c.args.names.now c.loop-name.name-index _ c.in_ok-bus.bus c.loop-name.set c.with_bus-set.result
    c.loop-name-test.true c.in_ok-bus.ensures.value c.loop-name.invariant c.with_bus-set.ensures
