use Rattle.std.proofs.Common.{sym, ◌∙◌}
use Rattle.tta_machine.proofs.BusMasks.{set_once-new, set_once-again, set_once-none}
use Rattle.tta_machine.proofs.bus_sets.with_bus.Goals as goal

pub returns-then-mask-bit-eq0 : goal.returns-then-mask-bit-eq0
returns-then-mask-bit-eq0 c =
    λ buses e. rw (c.bus_bit-bit.ensures, c.from.ensures) (set_once-new buses c.args.bus c.in-Some.mask (sym c.in-Some.is ∙ e) (rw (c.bus_bit-bit.ensures, c.from.ensures) at c.if-mask-bit-eq0.true))

pub returns-else-mask-bit-eq0 : goal.returns-else-mask-bit-eq0
returns-else-mask-bit-eq0 c =
    λ buses e. set_once-again buses c.args.bus c.in-Some.mask (sym c.in-Some.is ∙ e) (rw (c.bus_bit-bit.ensures, c.from.ensures) at c.if-mask-bit-eq0.false)

pub returns-in_default : goal.returns-in_default
returns-in_default c = λ buses e. set_once-none buses c.args.bus (sym c.in_default.is ∙ e)
