use Rattle.tta_machine.specs.Declarations.{take_unit}
use Rattle.tta_machine.proofs.draft.Draft.take_unit.Goals as goal

pub returns-then-is_taken : goal.returns-then-is_taken
unfolding take_unit
returns-then-is_taken c =
    rw (
      ← c.unit_form.ensures,
      c.in-Some.is,
      c.port_named-operand.ensures,
      c.in-Some-Some-Some.is-0,
      ← c.socket_named-trigger.ensures,
      c.in-Some-Some-Some.is-1,
      c.port_named-result.ensures,
      c.in-Some-Some-Some.is-2,
      ← c.is_taken.ensures,
      c.if-is_taken.true,
    )
