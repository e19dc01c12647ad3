use Rattle.tta_machine.proofs.services.is_served.Goals as goal
use Rattle.tta_machine.proofs.services.is_served.Goals.{then-is_served_of, else-is_served_of}

pub returns-else-is_served_of-2 : goal.returns-else-is_served_of-2
returns-else-is_served_of-2 c =
    elim c.if-is_served_of.branch [
      | then-is_served_of w ↦ cc
      | else-is_served_of w ↦
          rw (
            ← c.is_served_of.ensures,
            w.if-is_served_of.false,
            ← w.is_served_of-else-is_served_of.ensures,
            ← w.value-is,
            c.if-is_served_of-2.false,
            c.is_served_of-else-is_served_of-2.ensures,
          )
    ]
