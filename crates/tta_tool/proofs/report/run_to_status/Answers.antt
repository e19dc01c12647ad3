use Rattle.std.proofs.Common.{sym, ◌∙◌}
use Rattle.tta_tool.proofs.report.run_to_status.Goals as goal

pub returns-in-Ok-Halted : goal.returns-in-Ok-Halted
returns-in-Ok-Halted g c = λ s stands given none. (
  sym (c.in-Ok-Halted.ensures.ended s stands given) ∙ c.in-Ok-Halted.field-0-is,
  record { taken = c.in-Ok-Halted.ensures.puts s stands given none; faults = c.in-Ok-Halted.ensures.cause },
)

pub returns-in-Ok-Running : goal.returns-in-Ok-Running
returns-in-Ok-Running g c = λ s stands given none. (
  sym (c.in-Ok-Running.ensures.ended s stands given) ∙ c.in-Ok-Running.field-0-is,
  record { taken = c.in-Ok-Running.ensures.puts s stands given none; faults = c.in-Ok-Running.ensures.cause },
)

pub returns-in-Ok-Waiting : goal.returns-in-Ok-Waiting
returns-in-Ok-Waiting g c = λ s stands given none. (
  sym (c.in-Ok-Waiting.ensures.ended s stands given) ∙ c.in-Ok-Waiting.field-0-is,
  record { taken = c.in-Ok-Waiting.ensures.puts s stands given none; faults = c.in-Ok-Waiting.ensures.cause },
)

pub returns-in-Ok-Fault : goal.returns-in-Ok-Fault
returns-in-Ok-Fault g c = λ s stands given none. (
  sym (c.in-Ok-Fault.ensures.ended s stands given) ∙ c.in-Ok-Fault.field-0-is,
  record { taken = c.in-Ok-Fault.ensures.puts s stands given none; faults = c.in-Ok-Fault.ensures.cause },
)

pub returns-in-Err : goal.returns-in-Err
returns-in-Err g c = λ s stands given none.
    let part = c.in-Err.ensures.puts s stands given none in
    record { count = part.0; taken = part.1; rose = c.in-Err.ensures.cause }
