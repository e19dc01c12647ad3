use Rattle.std.proofs.Common.{◌≡◌, ◌++◌, sym, subst}
use Rattle.std.specs.Prelude.{OnOk}
use Rattle.tta_waves.specs.Dump.{end_text}
use Rattle.tta_waves.specs.Steps.{outcome_of}
use Rattle.tta_waves.proofs.changes.push_end.Goals as goal

pub returns-in-Fault : goal.returns-in-Fault
returns-in-Fault c = λ cycle.
    subst (λ a. OnOk c.push_fault.result (c.push_fault.new.out.items ≡ c.args.out.now.items ++ end_text (outcome_of a cycle))) (sym c.in-Fault.is) c.push_fault.ensures
