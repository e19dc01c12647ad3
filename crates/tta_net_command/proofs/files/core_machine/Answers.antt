use Rattle.tta_net_command.proofs.files.core_machine.Goals as goal

pub returns-in-Err : goal.returns-in-Err
returns-in-Err g c = record { told = c.in-Err.told; fails = c.in-Err.ensures.ends; is = c.as_core.ensures }
