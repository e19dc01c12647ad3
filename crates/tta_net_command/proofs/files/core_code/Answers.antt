use Rattle.tta_net_command.proofs.files.core_code.Goals as goal

pub returns-in-Err : goal.returns-in-Err
returns-in-Err g c = record { told = c.in-Err.told; fails = c.in-Err.ensures; is = c.as_core.ensures }
