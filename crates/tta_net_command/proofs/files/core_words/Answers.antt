use Rattle.tta_net_command.proofs.files.core_words.Goals as goal

pub returns-in-Err-clause-ends : goal.returns-in-Err-clause-ends
returns-in-Err-clause-ends g c = record { told = c.in-Err.told; fails = c.in-Err.ensures.ends; is = c.as_core.ensures }
