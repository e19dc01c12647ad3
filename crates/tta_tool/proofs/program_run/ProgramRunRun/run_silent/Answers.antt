use Rattle.tta_tool.proofs.program_run.ProgramRunRun.run_silent.Goals as goal

pub returns-clause-silent : goal.returns-clause-silent
returns-clause-silent g c = λ s stands.
    let quiet = c.run_silent.ensures.next s stands in
    record { stands = quiet.stands; output = quiet.output; rest = quiet.rest }
