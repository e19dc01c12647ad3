use Rattle.tta_code_run.proofs.code_run.CodeRunRun.run_silent.Goals as goal

pub returns-clause-silent : goal.returns-clause-silent
returns-clause-silent g c = λ s stands.
    let silent = c.run_silent.ensures.next s stands in
    record { stands = silent.stands; output = silent.output; rest = silent.rest }
