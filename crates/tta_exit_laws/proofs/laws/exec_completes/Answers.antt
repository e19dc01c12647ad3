use Rattle.std.proofs.Common.{ap}
use Rattle.tta_exit_laws.specs.Cited.{program_at, IsProgramFor, RefusesProgramFor}
use Rattle.tta_tool.specs.Steps.{ended_of, run_text}
use Rattle.tta_tool.specs.Exec.{Reports}
use Rattle.tta_exit_laws.proofs.OneProgram.{one_program}
use Rattle.tta_exit_laws.proofs.FilesTaken.{program_only}
use Rattle.tta_exit_laws.proofs.RunsTaken.{report_only, runs_only}
use Rattle.tta_exit_laws.proofs.laws.exec_completes.Goals as goal

pub returns : goal.returns
returns c = λ u store faults latest M P IN STREAM bound after old new s has calm ends.
    let file = has.0.machine.value in
    let program = has.0.second.value in
    let given = has.1.0 in
    let end = program_at u program given.input.value given.stream.words bound in
    runs_only u store faults latest after calm.files IN STREAM old new s (IsProgramFor u) (RefusesProgramFor u) (Reports u bound) M P has.0 given
    (λ text. program_only u file.machine.data_words text program s) (λ text p is also. one_program u text p program is.read also.read)
    (report_only (run_text end) (ended_of end.outcome) old new s calm.output (ap ended_of has.1.1)) ends
