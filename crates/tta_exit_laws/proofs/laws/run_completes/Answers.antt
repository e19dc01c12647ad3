use Rattle.std.proofs.Common.{ap}
use Rattle.tta_exit_laws.specs.Cited.{code_at, IsImageFor, RefusesImage}
use Rattle.tta_code_run.specs.Cycles.{ended_of, run_text}
use Rattle.tta_tool.specs.Run.{Reports}
use Rattle.tta_exit_laws.proofs.PairsTaken.{image_only, one_whole}
use Rattle.tta_exit_laws.proofs.RunsTaken.{report_only, runs_only}
use Rattle.tta_exit_laws.proofs.laws.run_completes.Goals as goal

pub returns : goal.returns
returns c = λ u store faults latest M IMG IN STREAM bound after old new s has calm ends.
    let file = has.0.machine.value in
    let whole = has.0.second.value in
    let held = has.0.machine.held in
    let given = has.1.0 in
    let end = code_at u file.machine whole given.input.value given.stream.words bound in
    runs_only u store faults latest after calm.files IN STREAM old new s IsImageFor RefusesImage (Reports u bound) M IMG has.0 given
    (λ bytes is. image_only u held.bytes file bytes whole s held.says is) (λ bytes v. one_whole u held.bytes file bytes v whole held.says)
    (report_only (run_text end) (ended_of end.outcome) old new s calm.output (ap ended_of has.1.1)) ends
