use Rattle.std.proofs.Common.{inl, inr}
use Rattle.tta_exit_laws.specs.Cited.{IsProgramFor, RefusesProgramFor, IsImageOf, IsCauseOf}
use Rattle.tta_exit_laws.proofs.OneProgram.{one_program}
use Rattle.tta_exit_laws.proofs.FilesTaken.{program_only}
use Rattle.tta_exit_laws.proofs.PairsTaken.{writes_only}
use Rattle.tta_exit_laws.proofs.AcceptedPairs.{roomy_only}
use Rattle.tta_exit_laws.proofs.laws.build_completes.Goals as goal

pub returns : goal.returns
returns c = λ converts u store faults latest M P OUT after s has none ends.
    let pair = has.pair in
    let file = pair.machine.value in
    let program = pair.second.value in
    elim (writes_only u store faults latest after none (IsProgramFor u) (RefusesProgramFor u) (IsImageOf converts u)
    (λ file p. IsCauseOf converts u file.machine p) M P OUT s pair
    (λ text. program_only u file.machine.data_words text program s) (λ text p is also. one_program u text p program is.read also.read) ends) [
      | inl done ↦ done
      | inr lacks ↦ inr (roomy_only converts u file.machine program s has.roomy lacks)
    ]
