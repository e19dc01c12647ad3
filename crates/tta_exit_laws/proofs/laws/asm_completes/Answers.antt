use Rattle.std.proofs.Common.{inl, inr}
use Rattle.tta_exit_laws.specs.Cited.{no_memory, IsAssemblyFor, RefusesAssembly, IsAssembled, assembled}
use Rattle.tta_exit_laws.proofs.FilesTaken.{same_read}
use Rattle.tta_exit_laws.proofs.PairsTaken.{assembly_only, writes_only}
use Rattle.tta_exit_laws.proofs.laws.asm_completes.Goals as goal

pub returns : goal.returns
returns c = λ u store faults latest M A OUT after s pair none ends.
    let file = pair.machine.value in
    let whole = pair.second.value in
    elim (writes_only u store faults latest after none (IsAssemblyFor u) (RefusesAssembly u) IsAssembled (λ file whole. no_memory) M A OUT s pair
    (λ text. assembly_only u file text whole s) (λ text v. same_read (assembled u file.machine text) v whole) ends) [
      | inl done ↦ done
      | inr lacks ↦ inr lacks
    ]
