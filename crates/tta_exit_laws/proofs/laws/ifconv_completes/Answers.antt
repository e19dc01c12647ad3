use Rattle.std.proofs.Common.{◌≡◌, ℕ, List, refl, inl, inr}
use Rattle.tta_exit_laws.specs.Cited.{Units, ProgramText, Status, RefusesSource, IsConvertedText}
use Rattle.tta_program.specs.Program.{Program}
use Rattle.tta_load.specs.declared.status.Status.TheVariants as status
use Rattle.tta_exit_laws.specs.WriteCompletes.{IfconvCompletes}
use Rattle.tta_exit_laws.proofs.OneProgram.{not_refused}
use Rattle.tta_exit_laws.proofs.FilesTaken.{file_only}
use Rattle.tta_exit_laws.proofs.PairsTaken.{writing_only}
use Rattle.tta_exit_laws.proofs.laws.ifconv_completes.Goals as goal

-- a text of a program is refused only for lack of memory
source_only : (u : Units) (text : List ℕ) (p : Program) (s : Status) → ProgramText u text p → RefusesSource u text s → s ≡ status.NoMemory
source_only u text p (status.BadProgram line code) is bad = absurd (not_refused u text p line bad.refusal is bad.refused)
source_only u text p status.NoMemory is bad = refl
source_only u text p s is bad = absurd bad

ifconv_completes_holds : IfconvCompletes
ifconv_completes_holds u store faults latest P OUT after s a none (inl fails) =
    inr (file_only store faults latest after none (ProgramText u) (RefusesSource u) P a.value 1 s (λ text. source_only u text a.value s) a.held fails)
ifconv_completes_holds u store faults latest P OUT after s a none (inr (b, inl lacks)) = inr lacks.1
ifconv_completes_holds u store faults latest P OUT after s a none (inr (b, inr ends)) =
    writing_only u store faults latest after none (IsConvertedText u b.value) OUT s ends

pub returns : goal.returns
returns c = ifconv_completes_holds
