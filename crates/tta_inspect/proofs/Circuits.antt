-- What was read suits a circuit.
use Rattle.std.proofs.Common.{List, ℕ}
use Rattle.tta_inspect.specs.Cited.{Units, MachineFile}
use Rattle.tta_inspect.specs.declared.subject.Subject.{Subject}
use Rattle.tta_inspect.specs.declared.subject.Subject.TheVariants.{Code, Program}
use Rattle.tta_inspect.specs.Subjects as subjects
use Rattle.tta_inspect.specs.Subjects.{IsSubject}
use Rattle.tta_inspect.specs.Circuits.{Suits}

-- what bytes give to run, over the operations that are there, suits
pub read_suits : (u : Units) (file : MachineFile) (bytes : List ℕ) (subject : Subject) → IsSubject u file bytes subject
    → subjects.Suits u file.machine subject → Suits u file.machine subject
read_suits u file bytes (Code whole) is suits = record { code = is.1.legal; rises = is.1.rises; fits = is.1.fits }
read_suits u file bytes (Program p) is suits = (suits, is.1.inside)
