-- The code of the stages of a program is legal.
use Rattle.tta_ops.specs.Units.{Units}
use Rattle.tta_arch.specs.Machine.{Machine}
use Rattle.tta_program.specs.Program.{Program}
use Rattle.tta_code.specs.Legal.{IsLegalCode}
use Rattle.tta_stages.specs.declared.stages.Stages.{Stages}
use Rattle.tta_stages.specs.Stages.{AreStages}

pub stages_legal : (u : Units) (m : Machine) (p : Program) (s : Stages) → AreStages u m p s → IsLegalCode m s.code
stages_legal u m p s is = is.code.legal
