-- What the flat steps of a program say.
use Rattle.std.specs.Prelude.{List, map}
use Rattle.tta_tacrun.specs.declared.flat_proc.FlatProc.{FlatProc}
use Rattle.tta_tacrun.specs.Flat.{said}
use Rattle.tta_tacrun.specs.Run.{SilentProc}

-- the steps that the flat steps of a procedure stand for
abbrev pub said_proc : FlatProc → SilentProc
said_proc f = record { size = f.size; steps = map (said f.size) f.steps.items }

-- the same of each procedure
abbrev pub code_said : List FlatProc → List SilentProc
code_said code = map said_proc code
