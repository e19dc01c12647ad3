-- The procedure that a run begins with.
use Rattle.std.proofs.Common.{◌≡◌, ◌<◌, ◌==◌, true, false, Option, Some, None, length, slice_get, refl}
use Rattle.std.specs.Option.{option_map_or}
use Rattle.std.proofs.lemmas.Option.{slice_get_within}
use Rattle.tta_program.specs.declared.program.Proc.{Proc}
use Rattle.tta_program.specs.Program.{Program}
use Rattle.tta_program.specs.Rules.{IsProgram}

-- main is there
pub main-below : (p : Program) → IsProgram p → p.main < length p.procs
main-below p sound = by (slice_get p.procs p.main) refl sound.main where
  by : (q : Option Proc) → slice_get p.procs p.main ≡ q → option_map_or (λ q. q.params == 0) q false ≡ true → p.main < length p.procs
  by None is none = cc
  by (Some q) is none = slice_get_within p.procs p.main q is
