-- A program on the way to its register code.
use Rattle.std.specs.Prelude.{ℕ}
use Rattle.tta_build.specs.Cited.{Program, IsFlow, IsLive, SlotsAsScanned}
use Rattle.tta_lower.specs.Statement.{IsCodeOf}
use Rattle.tta_build.specs.declared.register.Analysed.{Analysed}
use Rattle.tta_build.specs.declared.register.Lowered.{Lowered}

-- The blocks and the liveness are the program's.
pub record IsAnalysed (p : Program) (known : Analysed) : Type 0 where
  pub flow : IsFlow p known.flow.blocks
  pub lives : IsLive p known.live

-- The blocks and the liveness are the program's, each variable has a home, and the register code is made of these, for so
-- many home registers and frame words.
pub record IsLoweredAs (p : Program) (homes frame_words : ℕ) (r : Lowered) : Type 0 where
  pub known : IsAnalysed p r.known
  pub allotted : SlotsAsScanned p homes r.homes
  pub code : IsCodeOf p r.known.flow.blocks r.known.live r.homes frame_words r.code
