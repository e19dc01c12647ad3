-- Register code that outputs constants and halts.
use Rattle.std.specs.Prelude.{ℕ, List, [], map}
use Rattle.tta_lir.specs.declared.code.RSrc.TheVariants as rsrc
use Rattle.tta_lir.specs.declared.code.RStep.TheVariants as rstep
use Rattle.tta_lir.specs.declared.code.Exit.TheVariants as exit
use Rattle.tta_lir.specs.declared.code.RBlock.{RBlock}

-- the one block that outputs these words and halts
abbrev pub one_block : List ℕ → RBlock
one_block words = record { steps = map (λ w. rstep.Put (rsrc.Word w)) words; exit = exit.Halt; live_out = [] }
