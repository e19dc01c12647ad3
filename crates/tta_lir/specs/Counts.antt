-- How much a block of register code asks for: the slots that it names, the operations that it asks for, and the home
-- registers that it assigns; and its weight, which bounds the items that it becomes.
use Rattle.std.specs.Prelude.{ℕ, ◌+◌, ◌*◌, Bool, if◌then◌else◌}
use Rattle.std.specs.Option.{option_map_or}
use Rattle.std.specs.List.{sum_by}
use Rattle.tta_ops.specs.Units.{Units, named}
use Rattle.tta_program.specs.declared.operand.Rel.{Rel}
use Rattle.tta_program.specs.Over.{test_name}
use Rattle.tta_lir.specs.declared.code.Place.{Place}
use Rattle.tta_lir.specs.declared.code.Place.TheVariants.{Reg, Frame}
use Rattle.tta_lir.specs.declared.code.RSrc.{RSrc}
use Rattle.tta_lir.specs.declared.code.RSrc.TheVariants as rsrc
use Rattle.tta_lir.specs.declared.code.RStep.{RStep}
use Rattle.tta_lir.specs.declared.code.RStep.TheVariants as rstep
use Rattle.tta_lir.specs.declared.code.Exit.{Exit}
use Rattle.tta_lir.specs.declared.code.Exit.TheVariants as exit
use Rattle.tta_lir.specs.declared.code.RBlock.{RBlock}
use Rattle.tta_lir.specs.declared.code.Rir.{Rir}

-- ---- slots that register code names

-- a place: one where it is a slot
abbrev pub names_place : Place → ℕ
names_place (Reg k) = 0
names_place (Frame f) = 1

-- an operand
abbrev pub names_src : RSrc → ℕ
names_src (rsrc.At p) = names_place p
names_src (rsrc.Word w) = 0

-- a step; the destination of a `when` counts twice
abbrev pub names_step : RStep → ℕ
names_step (rstep.Copy d s) = names_place d + names_src s
names_step (rstep.Apply d op a b) = names_place d + names_src a + names_src b
names_step (rstep.Load d a) = names_place d + names_src a
names_step (rstep.Take d) = names_place d
names_step (rstep.Store a v) = names_src a + names_src v
names_step (rstep.Put v) = names_src v
names_step (rstep.When rel a b d s) = names_src a + names_src b + 2 * names_place d + names_src s
names_step (rstep.SaveRa slot) = 1

-- an exit
abbrev pub names_exit : Exit → ℕ
names_exit (exit.If rel a b to) = names_src a + names_src b
names_exit (exit.Back slot) = 1
names_exit e = 0

-- the slots that a block names
abbrev pub names : RBlock → ℕ
names b = sum_by names_step b.steps + names_exit b.exit

-- ---- operations

-- an operation that a step needs: of the data space, of the output or the input, or one of the set of units
pub data Need : Type 0 where
  Loads : Need
  Stores : Need
  Puts : Need
  Takes : Need
  Named : ℕ → Need

module _ (u : Units) (wanted : Need → Bool) where
  -- whether an operation is one of those that are counted
  abbrev pub counts_need : Need → ℕ
  counts_need need = if wanted need then 1 else 0

  -- the operation of a condition
  abbrev pub counts_test : Rel → ℕ
  counts_test rel = option_map_or (λ op. counts_need (Named op)) (named u (test_name rel)) 0

  -- the operation of a step
  abbrev pub asks_rstep : RStep → ℕ
  asks_rstep (rstep.Apply d op a b) = counts_need (Named op.0)
  asks_rstep (rstep.Load d a) = counts_need Loads
  asks_rstep (rstep.Take d) = counts_need Takes
  asks_rstep (rstep.Store a v) = counts_need Stores
  asks_rstep (rstep.Put v) = counts_need Puts
  asks_rstep (rstep.When rel a b d s) = counts_test rel
  asks_rstep step = 0

  -- the operation of an exit
  abbrev pub asks_exit : Exit → ℕ
  asks_exit (exit.If rel a b to) = counts_test rel
  asks_exit e = 0

  -- how often a block asks for such operations
  abbrev pub asks : RBlock → ℕ
  asks b = sum_by asks_rstep b.steps + asks_exit b.exit

-- ---- assignments

-- a place: one where it is a home register
abbrev pub assigns_place : Place → ℕ
assigns_place (Reg k) = 1
assigns_place (Frame f) = 0

-- the destination of a step
abbrev pub assigns_rstep : RStep → ℕ
assigns_rstep (rstep.Copy d s) = assigns_place d
assigns_rstep (rstep.Apply d op a b) = assigns_place d
assigns_rstep (rstep.Load d a) = assigns_place d
assigns_rstep (rstep.Take d) = assigns_place d
assigns_rstep (rstep.When rel a b d s) = assigns_place d
assigns_rstep step = 0

-- how often a block assigns home registers
abbrev pub assigns_block : RBlock → ℕ
assigns_block b = sum_by assigns_rstep b.steps

-- ---- weight

-- the weight of a step
abbrev pub weight_step : RStep → ℕ
weight_step (rstep.Copy d s) = 8
weight_step (rstep.SaveRa slot) = 8
weight_step (rstep.When rel a b d s) = 32
weight_step step = 16

-- the weight of an exit: none where the next block comes
abbrev pub weight_exit : Exit → ℕ
weight_exit exit.Next = 0
weight_exit e = 16

-- the weight of a block
abbrev pub weight_block : RBlock → ℕ
weight_block b = sum_by weight_step b.steps + weight_exit b.exit

-- the weight of register code
abbrev pub weight : Rir → ℕ
weight r = sum_by weight_block r.blocks
