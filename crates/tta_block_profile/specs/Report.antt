-- What is told of the blocks of a run.
use Rattle.std.specs.Prelude.{◌≡◌, ℕ, List, ◌++◌, codes}
use Rattle.std.specs.List.{flat_map}
use Rattle.tta_arch.specs.Machine.{Machine}
use Rattle.tta_program.specs.Program.{Program}
use Rattle.tta_code.specs.declared.code.Instruction.{Instruction}
use Rattle.tta_lower.specs.declared.part.Part.{Part}
use Rattle.tta_moves.specs.declared.items.Placed.{Placed}
use Rattle.tta_profile.specs.Counts.{Counts}
use Rattle.tta_profile.specs.Report.{cycles_sum, share_text, uses_text}
use Rattle.tta_stages.specs.declared.stages.Stages.{Stages}
use Rattle.tta_stages.specs.Words.{block_name}
use Rattle.tta_stages.specs.RegisterText.{part_at, range_at}
use Rattle.tta_block_profile.specs.declared.costly.Spent.{Spent}
use Rattle.tta_block_profile.specs.Spent.{sum_at, IsCostliestFirst}

-- a block: what it stands for, where its code is, and how many cycles were spent in it
unfoldable pub block_line : Counts → (whole : ℕ) → Program → List Part → (starts : List ℕ) → List Placed → (k : ℕ) → List ℕ
block_line c whole p parts starts placed k =
    codes "block " ++ (block_name k ++ (part_at p parts k ++ (range_at starts placed k
    ++ (codes " spent " ++ (share_text (sum_at c starts placed k) whole ++ codes "\n")))))

-- blocks, in this order
abbrev pub blocks_text : Counts → (whole : ℕ) → Program → List Part → (starts : List ℕ) → List Placed → List Spent → List ℕ
blocks_text c whole p parts starts placed order = flat_map (λ s. block_line c whole p parts starts placed s.block) order

-- how many cycles were made and what was used, and the blocks in this order
unfoldable pub told_text : Machine → List Instruction → Counts → (whole : ℕ) → Program → List Part → (starts : List ℕ) → List Placed
    → List Spent → List ℕ
told_text m words c whole p parts starts placed order = uses_text m words c whole ++ blocks_text c whole p parts starts placed order

-- A text tells of the counts of the code of a program by its blocks, whose code begins at these addresses, the costliest first.
pub record IsBlockReport (m : Machine) (p : Program) (s : Stages) (starts : List ℕ) (c : Counts) (text : List ℕ) : Type 0 where
  pub order : List Spent
  pub costliest : IsCostliestFirst c starts s.planned.placed.items order
  pub is : text ≡ told_text m s.code.words c (cycles_sum c) p s.lowered.parts.items starts s.planned.placed.items order
