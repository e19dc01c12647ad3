-- What is remarked of the rows of the code of a program: where its blocks begin, and the lines that they stand for.
use Rattle.std.specs.Prelude.{ℕ, ◌==◌, if◌then◌else◌, List, [], ◌∷◌, slice_get}
use Rattle.std.specs.Option.{option_map_or}
use Rattle.std.specs.List.{flat_map, enumerate_from}
use Rattle.tta_program.specs.Program.{Program}
use Rattle.tta_inspect.specs.Cited.{Part, Placed, starts_from, Remark, Stages, named_text}

-- the remark on a row in which the block of a number begins: its name, and what it stands for
abbrev pub remark_at : Program → List Part → (row k : ℕ) → Remark
remark_at p parts row k = record { row = row; text = named_text p parts k }

-- the remark on the row in which the block of a number begins, if it is known
abbrev pub start_remark : Program → List Part → (starts : List ℕ) → (k : ℕ) → List Remark
start_remark p parts starts k = option_map_or (λ start. remark_at p parts start k ∷ []) (slice_get starts k) []

-- the same of a block by its number and its placement, if it has code
abbrev pub block_remark : Program → List Part → (starts : List ℕ) → (k : ℕ) → Placed → List Remark
block_remark p parts starts k b = if b.length == 0 then [] else start_remark p parts starts k

-- those of blocks, whose code begins at these addresses
abbrev pub block_remarks : Program → List Part → (starts : List ℕ) → List Placed → List Remark
block_remarks p parts starts placed = flat_map (λ b. block_remark p parts starts b.0 b.1) (enumerate_from 0 placed)

-- those of the code of a program
abbrev pub remarks_of : Program → Stages → List Remark
remarks_of p s = block_remarks p s.lowered.parts.items (starts_from 0 s.planned.placed.items) s.planned.placed.items
