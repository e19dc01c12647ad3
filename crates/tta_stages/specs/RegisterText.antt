-- The text of register code, block by block.
use Rattle.std.specs.Prelude.{ℕ, List, [], ◌++◌, slice_get, codes}
use Rattle.std.specs.Option.{option_map_or}
use Rattle.std.specs.List.{flat_map, enumerate_from}
use Rattle.tta_stages.specs.Cited.{Units, Machine, Program, RBlock, Placed, Block, Part, Entry, Steps, Returned, proc_name}
use Rattle.tta_stages.specs.Words.{count_text, block_name, home_text}
use Rattle.tta_stages.specs.ProgramText.{line_at}
use Rattle.tta_stages.specs.StepText.{steps_text, exit_text}

-- ---- headings

-- the procedure of some steps, and their lines, the first and the last
unfoldable pub lines_text : Program → Block → List ℕ
lines_text p b =
    proc_name p.main b.owner ++ (count_text (codes " lines ") (line_at p b.owner b.first) ++ count_text (codes " ") (line_at p b.owner b.last))

-- the procedure of the step to which a call returns, and its line
unfoldable pub return_text : Program → Block → List ℕ
return_text p b = proc_name p.main b.owner ++ count_text (codes " line ") (line_at p b.owner b.last)

-- what a block stands for: the entry of a procedure, some steps, or the return from a call
abbrev pub part_text : Program → Part → List ℕ
part_text p (Entry owner) = codes " entry of " ++ proc_name p.main owner
part_text p (Steps b) = codes " steps of " ++ lines_text p b
part_text p (Returned b d callee) = codes " return to " ++ return_text p b

-- the same of the block of a number, if there is one
abbrev pub part_at : Program → List Part → (k : ℕ) → List ℕ
part_at p parts k = option_map_or (part_text p) (slice_get parts k) []

-- the name of a block, and what it stands for
unfoldable pub named_text : Program → List Part → (k : ℕ) → List ℕ
named_text p parts k = block_name k ++ part_at p parts k

-- where the code of a block begins, and how many cycles it takes
unfoldable pub range_text : (start cycles : ℕ) → List ℕ
range_text start cycles = count_text (codes " address ") start ++ count_text (codes " cycles ") cycles

-- the same of the block of a number, if there is one
abbrev pub range_at : (starts : List ℕ) → List Placed → (k : ℕ) → List ℕ
range_at starts placed k = option_map_or (λ a. option_map_or (λ p. range_text a p.length) (slice_get placed k) []) (slice_get starts k) []

-- the heading of a block
unfoldable pub code_heading : Program → (starts : List ℕ) → List Placed → (k : ℕ) → Part → List ℕ
code_heading p starts placed k x = codes "code " ++ (block_name k ++ (part_text p x ++ (range_at starts placed k ++ codes "\n")))

-- ---- blocks

-- home registers, each with a blank before it
abbrev pub homes_text : Machine → (homes : List (ℕ × ℕ)) → List ℕ → List ℕ
homes_text m homes ks = flat_map (λ k. codes " " ++ home_text m homes k) ks

-- the steps of a block, how it ends, and the home registers that keep their words after it
unfoldable pub rblock_text : Units → Machine → (homes : List (ℕ × ℕ)) → RBlock → List ℕ
rblock_text u m homes b =
    steps_text u m homes b.steps
    ++ (exit_text m homes b.exit ++ (codes "\n live after :" ++ (homes_text m homes b.live_out ++ codes "\n")))

-- the same of the block of a number, if there is one
abbrev pub rblock_at : Units → Machine → (homes : List (ℕ × ℕ)) → List RBlock → (k : ℕ) → List ℕ
rblock_at u m homes blocks k = option_map_or (rblock_text u m homes) (slice_get blocks k) []

-- a block with its heading
unfoldable pub code_text : Units → Machine → (homes : List (ℕ × ℕ)) → Program → (starts : List ℕ) → List Placed → List RBlock → (k : ℕ) → Part → List ℕ
code_text u m homes p starts placed blocks k x = code_heading p starts placed k x ++ rblock_at u m homes blocks k

-- the blocks of some parts
abbrev pub register_text : Units → Machine → (homes : List (ℕ × ℕ)) → Program → (starts : List ℕ) → List Placed → List RBlock → List Part → List ℕ
register_text u m homes p starts placed blocks parts = flat_map (λ x. code_text u m homes p starts placed blocks x.0 x.1) (enumerate_from 0 parts)
