-- What a page tells of where code comes from: the lines of the program that each block of code stands for, and the variables that are live in
-- it, each with its home.
use Rattle.std.specs.Prelude.{ℕ, ◌+◌, ◌-◌, Bool, ◌||◌, if◌then◌else◌, List, [], ◌++◌, codes}
use Rattle.std.specs.List.{flat_map}
use Rattle.tta_origins.specs.Cited.{numbers, Machine, Program, Block, Live, live_before, live_after, Part, Entry, Steps, Returned, owner_of, Placed, vars_of, place, home_by, Lowered, line_at, named_text, range_at, count_text, kept_text}

-- ---- lines

-- the lines of the steps of a block, each with a blank before it
abbrev pub step_lines : Program → Block → List ℕ
step_lines p b = flat_map (λ i. count_text (codes " ") (line_at p b.owner (b.first + i))) (numbers (b.last + 1 - b.first))

-- the lines that a part stands for: those of its steps, after a call the call's, and none at the entry of a procedure
abbrev pub part_lines : Program → Part → List ℕ
part_lines p (Entry owner) = []
part_lines p (Steps b) = step_lines p b
part_lines p (Returned b d callee) = count_text (codes " ") (line_at p b.owner b.last)

-- the same as a line
unfoldable pub lines_text : Program → Part → List ℕ
lines_text p part = codes "lines" ++ (part_lines p part ++ codes "\n")

-- ---- variables

-- whether a variable is live in a part: at the entry of a procedure before its first step, in some steps before the first or after the last of
-- them, and after a call after its step
abbrev pub lives_in : Live → Part → (x : ℕ) → Bool
lives_in l (Entry owner) x = live_before l owner 0 x
lives_in l (Steps b) x = live_before l b.owner b.first x || live_after l b.owner b.last x
lives_in l (Returned b d callee) x = live_after l b.owner b.last x

module _ (m : Machine) (homes : List (ℕ × ℕ)) (p : Program) (r : Lowered) where
  -- a variable of a procedure, and the place that keeps its word: a register of the machine, or a slot of the frame space
  unfoldable pub variable_text : (owner x : ℕ) → List ℕ
  variable_text owner x =
      count_text (codes "live v") x ++ (codes " " ++ (kept_text m homes (place p (home_by p r.homes) owner x) ++ codes "\n"))

  -- the same of one that is live in a part
  abbrev pub live_text : Part → (x : ℕ) → List ℕ
  live_text part x = if lives_in r.live part x then variable_text (owner_of part) x else []

  -- the variables that are live in a part
  abbrev pub lives_text : Part → List ℕ
  lives_text part = flat_map (live_text part) (numbers (vars_of p (owner_of part)))

  -- ---- blocks

  -- a block of code: its name, what it stands for, where its code begins and how many cycles that takes
  unfoldable pub block_text : (starts : List ℕ) → List Placed → (k : ℕ) → List ℕ
  block_text starts placed k = codes "block " ++ (named_text p r.parts.items k ++ (range_at starts placed k ++ codes "\n"))

  -- a block of code with its lines and its variables
  unfoldable pub origin_text : (starts : List ℕ) → List Placed → (k : ℕ) → Part → List ℕ
  origin_text starts placed k part = block_text starts placed k ++ (lines_text p part ++ lives_text part)
