-- Frames, blocks and numbers as the code holds them.
use Rattle.std.specs.Prelude.{◌≡◌, ℕ, ◌+◌, ◌<◌, ◌^◌, ◌==◌, nat_lt, nat_le, ◌&&◌, if◌then◌else◌, Bool, true, false, List, [], ◌∷◌, ◌++◌, Some, length, slice_get, slice_index, slice_index_or, slice_set}
use Rattle.std.specs.Option.{option_map_or}
use Rattle.std.specs.List.{list_all}
use Rattle.std.specs.Global.{Vec}
use Rattle.tta_lower.specs.Cited.{Step, Load, Take, Store, When, Proc, is_src, Program}
use Rattle.tta_program.specs.declared.step.Step.TheVariants.{Copy, Apply, Put, If, Invoke, Return}
use Rattle.tta_lower.specs.declared.numbers.Numbers.{Numbers}
use Rattle.tta_lower.specs.Layout.{vars_of, base, own}
use Rattle.tta_lower.specs.Liveness.{Block}
use Rattle.tta_lower.specs.Lower.{Part, Entry, Steps, Returned, spans_of}

-- ---- frames

-- for each procedure the slot of its first variable
pub record AreFirsts (p : Program) (firsts : List ℕ) : Type 0 where
  pub size : length firsts ≡ length p.procs
  pub are : (o : ℕ) → o < length p.procs → slice_index firsts o ≡ base p o + own p o
  pub room : (o : ℕ) → o < length p.procs → base p o + own p o + vars_of p o < 2 ^ 32

-- ---- steps

-- whether a step that only goes on names only variables below a number
abbrev pub uses_below : (vars : ℕ) → Step → Bool
uses_below vars (Copy d s) = nat_lt d vars && is_src vars s
uses_below vars (Apply d op a b) = nat_lt d vars && (is_src vars a && is_src vars b)
uses_below vars (Load d a) = nat_lt d vars && is_src vars a
uses_below vars (Take d) = nat_lt d vars
uses_below vars (Store a v) = is_src vars a && is_src vars v
uses_below vars (Put v) = is_src vars v
uses_below vars (When rel a b d s) = nat_lt d vars && (is_src vars a && (is_src vars b && is_src vars s))
uses_below vars step = true

-- whether a step names only variables of its procedure, and calls a procedure that has room for the arguments
abbrev pub fits : Program → ℕ → Step → Bool
fits p owner (Invoke d callee args) =
    list_all (is_src (vars_of p owner)) args && (nat_lt callee (length p.procs) && nat_le (length args) (vars_of p callee))
fits p owner (Return (Some s)) = is_src (vars_of p owner) s
fits p owner (If rel a b to) = is_src (vars_of p owner) a && is_src (vars_of p owner) b
fits p owner step = uses_below (vars_of p owner) step

-- ---- rows

-- a mark in a row
abbrev pub marked : List Bool → ℕ → Bool
marked row x = slice_index_or row x false

-- a row of a table, empty where there is none
abbrev pub row_of : {A : Type 0} → List (Vec A) → ℕ → List A
row_of rows o = option_map_or (λ row. row.items) (slice_get rows o) []

-- ---- the blocks of each procedure

-- a block was put to those of its procedure
pub record Added (b : Block) (old new : List (Vec Block)) : Type 0 where
  pub size : length new ≡ length old
  pub rows : (o : ℕ) → o < length old → row_of new o ≡ row_of old o ++ (if b.owner == o then b ∷ [] else [])

-- each row has the blocks of its procedure
pub record IsSplit (procs : ℕ) (blocks : List Block) (table : List (Vec Block)) : Type 0 where
  pub size : length table ≡ procs
  pub rows : (o : ℕ) → o < procs → row_of table o ≡ spans_of blocks o

-- ---- the numbers of blocks

-- a number in a table of rows
abbrev pub number_in : List (Vec ℕ) → (owner at : ℕ) → ℕ
number_in rows owner at = slice_index (row_of rows owner) at

-- the block of steps with an owner and a first step, and the entry of a procedure, stand once among some parts
pub record StandOnce (parts : List Part) : Type 0 where
  pub steps : (j k : ℕ) (b c : Block) → slice_get parts j ≡ Some (Steps b) → slice_get parts k ≡ Some (Steps c) → b.owner ≡ c.owner → b.first ≡ c.first → j ≡ k
  pub entries : (j k o : ℕ) → slice_get parts j ≡ Some (Entry o) → slice_get parts k ≡ Some (Entry o) → j ≡ k

-- there is a number for each step
pub record HasRoom (p : Program) (rows : List (Vec ℕ)) : Type 0 where
  pub size : length rows ≡ length p.procs
  pub each : (o : ℕ) (q : Proc) → slice_get p.procs o ≡ Some q → length (row_of rows o) ≡ length q.steps

-- the number of a part was written: of steps at the first one, of an entry at its procedure
abbrev pub IsWritten : Part → (number : ℕ) → (old new : Numbers) → Type 0
IsWritten (Entry o) number old new = (new.rows ≡ old.rows) × (new.entries.items ≡ slice_set old.entries.items o number)
IsWritten (Steps b) number old new =
    (new.entries ≡ old.entries) × (length new.rows.items ≡ length old.rows.items)
    × ((o : ℕ) → row_of new.rows.items o ≡ (if b.owner == o then slice_set (row_of old.rows.items o) b.first number else row_of old.rows.items o))
IsWritten (Returned b d callee) number old new = new ≡ old

-- the numbers of the first parts are written
pub record HasNumbers (p : Program) (parts : List Part) (n : Numbers) (count : ℕ) : Type 0 where
  pub room : HasRoom p n.rows.items
  pub size : length n.entries.items ≡ length p.procs
  pub steps : (k : ℕ) (b : Block) (q : Proc) → k < count → slice_get parts k ≡ Some (Steps b) → slice_get p.procs b.owner ≡ Some q → b.first < length q.steps
      → number_in n.rows.items b.owner b.first ≡ k
  pub entries : (k o : ℕ) → k < count → slice_get parts k ≡ Some (Entry o) → o < length p.procs → slice_index n.entries.items o ≡ k
