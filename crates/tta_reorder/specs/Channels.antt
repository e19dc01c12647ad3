-- What one item of a list can leave for a later one.
use Rattle.std.specs.Prelude.{ℕ, ◌==◌, Bool, true, false, not, ◌&&◌, ◌||◌, if◌then◌else◌, List, Option, Some, None, option_map, slice_index}
use Rattle.std.specs.Option.{option_map_or}
use Rattle.tta_reorder.specs.Cited.{Op, Ldw, Stw, Ldf, Stf, Out, Machine, Target, Reg, Imm, Operand, Trigger, Control, Place, KeptOperand, op_at, takes_in, Item, target_of_item, reads, writes, is_at, is_control, is_unguarded, lives}

-- A word in a place; the data space; a part of the frame space; the input and the output, which keep one order; and how
-- the list goes on.
pub data Channel : Type 0 where
  Word : Place → Channel
  Data : Channel
  Frame : (part : ℕ) → Channel
  Traffic : Channel
  Ending : Channel

-- How a list uses the frame space: whether its slots are told apart, so that each is a part of its own, and else all of them
-- are part 0; and which part the item of each number uses, if it uses any.
pub record Division : Type 0 where
  pub apart : Bool
  pub parts : List ℕ

-- the part that a slot lies in
abbrev pub part_with : Division → (slot : ℕ) → ℕ
part_with d slot = if d.apart then slot else 0

-- the part that the item of a number uses
abbrev pub part_of : Division → (n : ℕ) → ℕ
part_of d n = slice_index d.parts n

-- ---- operations

-- the operation that a target starts, if it is a trigger port
abbrev pub started : Machine → Target → Option Op
started m (Reg file index) = None
started m (Imm unit index) = None
started m (Operand unit) = None
started m (Trigger unit op) = option_map (λ o. o.op) (op_at m unit op)
started m (Control kind) = None

-- whether a target starts an operation of some kind
abbrev pub starts : Machine → (Op → Bool) → Target → Bool
starts m kind t = option_map_or kind (started m t) false

abbrev pub stores_data : Op → Bool
stores_data Stw = true
stores_data o = false

abbrev pub uses_data : Op → Bool
uses_data Ldw = true
uses_data o = stores_data o

abbrev pub stores_frame : Op → Bool
stores_frame Stf = true
stores_frame o = false

abbrev pub uses_frame : Op → Bool
uses_frame Ldf = true
uses_frame o = stores_frame o

abbrev pub loads_frame : Op → Bool
loads_frame Ldf = true
loads_frame o = false

abbrev pub passes_words : Op → Bool
passes_words Out = true
passes_words o = takes_in o

-- the operand port that a target's operation takes a word from, where it is one of two words
abbrev pub operand_place : Machine → Target → Option Place
operand_place m (Reg file index) = None
operand_place m (Imm unit index) = None
operand_place m (Operand unit) = None
operand_place m (Trigger unit op) = option_map_or (λ o. if o.arity == 2 then Some (KeptOperand unit) else None) (op_at m unit op) None
operand_place m (Control kind) = None

-- ---- items

-- whether an item, which has a number, may change what is there
abbrev pub alters : Machine → Division → Channel → ℕ × Item → Bool
alters m d (Word p) y = writes m p y.1
alters m d Data y = starts m stores_data (target_of_item y.1)
alters m d (Frame part) y = starts m stores_frame (target_of_item y.1) && part_of d y.0 == part
alters m d Traffic y = starts m passes_words (target_of_item y.1)
alters m d Ending y = is_control y.1

-- Whether what an item does is made of what is there: of a place that it reads, an operand that its operation takes, a
-- space or a part of one that its operation uses. An item with a guard may leave things as they are, so it asks for all that
-- it may change.
abbrev pub asks : Machine → Division → Channel → ℕ × Item → Bool
asks m d (Word p) y =
    (reads p y.1 || is_at p (operand_place m (target_of_item y.1))) || (writes m p y.1 && not (is_unguarded y.1))
asks m d Data y = starts m uses_data (target_of_item y.1)
asks m d (Frame part) y = starts m uses_frame (target_of_item y.1) && part_of d y.0 == part
asks m d Traffic y = starts m passes_words (target_of_item y.1)
asks m d Ending y = is_control y.1 && not (is_unguarded y.1)

-- whether what is there is still there for the next list
abbrev pub survives : (live : List (ℕ × ℕ)) → Channel → Bool
survives live (Word p) = lives live p
survives live Data = true
survives live (Frame part) = true
survives live Traffic = true
survives live Ending = true

-- whether an item takes a word of the input, where the list may wait
abbrev pub may_wait : Machine → Item → Bool
may_wait m x = starts m takes_in (target_of_item x)
