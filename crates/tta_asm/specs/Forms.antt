-- What slots and long immediates say, with their names as they stand.
use Rattle.std.specs.Prelude.{ℕ, Bool, List, Option}

-- a word as it is given: a constant, or the name of a label
pub data ValueForm : Type 0 where
  Constant : ℕ → ValueForm
  LabelName : List ℕ → ValueForm

-- a source: a word, FILE.INDEX or IMM.INDEX, UNIT.r, or gcu.ra
pub data SourceForm : Type 0 where
  Value : ValueForm → SourceForm
  Place : (name : List ℕ) (index : ℕ) → SourceForm
  Shown : (unit : List ℕ) → SourceForm
  Ra : SourceForm

-- a destination: FILE.INDEX, UNIT.o, or UNIT.t.OPERATION
pub data DestForm : Type 0 where
  Place : (name : List ℕ) (index : ℕ) → DestForm
  Operand : (unit : List ℕ) → DestForm
  Trigger : (unit op : List ℕ) → DestForm

-- a guard: ?FILE.INDEX, or !FILE.INDEX, which is inverted
pub record GuardForm : Type 0 where
  pub file : List ℕ
  pub index : ℕ
  pub inverted : Bool

-- a move
pub record MoveForm : Type 0 where
  pub guard : Option GuardForm
  pub src : SourceForm
  pub dst : DestForm

-- a slot, with the line of its first word: a move, or none
pub record SlotForm : Type 0 where
  pub line : ℕ
  pub action : Option MoveForm

-- a long immediate, with the line of its first word
pub record LongForm : Type 0 where
  pub line : ℕ
  pub template : List ℕ
  pub value : ValueForm

-- a slot, and the long immediate after it, if any
pub record PieceForm : Type 0 where
  pub slot : SlotForm
  pub long : Option LongForm
