-- What is known of the list of each part of a program, beside what all lists mean.
use Rattle.std.specs.Prelude.{◌≡◌, ◌≤◌, ℕ, true, false, List, length, map, Some, slice_get}
use Rattle.std.specs.List.{list_all}
use Rattle.tta_compiler_laws.specs.Cited.{Units, Op, UnitOp, Machine, op_at, is_frame_op, Choice, hub_of, Program, BlockList, source_of, is_list, is_bypassed, is_shared, is_lively, is_straight, Part, LoweringInput, parts, block_of, traffic, asks_part, assigns_part, home_pair, targets, is_trigger_of, is_start_of, is_frame_trigger, is_home, is_need, is_closed, IsKnown}
use Rattle.tta_compiler_laws.specs.Compiler.{IsPair, AreStandIns, raw}

module _ (u : Units) (m : Machine) (c : Choice) (p : Program) (known : LoweringInput) where
  -- The list of a part: with the part's registers that stay; a list for the machine whose addresses are those of blocks;
  -- straight; and it triggers and writes no more than the part asks for: each operation of a unit, and on all units together.
  pub record IsListOf (x : Part) (l : BlockList) : Type 0 where
    pub live : l.live_out ≡ map (home_pair m c) (block_of p known (length c.homes) x).live_out
    pub list : is_list m l.items ≡ true
    pub addresses : list_all (λ y. is_closed (length (parts p known.blocks known.first)) (source_of y)) l.items ≡ true
    pub straight : is_straight m (hub_of m) l.items ≡ true
    pub triggers : (unit k : ℕ) (o : UnitOp) → op_at m unit k ≡ Some o → is_frame_op o.op ≡ false → targets (is_trigger_of unit k) l.items ≤ asks_part u (is_need o.op) p known.home x
    pub total : (op : Op) → is_frame_op op ≡ false → targets (is_start_of m op) l.items ≤ asks_part u (is_need op) p known.home x
    pub frame : targets (is_frame_trigger m) l.items ≤ traffic p known.home known.first x
    pub homes : targets (is_home c) l.items ≤ assigns_part p known.home known.first x

  -- one such list for each part, in order
  pub record ArePlanned (lists : List BlockList) : Type 0 where
    pub count : length lists ≡ length (parts p known.blocks known.first)
    pub each : (k : ℕ) (x : Part) (l : BlockList) → slice_get (parts p known.blocks known.first) k ≡ Some x → slice_get lists k ≡ Some l → IsListOf x l

-- lists that may be placed for the selected ones are such
abbrev pub ListsPlanned : Type 0
ListsPlanned =
    (u : Units) (m : Machine) (c : Choice) (p : Program) (known : LoweringInput) (lists : List BlockList) → IsPair u m c p → IsKnown p (length c.homes) known
    → AreStandIns m (raw u m c p known) lists → ArePlanned u m c p known lists

-- a list in all three forms: no register stands between a result and its reader, no operand is moved twice, and no write
-- is for nothing
pub record HasForms (m : Machine) (l : BlockList) : Type 0 where
  pub bypassed : is_bypassed m l.items ≡ true
  pub shared : is_shared m l.items ≡ true
  pub lively : is_lively m l.live_out l.items ≡ true
