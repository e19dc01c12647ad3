-- What selection gives: lists of moves that do what register code does.
use Rattle.std.specs.Prelude.{◌≡◌, ◌≤◌, ◌+◌, ◌^◌, ℕ, true, false, List, [], ◌∷◌, length, map}
use Rattle.std.specs.List.{list_all}
use Rattle.tta_select.specs.Cited.{AllPairs, Units, Op, Machine, StandsOver, IsMachine, is_frame_op, Choice, IsChoice, hub_of, BlockList, is_straight, is_list, source_of, RBlock, Rir, names, asks, assigns_block, weight, one_block}
use Rattle.tta_select.specs.Select.{home_pair, selected}
use Rattle.tta_select.specs.Keeps.{IsFit, KeepsMeaning}
use Rattle.tta_select.specs.Counts.{targets, is_start_of, is_frame_trigger, is_home, is_need, items_in}
use Rattle.tta_select.specs.Lists.{is_closed}
use Rattle.tta_select.specs.Direct.{brings, direct_lists}

-- ---- what holds of lists that are selected

-- There is one list for each block, each address in a list is the number of one of the lists, and the lists have no more
-- items than the weight of the code.
pub record HasSize (r : Rir) (lists : List BlockList) : Type 0 where
  pub count : length lists ≡ length r.blocks
  pub addresses : list_all (λ l. list_all (λ x. is_closed (length lists) (source_of x)) l.items) lists ≡ true
  pub items : items_in lists ≤ weight r

-- The machine can carry out the list of a block, and the list keeps the home registers that the block keeps.
pub record IsListFor (m : Machine) (c : Choice) (b : RBlock) (l : BlockList) : Type 0 where
  pub list : is_list m l.items ≡ true
  pub live_out : l.live_out ≡ map (home_pair m c) b.live_out

-- The list of a block triggers each operation, other than those on the frame, on all units together at most as often as the
-- block asks for it.
abbrev pub TriggersNoMore : Units → Machine → RBlock → BlockList → Type 0
TriggersNoMore u m b l = (does : Op) → is_frame_op does ≡ false → targets (is_start_of m does) l.items ≤ asks u (is_need does) b

-- What the lists of register code are, for a machine and what is chosen on it.
pub record IsSelection (u : Units) (m : Machine) (c : Choice) (r : Rir) (lists : List BlockList) : Type 0 where
  -- For all words of the blocks that rise, every memory, every input and every bound, the lists run to the outcome, the
  -- data, the output and the rest of the input to which the register code runs.
  pub keeps : KeepsMeaning u m r lists
  -- There is one list for each block, their addresses are numbers of lists, and they are no longer than the code's weight.
  pub size : HasSize r lists
  -- The machine can carry out each list, and each keeps the registers that its block keeps.
  pub each : AllPairs (IsListFor m c) r.blocks lists
  -- Each list is straight: no move takes by a detour what a bus brings to it at once.
  pub straight : list_all (λ l. is_straight m (hub_of m) l.items) lists ≡ true
  -- Each list triggers each operation but loads and stores of the frame, on all units together, at most as often as its
  -- block asks.
  pub triggers : AllPairs (TriggersNoMore u m) r.blocks lists
  -- Each list triggers loads and stores of the frame together at most as often as its block names slots.
  pub frame : AllPairs (λ b l. targets (is_frame_trigger m) l.items ≤ names b) r.blocks lists
  -- Each list writes home registers at most as often as its block assigns.
  pub homes : AllPairs (λ b l. targets (is_home c) l.items ≤ assigns_block b) r.blocks lists

-- ---- selection for a machine that keeps all rules of coverage

-- A valid machine over the units, what is chosen on it, and register code that it can be given.
pub record IsGiven (u : Units) (m : Machine) (c : Choice) (r : Rir) : Type 0 where
  pub machine : IsMachine m
  pub over : StandsOver u m
  pub choice : IsChoice m c
  pub code : IsFit u m c r

-- the lists that are selected for it are a selection
abbrev pub Selects : Type 0
Selects = (u : Units) (m : Machine) (c : Choice) (r : Rir) → IsGiven u m c r → IsSelection u m c r (selected m c u r)

-- ---- selection for a direct pair

-- A valid machine, and register code of one block that outputs some words, which the machine brings to the output, and
-- halts.
pub record IsDirect (m : Machine) (words : List ℕ) (r : Rir) : Type 0 where
  pub machine : IsMachine m
  pub code : r.blocks ≡ one_block words ∷ []
  pub few : length words ≤ 2 ^ 18
  pub brought : list_all (brings m) words ≡ true

-- What the list of such code is. Nothing is asked of the units, and nothing need be chosen on the machine.
pub record IsDirectSelection (m : Machine) (r : Rir) (lists : List BlockList) : Type 0 where
  -- The list has one item for each step, and one for the exit.
  pub items : AllPairs (λ b l. length l.items ≡ length b.steps + 1) r.blocks lists
  -- Whatever the units and the home registers are, it is a selection.
  pub selection : (u : Units) (c : Choice) → IsSelection u m c r lists

-- the lists that are selected for it are such
abbrev pub SelectsDirect : Type 0
SelectsDirect = (m : Machine) (words : List ℕ) (r : Rir) → IsDirect m words r → IsDirectSelection m r (direct_lists m r)
