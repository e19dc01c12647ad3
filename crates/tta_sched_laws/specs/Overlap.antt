-- What a block of code does in its cycles, against its list without overlap.
use Rattle.std.specs.Prelude.{option_map, ◌≡◌, ℕ, suc, ◌+◌, ◌<◌, ◌≤◌, true, false, if◌then◌else◌, nat_le, List, ◌++◌, length, map, take, replicate, Option, Some, None, slice_get, IsTrue}
use Rattle.std.specs.Option.{option_map_or}
use Rattle.std.specs.List.{list_all, AllByRecursion}
use Rattle.tta_sched_laws.specs.Cited.{IsPrefixOf, iterate, Units, Op, Ldw, Stw, Ldf, Stf, Out, Take, Set, GuardRef, Machine, Jumps, Calls, Halts, Target, Reg, Imm, Operand, Trigger, Control, Effect, Place, KeptReg, KeptImm, KeptOperand, KeptRa, KeptPort, Reads, kept, is_active, op_at, first_some, Code, is_legal, State, next, port, read_source, BlockList, PlacedItem, Placed, target_of_item, Exit, Next, Leaves, is_waiting, Held, read_held, effect_of, do_items, Spot, At, same_spot, Touch, Respects, control_is_last, HoldsBlock}
use Rattle.tta_arch.specs.declared.ends.Source.TheVariants as source
use Rattle.tta_code.specs.Cycle.{Running, Halted, Waiting}
use Rattle.tta_moves.specs.Meaning.{Waits, has_meaning}
use Rattle.tta_moves.specs.Bounds.{writes_by}

-- ---- a machine and a list

-- what a machine has in a place: the word that it keeps, or the word on a result port
abbrev pub word_in : State → Place → Option ℕ
word_in s (KeptReg file index) = kept s.written (KeptReg file index)
word_in s (KeptImm unit index) = kept s.written (KeptImm unit index)
word_in s (KeptOperand unit) = kept s.written (KeptOperand unit)
word_in s KeptRa = kept s.written KeptRa
word_in s (KeptPort unit) = port s unit

-- where a list has a word, the machine has the same
abbrev pub Covers : Option ℕ → Option ℕ → Type 0
Covers held value = (w : ℕ) → value ≡ Some w → held ≡ Some w

-- The machine has what a list has, in every place and in the spaces. No control move is under way, and no result is to
-- come.
pub record Holds (s : State) (h : Held) : Type 0 where
  pub places : (x : Place) → Covers (word_in s x) (kept h.written x)
  pub memory : s.memory ≡ h.memory
  pub frame : s.frame ≡ h.frame
  pub rest : s.rest ≡ h.rest
  pub output : s.output ≡ h.output
  pub pending : s.pending ≡ None
  pub settled : list_all (λ r. nat_le r.due s.cycle) s.started ≡ true

-- where a machine goes on after a list, or that it has halted
abbrev pub IsLeft : Exit → (behind : ℕ) → State → Type 0
IsLeft Next behind s = (s.outcome ≡ Running) × (s.pc ≡ behind)
IsLeft (Leaves Jumps word) behind s = (s.outcome ≡ Running) × (s.pc ≡ word)
IsLeft (Leaves Calls word) behind s = (s.outcome ≡ Running) × (s.pc ≡ word)
IsLeft (Leaves Halts word) behind s = s.outcome ≡ Halted
IsLeft Waits behind s = ⊥

-- ---- in a block's cycles

-- when an item writes a spot, counted from its cycle
abbrev pub moment_of : Spot → List Touch → Option ℕ
moment_of x ts = first_some (λ o. if same_spot o.0 x then Some o.1 else None) ts

-- The first k items are those whose writes of a spot show at a cycle.
pub record ShowBy (m : Machine) (items : List PlacedItem) (x : Spot) (c k : ℕ) : Type 0 where
  pub before : (j a : ℕ) (y : PlacedItem) → slice_get items j ≡ Some y → j < k → moment_of x (writes_by m y.item) ≡ Some a → y.cycle + a ≤ c
  pub later : (j a : ℕ) (y : PlacedItem) → slice_get items j ≡ Some y → k ≤ j → moment_of x (writes_by m y.item) ≡ Some a → c < y.cycle + a

-- which space an operation touches, where each belongs to one unit: the data words, the frame words, the streams
abbrev pub space_of : Op → ℕ
space_of Ldw = 1
space_of Stw = 1
space_of Ldf = 2
space_of Stf = 2
space_of Out = 3
space_of Take = 3
space_of (Set id) = 0

-- which space a target touches
abbrev pub space_by : Machine → Target → ℕ
space_by m (Trigger unit op) = option_map_or (λ o. space_of o.op) (op_at m unit op) 0
space_by m (Reg file index) = 0
space_by m (Imm unit index) = 0
space_by m (Operand unit) = 0
space_by m (Control kind) = 0

-- The first k items are those whose touches of a space are done at a cycle.
pub record DoneBy (m : Machine) (items : List PlacedItem) (space c k : ℕ) : Type 0 where
  pub before : (j : ℕ) (y : PlacedItem) → slice_get items j ≡ Some y → j < k → space_by m (target_of_item y.item) ≡ space → y.cycle < c
  pub later : (j : ℕ) (y : PlacedItem) → slice_get items j ≡ Some y → k ≤ j → space_by m (target_of_item y.item) ≡ space → c ≤ y.cycle

-- an item finds in its cycle the words that the list finds: that of its guard, and where it acts that of its source
pub record FindsIts (reads other : Reads) (e : Effect) : Type 0 where
  pub guard : (g : GuardRef) → e.guard ≡ Some g → reads (source.Reg g.file g.index) ≡ other (source.Reg g.file g.index)
  pub source : is_active other e ≡ true → reads e.src ≡ other e.src

-- what a machine is in a cycle of a block: each place and each space has what the list gives after the last of its writes
-- that shows, and each item of the cycle finds what the list finds
pub record IsInCycle (u : Units) (m : Machine) (addr : List ℕ) (back : ℕ) (items : List PlacedItem) (h : Held) (c : ℕ) (s : State) : Type 0 where
  pub runs : s.outcome ≡ Running
  pub shown : (x : Place) → (k : ℕ) × (k ≤ length items) × ShowBy m items (At x) c k
  pub done : (space : ℕ) → 0 < space → (k : ℕ) × (k ≤ length items) × DoneBy m items space c k
  pub places : (x : Place) (k : ℕ) → k ≤ length items → ShowBy m items (At x) c k
      → Covers (word_in s x) (kept (do_items u m addr back h (take k (map (λ y. y.item) items))).written x)
  pub memory : (k : ℕ) → k ≤ length items → DoneBy m items 1 c k → s.memory ≡ (do_items u m addr back h (take k (map (λ y. y.item) items))).memory
  pub frame : (k : ℕ) → k ≤ length items → DoneBy m items 2 c k → s.frame ≡ (do_items u m addr back h (take k (map (λ y. y.item) items))).frame
  pub rest : (k : ℕ) → k ≤ length items → DoneBy m items 3 c k → s.rest ≡ (do_items u m addr back h (take k (map (λ y. y.item) items))).rest
  pub output : (k : ℕ) → k ≤ length items → DoneBy m items 3 c k → s.output ≡ (do_items u m addr back h (take k (map (λ y. y.item) items))).output
  pub reads : (j : ℕ) (y : PlacedItem) → slice_get items j ≡ Some y → y.cycle ≡ c
      → FindsIts (read_source s) (read_held (do_items u m addr back h (take j (map (λ y. y.item) items))).written) (effect_of addr y.item)

-- ---- a block

-- a list that does not wait: the block takes its length and ends with what the list leaves
pub record Ends (u : Units) (m : Machine) (code : Code) (addr : List ℕ) (back : ℕ) (p : Placed) (h : Held) (s : State) (list : Held) : Type 0 where
  pub cycles : (c : ℕ) → c < p.length → IsInCycle u m addr back p.items h c (iterate c (next u m code) s)
  pub output : (c : ℕ) → c ≤ p.length → IsPrefixOf (iterate c (next u m code) s).output list.output
  pub holds : Holds (iterate p.length (next u m code) s) list
  pub count : (iterate p.length (next u m code) s).cycle ≡ s.cycle + p.length
  pub left : IsLeft list.exit (s.pc + p.length) (iterate p.length (next u m code) s)

-- the same state with zeros after its input
abbrev pub with_zeros : ℕ → State → State
with_zeros n s = record s { rest = s.rest ++ replicate n 0 }

-- A list that waits for an item's word: so does the block, in the cycle of this item, with the list's output and rest. Up to
-- there it is, but for zeros at the end of the input, as with as many zeros after its input as the list has items.
pub record Stops (u : Units) (m : Machine) (code : Code) (addr : List ℕ) (back : ℕ) (p : Placed) (h : Held) (s : State) (list : Held) : Type 0 where
  pub item : ℕ
  pub before : is_waiting (do_items u m addr back h (take item (map (λ y. y.item) p.items))).exit ≡ false
  pub there : is_waiting (do_items u m addr back h (take (suc item) (map (λ y. y.item) p.items))).exit ≡ true
  pub cycle : ℕ
  pub own : option_map (λ y. y.cycle) (slice_get p.items item) ≡ Some cycle
  pub within : cycle < p.length
  pub runs : (c : ℕ) → c ≤ cycle → (iterate c (next u m code) s).outcome ≡ Running
  pub waits : (iterate (suc cycle) (next u m code) s).outcome ≡ Waiting
  pub output : (iterate (suc cycle) (next u m code) s).output ≡ list.output
  pub rest : (iterate (suc cycle) (next u m code) s).rest ≡ list.rest
  pub same : (c : ℕ) → c ≤ cycle → iterate c (next u m code) (with_zeros (length p.items) s) ≡ with_zeros (length p.items) (iterate c (next u m code) s)

-- a block of code does in its cycles what its list does
pub record Overlaps (u : Units) (m : Machine) (code : Code) (addr : List ℕ) (back : ℕ) (b : BlockList) (p : Placed) (h : Held) (s : State) : Type 0 where
  pub ends : is_waiting (do_items u m addr back h b.items).exit ≡ false → Ends u m code addr back p h s (do_items u m addr back h b.items)
  pub stops : is_waiting (do_items u m addr back h b.items).exit ≡ true → Stops u m code addr back p h s (do_items u m addr back h b.items)

-- what the layers below give of one block: control is only last in its list, its placement respects the list, and the code
-- holds it from an address on
pub record IsPlaced (m : Machine) (code : Code) (addr : List ℕ) (base : ℕ) (b : BlockList) (p : Placed) : Type 0 where
  pub closed : control_is_last b.items ≡ true
  pub respects : Respects m b.items p
  pub holds : HoldsBlock m code addr base p

-- the instructions of code are legal
abbrev pub AreLegal : Machine → Code → Type 0
AreLegal m code = AllByRecursion (λ i. IsTrue (is_legal m i)) code.words

-- a list has a meaning from here, whatever words follow its input
abbrev pub MeansWithMore : Units → Machine → (addr : List ℕ) → (back : ℕ) → BlockList → Held → Type 0
MeansWithMore u m addr back b h = (ws : List ℕ) → has_meaning u m addr back (record h { rest = h.rest ++ ws }) b.items ≡ true

-- ---- blocks in a row

-- the placed blocks of a program: one for each list, which respects it, and control is only last in the list
pub record ArePlaced (m : Machine) (lists : List BlockList) (ps : List Placed) : Type 0 where
  pub count : length ps ≡ length lists
  pub closed : (k : ℕ) (b : BlockList) → slice_get lists k ≡ Some b → control_is_last b.items ≡ true
  pub respects : (k : ℕ) (b : BlockList) (p : Placed) → slice_get lists k ≡ Some b → slice_get ps k ≡ Some p → Respects m b.items p
