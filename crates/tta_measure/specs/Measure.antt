-- What circuits are made of, counted, and how deep their signals are.
use Rattle.std.specs.Prelude.{◌≡◌, ℕ, ◌*◌, length}
use Rattle.std.specs.List.{AllByRecursion}
use Rattle.tta_circuit.specs.Circuit.{Expr, Const, Signal, Slice, Join, Select, Not, Both, Either, Equal, Below, Plus, Minus, Times, BitAnd, BitOr, BitXor, Left, Right, Read, Apply, WritePort, Register, Memory, Circuit}
use Rattle.tta_circuit.specs.Widths.{width_of}
use Rattle.tta_measure.specs.declared.cost.Cost.{Cost}
use Rattle.tta_measure.specs.Cost.{free, at, beside, behind, chosen, held}
use Rattle.tta_measure.specs.Table.{gate_depth, equal_depth, sum_depth, shift_depth, product_depth, read_depth}

-- These are the widths of signals and memories, the depths of signals, and those of operations by their numbers.
module _ {N M : Type 0} (signal : N → ℕ) (memory : M → ℕ) (line : N → ℕ) (applied : ℕ → ℕ) where
  -- The cost of an expression: a choice has as many bits as its words. Parts of words, words joined, and inverters cost nothing.
  abbrev pub cost : Expr N M → Cost
  cost (Const width word) = free
  cost (Signal n) = at (line n)
  cost (Slice low width e) = cost e
  cost (Join width high low) = beside (cost high) (cost low)
  cost (Select test on off) = chosen (width_of signal memory on) (beside (cost test) (beside (cost on) (cost off)))
  cost (Not e) = cost e
  cost (Both a b) = behind gate_depth (beside (cost a) (cost b))
  cost (Either a b) = behind gate_depth (beside (cost a) (cost b))
  cost (Equal a b) = behind equal_depth (beside (cost a) (cost b))
  cost (Below a b) = behind sum_depth (beside (cost a) (cost b))
  cost (Plus width a b) = behind sum_depth (beside (cost a) (cost b))
  cost (Minus width a b) = behind sum_depth (beside (cost a) (cost b))
  cost (Times width a b) = behind product_depth (beside (cost a) (cost b))
  cost (BitAnd a b) = behind gate_depth (beside (cost a) (cost b))
  cost (BitOr a b) = behind gate_depth (beside (cost a) (cost b))
  cost (BitXor a b) = behind gate_depth (beside (cost a) (cost b))
  cost (Left width a by) = behind shift_depth (beside (cost a) (cost by))
  cost (Right a by) = behind shift_depth (beside (cost a) (cost by))
  cost (Read m address) = behind read_depth (cost address)
  cost (Apply op a b) = behind (applied op) (beside (cost a) (cost b))

  -- that of a register: of what enables it, and of what it becomes
  abbrev pub register_cost : Register N M → Cost
  register_cost r = held r.width (beside (cost r.enable) (cost r.next))

  -- that of where a memory is written
  abbrev pub port_cost : WritePort N M → Cost
  port_cost p = beside (cost p.enable) (beside (cost p.address) (cost p.word))

  -- The depths of a circuit's signals: inputs and registers are there when the clock comes, and a wire is there when its word is.
  pub record AreDepths (c : Circuit N M) : Type 0 where
    pub inputs : AllByRecursion (λ i. line i.0 ≡ 0) c.inputs
    pub registers : AllByRecursion (λ r. line r.name ≡ 0) c.registers
    pub wires : AllByRecursion (λ w. line w.name ≡ (cost w.word).depth) c.wires

-- how many bits a memory has
abbrev pub memory_bits : {N M : Type 0} → Memory N M → ℕ
memory_bits x = x.width * length x.words
