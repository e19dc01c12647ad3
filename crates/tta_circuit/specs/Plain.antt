-- Which expressions a text of circuits can say as they stand: parts are parts of names, and nothing has no bits.
use Rattle.std.specs.Prelude.{◌≡◌, ℕ, ◌<◌, Bool, true, false, ◌&&◌, nat_lt, Option, None, Some, ⊤}
use Rattle.std.specs.List.{AllByRecursion}
use Rattle.tta_circuit.specs.Circuit.{Expr, Const, Signal, Slice, Join, Select, Not, Both, Either, Equal, Below, Plus, Minus, Times, BitAnd, BitOr, BitXor, Left, Right, Read, Apply, Wire, Register, WritePort, Memory, Circuit}
use Rattle.tta_circuit.specs.Widths.{width_of, is_sized}

module _ {N M : Type 0} (signal : N → ℕ) (memory : M → ℕ) where
  -- whether an expression is a signal that has bits
  abbrev pub is_name : Expr N M → Bool
  is_name (Signal n) = nat_lt 0 (signal n)
  is_name e = false

  -- Whether no constant, signal, part or word of a memory in an expression has no bits, and each part is a part of a signal. Where an
  -- expression is sized, too, none of its own parts has no bits.
  abbrev pub is_plain : Expr N M → Bool
  is_plain (Const width word) = nat_lt 0 width
  is_plain (Signal n) = nat_lt 0 (signal n)
  is_plain (Slice low width e) = nat_lt 0 width && is_name e
  is_plain (Join width high low) = is_plain high && is_plain low
  is_plain (Select test on off) = is_plain test && (is_plain on && is_plain off)
  is_plain (Not e) = is_plain e
  is_plain (Both a b) = is_plain a && is_plain b
  is_plain (Either a b) = is_plain a && is_plain b
  is_plain (Equal a b) = is_plain a && is_plain b
  is_plain (Below a b) = is_plain a && is_plain b
  is_plain (Plus width a b) = is_plain a && is_plain b
  is_plain (Minus width a b) = is_plain a && is_plain b
  is_plain (Times width a b) = is_plain a && is_plain b
  is_plain (BitAnd a b) = is_plain a && is_plain b
  is_plain (BitOr a b) = is_plain a && is_plain b
  is_plain (BitXor a b) = is_plain a && is_plain b
  is_plain (Left width a by) = is_plain a && is_plain by
  is_plain (Right a by) = is_plain a && is_plain by
  is_plain (Read m address) = nat_lt 0 (memory m) && is_plain address
  is_plain (Apply op a b) = is_plain a && is_plain b

  -- ---- whole circuits

  -- An expression of so many bits that is plain, and whose parts have the widths that their places ask for.
  pub record IsWritten (e : Expr N M) (width : ℕ) : Type 0 where
    pub plain : is_plain e ≡ true
    pub sized : is_sized signal memory e ≡ true
    pub wide : width_of signal memory e ≡ width

  -- A wire has the width that it is declared with.
  pub record IsWrittenWire (w : Wire N M) : Type 0 where
    pub some : 0 < w.width
    pub wide : signal w.name ≡ w.width
    pub word : IsWritten w.word w.width

  -- So has a register, and what enables it has one bit.
  pub record IsWrittenRegister (r : Register N M) : Type 0 where
    pub some : 0 < r.width
    pub wide : signal r.name ≡ r.width
    pub enable : IsWritten r.enable 1
    pub next : IsWritten r.next r.width

  -- What enables the port of a memory has one bit, and the port writes words of the memory's width.
  pub record IsWrittenPort (width : ℕ) (p : WritePort N M) : Type 0 where
    pub enable : IsWritten p.enable 1
    pub address : IsWritten p.address (width_of signal memory p.address)
    pub word : IsWritten p.word width

  -- the same, where there is one
  abbrev pub IsWrittenAt : (width : ℕ) → Option (WritePort N M) → Type 0
  IsWrittenAt width None = ⊤
  IsWrittenAt width (Some p) = IsWrittenPort width p

  -- A memory has the width that it is declared with, and so has its port.
  pub record IsWrittenMemory (x : Memory N M) : Type 0 where
    pub some : 0 < x.width
    pub wide : memory x.name ≡ x.width
    pub port : IsWrittenAt x.width x.port

  -- A circuit that a text can say as it stands, where these are the widths of its signals and memories.
  pub record IsPlain (c : Circuit N M) : Type 0 where
    pub inputs : AllByRecursion (λ i. (0 < i.1) × (signal i.0 ≡ i.1)) c.inputs
    pub wires : AllByRecursion IsWrittenWire c.wires
    pub registers : AllByRecursion IsWrittenRegister c.registers
    pub memories : AllByRecursion IsWrittenMemory c.memories
