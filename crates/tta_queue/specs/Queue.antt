-- A queue of 2^k words as a circuit: first in, first out.
use Rattle.std.specs.Prelude.{ℕ, ◌+◌, ◌^◌, ◌==◌, Bool, true, [], ◌∷◌, replicate, Some}
use Rattle.tta_circuit.specs.Circuit.{Expr, Const, Signal, Slice, Select, Not, Both, Either, Equal, Plus, Minus, Read, Register, Circuit}

-- Its signals. The inputs are whether a word is offered to it, and that word; whether a word is asked for; and whether it is to begin
-- anew. The registers are where the first word stands and where the next one goes, both with one bit more than an address has, and the first
-- word itself. The wires are how many words there are; whether it takes a word that is offered, and whether it has a word to give; whether a
-- word is taken and whether one is given; where the first word stands after the clock; and whether the word that is taken goes there.
pub data Pin : Type 0 where
  InValid : Pin
  InData : Pin
  OutReady : Pin
  IsReset : Pin
  Head : Pin
  Tail : Pin
  Fill : Pin
  InReady : Pin
  OutValid : Pin
  OutData : Pin
  Takes : Pin
  Gives : Pin
  NextHead : Pin
  Passes : Pin

-- its memory
pub data Store : Type 0 where
  Words : Store

-- names are told apart by their numbers
abbrev pub number : Pin → ℕ
number InValid = 0
number InData = 1
number OutReady = 2
number IsReset = 3
number Head = 4
number Tail = 5
number Fill = 6
number InReady = 7
number OutValid = 8
number OutData = 9
number Takes = 10
number Gives = 11
number NextHead = 12
number Passes = 13

-- whether two signals are one
abbrev pub same_pin : Pin → Pin → Bool
same_pin a b = number a == number b

-- whether two memories are one
abbrev pub same_store : Store → Store → Bool
same_store a b = true

-- A register that counts words around: it begins anew with 0, and is one more after a clock at which a word passes.
abbrev pub counter : (k : ℕ) → (name passes : Pin) → Register Pin Store
counter k name passes = record {
  name = name;
  width = 1 + k;
  enable = Either (Signal IsReset) (Signal passes);
  next = Select (Signal IsReset) (Const (1 + k) 0) (Plus (1 + k) (Signal name) (Const (1 + k) 1));
}

-- whether the number of words is another one; no queue says so at a clock that begins anew
abbrev pub unless_filled : (k count : ℕ) → Expr Pin Store
unless_filled k count = Both (Not (Signal IsReset)) (Not (Equal (Signal Fill) (Const (1 + k) count)))

-- The register of the first word: it reads the memory at the address that the first word has after the clock, so that a memory with a
-- clocked port can serve it. Where the word that comes goes to that very address, it takes that word, which the memory does not have yet.
abbrev pub front : (k width : ℕ) → Register Pin Store
front k width = record {
  name = OutData;
  width = width;
  enable = Const 1 1;
  next = Select (Signal Passes) (Signal InData) (Read Words (Slice 0 k (Signal NextHead)));
}

-- A queue of 2^k words of a width.
abbrev pub queue_of : (k width : ℕ) → Circuit Pin Store
queue_of k width = record {
  inputs = (InValid, 1) ∷ (InData, width) ∷ (OutReady, 1) ∷ (IsReset, 1) ∷ [];
  wires =
      record { name = Fill; width = 1 + k; word = Minus (1 + k) (Signal Tail) (Signal Head) }
      ∷ record { name = InReady; width = 1; word = unless_filled k (2 ^ k) }
      ∷ record { name = OutValid; width = 1; word = unless_filled k 0 }
      ∷ record { name = Takes; width = 1; word = Both (Signal InValid) (Signal InReady) }
      ∷ record { name = Gives; width = 1; word = Both (Signal OutValid) (Signal OutReady) }
      ∷ record {
        name = NextHead;
        width = 1 + k;
        word = Select (Signal Gives) (Plus (1 + k) (Signal Head) (Const (1 + k) 1)) (Signal Head);
      }
      ∷ record {
        name = Passes;
        width = 1;
        word = Both (Signal Takes) (Equal (Slice 0 k (Signal Tail)) (Slice 0 k (Signal NextHead)));
      } ∷ [];
  registers = counter k Head Gives ∷ counter k Tail Takes ∷ front k width ∷ [];
  memories =
      record {
        name = Words;
        width = width;
        words = replicate (2 ^ k) 0;
        port = Some (record { enable = Signal Takes; address = Slice 0 k (Signal Tail); word = Signal InData });
      } ∷ [];
  outputs = InReady ∷ OutValid ∷ OutData ∷ [];
}

-- ---- what a text of it needs

-- how many bits each signal has, and each word of the memory
abbrev pub pin_width : (k width : ℕ) → Pin → ℕ
pin_width k width InData = width
pin_width k width OutData = width
pin_width k width Head = 1 + k
pin_width k width Tail = 1 + k
pin_width k width Fill = 1 + k
pin_width k width NextHead = 1 + k
pin_width k width p = 1

abbrev pub store_width : (width : ℕ) → Store → ℕ
store_width width s = width

-- the place of each wire in the order of wires; what is no wire stands before them
abbrev pub rank : Pin → ℕ
rank Fill = 1
rank InReady = 2
rank OutValid = 3
rank Takes = 4
rank Gives = 5
rank NextHead = 6
rank Passes = 7
rank p = 0
