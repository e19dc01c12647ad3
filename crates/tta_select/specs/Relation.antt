-- How a state of register code and a state of its lists stand to each other.
use Rattle.std.specs.Prelude.{◌≡◌, ℕ, ◌<◌, Bool, true, nat_lt, List, length, Option, Some, None, slice_index}
use Rattle.tta_select.specs.Cited.{Machine, KeptRa, kept, Choice, Held, Frame, RSrc, State, Kept, Plain, Return, found}
use Rattle.tta_moves.specs.Meaning.{Exit}
use Rattle.tta_lir.specs.declared.code.Place.{Place}
use Rattle.tta_lir.specs.declared.code.Place.TheVariants.{Reg}
use Rattle.tta_lir.specs.declared.code.RSrc.TheVariants as rsrc
use Rattle.tta_select.specs.Ground.{home_place}

-- the word of the frame space that stands for what a slot keeps: a block's number is the block's word there
abbrev pub slot_word : (addr : List ℕ) → Option Kept → ℕ
slot_word addr None = 0
slot_word addr (Some (Plain w)) = w
slot_word addr (Some (Return b)) = slice_index addr b

-- The spaces, the rest of the input and the output are the same, where a block's number is the block's word; a home
-- register that is set is set alike; the list goes on as is said. Of all other places nothing is said.
pub record Matches (m : Machine) (c : Choice) (addr : List ℕ) (exit : Exit) (s : State) (h : Held) : Type 0 where
  pub memory : h.memory ≡ s.memory
  pub rest : h.rest ≡ s.rest
  pub output : h.output ≡ s.output
  pub exits : h.exit ≡ exit
  pub homes : (k w : ℕ) → k < length c.homes → found k s.regs ≡ Some w → kept h.written (home_place m c k) ≡ Some w
  pub size : length h.frame ≡ m.frame_words
  pub slots : (f : ℕ) → f < m.frame_words → slice_index h.frame f ≡ slot_word addr (found f s.frame)
  pub back : (b : ℕ) → s.ra ≡ Some b → kept h.written KeptRa ≡ Some (slice_index addr b)

-- a place of register code that the machine has
abbrev pub is_place_of : Machine → Choice → Place → Bool
is_place_of m c (Reg k) = nat_lt k (length c.homes)
is_place_of m c (Frame f) = nat_lt f m.frame_words

abbrev pub is_src_of : Machine → Choice → RSrc → Bool
is_src_of m c (rsrc.At p) = is_place_of m c p
is_src_of m c (rsrc.Word w) = true
