-- When lists of moves have the meaning of register code.
use Rattle.std.specs.Prelude.{◌≡◌, ℕ, true, List, length}
use Rattle.std.specs.List.{list_all}
use Rattle.tta_select.specs.Cited.{Units, Machine, Choice, Outcome, Running, Halted, Waiting, BlockList, Held, Run, AreAddresses, lrun, Rir, State, rrun}
use Rattle.tta_list.specs.Legs as legs
use Rattle.tta_select.specs.Needs.{fits_block, word_block}

-- an outcome of register code as one of lists
abbrev pub as_legs : Outcome → legs.Outcome
as_legs Running = legs.Running
as_legs Halted = legs.Halted
as_legs Waiting = legs.Waiting

-- a run of register code and one of lists have the same outcome, data, output and rest of the input
pub record EndAlike (s : State) (r : Run Held) : Type 0 where
  pub outcome : r.outcome ≡ as_legs s.outcome
  pub memory : r.state.memory ≡ s.memory
  pub rest : r.state.rest ≡ s.rest
  pub output : r.state.output ≡ s.output

-- Register code that a machine can be given: each place and each block that it names is there, a usable unit offers each
-- operation that it needs; its constants are words, and its blocks not too long; and in no run it reads what is not set.
pub record IsFit (u : Units) (m : Machine) (c : Choice) (r : Rir) : Type 0 where
  pub blocks : list_all (fits_block u m c (length r.blocks)) r.blocks ≡ true
  pub words : list_all word_block r.blocks ≡ true
  pub sound : (memory input : List ℕ) (n : ℕ) → (rrun u r memory input n).sound ≡ true

-- For all words of the blocks that rise, every memory, every input and every bound, the lists run as the register code.
abbrev pub KeepsMeaning : Units → Machine → Rir → List BlockList → Type 0
KeepsMeaning u m r lists =
    (addr : List ℕ) → AreAddresses addr (length lists) → (memory input : List ℕ) (n : ℕ)
    → EndAlike (rrun u r memory input n) (lrun u m lists addr memory input n)
