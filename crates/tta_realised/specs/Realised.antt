-- What a circuit does beside a program.
use Rattle.std.specs.Prelude.{◌≡◌, ℕ, ◌+◌, ◌*◌, ◌<◌, ◌≤◌, true, false, Bool, not, ◌&&◌, ◌||◌, List, [], drop}
use Rattle.tta_realised.specs.Cited.{IsPrefixOf, over, Units, Machine, Program, Whole, data_in, program_at, Circuit, is_set, Store, Data, HasHalted, IsOffered, IsReady, Asks, Gives, Goes, circuit_with, held_at, signals_at, cycles_at, taken_at, put_at}
use Rattle.tta_program.specs.Sequential as program
use Rattle.tta_hardware.specs.Signals.{Signal as Named}

-- the circuit of a machine whose memory of code has these words, and whose data space has the data of code over a memory
abbrev pub circuit_on : Machine → Whole → (words memory : List ℕ) → Circuit Named Store
circuit_on m whole words memory = circuit_with m words (over (data_in whole) memory)

module _ (u : Units) (c : Circuit Named Store) (input : List ℕ) (powers : Named → ℕ) (inputs : ℕ → Named → ℕ) where
  -- whether a circuit has halted after so many clocks
  abbrev pub HasHaltedBy : ℕ → Type 0
  HasHaltedBy t = is_set ((held_at u c powers inputs t).words HasHalted) ≡ true

  -- It has put out the output of a program's state that has halted, has its memory, and has taken the same of the input.
  pub record HaltsAs (t : ℕ) (s : program.State) : Type 0 where
    pub program : s.outcome ≡ program.Halted
    pub output : put_at u c powers inputs t ≡ s.output
    pub memory : (held_at u c powers inputs t).memories Data ≡ s.memory
    pub rest : drop (taken_at u c powers inputs t) input ≡ s.rest

  -- It runs and asks for a word, and all of the input was taken.
  pub record AsksInVain (t : ℕ) : Type 0 where
    pub runs : is_set ((held_at u c powers inputs t).words HasHalted) ≡ false
    pub asks : is_set (signals_at u c powers inputs t Asks) ≡ true
    pub none : drop (taken_at u c powers inputs t) input ≡ []

  -- whether it has a word to put out that nobody takes
  abbrev pub is_untaken : ℕ → Bool
  is_untaken t = is_set (signals_at u c powers inputs t Gives) && not (is_set (signals_at u c powers inputs t IsReady))

  -- Why a clock carries nothing out: the circuit has halted, or asks for a word and none is offered, or has a word that nobody takes.
  abbrev pub IsHeldUp : ℕ → Type 0
  IsHeldUp t =
      (is_set ((held_at u c powers inputs t).words HasHalted)
      || (is_set (signals_at u c powers inputs t Asks) && not (is_set (signals_at u c powers inputs t IsOffered)) || is_untaken t)) ≡ true

  -- It has put out the output of a program's state that waits for a word, and none is left.
  pub record WaitsAs (t : ℕ) (s : program.State) : Type 0 where
    pub program : s.outcome ≡ program.Waiting
    pub output : put_at u c powers inputs t ≡ s.output
    pub rest : s.rest ≡ []

  -- After so many clocks a circuit has done what a program does. What it put out begins the program's output; and the output of so many
  -- steps begins what it put out, once it has made enough cycles for them. Where it has halted, the program has, with the same output,
  -- memory and rest of the input; and where the program has, it has, once it has made enough cycles. Where it asks for a word and none
  -- is left, the program waits for one, with the same output; and where the program waits, it makes no more than so many cycles, and asks
  -- once all of the input was taken, unless a word of its own is not taken. Each clock carries an instruction out that is not held up.
  -- A cycle stands for at most `rate` steps, and a step takes at most `size` cycles.
  pub record DoesAs (p : Program) (memory : List ℕ) (rate size t : ℕ) : Type 0 where
    pub goes : is_set (signals_at u c powers inputs t Goes) ≡ false → IsHeldUp t
    pub output : IsPrefixOf (put_at u c powers inputs t) (program_at u p memory input (rate * (cycles_at u c powers inputs t + 1))).output
    pub reaches : (n : ℕ) → size * (n + 1) ≤ cycles_at u c powers inputs t
        → IsPrefixOf (program_at u p memory input n).output (put_at u c powers inputs t)
    pub halted : HasHaltedBy t → HaltsAs t (program_at u p memory input (rate * (cycles_at u c powers inputs t + 1)))
    pub halts : (n : ℕ) → (program_at u p memory input n).outcome ≡ program.Halted → size * (n + 1) ≤ cycles_at u c powers inputs t
        → HasHaltedBy t
    pub waits : AsksInVain t → WaitsAs t (program_at u p memory input (rate * (cycles_at u c powers inputs t + 2)))
    pub stops : (n : ℕ) → (program_at u p memory input n).outcome ≡ program.Waiting → cycles_at u c powers inputs t < size * (n + 1)
    pub asks : (n : ℕ) → (program_at u p memory input n).outcome ≡ program.Waiting
        → is_set (signals_at u c powers inputs t Goes) ≡ false → is_untaken t ≡ false → drop (taken_at u c powers inputs t) input ≡ []
        → AsksInVain t
