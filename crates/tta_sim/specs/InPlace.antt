-- What moves leave that are carried out one after another.
use Rattle.std.specs.Prelude.{◌≡◌, ℕ, ◌+◌, ◌<◌, ◌≤◌, ◌==◌, if◌then◌else◌, List, [], ◌∷◌, length, Option, None, option_map, slice_index_or}
use Rattle.std.specs.Option.{option_or}
use Rattle.std.specs.List.{filter_map, find}
use Rattle.tta_sim.specs.Cited.{Units, Start, Result', Rings, shown_in, due_in, longest_of, due_at, word_due, IsStarted}
use Rattle.tta_sim.specs.declared.decoded.DecodedStart.{DecodedStart}
use Rattle.tta_sim.specs.declared.decoded.Line.{Line}
use Rattle.tta_sim.specs.declared.dues.Due.{Due}
use Rattle.tta_sim.specs.declared.results.Part.{Part}
use Rattle.tta_sim.specs.declared.store.Store.{Store}
use Rattle.tta_sim.specs.Lines.{start_brought, operand_in}
use Rattle.tta_sim.specs.Dues.{shown_from}
use Rattle.tta_sim.specs.Ready.{writes_in, starts_in}
use Rattle.tta_sim.specs.declared.lines.Write.{Write}
use Rattle.tta_sim.specs.Results.{Results, AreKept, shown_by, due_by}

-- ---- writes

-- the word of a place once these are written
abbrev pub word_after : (places : List (Option ℕ)) → List Write → (number : ℕ) → Option ℕ
word_after places writes number =
    option_or (option_map (λ w. w.word) (find (λ w. w.place == number) writes)) (slice_index_or places number None)

-- these are written, and every other place is as before
abbrev pub AreWritten : (old : List (Option ℕ)) → List Write → (new : List (Option ℕ)) → Type 0
AreWritten old writes new = (number : ℕ) → slice_index_or new number None ≡ word_after old writes number

-- ---- starts

-- the operation that a move starts where all words are written
abbrev pub begun_here : Store → Results → DecodedStart → Option Start
begun_here store r = start_brought store.places (shown_by r) (operand_in store.places [])

-- the results that the operations of these moves show, none of which takes a word of the input
abbrev pub dues_in : Units → Store → Results → List DecodedStart → List Due
dues_in u store r moves = filter_map (shown_from u 0 store) (filter_map (begun_here store r) moves)

-- ---- a line

-- the operations that a line starts
abbrev pub starts_of_line : Store → Results → Line → List Start
starts_of_line store r l = starts_in store r (writes_in store r l) l.starts

-- A machine's units are all those of a region, of 63 at most.
pub record IsWhole (part : Part) (r : Rings) : Type 0 where
  pub first : part.base ≡ 0
  pub all : length r.rings ≡ part.count
  pub few : length r.rings < 64

-- ---- results, before the next cycle comes

-- a result that shows in the next cycle is shown at once, and stays due at this moment until then; every other one is started
abbrev pub delay_now : (latency : ℕ) → ℕ
delay_now latency = if latency == 1 then 0 else latency

-- A result can be started now: its unit and its latency are there, and no other is due then.
pub record CanStart (base : ℕ) (r : Rings) (d : Due) : Type 0 where
  pub few : base + d.unit < 256
  pub there : base + d.unit < length r.rings
  pub soon : delay_now d.latency ≤ longest_of r (base + d.unit)
  pub free : due_in r (base + d.unit) (delay_now d.latency) ≡ None

-- a result was started now, if there is one
abbrev pub StartsNow : (base : ℕ) → List Due → (old new : Rings) → Type 0
StartsNow base [] old new = new ≡ old
StartsNow base (d ∷ ds) old new = IsStarted (base + d.unit) (delay_now d.latency) d.value old new

-- What is known once these results were started in a cycle, before the next one comes: those that show in it are shown, and all that
-- was due at this moment before is over.
pub record AreStarted (now : ℕ) (r : Results) (new : List Result') (rings : Rings) : Type 0 where
  pub kept : AreKept r.rings rings
  pub shown : (unit : ℕ) → unit < r.units → shown_in rings (r.base + unit) ≡ option_or (word_due (due_at unit (now + 1) new)) (shown_by r unit)
  pub at_once : (unit : ℕ) → unit < r.units → due_in rings (r.base + unit) 0 ≡ word_due (due_at unit (now + 1) new)
  pub next : (unit : ℕ) → unit < r.units → due_in rings (r.base + unit) 1 ≡ due_by r unit 1
  pub later : (unit delay : ℕ) → unit < r.units → 1 < delay
      → due_in rings (r.base + unit) delay ≡ option_or (word_due (due_at unit (now + delay) new)) (due_by r unit delay)
