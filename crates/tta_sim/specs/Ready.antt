-- What a line leaves that can be carried out.
use Rattle.std.specs.Prelude.{◌≡◌, ℕ, ◌+◌, false, List, ◌++◌, Option}
use Rattle.std.specs.List.{filter_map, list_any}
use Rattle.tta_sim.specs.Cited.{Units, Start, Result', Rings, StayBeside}
use Rattle.tta_sim.specs.declared.decoded.DecodedStart.{DecodedStart}
use Rattle.tta_sim.specs.declared.decoded.Line.{Line}
use Rattle.tta_sim.specs.declared.lines.Write.{Write}
use Rattle.tta_sim.specs.declared.store.Store.{Store}
use Rattle.tta_sim.specs.declared.store.CycleBuffers.{CycleBuffers}
use Rattle.tta_sim.specs.Lines.{is_unread, write_brought, start_brought, operand_in}
use Rattle.tta_sim.specs.Results.{Results, shown_by, AreResultsOf, AreKept}
use Rattle.tta_sim.specs.declared.results.Part.{Part}
use Rattle.tta_sim.specs.Starts.{begun, clashes_with, AreFitting}
use Rattle.tta_sim.specs.Dues.{shown_from}

-- the words that the moves of a line write
abbrev pub writes_in : Store → Results → Line → List Write
writes_in store r l = filter_map (write_brought store.places (shown_by r)) l.writes

-- the operations that these moves start, where these words are written
abbrev pub starts_in : Store → Results → List Write → List DecodedStart → List Start
starts_in store r writes moves = filter_map (start_brought store.places (shown_by r) (operand_in store.places writes)) moves

-- the results that these operations begin
abbrev pub begun_in : Units → (next : ℕ) → Store → List Start → List Result'
begun_in u next store starts = filter_map (begun u store.cycle store.memory.items store.frame.items next) starts

-- where all writes of a line can be read, these are the words that they write
abbrev pub AreNoted : (places : List (Option ℕ)) → (shown : ℕ → Option ℕ) → Line → List Write → Type 0
AreNoted places shown l writes = list_any (λ w. is_unread places shown w.reading) l.writes ≡ false → writes ≡ filter_map (write_brought places shown) l.writes

-- What is left of a line: the words to write, and its operations, no result of which would be due at the time of another.
pub record AreLeft (store : Store) (r : Results) (l : Line) (buffers : CycleBuffers) : Type 0 where
  pub writes : buffers.writes ≡ writes_in store r l
  pub starts : buffers.starts ≡ starts_in store r (writes_in store r l) l.starts
  pub free : list_any (clashes_with r) buffers.starts ≡ false

-- What is left of a pure line: the words to write, and the results that its operations show, none of which would be due at the time
-- of another.
pub record AreDue (u : Units) (store : Store) (r : Results) (l : Line) (buffers : CycleBuffers) : Type 0 where
  pub writes : buffers.writes ≡ writes_in store r l
  pub dues : buffers.dues ≡ filter_map (shown_from u 0 store) (starts_in store r (writes_in store r l) l.starts)
  pub free : list_any (clashes_with r) (starts_in store r (writes_in store r l) l.starts) ≡ false

-- the operations of a line fit, whatever their operands are
abbrev pub FitsLine : Store → Results → Line → Type 0
FitsLine store r l = (operand : ℕ → Option ℕ) → AreFitting r (filter_map (start_brought store.places (shown_by r) operand) l.starts)

-- these results have begun in a cycle, and the next one has come: they stand beside all that were started before
abbrev pub Begin : List Result' → (now : ℕ) → (old new : Results) → Type 0
Begin new now old after = (started : List Result') → AreResultsOf started now old → AreResultsOf (new ++ started) (now + 1) after

-- The other units of a region stay, and each unit has the room that it had.
pub record KeepsOthers (part : Part) (old new : Rings) : Type 0 where
  pub kept : AreKept old new
  pub beside : StayBeside part.base part.count old new
