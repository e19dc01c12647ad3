-- What a line leaves is what the instruction does that it was decoded from.
use Rattle.std.proofs.Common.{◌≡◌, ℕ, ◌<◌, ◌≤◌, true, IsTrue, List, [], ◌∷◌, ◌++◌, length, map, Option, Some, None, refl, sym, ap, ◌∙◌, subst, arith}
use Rattle.std.specs.Prelude.{◌%◌, Bool, is_none, nat_lt, option_map, if◌then◌else◌}
use Rattle.std.specs.List.{filter_map, cons_option, AllByRecursion}
use Rattle.std.proofs.lemmas.Bool.{and_parts, ltb-true}
use Rattle.tta_sim.specs.Cited.{Units, Machine, Start, write_of, Instruction}
use Rattle.tta_sim.specs.declared.decoded.DecodedWrite.{DecodedWrite}
use Rattle.tta_sim.specs.declared.decoded.Line.{Line}
use Rattle.tta_sim.specs.declared.lines.Write.{Write}
use Rattle.tta_sim.specs.declared.store.Store.{Store}
use Rattle.tta_sim.specs.declared.store.CycleBuffers.{CycleBuffers}
use Rattle.tta_sim.specs.Results.{Results, shown_by}
use Rattle.tta_sim.specs.Moves.{Arrival, reads_of, arrivals_of, brought_of}
use Rattle.tta_sim.specs.declared.dues.Due.{Due}
use Rattle.tta_sim.specs.Starts.{starts_of, fault_in, AreFitting}
use Rattle.tta_sim.specs.Dues.{shown_from, CanAllBegin}
use Rattle.tta_sim.specs.Writing.{long_writes, numbered}
use Rattle.tta_sim.specs.Decoded.{IsDecoded}
use Rattle.tta_sim.specs.Lines.{is_reading_there, is_write_there, word_read, write_brought, start_brought, operand_in, is_ready, IsLineThere}
use Rattle.tta_sim.specs.Ready.{writes_in, starts_in, FitsLine, AreLeft, AreDue}
use Rattle.tta_sim.proofs.Facing.{ready_same, writes_same, starts_same}
use Rattle.tta_sim.proofs.Lists.{length-filter_map}
use Rattle.tta_sim.proofs.Shown.{dues_can}

module _ (m : Machine) (i : Instruction) (old : Store) (r : Results) where
  -- the words that the moves of an instruction bring, and the operations that they start
  abbrev pub arrivals : List Arrival
  arrivals = arrivals_of (reads_of old.places (shown_by r)) i.moves

  abbrev pub starts : List Start
  starts = starts_of m old.places arrivals

  -- What an instruction writes and starts.
  pub record IsLeft (back : ℕ) (buffers : CycleBuffers) : Type 0 where
    pub writes : buffers.writes ≡ numbered (filter_map (write_of m back) (map brought_of arrivals) ++ long_writes m i.long)
    pub starts_are : buffers.starts ≡ starts

  -- where it gives no fault, its line leaves just that
  pub is_left : (back : ℕ) (l : Line) (buffers : CycleBuffers) → IsDecoded m back i l → (p : Bool) → fault_in m old.places r p i.moves ≡ None
      → AreLeft old r l buffers → IsLeft back buffers
  is_left back l buffers decoded p none has =
      let ready : is_ready old.places r p l ≡ true = ready_same m decoded.rules i decoded.legal back l decoded.line old.places r p ∙ ap is_none none in
      record {
        writes =
            writes_same m decoded.rules i decoded.legal back l decoded.line old.places r p (is_ready old.places r p l) refl ready buffers.writes (λ yes'. has.writes);
        starts_are =
            has.starts ∙ starts_same m decoded.rules i decoded.legal back l decoded.line old.places r p (is_ready old.places r p l) refl ready;
      }

-- the words to write have places
pub written_within : (units : ℕ) (store : Store) (r : Results) (l : Line) → IsLineThere units l → AllByRecursion (λ w. w.place < 609) (writes_in store r l)
written_within units store r l there = each l.writes there.writes where
  one : (w : DecodedWrite) → is_write_there units w ≡ true → w.place < 609
  one w is = ltb-true w.place 609 (and_parts (is_reading_there units w.reading) (nat_lt w.place 609) is).1

  each : (ws : List DecodedWrite) → AllByRecursion (λ w. IsTrue (is_write_there units w)) ws
      → AllByRecursion (λ w. w.place < 609) (filter_map (write_brought store.places (shown_by r)) ws)
  each [] there = tt
  each (w ∷ ws) there = by (word_read store.places (shown_by r) w.reading) (one w there.0) (each ws there.1) where
    by : (o : Option ℕ) → w.place < 609 → AllByRecursion (λ w. w.place < 609) (filter_map (write_brought store.places (shown_by r)) ws)
        → AllByRecursion (λ w. w.place < 609) (cons_option (option_map {T = ℕ} {U = Write} (λ word. record { place = w.place; word = if w.narrow then word % 2 else word }) o)
        (filter_map (write_brought store.places (shown_by r)) ws))
    by None within rest = rest
    by (Some word) within rest = (within, rest)

-- the results of the operations that are left can begin at once
pub left_can : (u : Units) (next : ℕ) (store : Store) (r : Results) (l : Line) (buffers : CycleBuffers) (dues : List Due) → FitsLine store r l → AreLeft store r l buffers
    → dues ≡ filter_map (shown_from u next store) buffers.starts → CanAllBegin r dues
left_can u next store r l buffers dues fits left are =
    let fit = subst (AreFitting r) (sym left.starts) (fits (operand_in store.places (writes_in store r l))) in
    subst (CanAllBegin r) (sym are) (dues_can u store.memory.items store.frame.items next r buffers.starts fit left.free)

-- no more operations are left than the line has
pub left_few : (units : ℕ) (store : Store) (r : Results) (l : Line) (buffers : CycleBuffers) (ts : List Start) → IsLineThere units l → AreLeft store r l buffers
    → ts ≡ buffers.starts → length ts ≤ 16
left_few units store r l buffers ts there left same =
    let brought = start_brought store.places (shown_by r) (operand_in store.places (writes_in store r l)) in
    omega (arith, ap length (same ∙ left.starts), length-filter_map brought l.starts, there.few_starts)

-- ---- pure lines

-- what a pure line leaves, with its operations
abbrev pub with_starts : Store → Results → Line → CycleBuffers → CycleBuffers
with_starts store r l buffers = record buffers { starts = starts_in store r (writes_in store r l) l.starts }

-- the operations are left of which the results are
pub due_left : (u : Units) (store : Store) (r : Results) (l : Line) (buffers : CycleBuffers) → AreDue u store r l buffers → AreLeft store r l (with_starts store r l buffers)
due_left u store r l buffers due = record { writes = due.writes; starts = refl; free = due.free }
