-- Entries of a table that are carried on.
use Rattle.std.specs.Prelude.{◌≡◌, ℕ, ◌+◌, ◌*◌, ◌≤◌, ◌<◌, length, Option, Some, None, slice_get}
use Rattle.tta_check.specs.Cited.{Machine, Instruction, Code}
use Rattle.tta_check.specs.declared.entries.EntryTable.{EntryTable}
use Rattle.tta_check.specs.declared.verdict.Verdict.{Verdict}
use Rattle.tta_check.specs.declared.visit.Successor.{Successor}
use Rattle.tta_check.specs.Transfers.{have_latency}
use Rattle.tta_check.specs.Visits.{end_of, GoesOn}
use Rattle.tta_check.specs.Tables.{PutBoth}

-- a table for code on a machine, whose abstract states are as long as each other and stand at its instructions
pub record CanCarry (m : Machine) (code : Code) (place : ℕ) (t : EntryTable) : Type 0 where
  pub there : place < length t.entries.items
  pub count : length t.entries.items ≡ length code.words * (m.control.delay + 1)
  pub room : length code.words ≤ 65536
  pub delay : m.control.delay ≤ 4
  pub few : length m.units ≤ 256
  pub within : (p : ℕ) (e : Successor) → slice_get t.entries.items p ≡ Some (Some e) → e.point.address < length code.words
  pub places : ℕ
  pub cells : (p : ℕ) (e : Successor) → slice_get t.entries.items p ≡ Some (Some e) → length e.state.cells.items ≡ places
  pub ports : (p : ℕ) (e : Successor) → slice_get t.entries.items p ≡ Some (Some e) → length e.state.ports.items ≡ length m.units
  pub times : (k : ℕ) (i : Instruction) → slice_get code.words k ≡ Some i → have_latency m i

-- what comes of carrying the entry of a place on: there is none, or the instruction gives a verdict, or what it leads to is put
pub data Carried (m : Machine) (code : Code) (place : ℕ) (old new : EntryTable) : Option Verdict → Type 0 where
  Empty : slice_get old.entries.items place ≡ Some None → new ≡ old → Carried m code place old new None
  Ended : (at : Successor) (i : Instruction) (v : Verdict) → slice_get old.entries.items place ≡ Some (Some at)
      → slice_get code.words at.point.address ≡ Some i → end_of m i at ≡ Some v → Carried m code place old new (Some v)
  Went : (at : Successor) (i : Instruction) (acts stays : Option Successor) (v : Option Verdict) → slice_get old.entries.items place ≡ Some (Some at)
      → slice_get code.words at.point.address ≡ Some i → GoesOn m i at acts stays → PutBoth m.control.delay (length code.words) acts stays old new v → Carried m code place old new v
