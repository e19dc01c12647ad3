-- Circuits that stand for states, and outcomes.
use Rattle.std.proofs.Common.{◌≡◌, ℕ, ◌+◌, ◌%◌, ◌^◌, ◌<◌, Bool, true, false, ◌&&◌, nat_lt, List, [], length, map, Some, None, refl, sym, ap, ◌∙◌}
use Rattle.std.specs.Prelude.{if◌then◌else◌, replicate}
use Rattle.std.proofs.lemmas.Bool.{false≢true, ltb-true}
use Rattle.std.proofs.lemmas.Option.{none-some}
use Rattle.std.proofs.lemmas.List.{length-replicate}
use Rattle.std.proofs.lemmas.Nat.{pow_pos}
use Rattle.tta_board.specs.Cited.{Units, Machine, IsLegalCode, Outcome, Running, Halted, Waiting, Fault, start, is_set, settled, clocked, Code, Data, Frame, Pc, Whole, IsDue, Due, IsReset, Goes, same_signal, same_store, word_of, longest, circuit_of, Hardware, fresh_in, StandsFor, is_fault, is_waiting}
use Rattle.tta_code.specs.declared.code.Code.{Code as Program}
use Rattle.tta_hardware.specs.Signals.{Signal as Named}
use Rattle.tta_hardware.proofs.Fetching.{low, fetched_at}
use Rattle.tta_hardware.proofs.Circuits.{goes_not, pc_begins, whole_begins, halted_begins, underway_begins, is_due_begins, data_stays, frame_stays, rom_stays}
use Rattle.tta_kahn.specs.Cluster as cluster

-- A circuit with its code, a data space with these words and an empty frame stands for the start after a clock that begins anew.
pub stands_anew : (u : Units) (m : Machine) (code : Program) (memory : List ℕ) (h : Hardware) (inputs : Named → ℕ)
    → length memory ≡ m.data_words → IsLegalCode m code → h.memories Data ≡ memory → h.memories Frame ≡ replicate m.frame_words 0
    → h.memories Code ≡ map (word_of m) code.words
    → is_set (settled same_signal u (circuit_of m code memory) h inputs IsReset) ≡ true
    → StandsFor m code
    (clocked same_signal same_store u (circuit_of m code memory) (settled same_signal u (circuit_of m code memory) h inputs) h)
    (start m memory [])
stands_anew u m code memory h inputs sized legal same_data frame rom reset = record {
  words = λ p w can has is. absurd (none-some w is);
  ports = λ unit w less is. absurd (none-some w is);
  coming = λ unit delay less some. none unit delay less some (nat_lt delay (longest m unit)) refl;
  pending = record {
    soon = λ p is. absurd (none-some p is);
    underway = λ delay some most. ap is_set (underway_begins u m code memory h inputs reset delay some most);
    ends = λ p is. absurd (none-some p is);
    goal = λ p is. absurd (none-some p is);
  };
  pc = pc_is;
  whole = fetched_at m code (h.memories Code) (after.words Pc) (after.words Whole) 0 pc_is rom
      (whole_begins u m code memory h inputs reset) legal;
  halted = ap is_set (halted_begins u m code memory h inputs reset);
  rom = rom_stays u m code memory h inputs ∙ rom;
  spaces = record {
    memory = data_stays u m code memory h inputs stops ∙ same_data;
    frame = frame_stays u m code memory h inputs stops ∙ frame;
    memory_size = sized;
    frame_size = length-replicate m.frame_words 0;
  };
} where
  after : Hardware
  after = clocked same_signal same_store u (circuit_of m code memory) (settled same_signal u (circuit_of m code memory) h inputs) h

  stops : is_set (settled same_signal u (circuit_of m code memory) h inputs Goes) ≡ false
  stops = goes_not u m code memory h inputs reset

  pc_is : after.words Pc ≡ 0 % 2 ^ m.control.address
  pc_is = pc_begins u m code memory h inputs reset ∙ sym (low 0 (2 ^ m.control.address) (pow_pos m.control.address))

  none : (unit delay : ℕ) → unit < length m.units → 0 < delay → (b : Bool) → nat_lt delay (longest m unit) ≡ b
      → (if b && is_set (after.words (IsDue unit delay))
      then Some (fresh_in m after.words unit (delay + 1) (after.words (Due unit delay))) else None) ≡ None
  none unit delay less some true is =
      ap (λ n. if is_set n then Some (fresh_in m after.words unit (delay + 1) (after.words (Due unit delay))) else None)
      (is_due_begins u m code memory h inputs reset unit delay less some (ltb-true delay (longest m unit) is))
  none unit delay less some false is = refl

-- both of the tests for waiting are one
pub same_waits : (o : Outcome) → cluster.is_waiting o ≡ is_waiting o
same_waits Running = refl
same_waits Halted = refl
same_waits Waiting = refl
same_waits (Fault number at) = refl

-- a run that is at a fault does not wait
pub fault_goes : (o : Outcome) → is_fault o ≡ true → cluster.is_waiting o ≡ false
fault_goes Running is = refl
fault_goes Halted is = refl
fault_goes Waiting is = absurd (false≢true is)
fault_goes (Fault number at) is = refl

pub wait_fine : (o : Outcome) → cluster.is_waiting o ≡ true → is_fault o ≡ false
wait_fine Running is = refl
wait_fine Halted is = refl
wait_fine Waiting is = refl
wait_fine (Fault number at) is = absurd (false≢true is)
