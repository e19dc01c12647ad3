-- What becomes of a file and of its bytes is what becomes of what it holds.
use Rattle.std.proofs.Common.{ℕ, List, Option, Result, Ok, Err, subst, inr}
use Rattle.tta_load.specs.Cited.{World, Units}
use Rattle.tta_ports.proofs.Worlds.{same_world}
use Rattle.tta_load.specs.declared.machine.MachineFile.{MachineFile}
use Rattle.tta_load.specs.declared.status.Status.{Status}
use Rattle.tta_load.specs.Held.{WasRead, TakesBytes, IsTaken, FileFails, FileEnds}
use Rattle.tta_load.specs.Machines.{IsDescribed}
use Rattle.tta_load.specs.Inputs.{Fills, StreamFails, ReadsStream, ReadsGiven, GivenFails}
use Rattle.tta_load.specs.Pairs.{PairFails, ReadsPair}

-- a file whose bytes were read
pub file_taken : {T V : Type 0} → (Says : List ℕ → V → Type 0) (Refuses : List ℕ → Status → Type 0) (name bytes : List ℕ) (word : ℕ)
    (before after : World) (value : T → V) (result : Result T Status)
    → WasRead name bytes before after → TakesBytes Says Refuses bytes value result → FileEnds Says Refuses name word before after value result
file_taken Says Refuses name bytes word before after value (Ok v) was takes = record {
  held = record { bytes = bytes; holds = was.holds; short = was.short; says = takes };
  untouched = was.untouched;
}
file_taken Says Refuses name bytes word before after value (Err s) was takes =
    inr (was.untouched, record { text = bytes; holds = was.holds; short = was.short; is = takes })

-- a machine that was taken, and the second file
pub pair_taken : {V : Type 0} → (u : Units) (Says : MachineFile → List ℕ → V → Type 0) (M name : List ℕ) (file : MachineFile) (value : V)
    (before between after : World) → IsTaken (IsDescribed u) M file before between → IsTaken (Says file) name value between after
    → ReadsPair u Says M name file value before after
pair_taken u Says M name file value before between after first second =
    let same = subst (λ w. IsTaken (Says file) name value w after) (same_world before between first.untouched) second in
    record { machine = first.held; second = same.held; untouched = same.untouched }

-- a machine that was taken, and a second file that is refused
pub pair_refused : (u : Units) (Refuses : MachineFile → List ℕ → Status → Type 0) (M name : List ℕ) (file : MachineFile)
    (before between after : World) (s : Status) → IsTaken (IsDescribed u) M file before between → FileFails (Refuses file) name 2 between after s
    → PairFails u Refuses M name before after s
pair_refused u Refuses M name file before between after s first fails =
    inr (
      record { value = file; held = first.held },
      subst (λ w. FileFails (Refuses file) name 2 w after s) (same_world before between first.untouched) fails,
    )

-- data words that were taken, and the words of the input
pub given_taken : (space : ℕ) (IN : List ℕ) (STREAM : Option (List ℕ)) (memory words : List ℕ) (before between after : World)
    → IsTaken (Fills space) IN memory before between → ReadsStream STREAM words between after → ReadsGiven space IN STREAM memory words before after
given_taken space IN STREAM memory words before between after input stream =
    let same = subst (λ w. ReadsStream STREAM words w after) (same_world before between input.untouched) stream in
    record { input = input.held; stream = same.is; untouched = same.untouched }

-- data words that were taken, and an input that was not
pub given_refused : (word space : ℕ) (IN : List ℕ) (STREAM : Option (List ℕ)) (memory : List ℕ) (before between after : World) (s : Status)
    → IsTaken (Fills space) IN memory before between → StreamFails word STREAM between after s → GivenFails word space IN STREAM before after s
given_refused word space IN STREAM memory before between after s input fails =
    inr (
      record { value = memory; held = input.held },
      subst (λ w. StreamFails word STREAM w after s) (same_world before between input.untouched) fails,
    )
