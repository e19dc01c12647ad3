-- How the endings of the parts of `debug` make its own.
use Rattle.std.proofs.Common.{◌≡◌, ◌⊎◌, ℕ, false, List, Option, subst, inr}
use Rattle.tta_tool.specs.Cited.{World, Output, IsPut, Units, Machine, Whole, Fault, is_fault, Debugged, Session', Follows, Status, WasRead, IsTaken, ReadFails, Fills, StreamFails, ReadsStream}
use Rattle.tta_ports.proofs.Worlds.{same_world}
use Rattle.tta_load.specs.declared.status.Status.TheVariants as status
use Rattle.tta_tool.specs.Debug.{HasBytes, ReadsScript, AskedFails, ReadsAsked, AskedRuns, said, EndsAs, SessionEnds}

-- ---- what a session is asked

-- a script that was read, and the words of the input
pub script_read : (SCRIPT : List ℕ) (STREAM : Option (List ℕ)) (script words : List ℕ) (before between after : World)
    → WasRead SCRIPT script before between → ReadsStream STREAM words between after → ReadsScript SCRIPT STREAM script words before after
script_read SCRIPT STREAM script words before between after was stream =
    let same = subst (λ w. ReadsStream STREAM words w after) (same_world before between was.untouched) stream in
    record { holds = was.holds; short = was.short; stream = same.is; untouched = same.untouched }

-- a script that was read, and an input that was not
pub script_refused : (SCRIPT : List ℕ) (STREAM : Option (List ℕ)) (script : List ℕ) (before between after : World) (s : Status)
    → WasRead SCRIPT script before between → StreamFails 5 STREAM between after s
    → ReadFails SCRIPT 4 before after s ⊎ (HasBytes before.contents SCRIPT × StreamFails 5 STREAM before after s)
script_refused SCRIPT STREAM script before between after s was fails = inr (
  record { bytes = script; holds = was.holds; short = was.short },
  subst (λ w. StreamFails 5 STREAM w after s) (same_world before between was.untouched) fails,
)

-- data words that were read, and what comes after them
pub asked_read : (space : ℕ) (IN SCRIPT : List ℕ) (STREAM : Option (List ℕ)) (memory script words : List ℕ) (before between after : World)
    → IsTaken (Fills space) IN memory before between → ReadsScript SCRIPT STREAM script words between after
    → ReadsAsked space IN SCRIPT STREAM memory script words before after
asked_read space IN SCRIPT STREAM memory script words before between after input rest = record {
  input = input.held;
  rest = subst (λ w. ReadsScript SCRIPT STREAM script words w after) (same_world before between input.untouched) rest;
}

-- data words that were read, and what comes after them was not
pub asked_refused : (space : ℕ) (IN SCRIPT : List ℕ) (STREAM : Option (List ℕ)) (memory : List ℕ) (before between after : World) (s : Status)
    → IsTaken (Fills space) IN memory before between
    → ReadFails SCRIPT 4 between after s ⊎ (HasBytes between.contents SCRIPT × StreamFails 5 STREAM between after s)
    → AskedFails space IN SCRIPT STREAM before after s
asked_refused space IN SCRIPT STREAM memory before between after s input fails = inr (
  record { value = memory; held = input.held },
  subst (λ w. ReadFails SCRIPT 4 w after s ⊎ (HasBytes w.contents SCRIPT × StreamFails 5 STREAM w after s)) (same_world before between input.untouched) fails,
)

-- ---- the session

-- what a session is asked was read, and what became of it
pub asked_runs : (u : Units) (m : Machine) (whole : Whole) (IN SCRIPT : List ℕ) (STREAM : Option (List ℕ)) (memory script words : List ℕ) (before after : World) (old new : Output) (s : Status)
    → ReadsAsked m.data_words IN SCRIPT STREAM memory script words before after → SessionEnds (said u m whole memory script words) old new s
    → AskedRuns u m whole IN SCRIPT STREAM before after old new s
asked_runs u m whole IN SCRIPT STREAM memory script words before after old new s reads ends = inr (
  record {
    input = record { value = memory; held = reads.input };
    script = record { bytes = script; holds = reads.rest.holds; short = reads.rest.short };
    stream = record { words = words; is = reads.rest.stream };
  },
  reads.rest.untouched,
  ends,
)

-- A script was carried out, and how its run stands is how the command ends.
pub script_done : (input : List ℕ) (replied : List ℕ × Debugged) (h : Session') (old new : Output) (s : Status)
    → Follows input h replied.1 → IsPut replied.0 old new → EndsAs h.held.outcome s → SessionEnds replied old new s
script_done input replied h old new status.Ok follows put ends =
    (subst (λ o. is_fault o ≡ false) follows.stands.outcome ends, put)
script_done input replied h old new (status.MachineFault code cycle) follows put ends =
    (subst (λ o. o ≡ Fault code cycle) follows.stands.outcome ends, put)
script_done input replied h old new s follows put ends = absurd ends
