use Rattle.std.proofs.Common.{◌≡◌, ◌⊎◌, ℕ, true, false, List, [], Option, Some, refl, sym, ◌∙◌, ap, subst, inl, inr}
use Rattle.tta_ports.specs.declared.fault.Fault.{Fault}
use Rattle.tta_exit_laws.specs.Cited.{Store, Rose, World, Output, Units, Machine, Whole, is_fault, Debugged, Status, IsImageFor, RefusesImage, HasAsked, said, AskedRuns}
use Rattle.tta_load.specs.declared.status.Status.TheVariants as status
use Rattle.tta_exit_laws.specs.Completes.{showing}
use Rattle.tta_tool.specs.Debug.{SessionEnds}
use Rattle.tta_exit_laws.specs.PutCompletes.{DebugCompletes}
use Rattle.tta_exit_laws.proofs.FilesTaken.{same_some, read_only}
use Rattle.tta_exit_laws.proofs.PairsTaken.{image_only, one_whole, for_pair, pair_only}
use Rattle.tta_exit_laws.proofs.RunsTaken.{same_memory, same_words, memory_only, stream_only}
use Rattle.tta_exit_laws.proofs.laws.debug_completes.Goals as goal

-- what a session replies that is left at no fault is put, or memory lacks
session_only : (said : List ℕ × Debugged) (old new : Output) (s : Status) → (Rose old.faults new.faults → ⊥) → is_fault said.1.state.outcome ≡ false
    → SessionEnds said old new s → (s ≡ status.Ok) ⊎ (s ≡ status.NoMemory)
session_only said old new status.Ok none sound ends = inl refl
session_only said old new (status.MachineFault code cycle) none sound ends =
    let faulted : is_fault said.1.state.outcome ≡ true = ap is_fault ends.0 in absurd cc
session_only said old new status.WriteFault none sound ends = absurd (none ends.rose)
session_only said old new status.NoMemory none sound ends = inr refl
session_only said old new s none sound ends = absurd ends

module _ (u : Units) (store : Store) (faults : ℕ) (latest : Option Fault) (after : World) (none : Rose faults after.faults → ⊥)
    (IN SCRIPT : List ℕ) (STREAM : Option (List ℕ)) (old new : Output) (s : Status) where
  -- code is known, and what is asked of a session over it
  asked_only : (m : Machine) (whole : Whole) (a : HasAsked m.data_words (Some store) IN SCRIPT STREAM)
      → (SessionEnds (said u m whole a.input.value a.script.bytes a.stream.words) old new s → (s ≡ status.Ok) ⊎ (s ≡ status.NoMemory))
      → AskedRuns u m whole IN SCRIPT STREAM (showing store faults latest) after old new s → (s ≡ status.Ok) ⊎ (s ≡ status.NoMemory)
  asked_only m whole a done (inl (inl fails, q)) = inr (memory_only u store faults latest after none m.data_words IN s a.input fails)
  asked_only m whole a done (inl (inr (input, inl fails), q)) =
      inr (read_only store faults latest after none {V = List ℕ} (λ bytes value. Unit {0}) SCRIPT [] 4 s
      (record { bytes = a.script.bytes; holds = a.script.holds; short = a.script.short; says = tt }) fails)
  asked_only m whole a done (inl (inr (input, inr (script, fails)), q)) =
      inr (stream_only u store faults latest after none STREAM a.stream.words s a.stream.is fails)
  asked_only m whole a done (inr (b, same, ends)) =
      let memory = same_memory store m.data_words IN b.input a.input in
      let script = same_some b.script.bytes a.script.bytes (sym b.script.holds ∙ a.script.holds) in
      let words = same_words store STREAM b.stream.words a.stream.words b.stream.is a.stream.is in
      done (subst (λ w. SessionEnds (said u m whole a.input.value a.script.bytes w) old new s) words
      (subst (λ t. SessionEnds (said u m whole a.input.value t b.stream.words) old new s) script
      (subst (λ v. SessionEnds (said u m whole v b.script.bytes b.stream.words) old new s) memory ends)))

debug_completes_holds : DebugCompletes
debug_completes_holds u store faults latest M IMG IN SCRIPT STREAM after old new s has calm (inl (fails, q)) =
    let held = has.0.machine.held in
    inr (pair_only u store faults latest after calm.files IsImageFor RefusesImage M IMG s has.0
    (λ bytes is. image_only u held.bytes has.0.machine.value bytes has.0.second.value s held.says is) fails)
debug_completes_holds u store faults latest M IMG IN SCRIPT STREAM after old new s has calm (inr (b, ends)) =
    let a = has.0 in
    let asked = has.1.0 in
    let m = a.machine.value.machine in
    let held = a.machine.held in
    asked_only u store faults latest after calm.files IN SCRIPT STREAM old new s m a.second.value asked
    (session_only (said u m a.second.value asked.input.value asked.script.bytes asked.stream.words) old new s calm.output has.1.1)
    (for_pair u store IsImageFor M IMG a b (λ bytes v. one_whole u held.bytes a.machine.value bytes v a.second.value held.says)
    (λ file whole. AskedRuns u file.machine whole IN SCRIPT STREAM (showing store faults latest) after old new s) ends)

pub returns : goal.returns
returns c = debug_completes_holds
