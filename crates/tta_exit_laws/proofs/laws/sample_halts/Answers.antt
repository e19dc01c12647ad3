use Rattle.std.proofs.Common.{◌≡◌, ◌<◌, ◌^◌, ℕ, List, [], subst, inl, inr}
use Rattle.tta_exit_laws.specs.Cited.{over, World, Output, Units, data_of, sample_text, IsProgramIn, zeros, step_bound, program_after, Samples, CountsRounds}
use Rattle.tta_program.specs.Program.{Program}
use Rattle.tta_program.specs.Sequential as sequential
use Rattle.tta_load.specs.declared.status.Status.TheVariants as status
use Rattle.tta_sample_laws.proofs.Halting.{samples_halt_holds}
use Rattle.tta_exit_laws.specs.SampleHalts.{SampleHalts}
use Rattle.tta_exit_laws.proofs.laws.sample_halts.Goals as goal

module _ (u : Units) (seed lines : ℕ) (M : List ℕ) (before after : World) (old new : Output) (counts : CountsRounds u) (fits : lines < 2 ^ 32) where
  -- the program of the sample has halted at the bound
  halted : (words : ℕ) (p : Program) → IsProgramIn u words (sample_text seed lines) p → (program_after u p words (step_bound lines)).outcome ≡ sequential.Halted
  halted words p is = samples_halt_holds u seed lines p (over (data_of p) (zeros words)) [] counts fits is.read

  -- so it neither goes on there
  goes_on : Samples u seed lines M before after old new status.Running → ⊥
  goes_on (inl (inl x, q)) = absurd x
  goes_on (inl (inr x, q)) = absurd x.1.is
  goes_on (inr (m, same, inl (x, q))) = absurd x
  goes_on (inr (m, same, inr (p, read, inl (x, q)))) = absurd x
  goes_on (inr (m, same, inr (p, read, inr (whole, built, x)))) =
      let there = halted m.value.machine.data_words p read in
      let running = x.0 in
      absurd cc

  -- nor waits
  waits : Samples u seed lines M before after old new status.Waiting → ⊥
  waits (inl (inl x, q)) = absurd x
  waits (inl (inr x, q)) = absurd x.1.is
  waits (inr (m, same, inl (x, q))) = absurd x
  waits (inr (m, same, inr (p, read, inl (x, q)))) = absurd x
  waits (inr (m, same, inr (p, read, inr (whole, built, x)))) =
      let there = halted m.value.machine.data_words p read in
      let waiting = x.0 in
      absurd cc

sample_halts_holds : SampleHalts
sample_halts_holds u seed lines M before after old new s counts fits ends = (
  λ e. goes_on u seed lines M before after old new counts fits (subst (Samples u seed lines M before after old new) e ends),
  λ e. waits u seed lines M before after old new counts fits (subst (Samples u seed lines M before after old new) e ends),
)

pub returns : goal.returns
returns c = sample_halts_holds
