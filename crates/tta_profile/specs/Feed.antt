-- Whether the cycles of a run go on.
use Rattle.std.specs.Prelude.{Bool, Option, None, Some}
use Rattle.tta_profile.specs.Cited.{CycleStep, Ran}
use Rattle.tta_sim.specs.declared.cycle_step.CycleStep.TheVariants.{Halted, Waiting, Fault}

-- whether a cycle was carried out, and if so whether it took a word of the input
abbrev pub went_on : CycleStep → Option Bool
went_on (Ran word took) = Some took
went_on Halted = None
went_on Waiting = None
went_on (Fault number) = None
