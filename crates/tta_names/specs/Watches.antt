-- What only a circuit has that stops at faults, as the writers of names are given it.
use Rattle.tta_arch.specs.Effects.{Place, KeptReg, KeptImm, KeptOperand, KeptRa, KeptPort}
use Rattle.tta_hardware.specs.Signals.{Watch, HasWord, IsPast, LacksRegister, LacksPort, LacksOperand, Clashes, FaultNow}
use Rattle.tta_names.specs.declared.watches.Place.{Place as Given}
use Rattle.tta_names.specs.declared.watches.Place.TheVariants as place
use Rattle.tta_names.specs.declared.watches.Watch.{Watch as Wanted}
use Rattle.tta_names.specs.declared.watches.Watch.TheVariants as watch

-- a place that keeps a word
abbrev pub place_of : Given → Place
place_of (place.Reg file index) = KeptReg file index
place_of (place.Imm unit index) = KeptImm unit index
place_of (place.Operand unit) = KeptOperand unit
place_of place.Ra = KeptRa
place_of (place.Port unit) = KeptPort unit

-- what only such a circuit has
abbrev pub watch_of : Wanted → Watch
watch_of (watch.HasWord p) = HasWord (place_of p)
watch_of watch.IsPast = IsPast
watch_of (watch.LacksRegister bus) = LacksRegister bus
watch_of (watch.LacksPort bus) = LacksPort bus
watch_of (watch.LacksOperand unit) = LacksOperand unit
watch_of (watch.Clashes unit) = Clashes unit
watch_of watch.Fault = FaultNow
