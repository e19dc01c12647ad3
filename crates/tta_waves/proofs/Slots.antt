-- The levels of all signals.
use Rattle.std.proofs.Common.{◌≡◌, List, Option, map, ap, ◌∙◌}
use Rattle.tta_waves.specs.Cited.{Machine, Instruction, Move, State, coming, slots_of}
use Rattle.tta_waves.specs.declared.level.Level.{Level}
use Rattle.tta_waves.specs.declared.signal.Signal.{Signal}
use Rattle.tta_waves.specs.Levels.{level_in, levels_in}
use Rattle.tta_waves.specs.Signals.{signals_of}

-- the levels of all signals
pub levels_are : (m : Machine) (words : List Instruction) (s : State) (slots : List (Option Move)) (signals : List Signal) (levels : List Level)
    → slots ≡ slots_of (coming words s) → signals ≡ signals_of m → levels ≡ map (level_in m s slots) signals → levels ≡ levels_in m words s
unfolding levels_in
levels_are m words s slots signals levels here all is =
    is ∙ ap (λ l. map (level_in m s l) signals) here ∙ ap (map (level_in m s (slots_of (coming words s)))) all
