-- Which cycles of a run a view shows.
use Rattle.std.specs.Prelude.{ℕ}
use Rattle.tta_inspect.specs.declared.view.RunView.{RunView}
use Rattle.tta_inspect.specs.declared.view.RunView.TheVariants.{Profile, Play, PlayAfter, Waves}

-- how many cycles of a run are made before those that a view shows
abbrev pub first_of : RunView → ℕ
first_of Profile = 0
first_of Play = 0
first_of (PlayAfter first) = first
first_of Waves = 0
