-- What a dump of a run is.
use Rattle.std.specs.Prelude.{ℕ, nat_lt, if◌then◌else◌, List, [], ◌++◌}
use Rattle.tta_waves.specs.Cited.{Units, Machine, Code, State, next}
use Rattle.tta_waves.specs.Levels.{levels_in}
use Rattle.tta_waves.specs.Dump.{header_text, states_text}

-- a dump has so many cycles at most, whatever is asked for
abbrev pub limited : (bound : ℕ) → ℕ
limited bound = if nat_lt bound 65536 then bound else 65536

-- The dump of at most n cycles of code from a state: the declarations of the machine's signals, the levels of all signals in the state,
-- and after each cycle, by the cycle's meaning, those that changed.
unfoldable pub waves_of : Units → Machine → Code → State → (n : ℕ) → List ℕ
waves_of u m code s n = header_text m ++ states_text (next u m code) (levels_in m code.words) (limited n) [] s
