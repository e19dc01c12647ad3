-- The results of a unit among all that were ever started: the one that shows, and the one that is due.
use Rattle.std.specs.Prelude.{◌==◌, ℕ, Bool, ◌&&◌, List, fold, Option, None, option_map}
use Rattle.std.specs.List.{find}
use Rattle.tta_code.specs.Cycle.{Result', later}

-- the latest result of a unit that is due by now
abbrev pub latest : (unit now : ℕ) → List Result' → Option Result'
latest unit now started = fold (later unit now) None started

-- whether a result is this unit's and due in this very cycle
abbrev pub is_due : (unit due : ℕ) → Result' → Bool
is_due unit due r = r.unit == unit && r.due == due

-- the result of a unit that is due in this very cycle
abbrev pub due_at : (unit due : ℕ) → List Result' → Option Result'
due_at unit due started = find (is_due unit due) started

-- the word of a result, if there is one
abbrev pub word_due : Option Result' → Option ℕ
word_due o = option_map (λ r. r.value) o
