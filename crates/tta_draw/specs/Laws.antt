-- That no name in a picture needs an escape.
use Rattle.std.specs.Prelude.{◌≡◌, ℕ, ◌==◌, Bool, true, not, ◌&&◌, List, Some}
use Rattle.std.specs.List.{list_all, AllByRecursion}
use Rattle.tta_draw.specs.Cited.{Units, UnitOp, Machine, IsMachine, names_of, StandsOver, op_at, op_name}

-- whether XML takes a text as it is: it has no '&' and no '<'
abbrev pub is_plain : List ℕ → Bool
is_plain text = list_all (λ byte. not (byte == 38) && not (byte == 60)) text

-- so it takes the names of a machine's parts and of its operations
pub record HasPlainNames (u : Units) (m : Machine) : Type 0 where
  pub parts : AllByRecursion (λ name. is_plain name ≡ true) (names_of m)
  pub ops : (unit op : ℕ) (o : UnitOp) → op_at m unit op ≡ Some o → is_plain (op_name u o.op) ≡ true

-- and so of each machine that stands over a set of units
abbrev pub NamesArePlain : Type 0
NamesArePlain = (u : Units) (m : Machine) → IsMachine m → StandsOver u m → HasPlainNames u m
