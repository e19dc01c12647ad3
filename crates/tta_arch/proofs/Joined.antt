-- Whether a bus joins the ends of its move.
use Rattle.std.proofs.Common.{ℕ, Bool, true, Option}
use Rattle.std.specs.Option.{option_map_or}
use Rattle.tta_arch.specs.Machine.{Machine}
use Rattle.tta_arch.specs.Joins.{joins}
use Rattle.tta_arch.specs.Legal.{Ends}

-- the rule of one bus that it joins the ends of its move, with its guard
abbrev pub is_joined_at : Machine → ℕ → Option Ends → Bool
is_joined_at m bus o = option_map_or (λ v. joins m bus v.src v.dst v.guard) o true
