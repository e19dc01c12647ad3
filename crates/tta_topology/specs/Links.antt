-- What one line of links says.
use Rattle.std.specs.Prelude.{ℕ, ◌==◌, Bool, false, ◌&&◌, ◌||◌, nat_lt, if◌then◌else◌, List, [], ◌∷◌, length, Option, Some, None, is_some, slice_index_or, slice_set, Result, Ok, Err, codes}
use Rattle.std.specs.Option.{option_map_or}
use Rattle.std.specs.List.{list_any}
use Rattle.tta_parse.specs.Lines.{Line}
use Rattle.tta_parse.specs.Words.{is_keyword, value_of}
use Rattle.tta_parse.specs.Steps.{◌>>?◌, only_if}
use Rattle.tta_topology.specs.declared.error.Refusal.{Refusal}
use Rattle.tta_topology.specs.declared.error.Refusal.TheVariants.{Syntax, Range, Twice}

-- the core that feeds each
abbrev pub Feeds : Type 0
Feeds = List (Option ℕ)

-- the two cores of a line `link A B`
abbrev pub link_of : Line → Option (ℕ × ℕ)
link_of (w ∷ a ∷ b ∷ []) = only_if (is_keyword (codes "link") w) (value_of a >>? λ from. value_of b >>? λ to. Some (from, to))
link_of line = None

-- whether this core feeds one
abbrev pub is_fed_by : (core : ℕ) → Option ℕ → Bool
is_fed_by core feeder = option_map_or (λ f. f == core) feeder false

-- A core's outputs are another's input from now on. Both have to be there; the first may not feed one already, and the second may
-- not be fed.
abbrev pub joined : Feeds → (from to : ℕ) → Result Feeds Refusal
joined feeds from to =
    if nat_lt from (length feeds) && nat_lt to (length feeds)
    then (if list_any (is_fed_by from) feeds || is_some (slice_index_or feeds to None) then Err Twice else Ok (slice_set feeds to (Some from)))
    else Err Range

-- the links after a line; a blank one says nothing
abbrev pub taken : Feeds → Line → Result Feeds Refusal
taken feeds [] = Ok feeds
taken feeds (w ∷ ws) = option_map_or (λ l. joined feeds l.0 l.1) (link_of (w ∷ ws)) (Err Syntax)
