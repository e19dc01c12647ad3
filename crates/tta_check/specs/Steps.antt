-- What a cycle makes of an abstract state, place by place and unit by unit, where it is settled whether the control move acts.
use Rattle.std.specs.Prelude.{ℕ, ◌-◌, ◌/◌, ◌^◌, ◌==◌, Bool, true, false, not, ◌&&◌, nat_le, min, bit_or, if◌then◌else◌}
use Rattle.std.specs.Prelude.{List, Option, Some, None}
use Rattle.std.specs.Option.{option_map_or}
use Rattle.tta_check.specs.Cited.{GuardRef, Machine, is_same, Effect, Place, first_some}
use Rattle.tta_check.specs.declared.values.ValueSet.{ValueSet}
use Rattle.tta_check.specs.declared.values.ValueSet.TheVariants.{Nothing, One}
use Rattle.tta_check.specs.declared.state.Cell.{Cell}
use Rattle.tta_check.specs.declared.state.Kept.{Kept}
use Rattle.tta_check.specs.declared.state.Port.{Port}
use Rattle.tta_check.specs.declared.guard_value.GuardValue.{GuardValue}
use Rattle.tta_check.specs.declared.write.Origin.{Origin as Told}
use Rattle.tta_check.specs.declared.write.Origin.TheVariants as told
use Rattle.tta_check.specs.declared.write.Write.{Write}
use Rattle.tta_check.specs.declared.start.Start.{Start}
use Rattle.tta_check.specs.Walks.{Choice, is_chosen}
use Rattle.tta_check.specs.Facts.{Origin, Fixed, From, goes_into, origin_in, starts_on}
use Rattle.tta_check.specs.States.{place_of, cell_of, join_words}

-- ---- guards

-- whether a choice lets a guard's move act
abbrev pub lets_by : Choice → Option GuardRef → Bool
lets_by c o = option_map_or (λ g. if g.inverted then not (is_chosen c g.file g.index) else is_chosen c g.file g.index) o true

-- whether a choice settles a guard so
abbrev pub agrees : Choice → Option GuardValue → Bool
agrees c b = option_map_or (λ s. is_same (lets_by c (Some s.guard)) s.acts) b true

-- whether two guards are of one register
abbrev pub same_register : GuardRef → GuardRef → Bool
same_register g h = g.file == h.file && g.index == h.index

-- whether a guard's move may act, or may not, where another guard is settled
abbrev pub may : Option GuardValue → Option GuardRef → (acts : Bool) → Bool
may b None v = v
may None (Some g) v = true
may (Some s) (Some g) v = if same_register g s.guard then is_same v (is_same (is_same g.inverted s.guard.inverted) s.acts) else true

-- ---- places

-- where a word comes from, as it is kept
abbrev pub origin_as : Told → Origin
origin_as (told.Fixed x) = Fixed x
origin_as (told.From s) = From (place_of s)

-- a write as it is kept
abbrev pub as_write : Write → Option GuardRef × Origin
as_write w = (w.guard, origin_as w.origin)

-- the guard of the effect that writes a place, and where its word comes from
abbrev pub write_into : Machine → (back : ℕ) → Place → List Effect → Option (Option GuardRef × Origin)
write_into m back p es = first_some (λ e. if goes_into p e.target then Some (e.guard, origin_in m back e.src e.target) else None) es

-- the words that an origin gives
abbrev pub words_of : List Kept → Origin → ValueSet
words_of ks (Fixed x) = One x
words_of ks (From p) = (cell_of ks p).values

-- what is kept of a place after a cycle, where this was kept before
abbrev pub cell_from : Cell → List Kept → Option GuardValue → Option (Option GuardRef × Origin) → Cell
cell_from old ks b None = old
cell_from old ks b (Some w) = record {
  unset = may b w.0 false && old.unset;
  values = join_words (if may b w.0 false then old.values else Nothing) (if may b w.0 true then words_of ks w.1 else Nothing);
}

-- what is kept of a place after a cycle
abbrev pub cell_after : List Kept → Option GuardValue → Option (Option GuardRef × Origin) → Place → Cell
cell_after ks b w p = cell_from (cell_of ks p) ks b w

-- ---- units

-- the guard of the effect that starts a result on a unit, and its latency
abbrev pub start_on : Machine → ℕ → List Effect → Option (Option GuardRef × ℕ)
start_on m unit es = first_some (λ e. option_map_or (λ l. Some (e.guard, l)) (starts_on m unit e.target) None) es

-- a start as it is kept
abbrev pub as_start : Start → Option GuardRef × ℕ
as_start s = (s.guard, s.latency)

-- what is kept of a unit one cycle later
abbrev pub aged : Port → Port
aged p = record { early = if nat_le 16 p.early then p.early else p.early - 1; late = p.late / 2 }

-- what is kept of a unit after a cycle
abbrev pub port_after : Option GuardValue → Option (Option GuardRef × ℕ) → Port → Port
port_after b None p = aged p
port_after b (Some s) p = record {
  early = if may b s.0 false then (aged p).early else min (aged p).early (s.1 - 1);
  late = if may b s.0 true then bit_or (aged p).late (2 ^ (s.1 - 1)) else (aged p).late;
}

-- whether a start, if there is one, shows its result after 1 to 16 cycles
abbrev pub has_latency : Option Start → Bool
has_latency o = option_map_or (λ s. nat_le 1 s.latency && nat_le s.latency 16) o true
