-- Lists in which nothing is left to do: no read that a result port could serve, no operand that its port holds already, no
-- write that nothing reads, no detour.
use Rattle.std.specs.Prelude.{ℕ, ◌==◌, Bool, true, false, not, ◌&&◌, ◌||◌, if◌then◌else◌, nat_lt, List, [], ◌∷◌, Option, Some, None, is_some, slice_get, option_and_then}
use Rattle.std.specs.Option.{option_map_or}
use Rattle.std.specs.List.{list_any}
use Rattle.tta_moves.specs.Cited.{Source, Machine, Target, Reg, Imm, Operand, Trigger, Control, Place, KeptReg, KeptImm, KeptOperand}
use Rattle.tta_arch.specs.declared.ends.Source.TheVariants as source
use Rattle.tta_arch.specs.declared.ends.Dest.TheVariants as dest
use Rattle.tta_moves.specs.declared.items.ItemSource.{ItemSource}
use Rattle.tta_moves.specs.declared.items.ItemSource.TheVariants.{Port, Address}
use Rattle.tta_moves.specs.declared.items.Item.{Item}
use Rattle.tta_moves.specs.declared.items.Item.TheVariants.{Move, Long}
use Rattle.tta_moves.specs.Touches.{source_of, target_of_item, place_of_source, reads, writes, is_unguarded}
use Rattle.tta_moves.specs.Runs.{lives}
use Rattle.tta_moves.specs.Slots.{joined}

-- ---- an item and those before it

-- no item of a list is so against the items before it, which are taken newest first
abbrev pub none_after : (List Item → Item → Bool) → (before : List Item) → List Item → Bool
none_after bad before [] = true
none_after bad before (x ∷ xs) = not (bad before x) && none_after bad (x ∷ before) xs

-- the source of an item without a guard
abbrev pub sure_source : Item → Option ItemSource
sure_source x = if is_unguarded x then Some (source_of x) else None

-- a source, unless an item writes the place that it is read from
abbrev pub unless_written : Machine → Item → Option ItemSource → Option ItemSource
unless_written m x None = None
unless_written m x (Some src) = if option_map_or (λ p. writes m p x) (place_of_source src) false then None else Some src

-- The source whose word a place still has after these items, the newest first: the last of them that writes the place
-- has no guard and this source, and no later one writes the register or the result port that the source is.
abbrev pub copied : Machine → Place → (before : List Item) → Option ItemSource
copied m p [] = None
copied m p (x ∷ before) = if writes m p x then sure_source x else unless_written m x (copied m p before)

-- ---- bypassing

abbrev pub is_port_source : ItemSource → Bool
is_port_source (Port (source.Shown unit)) = true
is_port_source src = false

-- whether a register of 32 bits
abbrev pub is_wide_file : Machine → ℕ → Bool
is_wide_file m file = option_map_or (λ f. f.width == 32) (slice_get m.files file) false

-- the result port that still shows what a source has, where that is a register of 32 bits
abbrev pub shown_in_place_of : Machine → (before : List Item) → ItemSource → Option ItemSource
shown_in_place_of m before src = on src where
  on : ItemSource → Option ItemSource
  on (Port (source.Reg file index)) =
      if is_wide_file m file then option_and_then (λ s. if is_port_source s then Some s else None) (copied m (KeptReg file index) before) else None
  on s = None

-- the result port that a move could read in place of its register, over some bus and with its guard
abbrev pub port_for : Machine → (before : List Item) → Item → Option ItemSource
port_for m before (Move guard src dst) = option_and_then (λ port. if joined m port dst guard then Some port else None) (shown_in_place_of m before src)
port_for m before (Long unit index value) = None

abbrev pub is_bypassable : Machine → (before : List Item) → Item → Bool
is_bypassable m before x = is_some (port_for m before x)

-- no read is bypassable
abbrev pub is_bypassed : Machine → List Item → Bool
is_bypassed m items = none_after (is_bypassable m) [] items

-- ---- sharing

-- whether two sources that a move can have are one
abbrev pub same_end : Source → Source → Bool
same_end (source.Reg f i) (source.Reg g j) = f == g && i == j
same_end (source.Imm f i) (source.Imm g j) = f == g && i == j
same_end (source.Shown u) (source.Shown v) = u == v
same_end source.Ra source.Ra = true
same_end (source.Value v) (source.Value w) = v == w
same_end a b = false

-- whether two sources are one, an address only with that of the same block
abbrev pub same_source : ItemSource → ItemSource → Bool
same_source (Port a) (Port b) = same_end a b
same_source (Port a) (Address b) = false
same_source (Address a) (Port b) = false
same_source (Address a) (Address b) = a == b

-- a move brings an operand port the word that it has already from the same source
abbrev pub is_redundant : Machine → (before : List Item) → Item → Bool
is_redundant m before (Move guard src (dest.Operand unit)) = option_map_or (same_source src) (copied m (KeptOperand unit) before) false
is_redundant m before x = false

-- no move into an operand port is redundant
abbrev pub is_shared : Machine → List Item → Bool
is_shared m items = none_after (is_redundant m) [] items

-- ---- dead writes

-- Whether the word of a place is read by these items before, or by, the next one that writes it in any case, or after
-- them where there is none.
abbrev pub is_wanted : Machine → (live : List (ℕ × ℕ)) → Place → (behind : List Item) → Bool
is_wanted m live p [] = lives live p
is_wanted m live p (x ∷ behind) = reads p x || (not (writes m p x && is_unguarded x) && is_wanted m live p behind)

-- the register or immediate register that a target is
abbrev pub register_of : Target → Option Place
register_of (Reg file index) = Some (KeptReg file index)
register_of (Imm unit index) = Some (KeptImm unit index)
register_of (Operand unit) = None
register_of (Trigger unit op) = None
register_of (Control kind) = None

-- an item writes a register or an immediate register that is not read from then on
abbrev pub is_dead : Machine → (live : List (ℕ × ℕ)) → Item → (behind : List Item) → Bool
is_dead m live x behind = option_map_or (λ p. not (is_wanted m live p behind)) (register_of (target_of_item x)) false

-- no write is dead
abbrev pub is_lively : Machine → (live : List (ℕ × ℕ)) → List Item → Bool
is_lively m live [] = true
is_lively m live (x ∷ xs) = not (is_dead m live x xs) && is_lively m live xs

-- ---- straight lists

-- whether a source is a scratch register, one of the first three of the hub, or an immediate register
abbrev pub is_passing : (hub : Option ℕ) → ItemSource → Bool
is_passing hub src = on src where
  on : ItemSource → Bool
  on (Port (source.Reg file index)) = option_map_or (λ h. h == file && nat_lt index 3) hub false
  on (Port (source.Imm unit index)) = true
  on s = false

-- The trail of a place after these items, the newest first: the source of the last that writes it, where that has no
-- guard, and if this source is passing the trail of its place.
abbrev pub trail : Machine → (hub : Option ℕ) → Place → (before : List Item) → List ItemSource
trail m hub p [] = []
trail m hub p (x ∷ before) =
    if writes m p x
    then option_map_or (λ s. s ∷ option_map_or (λ q. if is_passing hub s then trail m hub q before else []) (place_of_source s) []) (sure_source x) []
    else trail m hub p before

-- a move takes a passing source on whose trail there is another source than a result port that a bus joins to the move's
-- destination with its guard
abbrev pub is_detour : Machine → (hub : Option ℕ) → (before : List Item) → Item → Bool
is_detour m hub before (Move guard src dst) =
    is_passing hub src
    && option_map_or (λ p. list_any (λ s. not (is_port_source s) && joined m s dst guard) (trail m hub p before)) (place_of_source src) false
is_detour m hub before (Long unit index value) = false

-- no move is a detour
abbrev pub is_straight : Machine → (hub : Option ℕ) → List Item → Bool
is_straight m hub items = none_after (is_detour m hub) [] items
