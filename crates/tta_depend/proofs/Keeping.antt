-- What is kept stands for the items that are placed.
use Rattle.std.proofs.Common.{◌≡◌, ℕ, ◌+◌, ◌-◌, Bool, true, false, List, [], ◌∷◌, ◌++◌, Some, None, refl, sym, ap, ◌∙◌, arith, map}
use Rattle.std.specs.Prelude.{max, ◌==◌, if◌then◌else◌}
use Rattle.std.specs.Option.{option_map_or}
use Rattle.tta_depend.specs.Cited.{Machine, Item, PlacedItem, is_control, Spot, same_spot, Touch, reads_by, writes_by, lasts, least, last_end, length_of}
use Rattle.tta_depend.specs.declared.touches.Touched.{Touched}
use Rattle.tta_depend.specs.declared.rows.Row.{Row}
use Rattle.tta_depend.specs.Touched.{spot_number, touched}
use Rattle.tta_depend.specs.Rows.{unused, current, row_at, against, with_written, with_read, change, AreRows}
use Rattle.tta_depend.specs.Stands.{is_spot, is_within, greatest_at, shown_by, free_by, end_of, Stands, Kept}
use Rattle.tta_depend.proofs.Asked.{over_touches, over_end, least_is, shown_push, free_push, end_push, control_push, last_end_is}
use Rattle.tta_depend.proofs.Spots.{reads_within, writes_within}
use Rattle.tta_depend.proofs.Change.{against_is, as_written, changed}

-- ---- nothing placed

nothing : (round : ℕ) → ((current round unused).shown ≡ 0) × ((current round unused).free ≡ 0)
nothing round = on (0 == round) where
  on : (b : Bool) → ((if b then unused else record { shown = 0; free = 0; round = round }).shown ≡ 0) × ((if b then unused else record { shown = 0; free = 0; round = round }).free ≡ 0)
  on true = (refl, refl)
  on false = (refl, refl)

pub none_placed : (m : Machine) (b : Kept) → ((k : ℕ) → row_at b.round b.rows k ≡ current b.round unused) → b.end ≡ 0 → b.control ≡ None → b.delay ≡ m.control.delay → Stands b m []
none_placed m b empty end control delay = record {
  shown = λ s h. ap (λ (r : Row). r.shown) (empty (spot_number s)) ∙ (nothing b.round).0;
  free = λ s h. ap (λ (r : Row). r.free) (empty (spot_number s)) ∙ (nothing b.round).1;
  end = end;
  control = control;
  delay = delay;
}

-- ---- the least cycle

-- the least cycle by what is kept
pub least_kept : (m : Machine) (b : Kept) (v : Item) (placed : List PlacedItem) (reads writes : List Touched) (read written over : ℕ) → Stands b m placed → is_within m v ≡ true
    → reads ≡ map touched (reads_by v) → writes ≡ map touched (writes_by m v)
    → read ≡ against (λ r. r.shown) b.round b.rows reads → written ≡ against (λ r. r.free) b.round b.rows writes → over ≡ (if is_control v then b.end - (1 + b.delay) else 0)
    → max (max read written) over ≡ least m placed v
least_kept m b v placed reads writes read written over stands within rs ws r w o =
    let a : read ≡ over_touches (shown_by m placed) (reads_by v)
    = r ∙ ap (against (λ r. r.shown) b.round b.rows) rs ∙ against_is (λ r. r.shown) b.round b.rows (shown_by m placed) stands.shown (reads_by v) (reads_within m v within) in
    let f : written ≡ over_touches (free_by m placed) (writes_by m v)
    = w ∙ ap (against (λ r. r.free) b.round b.rows) ws ∙ against_is (λ r. r.free) b.round b.rows (free_by m placed) stands.free (writes_by m v) (writes_within m v within) in
    let e : over ≡ over_end m placed v = o ∙ ap (λ n. if is_control v then n - (1 + b.delay) else 0) stands.end ∙ ap (λ n. if is_control v then end_of m placed - (1 + n) else 0) stands.delay in
    ap (λ n. max (max n written) over) a ∙ ap (λ n. max (max (over_touches (shown_by m placed) (reads_by v)) n) over) f
    ∙ ap (λ n. max (max (over_touches (shown_by m placed) (reads_by v)) (over_touches (free_by m placed) (writes_by m v))) n) e ∙ sym (least_is m placed v)

-- ---- one item more

zeros : (ts : List Touch) (s : Spot) → greatest_at (λ t. 0) ts s ≡ 0
zeros [] s = refl
zeros (t ∷ ts) s = on (same_spot t.0 s) (zeros ts s) where
  on : (b : Bool) → greatest_at (λ u. 0) ts s ≡ 0 → max (if b then 0 else 0) (greatest_at (λ u. 0) ts s) ≡ 0
  on true ih = omega arith
  on false ih = omega arith

-- what an item's touches ask, that are entered one after another
pub stands_push : (m : Machine) (b b' : Kept) (placed : List PlacedItem) (x : PlacedItem) (one : List Row) (reads writes : List Touched) → Stands b m placed → is_within m x.item ≡ true
    → AreRows b.round b.rows → AreRows b.round one
    → reads ≡ map touched (reads_by x.item) → writes ≡ map touched (writes_by m x.item)
    → one ≡ change (with_written b.round x.cycle) writes b.rows → b'.rows ≡ change (with_read b.round x.cycle) reads one → b'.round ≡ b.round
    → b'.end ≡ max b.end (x.cycle + lasts m x.item) → b.control ≡ None → b'.control ≡ (if is_control x.item then Some x.cycle else None) → b'.delay ≡ b.delay
    → Stands b' m (placed ++ x ∷ [])
stands_push m b b' placed x one reads writes stands within are are' rs ws e1 e2 round end none control delay = record {
  shown = λ s h. ap (λ n. (row_at n b'.rows (spot_number s)).shown) round ∙ shown_at s h;
  free = λ s h. ap (λ n. (row_at n b'.rows (spot_number s)).free) round ∙ free_at s h;
  end = let e = end_push m placed x in let f = stands.end in omega arith;
  control = control ∙ sym (control_push placed x (sym stands.control ∙ none));
  delay = delay ∙ stands.delay;
} where
  first : one ≡ change (with_written b.round x.cycle) (map touched (writes_by m x.item)) b.rows
  first = e1 ∙ ap (λ t. change (with_written b.round x.cycle) t b.rows) ws

  second : b'.rows ≡ change (with_read b.round x.cycle) (map touched (reads_by x.item)) one
  second = e2 ∙ ap (λ t. change (with_read b.round x.cycle) t one) rs

  shown_at : (s : Spot) → is_spot s ≡ true → (row_at b.round b'.rows (spot_number s)).shown ≡ shown_by m (placed ++ x ∷ []) s
  shown_at s h =
      let r = changed (λ r. r.shown) b.round (with_read b.round x.cycle) (λ t. 0)
      (λ t r. ap (λ (q : Row). q.shown) (as_written b.round (with_read b.round x.cycle (touched t) r) refl) ∙ omega arith)
      (reads_by x.item) one s h (reads_within m x.item within) are'.size in
      let w = changed (λ r. r.shown) b.round (with_written b.round x.cycle) (λ t. x.cycle + t.1 + 0)
      (λ t r. ap (λ (q : Row). q.shown) (as_written b.round (with_written b.round x.cycle (touched t) r) refl) ∙ omega arith)
      (writes_by m x.item) b.rows s h (writes_within m x.item within) are.size in
      let z = zeros (reads_by x.item) s in
      let was = stands.shown s h in
      let sp = shown_push m placed x s in
      let f = ap (λ l. (row_at b.round l (spot_number s)).shown) first in
      let g = ap (λ l. (row_at b.round l (spot_number s)).shown) second in
      omega arith

  free_at : (s : Spot) → is_spot s ≡ true → (row_at b.round b'.rows (spot_number s)).free ≡ free_by m (placed ++ x ∷ []) s
  free_at s h =
      let r = changed (λ r. r.free) b.round (with_read b.round x.cycle) (λ t. x.cycle + t.1 + 1)
      (λ t r. ap (λ (q : Row). q.free) (as_written b.round (with_read b.round x.cycle (touched t) r) refl))
      (reads_by x.item) one s h (reads_within m x.item within) are'.size in
      let w = changed (λ r. r.free) b.round (with_written b.round x.cycle) (λ t. x.cycle + t.1 + 1)
      (λ t r. ap (λ (q : Row). q.free) (as_written b.round (with_written b.round x.cycle (touched t) r) refl))
      (writes_by m x.item) b.rows s h (writes_within m x.item within) are.size in
      let was = stands.free s h in
      let fp = free_push m placed x s in
      let f = ap (λ l. (row_at b.round l (spot_number s)).free) first in
      let g = ap (λ l. (row_at b.round l (spot_number s)).free) second in
      omega arith

-- ---- the length

pub length_kept : (m : Machine) (b : Kept) (placed : List PlacedItem) (n : ℕ) → Stands b m placed → b.control ≡ None → n ≡ max b.end 1 → n ≡ length_of m placed
length_kept m b placed n stands none is =
    is ∙ ap (λ k. max k 1) stands.end ∙ sym (last_end_is m placed) ∙ ap (λ o. option_map_or (λ cycle. cycle + 1 + m.control.delay) o (last_end m placed)) (sym none ∙ stands.control)
