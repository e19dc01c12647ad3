-- A later pass keeps the forms that the earlier ones reached, and each keeps a list straight.
use Rattle.std.proofs.Common.{◌≡◌, ℕ, Bool, true, false, List, [], ◌∷◌, Option, Some, None, refl, sym, ap, subst, ◌∙◌}
use Rattle.std.specs.Prelude.{if◌then◌else◌, ◌&&◌, ◌||◌, not, is_some, option_and_then}
use Rattle.std.specs.Option.{option_map_or}
use Rattle.std.specs.List.{list_any}
use Rattle.std.proofs.lemmas.Bool.{and_from, and_parts, or_left, or_right}
use Rattle.tta_optim.specs.Cited.{GuardRef, Machine, Place, KeptReg, KeptOperand, KeptPort, same_place, ItemSource, Port, Address, Item, Move, Long, source_of, target_of_item, place_of_source, is_at, reads, writes, is_unguarded, joined, none_after, sure_source, unless_written, copied, is_port_source, is_wide_file, shown_in_place_of, is_bypassable, same_source, is_redundant, is_wanted, is_dead, is_passing, trail, is_detour, is_straight}
use Rattle.tta_arch.specs.declared.ends.Source.TheVariants as source
use Rattle.tta_arch.specs.declared.ends.Dest.TheVariants as dest
use Rattle.tta_moves.proofs.Places.{either, same_self}
use Rattle.tta_optim.specs.Passes.{dead_items}
use Rattle.tta_optim.proofs.Bypassing.{port_is}
use Rattle.tta_optim.proofs.Sharing.{source_itself, redundant_is}
use Rattle.tta_optim.proofs.DeadWrites.{is_other, dead_is, quiet_by, written_by}
use Rattle.tta_optim.proofs.Copies.{was_copied as unless_is}
use Rattle.tta_arch.proofs.Places.{same_is}

-- ---- the items before, after a pass that drops some

-- a place whose word is read later, or whose writes are never dropped
abbrev pub Lasts : Machine → List (ℕ × ℕ) → (behind : List Item) → Place → Type 0
Lasts m live behind p = (is_other p || is_wanted m live p behind) ≡ true

-- a source that lasts
abbrev pub SourceLasts : Machine → List (ℕ × ℕ) → (behind : List Item) → ItemSource → Type 0
SourceLasts m live behind s = (q : Place) → place_of_source s ≡ Some q → Lasts m live behind q

-- what the thinned items before say of places that last, the others say too
pub record Thinned (m : Machine) (live : List (ℕ × ℕ)) (before thin behind : List Item) : Type 0 where
  pub copy : (p : Place) (s : ItemSource) → Lasts m live behind p → SourceLasts m live behind s → copied m p thin ≡ Some s → copied m p before ≡ Some s
  pub trail : (hub : Option ℕ) (p : Place) → Lasts m live behind p → trail m hub p thin ≡ trail m hub p before

-- a place that an item does not write lasts before it
lasts_before : (m : Machine) (live : List (ℕ × ℕ)) (x : Item) (behind : List Item) (p : Place) → writes m p x ≡ false → Lasts m live behind p → Lasts m live (x ∷ behind) p
lasts_before m live x behind p away h = on (is_other p) h where
  on : (o : Bool) → (o || is_wanted m live p behind) ≡ true → (o || is_wanted m live p (x ∷ behind)) ≡ true
  on true h = refl
  on false h = or_right (reads p x) _ (rw away h)

-- the source of an item lasts before it
source_lasts : (m : Machine) (live : List (ℕ × ℕ)) (x : Item) (behind : List Item) → SourceLasts m live (x ∷ behind) (source_of x)
source_lasts m live x behind q e =
    let reading : is_at q (place_of_source (source_of x)) ≡ true = rw (e, same_self q) refl in
    or_right (is_other q) _ (or_left (reads q x) _ (or_left _ _ reading))

away_is : (m : Machine) (x : Item) (s : ItemSource) (q : Place) → option_map_or (λ p. writes m p x) (place_of_source s) false ≡ false → place_of_source s ≡ Some q → writes m q x ≡ false
away_is m x s q away e = rw e at away

unless_from : (m : Machine) (x : Item) (o : Option ItemSource) (s : ItemSource) → o ≡ Some s → option_map_or (λ q. writes m q x) (place_of_source s) false ≡ false → unless_written m x o ≡ Some s
unless_from m x o s e away = rw e (rw away refl)

-- an item that stays
thinned_stays : (m : Machine) (live : List (ℕ × ℕ)) (x : Item) (before thin behind : List Item) → Thinned m live before thin (x ∷ behind) → Thinned m live (x ∷ before) (x ∷ thin) behind
thinned_stays m live x before thin behind t = record {
  copy = λ p s lasts source e. copy p s lasts source (writes m p x) refl e;
  trail = λ hub p lasts. trails hub p lasts (writes m p x) refl;
} where
  copy : (p : Place) (s : ItemSource) → Lasts m live behind p → SourceLasts m live behind s → (b : Bool) → writes m p x ≡ b
      → (if b then sure_source x else unless_written m x (copied m p thin)) ≡ Some s → (if b then sure_source x else unless_written m x (copied m p before)) ≡ Some s
  copy p s lasts source true at e = e
  copy p s lasts source false away e =
      let was = unless_is m x (copied m p thin) s e in
      let old = t.copy p s (lasts_before m live x behind p away lasts) (λ q is. lasts_before m live x behind q (away_is m x s q was.1 is) (source q is)) was.0 in
      unless_from m x (copied m p before) s old was.1

  onward : (hub : Option ℕ) (s : ItemSource) (o : Option Place) → place_of_source s ≡ o → ((q : Place) → o ≡ Some q → Lasts m live (x ∷ behind) q)
      → option_map_or (λ q. if is_passing hub s then trail m hub q thin else []) o [] ≡ option_map_or (λ q. if is_passing hub s then trail m hub q before else []) o []
  onward hub s None e lasts = refl
  onward hub s (Some q) e lasts = ap (λ l. if is_passing hub s then l else []) (t.trail hub q (lasts q refl))

  from : (hub : Option ℕ) (b : Bool)
      → option_map_or (λ s. s ∷ option_map_or (λ q. if is_passing hub s then trail m hub q thin else []) (place_of_source s) []) (if b then Some (source_of x) else None) []
      ≡ option_map_or (λ s. s ∷ option_map_or (λ q. if is_passing hub s then trail m hub q before else []) (place_of_source s) []) (if b then Some (source_of x) else None) []
  from hub false = refl
  from hub true = ap (λ l. source_of x ∷ l) (onward hub (source_of x) (place_of_source (source_of x)) refl (source_lasts m live x behind))

  trails : (hub : Option ℕ) (p : Place) → Lasts m live behind p → (b : Bool) → writes m p x ≡ b → trail m hub p (x ∷ thin) ≡ trail m hub p (x ∷ before)
  trails hub p lasts true at = rw at (from hub (is_unguarded x))
  trails hub p lasts false away = rw away (t.trail hub p (lasts_before m live x behind p away lasts))

-- a place that lasts is not the register that a dead item writes
dead_away : (m : Machine) (live : List (ℕ × ℕ)) (x : Item) (behind : List Item) (p : Place) → is_dead m live x behind ≡ true → Lasts m live behind p → writes m p x ≡ false
dead_away m live x behind p dead lasts =
    let d = dead_is m live x behind dead in
    let at = written_by m (target_of_item x) d.0 d.1 in
    let away : same_place d.0 p ≡ false = either (same_place d.0 p)
    (λ s. let e = same_is d.0 p s in
    let no_place : false ≡ true = sym (or_none (is_other d.0) (is_wanted m live d.0 behind) (quiet_by (target_of_item x) d.0 d.1).1 d.2)
    ∙ ap (λ (q : Place). is_other q || is_wanted m live q behind) e ∙ lasts in absurd cc)
    (λ s. s) in
    rw at away where
      or_none : (a b : Bool) → a ≡ false → b ≡ false → (a || b) ≡ false
      or_none a b e f = rw (e, f) refl

-- a dead item that goes
thinned_goes : (m : Machine) (live : List (ℕ × ℕ)) (x : Item) (before thin behind : List Item) → is_dead m live x behind ≡ true → Thinned m live before thin behind → Thinned m live (x ∷ before) thin behind
thinned_goes m live x before thin behind dead t = record {
  copy = λ p s lasts source e.
      let away = dead_away m live x behind p dead lasts in
      rw away (unless_from m x (copied m p before) s (t.copy p s lasts source e) (source_away s (place_of_source s) refl source));
  trail = λ hub p lasts. let away = dead_away m live x behind p dead lasts in rw away (t.trail hub p lasts);
} where
  source_away : (s : ItemSource) (o : Option Place) → place_of_source s ≡ o → SourceLasts m live behind s → option_map_or (λ q. writes m q x) o false ≡ false
  source_away s None e lasts = refl
  source_away s (Some q) e lasts = dead_away m live x behind q dead (lasts q e)

-- ---- the three forms of an item that stays

wide_only : (b : Bool) (o : Option ItemSource) (port : ItemSource) → (if b then option_and_then (λ s. if is_port_source s then Some s else None) o else None) ≡ Some port → (b ≡ true) × (o ≡ Some port)
wide_only false o port e = absurd cc
wide_only true None port e = absurd cc
wide_only true (Some s) port e = on (is_port_source s) e where
  on : (b : Bool) → (if b then Some s else None) ≡ Some port → (true ≡ true) × (◌≡◌ {A = Option ItemSource} (Some s) (Some port))
  on true e = (refl, e)
  on false e = absurd cc

port_lasts : (m : Machine) (live : List (ℕ × ℕ)) (behind : List Item) (port : ItemSource) → is_port_source port ≡ true → SourceLasts m live behind port
port_lasts m live behind (Port (source.Reg f i)) e q is = absurd cc
port_lasts m live behind (Port (source.Imm f i)) e q is = absurd cc
port_lasts m live behind (Port (source.Shown unit)) e q is = let same : KeptPort unit ≡ q = cc in or_left (is_other q) _ (ap is_other (sym same))
port_lasts m live behind (Port source.Ra) e q is = absurd cc
port_lasts m live behind (Port (source.Value w)) e q is = absurd cc
port_lasts m live behind (Address b) e q is = absurd cc

shown_before : (m : Machine) (live : List (ℕ × ℕ)) (x : Item) (before thin behind : List Item) (src port : ItemSource) → Thinned m live before thin (x ∷ behind) → source_of x ≡ src
    → shown_in_place_of m thin src ≡ Some port → is_port_source port ≡ true → shown_in_place_of m before src ≡ Some port
shown_before m live x before thin behind (Port (source.Reg f i)) port t is e shows =
    let two = wide_only (is_wide_file m f) (copied m (KeptReg f i) thin) port e in
    let lasts = source_lasts m live x behind (KeptReg f i) (ap place_of_source is) in
    let old = t.copy (KeptReg f i) port lasts (port_lasts m live (x ∷ behind) port shows) two.1 in
    rw (two.0, old, shows) refl
shown_before m live x before thin behind (Port (source.Imm f i)) port t is e shows = absurd cc
shown_before m live x before thin behind (Port (source.Shown unit)) port t is e shows = absurd cc
shown_before m live x before thin behind (Port source.Ra) port t is e shows = absurd cc
shown_before m live x before thin behind (Port (source.Value w)) port t is e shows = absurd cc
shown_before m live x before thin behind (Address b) port t is e shows = absurd cc

bypassable_before : (m : Machine) (live : List (ℕ × ℕ)) (x : Item) (before thin behind : List Item) → Thinned m live before thin (x ∷ behind) → is_bypassable m thin x ≡ true → is_bypassable m before x ≡ true
bypassable_before m live (Long unit index value) before thin behind t e = absurd cc
bypassable_before m live (Move guard src dst) before thin behind t e = on (shown_in_place_of m thin src) refl e where
  one : (b : Bool) (port : ItemSource) → is_some (if b then Some port else None) ≡ true → b ≡ true
  one true port e = refl
  one false port e = absurd cc

  shows : (port : ItemSource) → shown_in_place_of m thin src ≡ Some port → joined m port dst guard ≡ true → is_port_source port ≡ true
  shows port r j = port_is m thin (Move guard src dst) port (rw (r, j) refl)

  on : (o : Option ItemSource) → shown_in_place_of m thin src ≡ o → is_some (option_and_then (λ port. if joined m port dst guard then Some port else None) o) ≡ true
      → is_some (option_and_then (λ port. if joined m port dst guard then Some port else None) (shown_in_place_of m before src)) ≡ true
  on None r e = absurd cc
  on (Some port) r e =
      let j = one (joined m port dst guard) port e in
      let old = shown_before m live (Move guard src dst) before thin behind src port t refl r (shows port r j) in
      rw (old, j) refl

redundant_before : (m : Machine) (live : List (ℕ × ℕ)) (x : Item) (before thin behind : List Item) → Thinned m live before thin (x ∷ behind) → is_redundant m thin x ≡ true → is_redundant m before x ≡ true
redundant_before m live x before thin behind t e =
    let r = redundant_is m thin x e in
    let lasts = source_lasts m live x behind in
    let source : SourceLasts m live (x ∷ behind) r.source = subst (λ (z : Item). SourceLasts m live (x ∷ behind) (source_of z)) r.is lasts in
    let old = t.copy (KeptOperand r.unit) r.source refl source r.has in
    subst (λ (z : Item). is_redundant m before z ≡ true) (sym r.is) (again r.guard r.source r.unit old) where
      itself : (s : ItemSource) → same_source s s ≡ true
      itself s = source_itself s

      again : (guard : Option GuardRef) (s : ItemSource) (unit : ℕ) → copied m (KeptOperand unit) before ≡ Some s → is_redundant m before (Move guard s (dest.Operand unit)) ≡ true
      again guard s unit old = rw old (itself s)

detour_before : (m : Machine) (live : List (ℕ × ℕ)) (hub : Option ℕ) (x : Item) (before thin behind : List Item) → Thinned m live before thin (x ∷ behind) → is_detour m hub thin x ≡ is_detour m hub before x
detour_before m live hub (Long unit index value) before thin behind t = refl
detour_before m live hub (Move guard src dst) before thin behind t = ap (λ b. is_passing hub src && b) (on (place_of_source src) refl) where
  on : (o : Option Place) → place_of_source src ≡ o
      → option_map_or (λ p. list_any (λ s. not (is_port_source s) && joined m s dst guard) (trail m hub p thin)) o false
      ≡ option_map_or (λ p. list_any (λ s. not (is_port_source s) && joined m s dst guard) (trail m hub p before)) o false
  on None e = refl
  on (Some p) e = ap (λ l. list_any (λ s. not (is_port_source s) && joined m s dst guard) l) (t.trail hub p (source_lasts m live (Move guard src dst) behind p e))

-- ---- dead keeps the forms

not_by : (a b : Bool) → (a ≡ true → b ≡ true) → not b ≡ true → not a ≡ true
not_by false b f h = refl
not_by true b f h = let e = f refl in let no_test : not b ≡ false = rw e refl in absurd cc

-- a form that an item has before all items where it has it before those that stay
pub dead_form_kept : (m : Machine) (live : List (ℕ × ℕ)) (bad : List Item → Item → Bool)
    → ((x : Item) (before thin behind : List Item) → Thinned m live before thin (x ∷ behind) → bad thin x ≡ true → bad before x ≡ true)
    → (before thin xs : List Item) → Thinned m live before thin (dead_items m live xs) → none_after bad before xs ≡ true → none_after bad thin (dead_items m live xs) ≡ true
dead_form_kept m live bad back before thin [] t h = refl
dead_form_kept m live bad back before thin (x ∷ xs) t h =
    let two = and_parts (not (bad before x)) (none_after bad (x ∷ before) xs) h in
    either (is_dead m live x (dead_items m live xs))
    (λ dead. rw dead (dead_form_kept m live bad back (x ∷ before) thin xs (thinned_goes m live x before thin (dead_items m live xs) dead (rw dead at t)) two.1))
    (λ alive. rw alive (
    let t' : Thinned m live before thin (x ∷ dead_items m live xs) = rw alive at t in
    and_from (not (bad thin x)) (none_after bad (x ∷ thin) (dead_items m live xs))
    (not_by (bad thin x) (bad before x) (back x before thin (dead_items m live xs) t') two.0)
    (dead_form_kept m live bad back (x ∷ before) (x ∷ thin) xs (thinned_stays m live x before thin (dead_items m live xs) t') two.1)))

nothing_before : (m : Machine) (live : List (ℕ × ℕ)) (behind : List Item) → Thinned m live [] [] behind
nothing_before m live behind = record { copy = λ p s l k e. e; trail = λ hub p l. refl }

pub dead_bypassed : (m : Machine) (live : List (ℕ × ℕ)) (xs : List Item) → none_after (is_bypassable m) [] xs ≡ true → none_after (is_bypassable m) [] (dead_items m live xs) ≡ true
dead_bypassed m live xs h = dead_form_kept m live (is_bypassable m) (bypassable_before m live) [] [] xs (nothing_before m live (dead_items m live xs)) h

pub dead_shared : (m : Machine) (live : List (ℕ × ℕ)) (xs : List Item) → none_after (is_redundant m) [] xs ≡ true → none_after (is_redundant m) [] (dead_items m live xs) ≡ true
dead_shared m live xs h = dead_form_kept m live (is_redundant m) (redundant_before m live) [] [] xs (nothing_before m live (dead_items m live xs)) h

pub dead_straight : (m : Machine) (live : List (ℕ × ℕ)) (hub : Option ℕ) (xs : List Item) → is_straight m hub xs ≡ true → is_straight m hub (dead_items m live xs) ≡ true
dead_straight m live hub xs h =
    dead_form_kept m live (is_detour m hub) (λ x before thin behind t e. sym (detour_before m live hub x before thin behind t) ∙ e) [] [] xs (nothing_before m live (dead_items m live xs)) h
