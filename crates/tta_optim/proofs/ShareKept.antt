-- Sharing keeps the form that bypassing reached, and both keep a list straight.
use Rattle.std.proofs.Common.{◌≡◌, ℕ, Bool, true, false, List, [], ◌∷◌, Option, Some, None, refl, sym, ap, subst, ◌∙◌}
use Rattle.std.specs.Prelude.{if◌then◌else◌, ◌&&◌, not, is_some, option_and_then}
use Rattle.std.specs.Option.{option_map_or}
use Rattle.std.specs.List.{list_any}
use Rattle.std.proofs.lemmas.Bool.{and_from, and_parts, or_parts, or_from, not-true, not_from_false}
use Rattle.tta_arch.specs.declared.ends.Source.TheVariants as source
use Rattle.tta_optim.specs.Cited.{Machine, Operand, Place, KeptReg, KeptImm, KeptOperand, KeptRa, KeptPort, same_place, ItemSource, Port, Address, Item, Move, Long, source_of, target_of_item, place_of_source, writes, is_unguarded, joined, none_after, sure_source, unless_written, copied, is_port_source, is_wide_file, shown_in_place_of, port_for, is_bypassable, is_redundant, is_passing, trail, is_detour, is_straight}
use Rattle.tta_moves.proofs.Places.{either}
use Rattle.tta_optim.specs.Passes.{with_source, bypassed, bypass_items, share_items}
use Rattle.tta_optim.proofs.Bypassing.{port_is}
use Rattle.tta_optim.proofs.Sharing.{redundant_is}

-- ---- the items before, after sharing

-- a place that a move can read: none but an operand port
abbrev pub can_read : Place → Bool
can_read (KeptReg file index) = true
can_read (KeptImm unit index) = true
can_read (KeptOperand unit) = false
can_read KeptRa = true
can_read (KeptPort unit) = true

source_can : (s : ItemSource) (q : Place) → place_of_source s ≡ Some q → can_read q ≡ true
source_can (Address b) q e = absurd cc
source_can (Port (source.Reg f i)) q e = let same : KeptReg f i ≡ q = cc in ap can_read (sym same)
source_can (Port (source.Imm f i)) q e = let same : KeptImm f i ≡ q = cc in ap can_read (sym same)
source_can (Port (source.Shown unit)) q e = let same : KeptPort unit ≡ q = cc in ap can_read (sym same)
source_can (Port source.Ra) q e = let same : KeptRa ≡ q = cc in ap can_read (sym same)
source_can (Port (source.Value w)) q e = absurd cc

-- what the thinned items before say of places that can be read is what the others say
pub record Unchanged (m : Machine) (before thin : List Item) : Type 0 where
  pub copy : (p : Place) → can_read p ≡ true → copied m p thin ≡ copied m p before
  pub trail : (hub : Option ℕ) (p : Place) → can_read p ≡ true → trail m hub p thin ≡ trail m hub p before

unchanged_stays : (m : Machine) (x : Item) (before thin : List Item) → Unchanged m before thin → Unchanged m (x ∷ before) (x ∷ thin)
unchanged_stays m x before thin t = record {
  copy = λ p can. ap (λ (o : Option ItemSource). if writes m p x then sure_source x else unless_written m x o) (t.copy p can);
  trail = λ hub p can. trails hub p can (writes m p x) refl;
} where
  onward : (hub : Option ℕ) (s : ItemSource) (o : Option Place) → ((q : Place) → o ≡ Some q → can_read q ≡ true)
      → option_map_or (λ q. if is_passing hub s then trail m hub q thin else []) o [] ≡ option_map_or (λ q. if is_passing hub s then trail m hub q before else []) o []
  onward hub s None can = refl
  onward hub s (Some q) can = ap (λ l. if is_passing hub s then l else []) (t.trail hub q (can q refl))

  from : (hub : Option ℕ) (b : Bool)
      → option_map_or (λ s. s ∷ option_map_or (λ q. if is_passing hub s then trail m hub q thin else []) (place_of_source s) []) (if b then Some (source_of x) else None) []
      ≡ option_map_or (λ s. s ∷ option_map_or (λ q. if is_passing hub s then trail m hub q before else []) (place_of_source s) []) (if b then Some (source_of x) else None) []
  from hub false = refl
  from hub true = ap (λ l. source_of x ∷ l) (onward hub (source_of x) (place_of_source (source_of x)) (source_can (source_of x)))

  trails : (hub : Option ℕ) (p : Place) → can_read p ≡ true → (b : Bool) → writes m p x ≡ b → trail m hub p (x ∷ thin) ≡ trail m hub p (x ∷ before)
  trails hub p can true at = rw at (from hub (is_unguarded x))
  trails hub p can false away = rw away (t.trail hub p can)

operand_away : (unit : ℕ) (p : Place) → can_read p ≡ true → same_place (KeptOperand unit) p ≡ false
operand_away unit (KeptReg f i) can = refl
operand_away unit (KeptImm f i) can = refl
operand_away unit (KeptOperand v) can = absurd cc
operand_away unit KeptRa can = refl
operand_away unit (KeptPort v) can = refl

unchanged_goes : (m : Machine) (x : Item) (unit : ℕ) (before thin : List Item) → target_of_item x ≡ Operand unit → Unchanged m before thin → Unchanged m (x ∷ before) thin
unchanged_goes m x unit before thin is t = record {
  copy = λ p can. rw (away p can) (t.copy p can ∙ sym (unless_same (copied m p before)));
  trail = λ hub p can. rw (away p can) (t.trail hub p can);
} where
  away : (p : Place) → can_read p ≡ true → writes m p x ≡ false
  away p can = rw is (operand_away unit p can)

  off : (o : Option Place) → ((q : Place) → o ≡ Some q → can_read q ≡ true) → option_map_or (λ q. writes m q x) o false ≡ false
  off None can = refl
  off (Some q) can = away q (can q refl)

  unless_same : (o : Option ItemSource) → unless_written m x o ≡ o
  unless_same None = refl
  unless_same (Some s) = rw (off (place_of_source s) (source_can s)) refl

-- ---- forms

shown_same : (m : Machine) (before thin : List Item) (src : ItemSource) → Unchanged m before thin → shown_in_place_of m thin src ≡ shown_in_place_of m before src
shown_same m before thin (Port (source.Reg f i)) t =
    ap (λ (o : Option ItemSource). if is_wide_file m f then option_and_then (λ s. if is_port_source s then Some s else None) o else None) (t.copy (KeptReg f i) refl)
shown_same m before thin (Port (source.Imm f i)) t = refl
shown_same m before thin (Port (source.Shown unit)) t = refl
shown_same m before thin (Port source.Ra) t = refl
shown_same m before thin (Port (source.Value w)) t = refl
shown_same m before thin (Address b) t = refl

bypassable_same : (m : Machine) (x : Item) (before thin : List Item) → Unchanged m before thin → is_bypassable m thin x ≡ is_bypassable m before x
bypassable_same m (Long unit index value) before thin t = refl
bypassable_same m (Move guard src dst) before thin t =
    ap (λ (o : Option ItemSource). is_some (option_and_then (λ port. if joined m port dst guard then Some port else None) o)) (shown_same m before thin src t)

detour_same : (m : Machine) (hub : Option ℕ) (x : Item) (before thin : List Item) → Unchanged m before thin → is_detour m hub thin x ≡ is_detour m hub before x
detour_same m hub (Long unit index value) before thin t = refl
detour_same m hub (Move guard src dst) before thin t = ap (λ b. is_passing hub src && b) (on (place_of_source src) (source_can src)) where
  on : (o : Option Place) → ((q : Place) → o ≡ Some q → can_read q ≡ true)
      → option_map_or (λ p. list_any (λ s. not (is_port_source s) && joined m s dst guard) (trail m hub p thin)) o false
      ≡ option_map_or (λ p. list_any (λ s. not (is_port_source s) && joined m s dst guard) (trail m hub p before)) o false
  on None can = refl
  on (Some p) can = ap (λ l. list_any (λ s. not (is_port_source s) && joined m s dst guard) l) (t.trail hub p (can p refl))

share_form_kept : (m : Machine) (bad : List Item → Item → Bool) → ((x : Item) (before thin : List Item) → Unchanged m before thin → bad thin x ≡ bad before x)
    → (before thin xs : List Item) → Unchanged m before thin → none_after bad before xs ≡ true → none_after bad thin (share_items m thin xs) ≡ true
share_form_kept m bad same before thin [] t h = refl
share_form_kept m bad same before thin (x ∷ xs) t h =
    let two = and_parts (not (bad before x)) (none_after bad (x ∷ before) xs) h in
    either (is_redundant m thin x)
    (λ red. rw red (
    let r = redundant_is m thin x red in
    share_form_kept m bad same (x ∷ before) thin xs (unchanged_goes m x r.unit before thin (ap (λ (z : Item). target_of_item z) r.is) t) two.1))
    (λ more. rw more (
    and_from (not (bad thin x)) (none_after bad (x ∷ thin) (share_items m (x ∷ thin) xs)) (rw (same x before thin t) two.0)
    (share_form_kept m bad same (x ∷ before) (x ∷ thin) xs (unchanged_stays m x before thin t) two.1)))

nothing_before : (m : Machine) → Unchanged m [] []
nothing_before m = record { copy = λ p can. refl; trail = λ hub p can. refl }

pub share_bypassed : (m : Machine) (xs : List Item) → none_after (is_bypassable m) [] xs ≡ true → none_after (is_bypassable m) [] (share_items m [] xs) ≡ true
share_bypassed m xs h = share_form_kept m (is_bypassable m) (bypassable_same m) [] [] xs (nothing_before m) h

pub share_straight : (m : Machine) (hub : Option ℕ) (xs : List Item) → is_straight m hub xs ≡ true → is_straight m hub (share_items m [] xs) ≡ true
share_straight m hub xs h = share_form_kept m (is_detour m hub) (detour_same m hub) [] [] xs (nothing_before m) h

-- ---- bypassing keeps a list straight

-- what no source on a trail but a port passes, none on the trail passes after bypassing
pub record Shortened (m : Machine) (hub : Option ℕ) (before now : List Item) : Type 0 where
  pub none : (test : ItemSource → Bool) → ((s : ItemSource) → is_port_source s ≡ true → test s ≡ false) → (p : Place) → list_any test (trail m hub p before) ≡ false → list_any test (trail m hub p now) ≡ false

-- a port is not passing
port_stops : (hub : Option ℕ) (s : ItemSource) → is_port_source s ≡ true → is_passing hub s ≡ false
port_stops hub (Port (source.Reg f i)) e = absurd cc
port_stops hub (Port (source.Imm f i)) e = absurd cc
port_stops hub (Port (source.Shown unit)) e = refl
port_stops hub (Port source.Ra) e = refl
port_stops hub (Port (source.Value w)) e = refl
port_stops hub (Address b) e = refl

shortened_same : (m : Machine) (hub : Option ℕ) (x : Item) (before now : List Item) → Shortened m hub before now → Shortened m hub (x ∷ before) (x ∷ now)
shortened_same m hub x before now t = record { none = λ test ports p h. trails test ports p (writes m p x) refl h } where
  onward : (test : ItemSource → Bool) → ((s : ItemSource) → is_port_source s ≡ true → test s ≡ false) → (s : ItemSource) (o : Option Place) (b : Bool)
      → list_any test (option_map_or (λ q. if b then trail m hub q before else []) o []) ≡ false → list_any test (option_map_or (λ q. if b then trail m hub q now else []) o []) ≡ false
  onward test ports s None b h = refl
  onward test ports s (Some q) true h = t.none test ports q h
  onward test ports s (Some q) false h = refl

  from : (test : ItemSource → Bool) → ((s : ItemSource) → is_port_source s ≡ true → test s ≡ false) → (b : Bool)
      → list_any test (option_map_or (λ s. s ∷ option_map_or (λ q. if is_passing hub s then trail m hub q before else []) (place_of_source s) []) (if b then Some (source_of x) else None) []) ≡ false
      → list_any test (option_map_or (λ s. s ∷ option_map_or (λ q. if is_passing hub s then trail m hub q now else []) (place_of_source s) []) (if b then Some (source_of x) else None) []) ≡ false
  from test ports false h = refl
  from test ports true h =
      let two = or_parts (test (source_of x)) _ h in
      or_from (test (source_of x)) _ two.0 (onward test ports (source_of x) (place_of_source (source_of x)) (is_passing hub (source_of x)) two.1)

  trails : (test : ItemSource → Bool) → ((s : ItemSource) → is_port_source s ≡ true → test s ≡ false) → (p : Place) (b : Bool) → writes m p x ≡ b
      → list_any test (trail m hub p (x ∷ before)) ≡ false → list_any test (trail m hub p (x ∷ now)) ≡ false
  trails test ports p true at h = rw at (from test ports (is_unguarded x) (rw at at h))
  trails test ports p false away h = rw away (t.none test ports p (rw away at h))

shortened_turned : (m : Machine) (hub : Option ℕ) (x : Item) (port : ItemSource) (before now : List Item) → is_port_source port ≡ true → Shortened m hub before now
    → Shortened m hub (x ∷ before) (with_source x port ∷ now)
shortened_turned m hub (Long unit index value) port before now is t = shortened_same m hub (Long unit index value) before now t
shortened_turned m hub (Move guard src dst) port before now is t = record { none = λ test ports p h. trails test ports p (writes m p (Move guard src dst)) refl h } where
  stop : (test : ItemSource → Bool) → test port ≡ false → (o : Option Place) → list_any test (port ∷ option_map_or (λ q. if is_passing hub port then trail m hub q now else []) o []) ≡ false
  stop test e None = or_from (test port) false e refl
  stop test e (Some q) = or_from (test port) _ e (rw (port_stops hub port is) refl)

  from : (test : ItemSource → Bool) → test port ≡ false → (b : Bool)
      → list_any test (option_map_or (λ s. s ∷ option_map_or (λ q. if is_passing hub s then trail m hub q now else []) (place_of_source s) []) (if b then Some port else None) []) ≡ false
  from test e false = refl
  from test e true = stop test e (place_of_source port)

  trails : (test : ItemSource → Bool) → ((s : ItemSource) → is_port_source s ≡ true → test s ≡ false) → (p : Place) (b : Bool) → writes m p (Move guard src dst) ≡ b
      → list_any test (trail m hub p (Move guard src dst ∷ before)) ≡ false → list_any test (trail m hub p (Move guard port dst ∷ now)) ≡ false
  trails test ports p true at h = rw at (from test (ports port is) (is_unguarded (Move guard src dst)))
  trails test ports p false away h = rw away (t.none test ports p (rw away at h))

-- an item that was no detour is none
no_detour_same : (m : Machine) (hub : Option ℕ) (x : Item) (before now : List Item) → Shortened m hub before now → is_detour m hub before x ≡ false → is_detour m hub now x ≡ false
no_detour_same m hub (Long unit index value) before now t e = refl
no_detour_same m hub (Move guard src dst) before now t e = on (is_passing hub src) (place_of_source src) e where
  on : (b : Bool) (o : Option Place) → (b && option_map_or (λ p. list_any (λ s. not (is_port_source s) && joined m s dst guard) (trail m hub p before)) o false) ≡ false
      → (b && option_map_or (λ p. list_any (λ s. not (is_port_source s) && joined m s dst guard) (trail m hub p now)) o false) ≡ false
  on false o e = refl
  on true None e = refl
  on true (Some p) e = t.none (λ s. not (is_port_source s) && joined m s dst guard) (λ s is. rw is refl) p e

no_detour_turned : (m : Machine) (hub : Option ℕ) (x : Item) (port : ItemSource) (now : List Item) → is_port_source port ≡ true → is_detour m hub now (with_source x port) ≡ false
no_detour_turned m hub (Long unit index value) port now is = refl
no_detour_turned m hub (Move guard src dst) port now is = rw (port_stops hub port is) refl

bypass_straight_from : (m : Machine) (hub : Option ℕ) (before now xs : List Item) → Shortened m hub before now → none_after (is_detour m hub) before xs ≡ true
    → none_after (is_detour m hub) now (bypass_items m now xs) ≡ true
bypass_straight_from m hub before now [] t h = refl
bypass_straight_from m hub before now (x ∷ xs) t h =
    let two = and_parts (not (is_detour m hub before x)) (none_after (is_detour m hub) (x ∷ before) xs) h in
    on (port_for m now x) refl (not-true (is_detour m hub before x) two.0) (λ t'. bypass_straight_from m hub (x ∷ before) (bypassed m now x ∷ now) xs t' two.1) where
      on : (o : Option ItemSource) → port_for m now x ≡ o → is_detour m hub before x ≡ false
          → (Shortened m hub (x ∷ before) (option_map_or (with_source x) (port_for m now x) x ∷ now) → none_after (is_detour m hub) (bypassed m now x ∷ now) (bypass_items m (bypassed m now x ∷ now) xs) ≡ true)
          → none_after (is_detour m hub) now (bypass_items m now (x ∷ xs)) ≡ true
      on None e fine more =
          let same : bypassed m now x ≡ x = ap (λ (o : Option ItemSource). option_map_or (with_source x) o x) e in
          and_from (not (is_detour m hub now (bypassed m now x))) _
          (rw same (not_from_false (is_detour m hub now x) (no_detour_same m hub x before now t fine)))
          (more (subst (λ (y : Item). Shortened m hub (x ∷ before) (y ∷ now)) (sym same) (shortened_same m hub x before now t)))
      on (Some port) e fine more =
          let is = port_is m now x port e in
          let same : bypassed m now x ≡ with_source x port = ap (λ (o : Option ItemSource). option_map_or (with_source x) o x) e in
          and_from (not (is_detour m hub now (bypassed m now x))) _
          (rw same (not_from_false (is_detour m hub now (with_source x port)) (no_detour_turned m hub x port now is)))
          (more (subst (λ (y : Item). Shortened m hub (x ∷ before) (y ∷ now)) (sym same) (shortened_turned m hub x port before now is t)))

pub bypass_straight : (m : Machine) (hub : Option ℕ) (xs : List Item) → is_straight m hub xs ≡ true → is_straight m hub (bypass_items m [] xs) ≡ true
bypass_straight m hub xs h = bypass_straight_from m hub [] [] xs (record { none = λ test ports p e. refl }) h
