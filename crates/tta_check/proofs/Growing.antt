-- Tables grow: what is put there is found again, and no abstract state admits less than before.
use Rattle.std.proofs.Common.{◌≡◌, ℕ, zero, suc, ◌+◌, ◌*◌, ◌≤◌, ◌<◌, Bool, true, false, List, [], ◌∷◌, ◌++◌, length, Option, Some, None, refl, ap, sym, ◌∙◌, ◌⊎◌, inl, inr, arith}
use Rattle.std.specs.Prelude.{◌==◌, ◌||◌, ◌-◌, ◌≢◌, if◌then◌else◌, slice_get, slice_set, option_and_then}
use Rattle.std.specs.List.{list_any}
use Rattle.std.proofs.lemmas.Bool.{and_parts, eq-eqb, eqb-true, or_left, and_from}
use Rattle.std.proofs.lemmas.List.Folds.{list_any-append}
use Rattle.tta_check.specs.Cited.{Kind, Jumps, Calls, Halts}
use Rattle.tta_check.specs.declared.state.AbstractState.{AbstractState}
use Rattle.tta_check.specs.declared.entries.EntryTable.{EntryTable}
use Rattle.tta_check.specs.declared.visit.Successor.{Successor}
use Rattle.tta_check.specs.Facts.{Fact}
use Rattle.tta_check.specs.ProgramPoints.{Under, ProgramPoint}
use Rattle.tta_check.specs.States.{covers}
use Rattle.tta_check.specs.Going.{point_as}
use Rattle.tta_check.specs.Measures.{measure}
use Rattle.tta_check.specs.Tables.{same_kind, same_under, same_point, place_at, state_in, state_at, Sets}
use Rattle.tta_check.proofs.Putting.{set_get}
use Rattle.tta_check.proofs.Coming.{same_kind_self as kind_self}
use Rattle.tta_list.proofs.Sets.{set_count}

-- ---- program points

kind_is : (c d : Kind) → same_kind c d ≡ true → c ≡ d
kind_is Jumps Jumps h = refl
kind_is Calls Calls h = refl
kind_is Halts Halts h = refl
kind_is Jumps Calls h = absurd cc
kind_is Jumps Halts h = absurd cc
kind_is Calls Jumps h = absurd cc
kind_is Calls Halts h = absurd cc
kind_is Halts Jumps h = absurd cc
kind_is Halts Calls h = absurd cc

under_is : (u v : Option Under) → same_under u v ≡ true → u ≡ v
under_is None None h = refl
under_is None (Some v) h = absurd cc
under_is (Some u) None h = absurd cc
under_is (Some u) (Some v) h =
    let p = and_parts (u.left == v.left) _ h in
    let q = and_parts (same_kind u.kind v.kind) _ p.1 in
    ap (λ (n : ℕ). at n u.kind u.word) (eqb-true _ _ p.0) ∙ ap (λ d. at v.left d u.word) (kind_is _ _ q.0) ∙ ap (λ (n : ℕ). at v.left v.kind n) (eqb-true _ _ q.1) where
      at : ℕ → Kind → ℕ → Option Under
      at l d n = Some (record { left = l; kind = d; word = n })

under_self : (u : Option Under) → same_under u u ≡ true
under_self None = refl
under_self (Some u) = and_from _ _ (eq-eqb _ _ refl) (and_from _ _ (kind_self u.kind) (eq-eqb _ _ refl))

-- program points that a test calls the same are one
pub point_is : (j k : ProgramPoint) → same_point j k ≡ true → j ≡ k
point_is j k h =
    let p = and_parts (j.address == k.address) _ h in
    ap (λ (n : ℕ). at n j.under) (eqb-true _ _ p.0) ∙ ap (at k.address) (under_is _ _ p.1) where
      at : ℕ → Option Under → ProgramPoint
      at n u = record { address = n; under = u }

pub point_self : (k : ProgramPoint) → same_point k k ≡ true
point_self k = and_from _ _ (eq-eqb _ _ refl) (under_self k.under)

-- ---- abstract states that are found

-- an abstract state admits no less than another
abbrev pub Within : AbstractState → AbstractState → Type 0
Within r s = (f : Fact) → covers r f ≡ true → covers s f ≡ true

-- an abstract state is found at a program point that admits no less than this one
abbrev pub Found : (delay : ℕ) → List (Option Successor) → ProgramPoint → AbstractState → Type 0
Found delay entries k r = (s : AbstractState) × (state_at delay entries k ≡ Some s) × Within r s

pub state_there : (delay : ℕ) (entries : List (Option Successor)) (k : ProgramPoint) (e : Successor) → slice_get entries (place_at delay k) ≡ Some (Some e) → point_as e.point ≡ k → state_at delay entries k ≡ Some e.state
state_there delay entries k e there is =
    ap (option_and_then (state_in k)) there ∙ ap (λ b. if b then Some e.state else None) (ap (λ j. same_point j k) is ∙ point_self k)

-- the entry that an abstract state is found in
pub record EntryOf (delay : ℕ) (entries : List (Option Successor)) (k : ProgramPoint) (r : AbstractState) : Type 0 where
  pub entry : Successor
  pub there : slice_get entries (place_at delay k) ≡ Some (Some entry)
  pub point : point_as entry.point ≡ k
  pub state : entry.state ≡ r

pub entry_of : (delay : ℕ) (entries : List (Option Successor)) (k : ProgramPoint) (r : AbstractState) → state_at delay entries k ≡ Some r → EntryOf delay entries k r
entry_of delay entries k r h = on (slice_get entries (place_at delay k)) refl h where
  by : (e : Successor) → slice_get entries (place_at delay k) ≡ Some (Some e) → (b : Bool) → same_point (point_as e.point) k ≡ b → (if b then Some e.state else None) ≡ Some r → EntryOf delay entries k r
  by e there true is h = record { entry = e; there = there; point = point_is _ _ is; state = cc }
  by e there false is h = absurd cc

  on : (o : Option (Option Successor)) → slice_get entries (place_at delay k) ≡ o → option_and_then (state_in k) o ≡ Some r → EntryOf delay entries k r
  on None is h = absurd cc
  on (Some None) is h = absurd cc
  on (Some (Some e)) is h = by e is (same_point (point_as e.point) k) refl h

-- ---- places that wait

-- whether a place waits
abbrev pub waits : List ℕ → ℕ → Bool
waits worklist p = list_any (λ q. q == p) worklist

pub waits_more : (worklist : List ℕ) (place p : ℕ) → waits (worklist ++ (place ∷ [])) p ≡ (waits worklist p || (place == p || false))
waits_more worklist place p = list_any-append (λ q. q == p) worklist (place ∷ [])

or_right : (a b : Bool) → b ≡ true → (a || (b || false)) ≡ true
or_right true b h = refl
or_right false true h = refl
or_right false false h = absurd cc

pub waits_still : (worklist : List ℕ) (place p : ℕ) → waits worklist p ≡ true → waits (worklist ++ (place ∷ [])) p ≡ true
waits_still worklist place p h = waits_more worklist place p ∙ or_left _ _ h

pub waits_new : (worklist : List ℕ) (place : ℕ) → waits (worklist ++ (place ∷ [])) place ≡ true
waits_new worklist place = waits_more worklist place place ∙ or_right (waits worklist place) _ (eq-eqb _ _ refl)

pub waits_one : (worklist : List ℕ) (place p : ℕ) → waits (worklist ++ (place ∷ [])) p ≡ true → (waits worklist p ≡ true) ⊎ (place ≡ p)
waits_one worklist place p h = on (waits worklist p) (place == p) refl (sym (waits_more worklist place p) ∙ h) where
  on : (a b : Bool) → (place == p) ≡ b → (a || (b || false)) ≡ true → (a ≡ true) ⊎ (place ≡ p)
  on true b is h = inl refl
  on false true is h = inr (eqb-true _ _ is)
  on false false is h = absurd cc

-- ---- how much may still be put

-- how much an entry may still grow
abbrev pub lack_in : (most : ℕ) → Option Successor → ℕ
lack_in most None = most + 1
lack_in most (Some e) = most - measure e.state

abbrev pub lack : (most : ℕ) → List (Option Successor) → ℕ
lack most [] = 0
lack most (o ∷ os) = lack_in most o + lack most os

-- how much is ahead: what entries may grow, twice, and what waits
abbrev pub ahead : (most : ℕ) → EntryTable → ℕ
ahead most t = 2 * lack most t.entries.items + length t.worklist.items

lack_set : (most : ℕ) (xs : List (Option Successor)) (p : ℕ) (o v : Option Successor) → slice_get xs p ≡ Some o → lack most (slice_set xs p v) + lack_in most o ≡ lack most xs + lack_in most v
lack_set most [] p o v h = absurd cc
lack_set most (x ∷ xs) zero o v h = let e : x ≡ o = cc in let f = ap (lack_in most) e in omega arith
lack_set most (x ∷ xs) (suc p) o v h = let e = lack_set most xs p o v h in omega arith

pub worklist_more : (worklist : List ℕ) (place : ℕ) → length (worklist ++ (place ∷ [])) ≡ length worklist + 1
worklist_more [] place = refl
worklist_more (q ∷ worklist) place = let e = worklist_more worklist place in omega arith

-- ---- a table that has moved on

-- abstract states admit no less, what waits still waits, and each entry is new and waits or is as it was; less is ahead, or as much
pub record Moved (delay most : ℕ) (old new : EntryTable) : Type 0 where
  pub count : length new.entries.items ≡ length old.entries.items
  pub grows : (k : ProgramPoint) (r : AbstractState) → state_at delay old.entries.items k ≡ Some r → Found delay new.entries.items k r
  pub still : (p : ℕ) → waits old.worklist.items p ≡ true → waits new.worklist.items p ≡ true
  pub same : (p : ℕ) (e : Successor) → slice_get new.entries.items p ≡ Some (Some e) → (waits new.worklist.items p ≡ true) ⊎ (slice_get old.entries.items p ≡ Some (Some e))
  pub less : ahead most new ≤ ahead most old

pub stay : (delay most : ℕ) (t : EntryTable) → Moved delay most t t
stay delay most t = record { count = refl; grows = λ k r h. (r, h, λ f g. g); still = λ p h. h; same = λ p e h. inr h; less = omega arith }

pub found_on : (delay most : ℕ) (old new : EntryTable) → Moved delay most old new → (k : ProgramPoint) (r : AbstractState) → Found delay old.entries.items k r → Found delay new.entries.items k r
found_on delay most old new moved k r found = let g = moved.grows k found.0 found.1 in (g.0, g.1, λ f h. g.2 f (found.2 f h))

pub move_on : (delay most : ℕ) (old mid new : EntryTable) → Moved delay most old mid → Moved delay most mid new → Moved delay most old new
move_on delay most old mid new a b = record {
  count = b.count ∙ a.count;
  grows = λ k r h. found_on delay most mid new b k r (a.grows k r h);
  still = λ p h. b.still p (a.still p h);
  same = λ p e h. same p e (b.same p e h);
  less = let x = a.less in let y = b.less in omega arith;
} where
  at : (p : ℕ) (e : Successor) → (waits mid.worklist.items p ≡ true) ⊎ (slice_get old.entries.items p ≡ Some (Some e)) → (waits new.worklist.items p ≡ true) ⊎ (slice_get old.entries.items p ≡ Some (Some e))
  at p e (inl h) = inl (b.still p h)
  at p e (inr h) = inr h

  same : (p : ℕ) (e : Successor) → (waits new.worklist.items p ≡ true) ⊎ (slice_get mid.entries.items p ≡ Some (Some e)) → (waits new.worklist.items p ≡ true) ⊎ (slice_get old.entries.items p ≡ Some (Some e))
  same p e (inl h) = inl h
  same p e (inr h) = at p e (a.same p e h)

pub set_here : {A : Type 0} (xs : List A) (p : ℕ) (o v : A) → slice_get xs p ≡ Some o → slice_get (slice_set xs p v) p ≡ Some v
set_here [] p o v h = absurd cc
set_here (x ∷ xs) zero o v h = refl
set_here (x ∷ xs) (suc p) o v h = set_here xs p o v h

set_other : {A : Type 0} (xs : List A) (p q : ℕ) (v : A) → q ≢ p → slice_get (slice_set xs p v) q ≡ slice_get xs q
set_other [] p q v h = refl
set_other (x ∷ xs) zero zero v h = absurd (h refl)
set_other (x ∷ xs) zero (suc q) v h = refl
set_other (x ∷ xs) (suc p) zero v h = refl
set_other (x ∷ xs) (suc p) (suc q) v h = set_other xs p q v (λ e. h (ap suc e))

-- what is found in an entry is found in the one that is set in its place
abbrev pub Keeps : Option Successor → Successor → Type 0
Keeps o b = (k : ProgramPoint) (r : AbstractState) → state_in k o ≡ Some r → (state_in k (Some b) ≡ Some b.state) × Within r b.state

-- an entry is set that keeps what was found, and lacks less
pub set_moved : (delay most place : ℕ) (o : Option Successor) (b : Successor) (old new : EntryTable) → slice_get old.entries.items place ≡ Some o → Sets place b old new → Keeps o b
    → lack_in most (Some b) < lack_in most o → Moved delay most old new
set_moved delay most place o b old new there sets keeps lacks = record {
  count = ap length sets.entries ∙ set_count old.entries.items place (Some b);
  grows = λ k r h. grows k r h (place_at delay k == place) refl;
  still = λ p h. ap (λ xs. waits xs p) sets.worklist ∙ waits_still old.worklist.items place p h;
  same = λ p e h. same p e (set_get old.entries.items place p (Some b) (Some e) (ap (λ xs. slice_get xs p) (sym sets.entries) ∙ h));
  less =
      let x = lack_set most old.entries.items place o (Some b) there in
      let y = ap (lack most) sets.entries in
      let z = ap length sets.worklist ∙ worklist_more old.worklist.items place in
      omega arith;
} where
  grows : (k : ProgramPoint) (r : AbstractState) → state_at delay old.entries.items k ≡ Some r → (c : Bool) → (place_at delay k == place) ≡ c → Found delay new.entries.items k r
  grows k r h true is =
      let at = eqb-true (place_at delay k) place is in
      let x = keeps k r (sym (ap (option_and_then (state_in k)) (ap (slice_get old.entries.items) at ∙ there)) ∙ h) in
      (b.state, ap (option_and_then (state_in k)) (ap (λ xs. slice_get xs (place_at delay k)) sets.entries ∙ ap (slice_get (slice_set old.entries.items place (Some b))) at ∙ set_here old.entries.items place o (Some b) there) ∙ x.0, x.1)
  grows k r h false is =
      (r, ap (option_and_then (state_in k)) (ap (λ xs. slice_get xs (place_at delay k)) sets.entries ∙ set_other old.entries.items place (place_at delay k) (Some b) (λ e. let f = eq-eqb _ _ e in let g = is in cc)) ∙ h, λ f g. g)

  same : (p : ℕ) (e : Successor) → ((place ≡ p) × (Some e ≡ Some b)) ⊎ (slice_get old.entries.items p ≡ Some (Some e)) → (waits new.worklist.items p ≡ true) ⊎ (slice_get old.entries.items p ≡ Some (Some e))
  same p e (inl r) = inl (ap (λ xs. waits xs p) sets.worklist ∙ ap (waits (old.worklist.items ++ (place ∷ []))) (sym r.0) ∙ waits_new old.worklist.items place)
  same p e (inr r) = inr r
