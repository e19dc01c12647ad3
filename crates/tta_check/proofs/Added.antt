-- Lists of places that grow.
use Rattle.std.proofs.Common.{◌≡◌, ℕ, suc, ◌<◌, ◌≤◌, length, Bool, true, false, List, [], ◌∷◌, map, Some, refl, ap, sym, subst, ◌∙◌, arith, ◌⊎◌, inl, inr}
use Rattle.std.specs.Prelude.{◌||◌, ◌+◌, nat_le, slice_get}
use Rattle.std.proofs.lemmas.Bool.{leb-true, leb-false}
use Rattle.std.specs.Option.{option_map_or}
use Rattle.std.specs.List.{list_any}
use Rattle.std.proofs.lemmas.List.Folds.{list_any-append}
use Rattle.std.proofs.lemmas.Option.{slice_get_within}
use Rattle.tta_check.specs.Cited.{Template, Machine, KeptImm, target_of, long_effect, Long, Instruction, effect_of, moves_of, long_effects, effects_of}
use Rattle.tta_arch.specs.Effects.{same_place}
use Rattle.tta_check.specs.declared.location.Location.{Location}
use Rattle.tta_check.specs.Facts.{goes_into}
use Rattle.tta_check.specs.Locations.{has_location, Keeps, HasWritten, HasAll, Adds}
use Rattle.tta_check.proofs.Slots.{any_slots}
use Rattle.tta_arch.proofs.Places.{same_is}

pub none_kept : (locations : List Location) → Keeps locations locations
none_kept locations p h = h

-- each place that the first of some things write
pub record Added {A : Type 0} (Has : A → List Location → Type 0) (xs : List A) (n : ℕ) (old new : List Location) : Type 0 where
  pub kept : Keeps old new
  pub there : (k : ℕ) (x : A) → k < n → slice_get xs k ≡ Some x → Has x new

pub added_none : {A : Type 0} (Has : A → List Location → Type 0) (xs : List A) (locations : List Location) → Added Has xs 0 locations locations
added_none Has xs locations = record { kept = λ p h. h; there = λ k x below is. absurd (omega arith) }

-- what is had is kept
abbrev pub Stays : {A : Type 0} → (A → List Location → Type 0) → Type 0
Stays {A} Has = (x : A) (old new : List Location) → Keeps old new → Has x old → Has x new

pub added_more : {A : Type 0} (Has : A → List Location → Type 0) → Stays Has → (xs : List A) (n : ℕ) (x : A) (first old new : List Location) → slice_get xs n ≡ Some x
    → Added Has xs n first old → Keeps old new → Has x new → Added Has xs (n + 1) first new
added_more {A} Has stays xs n x first old new is a kept has = record { kept = λ p h. kept p (a.kept p h); there = there } where
  same : (y : A) → Some x ≡ Some y → x ≡ y
  same y e = cc

  there : (k : ℕ) (y : A) → k < n + 1 → slice_get xs k ≡ Some y → Has y new
  there k y below at = on (nat_le n k) refl where
    on : (b : Bool) → nat_le n k ≡ b → Has y new
    on true h = let e : k ≡ n = (let f = leb-true n k h in omega arith) in subst (λ z. Has z new) (same y (sym is ∙ ap (slice_get xs) (sym e) ∙ at)) has
    on false h = stays y old new kept (a.there k y (let f = leb-false n k h in omega arith) at)

pub added_all : {A : Type 0} (Has : A → List Location → Type 0) (xs : List A) (n : ℕ) (old new : List Location) → length xs ≤ n → Added Has xs n old new → Adds Has xs old new
added_all Has xs n old new all a = record { kept = a.kept; there = λ k x is. a.there k x (let e = slice_get_within xs k x is in omega arith) is }

pub written_stays : Stays HasWritten
written_stays slot old new kept has p h = kept p (has p h)

pub all_stays : (m : Machine) → Stays (λ (i : Instruction) locations. HasAll (effects_of m i) locations)
all_stays m i old new kept has p h = kept p (has p h)

-- ---- an instruction

pub either : (a b : Bool) → (a || b) ≡ true → (a ≡ true) ⊎ (b ≡ true)
either true b h = inl refl
either false b h = inr h

any_index : {A : Type 0} (q : A → Bool) (xs : List A) → list_any q xs ≡ true → (k : ℕ) × (x : A) × (slice_get xs k ≡ Some x) × (q x ≡ true)
any_index q [] h = absurd cc
any_index {A} q (x ∷ xs) h = on (either (q x) (list_any q xs) h) (any_index q xs) where
  on : (q x ≡ true) ⊎ (list_any q xs ≡ true) → (list_any q xs ≡ true → (k : ℕ) × (y : A) × (slice_get xs k ≡ Some y) × (q y ≡ true)) → (k : ℕ) × (y : A) × (slice_get (x ∷ xs) k ≡ Some y) × (q y ≡ true)
  on (inl is) more = (0, x, refl, is)
  on (inr is) more = let r = more is in (suc r.0, r.1, r.2, r.3)

pub one_there : (m : Machine) (l : Long) (t : Template) (locations : List Location) → slice_get m.templates l.template ≡ Some t → has_location locations (KeptImm t.imm t.reg) ≡ true → HasAll (long_effects m (Some l)) locations
one_there m l t locations is has p h =
    on (either (same_place (KeptImm t.imm t.reg) p) false (sym (ap (λ o. list_any (λ e. goes_into p e.target) (option_map_or (λ t. long_effect t.imm t.reg l.value ∷ []) o [])) is) ∙ h)) where
      on : (same_place (KeptImm t.imm t.reg) p ≡ true) ⊎ (false ≡ true) → has_location locations p ≡ true
      on (inl e) = subst (λ q. has_location locations q ≡ true) (same_is (KeptImm t.imm t.reg) p e) has
      on (inr e) = absurd cc

pub instruction_there : (m : Machine) (i : Instruction) (old mid new : List Location) → Adds HasWritten i.moves old mid → Keeps mid new → HasAll (long_effects m i.long) new → HasAll (effects_of m i) new
instruction_there m i old mid new moves kept long p h =
    on (either _ _ (sym (list_any-append (λ e. goes_into p e.target) (map effect_of (moves_of i)) (long_effects m i.long)) ∙ h)) where
      on : (list_any (λ e. goes_into p e.target) (map effect_of (moves_of i)) ≡ true) ⊎ (list_any (λ e. goes_into p e.target) (long_effects m i.long) ≡ true) → has_location new p ≡ true
      on (inl is) =
          let r = any_index (λ o. option_map_or (λ v. goes_into p (target_of v.dst)) o false) i.moves (sym (any_slots (λ e. goes_into p e.target) i.moves) ∙ is) in
          kept p (moves.there r.0 r.1 r.2 p r.3)
      on (inr is) = long p is
