-- At most one operation of a kind starts in a cycle, where one unit alone may serve the kind.
use Rattle.std.proofs.Common.{◌≡◌, ℕ, ◌≤◌, ◌==◌, Bool, true, false, not, List, [], ◌∷◌, length, filter, slice_get, Option, Some, None, refl, sym, ap, ◌∙◌, subst, arith}
use Rattle.std.specs.Prelude.{if◌then◌else◌, option_and_then, fold}
use Rattle.std.specs.Option.{option_map_or}
use Rattle.std.specs.List.{find, list_any, filter_map, cons_option, AllByRecursion}
use Rattle.std.proofs.lemmas.Option.{none-some, same_Some}
use Rattle.std.proofs.lemmas.Bool.{and_parts, or_parts, or_from, false≢true, not-true, eq-eqb}
use Rattle.tta_list.proofs.Lists.{any_there}
use Rattle.tta_hardware.specs.Cited.{Op, UnitOp, Machine, are_different, has_one_owner, Reg, Imm, Control, Brought, Written, Start, start_of, op_at, operand_of}
use Rattle.tta_arch.specs.declared.parts.Unit.{Unit as OpUnit}
use Rattle.tta_arch.specs.Effects.{Operand, Trigger}
use Rattle.tta_arch.proofs.Takes.{one_owner}
use Rattle.tta_hardware.specs.Stands.{start_in}
use Rattle.tta_hardware.proofs.Goings.{found_not}

-- an operation that its unit offers
pub record IsOffered (m : Machine) (t : Start) : Type 0 where
  pub op : ℕ
  pub there : op_at m t.unit op ≡ Some t.does

offered : (m : Machine) (written : Written) (b : Brought) (t : Start) → start_of m written b ≡ Some t → IsOffered m t
offered m written (Trigger unit op, word) t is = by (op_at m unit op) refl is where
  by : (o : Option UnitOp) → op_at m unit op ≡ o
      → option_map_or (λ o. Some (record { unit = unit; does = o; operand = operand_of written unit o; word = word })) o None ≡ Some t
      → IsOffered m t
  by None at is = absurd (none-some t is)
  by (Some o) at is =
      let same = same_Some (record { unit = unit; does = o; operand = operand_of written unit o; word = word }) t is in
      record { op = op; there = ap (λ (x : Start). op_at m x.unit op) (sym same) ∙ at ∙ ap (λ (x : Start). Some x.does) same }
offered m written (Reg file index, word) t is = absurd (none-some t is)
offered m written (Imm unit index, word) t is = absurd (none-some t is)
offered m written (Operand unit, word) t is = absurd (none-some t is)
offered m written (Control kind, word) t is = absurd (none-some t is)

-- all that start are
pub all_offered : (m : Machine) (written : Written) (bs : List Brought) → AllByRecursion (IsOffered m) (filter_map (start_of m written) bs)
all_offered m written [] = tt
all_offered m written (b ∷ bs) = by (start_of m written b) refl (all_offered m written bs) where
  by : (o : Option Start) → start_of m written b ≡ o → AllByRecursion (IsOffered m) (filter_map (start_of m written) bs)
      → AllByRecursion (IsOffered m) (cons_option o (filter_map (start_of m written) bs))
  by None is rest = rest
  by (Some t) is rest = (offered m written b t is, rest)

-- one that is found is one of them
pub found_all : {A : Type 0} (P : A → Type 0) (q : A → Bool) (xs : List A) (x : A) → find q xs ≡ Some x → AllByRecursion P xs → P x
found_all P q [] x is all = absurd (none-some x is)
found_all P q (y ∷ xs) x is all = by (q y) is (λ then_is. found_all P q xs x then_is all.1) where
  by : (b : Bool) → (if b then Some y else find q xs) ≡ Some x → (find q xs ≡ Some x → P x) → P x
  by true is rest = subst P (same_Some y x is) all.0
  by false is rest = rest is

-- the first of a kind is the first of its unit, where no two are of one unit
pub first_of_unit : (q : Start → Bool) (ts : List Start) (t : Start) → are_different (λ a b. a.unit == b.unit) ts ≡ true
    → find q ts ≡ Some t → start_in t.unit ts ≡ Some t
first_of_unit q [] t apart is = absurd (none-some t is)
first_of_unit q (x ∷ ts) t apart is =
    let parts = and_parts (not (list_any (λ b. x.unit == b.unit) ts)) (are_different (λ a b. a.unit == b.unit) ts) apart in
    by (q x) is (not-true (list_any (λ b. x.unit == b.unit) ts) parts.0) (λ then_is. first_of_unit q ts t parts.1 then_is)
  where
    by : (b : Bool) → (if b then Some x else find q ts) ≡ Some t → list_any (λ b. x.unit == b.unit) ts ≡ false
        → (find q ts ≡ Some t → start_in t.unit ts ≡ Some t)
        → (if x.unit == t.unit then Some x else start_in t.unit ts) ≡ Some t
    by true is none rest =
        let same : x ≡ t = same_Some x t is in
        ap (λ b. if b then Some x else start_in t.unit ts) (eq-eqb x.unit t.unit (ap (λ (y : Start). y.unit) same)) ∙ ap (λ y. Some y) same
    by false is none rest = ap (λ b. if b then Some x else start_in t.unit ts) (found_not q (λ b. x.unit == b.unit) ts t is none) ∙ rest is

module _ (m : Machine) (kind : Op → Bool) (one : has_one_owner kind m.units ≡ true) where
  abbrev is_kind : Start → Bool
  is_kind t = kind t.does.op

  unit_at : (t : Start) → (o : IsOffered m t) → (x : OpUnit) × ((slice_get m.units t.unit ≡ Some x) × (slice_get x.ops o.op ≡ Some t.does))
  unit_at t o = by (slice_get m.units t.unit) refl o.there where
    by : (q : Option OpUnit) → slice_get m.units t.unit ≡ q → option_and_then (λ x. slice_get x.ops o.op) q ≡ Some t.does
        → (x : OpUnit) × ((slice_get m.units t.unit ≡ Some x) × (slice_get x.ops o.op ≡ Some t.does))
    by None is at = absurd (none-some t.does at)
    by (Some x) is at = (x, (is, at))

  -- two operations of the kind are of one unit
  pub same_unit : (t s : Start) → IsOffered m t → IsOffered m s → is_kind t ≡ true → is_kind s ≡ true → t.unit ≡ s.unit
  same_unit t s a b first second =
      let x = unit_at t a in
      let y = unit_at s b in
      let few : length (filter (λ u. list_any (λ o. kind o.op) u.ops) m.units) ≤ 1 = grind (arith, one) in
      one_owner (λ u. list_any (λ o. kind o.op) u.ops) m.units t.unit s.unit x.0 y.0 few x.1.0
      (any_there (λ o. kind o.op) x.0.ops a.op t.does x.1.1 first)
      y.1.0 (any_there (λ o. kind o.op) y.0.ops b.op s.does y.1.1 second)

  -- where one starts, no other does
  alone : (t : Start) (ts : List Start) → IsOffered m t → is_kind t ≡ true → AllByRecursion (IsOffered m) ts
      → list_any (λ b. t.unit == b.unit) ts ≡ false
      → list_any is_kind ts ≡ false
  alone t [] a is all none = refl
  alone t (s ∷ ts) a is all none =
      let parts = or_parts (t.unit == s.unit) (list_any (λ b. t.unit == b.unit) ts) none in
      or_from (is_kind s) (list_any is_kind ts) (other (is_kind s) refl parts.0) (alone t ts a is all.1 parts.1)
    where
      other : (b : Bool) → is_kind s ≡ b → (t.unit == s.unit) ≡ false → b ≡ false
      other true it apart = absurd (false≢true (sym apart ∙ eq-eqb t.unit s.unit (same_unit t s a all.0 is it)))
      other false it apart = refl

  module _ {X : Type 0} (does : X → Start → X) (quiet : (x : X) (t : Start) → is_kind t ≡ false → does x t ≡ x) where
    fold_none : (x : X) (ts : List Start) → list_any is_kind ts ≡ false → fold does x ts ≡ x
    fold_none x [] none = refl
    fold_none x (t ∷ ts) none =
        let parts = or_parts (is_kind t) (list_any is_kind ts) none in
        ap (λ y. fold does y ts) (quiet x t parts.0) ∙ fold_none x ts parts.1

    -- what all do is what the one of the kind does
    pub fold_one : (x : X) (ts : List Start) → are_different (λ a b. a.unit == b.unit) ts ≡ true → AllByRecursion (IsOffered m) ts
        → fold does x ts ≡ option_map_or (does x) (find is_kind ts) x
    fold_one x [] apart all = refl
    fold_one x (t ∷ ts) apart all =
        let parts = and_parts (not (list_any (λ b. t.unit == b.unit) ts)) (are_different (λ a b. a.unit == b.unit) ts) apart in
        by (is_kind t) refl (not-true (list_any (λ b. t.unit == b.unit) ts) parts.0) (fold_one x ts parts.1 all.1)
      where
        by : (b : Bool) → is_kind t ≡ b → list_any (λ b. t.unit == b.unit) ts ≡ false
            → fold does x ts ≡ option_map_or (does x) (find is_kind ts) x
            → fold does (does x t) ts ≡ option_map_or (does x) (if b then Some t else find is_kind ts) x
        by true is none rest = fold_none (does x t) ts (alone t ts all.0 is all.1 none)
        by false is none rest = ap (λ y. fold does y ts) (quiet x t is) ∙ rest
