-- Tables into which something is put.
use Rattle.std.proofs.Common.{◌≡◌, ℕ, zero, suc, ◌≤◌, length, List, [], ◌∷◌, map, Option, Some, None, refl, ap, sym, subst, ◌∙◌, ◌⊎◌, inl, inr, arith}
use Rattle.std.specs.Prelude.{slice_get, slice_set}
use Rattle.tta_check.specs.Cited.{Machine, Kind, Instruction, Code, effects_of}
use Rattle.tta_check.specs.declared.guard_value.GuardValue.{GuardValue}
use Rattle.tta_check.specs.declared.transfer_function.Transfer.{Transfer}
use Rattle.tta_check.specs.Controls.{controller, does}
use Rattle.tta_check.specs.Transfers.{kept_after}
use Rattle.tta_check.specs.Visits.{transfer_at, IsWay, IsActs, IsStays, GoesOn}
use Rattle.tta_check.specs.Carries.{CanCarry}
use Rattle.tta_check.proofs.Visiting.{count_after}
use Rattle.tta_check.proofs.Ways.{acts_way, stays_way}
use Rattle.tta_check.specs.declared.state.Kept.{Kept}
use Rattle.tta_check.specs.declared.entries.EntryTable.{EntryTable}
use Rattle.tta_check.specs.declared.visit.Successor.{Successor}
use Rattle.tta_check.specs.Joins.{join_list}
use Rattle.tta_check.specs.Going.{point_as}
use Rattle.tta_check.specs.Tables.{place_at, Fits, FitsSome, FitsBoth, Sets, Puts, Fresh, Grown, Calm, PutSome}
use Rattle.tta_check.proofs.Placing.{join_count}
use Rattle.tta_list.proofs.Sets.{set_count}

pub set_get : {A : Type 0} (xs : List A) (p q : ℕ) (v e : A) → slice_get (slice_set xs p v) q ≡ Some e → ((p ≡ q) × (e ≡ v)) ⊎ (slice_get xs q ≡ Some e)
set_get [] p q v e h = absurd cc
set_get {A} (x ∷ xs) zero zero v e h = inl (refl, same h) where
  same : Some v ≡ Some e → e ≡ v
  same h = cc
set_get (x ∷ xs) zero (suc q) v e h = inr h
set_get (x ∷ xs) (suc p) zero v e h = inr h
set_get {A} (x ∷ xs) (suc p) (suc q) v e h = on (set_get xs p q v e h) where
  on : ((p ≡ q) × (e ≡ v)) ⊎ (slice_get xs q ≡ Some e) → ((suc p ≡ suc q) × (e ≡ v)) ⊎ (slice_get xs q ≡ Some e)
  on (inl r) = inl (ap suc r.0, r.1)
  on (inr r) = inr r

join_cells_count : (ks ls : List Kept) → length (join_list ks ls) ≡ length ks
join_cells_count [] ls = refl
join_cells_count (k ∷ ks) [] = refl
join_cells_count (k ∷ ks) (l ∷ ls) = let e = join_cells_count ks ls in omega arith

-- an entry that is set is as long
fits_set : (delay len p : ℕ) (y b : Successor) (old new : EntryTable) → Fits delay len y old → Sets p b old new → length b.state.cells.items ≡ length y.state.cells.items → length b.state.ports.items ≡ length y.state.ports.items
    → Fits delay len y new
fits_set delay len p y b old new fits sets cells ports = record {
  count = ap length sets.entries ∙ set_count old.entries.items p (Some b) ∙ fits.count;
  few = fits.few;
  cells = λ q e h. by q e (set_get old.entries.items p q (Some b) (Some e) (ap (λ xs. slice_get xs q) (sym sets.entries) ∙ h));
  ports = λ q e h. at q e (set_get old.entries.items p q (Some b) (Some e) (ap (λ xs. slice_get xs q) (sym sets.entries) ∙ h));
} where
  same : (e : Successor) → Some e ≡ Some b → e ≡ b
  same e h = cc

  by : (q : ℕ) (e : Successor) → ((p ≡ q) × (Some e ≡ Some b)) ⊎ (slice_get old.entries.items q ≡ Some (Some e)) → length e.state.cells.items ≡ length y.state.cells.items
  by q e (inl r) = ap (λ x. length x.state.cells.items) (same e r.1) ∙ cells
  by q e (inr r) = fits.cells q e r

  at : (q : ℕ) (e : Successor) → ((p ≡ q) × (Some e ≡ Some b)) ⊎ (slice_get old.entries.items q ≡ Some (Some e)) → length e.state.ports.items ≡ length y.state.ports.items
  at q e (inl r) = ap (λ x. length x.state.ports.items) (same e r.1) ∙ ports
  at q e (inr r) = fits.ports q e r

-- a table into which something as long was put
pub fits_puts : (delay len : ℕ) (x y : Successor) (old new : EntryTable) → Fits delay len y old → Puts delay x old new → length x.state.cells.items ≡ length y.state.cells.items → length x.state.ports.items ≡ length y.state.ports.items
    → Fits delay len y new
fits_puts delay len x y old new fits (Fresh none sets) cells ports = fits_set delay len (place_at delay (point_as x.point)) y x old new fits sets cells ports
fits_puts delay len x y old new fits (Grown e both there joins more sets) cells ports =
    fits_set delay len (place_at delay (point_as x.point)) y both old new fits sets
    (ap length joins.join.cells ∙ join_cells_count e.state.cells.items x.state.cells.items ∙ fits.cells (place_at delay (point_as x.point)) e there)
    (ap length joins.join.ports ∙ join_count e.state.ports.items x.state.ports.items ∙ fits.ports (place_at delay (point_as x.point)) e there)
fits_puts delay len x y old new fits (Calm e both there joins same is) cells ports = subst (Fits delay len y) (sym is) fits

pub fits_mid : (delay len : ℕ) (acts stays : Option Successor) (old mid : EntryTable) → FitsBoth delay len acts stays old → PutSome delay len acts old mid None → FitsSome delay len stays mid
fits_mid delay len None stays old mid both put = subst (FitsSome delay len stays) (sym put.0) both.other
fits_mid delay len (Some x) None old mid both put = tt
fits_mid delay len (Some x) (Some y) old mid both put = fits_puts delay len x y old mid both.other put (both.cells x y refl refl) (both.ports x y refl refl)

-- ---- what an instruction leads to is as long

kept_count : (m : Machine) (i : Instruction) (how : Transfer) (ks rest : List Kept) → length (map (kept_after m i how ks) rest) ≡ length rest
kept_count m i how ks [] = refl
kept_count m i how ks (k ∷ rest) = let e = kept_count m i how ks rest in omega arith

-- as long as another
abbrev AsLong : Successor → Successor → Type 0
AsLong x at = (length x.state.cells.items ≡ length at.state.cells.items) × (length x.state.ports.items ≡ length at.state.ports.items)

way_long : (m : Machine) (i : Instruction) (at x : Successor) (guard_value : Option GuardValue) (event : Option (Kind × ℕ)) → IsWay m i at guard_value event (Some x) → AsLong x at
way_long m i at x guard_value event way =
    let how = transfer_at m (point_as at.point) guard_value in
    (ap length (way.cells x refl) ∙ kept_count m i how at.state.cells.items at.state.cells.items, ap length (way.ports x refl) ∙ count_after m i how 0 at.state.ports.items)

acts_long : (m : Machine) (i : Instruction) (at x : Successor) (acts stays : Option Successor) → GoesOn m i at acts stays → acts ≡ Some x → AsLong x at
acts_long m i at x acts stays g is =
    let w = acts_way m i at g.word x (subst (λ o. IsActs m i at (controller (effects_of m i)) g.word o) is g.where_acts) in
    way_long m i at x w.guard_value (does g.word (controller (effects_of m i)) w.acts) w.way

stays_long : (m : Machine) (i : Instruction) (at x : Successor) (acts stays : Option Successor) → GoesOn m i at acts stays → stays ≡ Some x → AsLong x at
stays_long m i at x acts stays g is =
    let w = stays_way m i at g.word x (subst (λ o. IsStays m i at (controller (effects_of m i)) o) is g.where_stays) in
    way_long m i at x w.guard_value (does g.word (controller (effects_of m i)) w.acts) w.way

fits_one : (m : Machine) (code : Code) (place : ℕ) (t : EntryTable) (at x : Successor) → CanCarry m code place t → slice_get t.entries.items place ≡ Some (Some at) → AsLong x at → Fits m.control.delay (length code.words) x t
fits_one m code place t at x can there long = record {
  count = can.count;
  few = subst (λ n. n ≤ 256) (sym (long.1 ∙ can.ports place at there)) can.few;
  cells = λ p e h. can.cells p e h ∙ sym (long.0 ∙ can.cells place at there);
  ports = λ p e h. can.ports p e h ∙ sym (long.1 ∙ can.ports place at there);
}

fits_some : (m : Machine) (code : Code) (place : ℕ) (t : EntryTable) (at : Successor) (o : Option Successor) → CanCarry m code place t → slice_get t.entries.items place ≡ Some (Some at) → ((x : Successor) → o ≡ Some x → AsLong x at)
    → FitsSome m.control.delay (length code.words) o t
fits_some m code place t at None can there long = tt
fits_some m code place t at (Some x) can there long = fits_one m code place t at x can there (long x refl)

pub goes_fit : (m : Machine) (code : Code) (place : ℕ) (t : EntryTable) (at : Successor) (i : Instruction) (acts stays : Option Successor) → CanCarry m code place t → slice_get t.entries.items place ≡ Some (Some at)
    → GoesOn m i at acts stays → FitsBoth m.control.delay (length code.words) acts stays t
goes_fit m code place t at i acts stays can there g = record {
  one = fits_some m code place t at acts can there (λ x is. acts_long m i at x acts stays g is);
  other = fits_some m code place t at stays can there (λ x is. stays_long m i at x acts stays g is);
  cells = λ x y is1 is2. (acts_long m i at x acts stays g is1).0 ∙ sym (stays_long m i at y acts stays g is2).0;
  ports = λ x y is1 is2. (acts_long m i at x acts stays g is1).1 ∙ sym (stays_long m i at y acts stays g is2).1;
}
