-- Operations that are offered are there.
use Rattle.std.proofs.Common.{◌≡◌, ℕ, Bool, true, false, Option, Some, None, refl, sym, ap, subst, arith, ◌∙◌, slice_get, is_some}
use Rattle.std.specs.Prelude.{if◌then◌else◌, ◌==◌, ◌&&◌, ◌||◌, not}
use Rattle.std.specs.List.{list_all}
use Rattle.std.proofs.lemmas.Bool.Decides.{nat_tests}
use Rattle.tta_list.proofs.Lists.{list_all_one}
use Rattle.tta_list.proofs.Tests.{some_same}
use Rattle.tta_arch.specs.declared.parts.Unit.{Unit as OpUnit}
use Rattle.tta_select.specs.Cited.{UnitOp, Op, Ldw, Stw, Ldf, Stf, Out, Set, Machine, op_at, has_result, has_bit, IsMachine, is_unit, is_unit_op, fits_kind, same_op, Choice, Call, first_by, call_if, call_in, offered}
use Rattle.tta_arch.specs.declared.parts.Op.TheVariants.{Take}
use Rattle.tta_select.specs.Select.{call_of}
use Rattle.tta_select.specs.Ground.{IsServed}
use Rattle.tta_select.proofs.Firsts.{first_there}

pub same_op_is : (o q : Op) → same_op o q ≡ true → o ≡ q
same_op_is Ldw Ldw e = refl
same_op_is Stw Stw e = refl
same_op_is Ldf Ldf e = refl
same_op_is Stf Stf e = refl
same_op_is Out Out e = refl
same_op_is Take Take e = refl
same_op_is (Set a) (Set b) e = let same : a.0 ≡ b.0 = grind (arith, nat_tests) in ap (λ i. Set (record { 0 = i })) same
same_op_is o q e = absurd cc

pub three : (a b d : Bool) → (a && b && d) ≡ true → (a ≡ true) × (b ≡ true) × (d ≡ true)
three true true true e = (refl, refl, refl)
three true true false e = absurd cc
three true false d e = absurd cc
three false b d e = absurd cc

-- what is offered is there
pub record Offered (m : Machine) (usable : ℕ) (op : Op) (f : Call) : Type 0 where
  pub unit : OpUnit
  pub has : slice_get m.units f.unit ≡ Some unit
  pub number : slice_get unit.ops f.op ≡ Some f.does
  pub is_in : has_bit usable f.unit ≡ true
  pub operand : (f.does.arity == 1 || is_some unit.operand) ≡ true
  pub result : (not (has_result f.does.op) || is_some unit.result) ≡ true
  pub there : op_at m f.unit f.op ≡ Some f.does
  pub is : f.does.op ≡ op
  pub fits : fits_kind f.does ≡ true

pub if_true : {A : Type 0} (b : Bool) (o : Option A) (x : A) → (if b then o else None) ≡ Some x → (b ≡ true) × (o ≡ Some x)
if_true true o x e = (refl, e)
if_true false o x e = absurd cc

pub offered_there : (m : Machine) → IsMachine m → (usable : ℕ) (op : Op) (f : Call) → offered m usable op ≡ Some f → Offered m usable op f
offered_there m rules usable op f e =
    let a = first_there (call_in (has_bit usable) op) m.units f e in
    let b = if_true (has_bit usable a.at) (first_by (call_if op a.at) 0 a.item.ops) f (a.answers) in
    let d = first_there (call_if op a.at) a.item.ops f b.1 in
    let t = if_true (same_op d.item.op op) (Some (record { unit = a.at; op = d.at; does = d.item })) f (d.answers) in
    at_call a.at d.at a.item d.item a.there d.there b.0 (same_op_is d.item.op op t.0) f (some_same t.1) where
      at_call : (unit k : ℕ) (v : OpUnit) (o : UnitOp) → slice_get m.units unit ≡ Some v → slice_get v.ops k ≡ Some o → has_bit usable unit ≡ true → o.op ≡ op
          → (f : Call) → record { unit = unit; op = k; does = o } ≡ f → Offered m usable op f
      at_call unit k v o hv ho bit is f same =
          let unit_ok : is_unit m.sockets v ≡ true = list_all_one (is_unit m.sockets) m.units unit v rules.units hv in
          let ops_ok : list_all (is_unit_op v) v.ops ≡ true = grind (arith, unit_ok) in
          let op_ok : is_unit_op v o ≡ true = list_all_one (is_unit_op v) v.ops k o ops_ok ho in
          let parts = three (fits_kind o) (o.arity == 1 || is_some v.operand) (not (has_result o.op) || is_some v.result) op_ok in
          subst (λ f. Offered m usable op f) same (record { unit = v; has = hv; number = ho; is_in = bit; operand = parts.1; result = parts.2; there = rw (hv, ho) refl; is = is; fits = parts.0 })

pub serves : (m : Machine) (c : Choice) → IsMachine m → (op : Op) → is_some (offered m c.usable op) ≡ true → IsServed m c op
serves m c rules op e = on (offered m c.usable op) refl e where
  on : (o : Option Call) → offered m c.usable op ≡ o → is_some o ≡ true → IsServed m c op
  on None is e = absurd cc
  on (Some f) is e =
      let a = offered_there m rules c.usable op f is in
      let same : call_of m c op ≡ f = rw is refl in
      let whole : f.does ≡ record (f.does) { op = op } = ap (λ q. record (f.does) { op = q }) (a.is) in
      record {
        there = subst (λ g. op_at m g.unit g.op ≡ Some (record (g.does) { op = op })) (sym same) (a.there ∙ ap Some whole);
        fits = subst (λ g. fits_kind (record (g.does) { op = op }) ≡ true) (sym same) (subst (λ d. fits_kind d ≡ true) whole (a.fits));
      }
