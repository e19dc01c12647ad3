-- What brings a word to the output, and the word 0 to control.
use Rattle.std.proofs.Common.{◌≡◌, ◌+◌, ◌*◌, ◌-◌, ◌/◌, ◌^◌, ◌≤◌, ◌<◌, inl, inr, ℕ, zero, suc, Bool, true, false, List, [], ◌∷◌, Option, Some, None, refl, ap, subst, arith, ◌∙◌, length, slice_get}
use Rattle.std.specs.Prelude.{◌&&◌, ◌||◌, ◌==◌, nat_lt, nat_le, if◌then◌else◌, is_some, ⊤}
use Rattle.std.specs.Option.{option_map_or, unwrap_or}
use Rattle.std.specs.List.{list_all, list_any, range_with_len}
use Rattle.std.proofs.lemmas.Bool.{and_parts, and_from, cases_lt}
use Rattle.std.proofs.lemmas.Bool.Decides.{nat_tests}
use Rattle.std.proofs.lemmas.Nat.{pow_pos, pow-add, div_below, le-div}
use Rattle.std.proofs.lemmas.Option.{slice_get_past}
use Rattle.tta_list.proofs.Lists.{list_all_one, all_one, some_within}
use Rattle.tta_list.proofs.Tests.{some_same}
use Rattle.tta_arch.specs.declared.ends.Source.TheVariants as source
use Rattle.tta_arch.specs.declared.ends.Dest.TheVariants as dest
use Rattle.tta_select.specs.Cited.{Bus, Socket, UnitOp, Op, Ldw, Stw, Ldf, Stf, Out, Set, Machine, op_at, has_bit, holds_word, is_source_on, is_dest_on, joins, is_same, IsMachine, IsBusSet, is_socket, is_port_socket, is_from_to, is_unit, is_unit_op, fits_kind, same_op, Call, first_by, call_if, anywhere, Port, joined}
use Rattle.tta_arch.specs.declared.parts.Unit.{Unit as OpUnit}
use Rattle.tta_arch.specs.declared.parts.Op.TheVariants.{Take as TakeIn}
use Rattle.tta_select.specs.Select.{trigger_at, no_call}
use Rattle.tta_select.specs.Direct.{out_of, brings}
use Rattle.tta_select.proofs.Firsts.{first_there}
use Rattle.tta_select.proofs.Offers.{if_true, three}
use Rattle.tta_moves.proofs.Buses.{any_below as any_at}

-- ---- a bus leads to control

-- a set with something in it has a number below its bound
some_bit : (n mask : ℕ) → 0 < mask → mask < 2 ^ n → (k : ℕ) × (k < n) × (has_bit mask k ≡ true)
some_bit zero mask some most = absurd (omega arith)
some_bit (suc n) mask some most = elim (cases_lt mask (2 ^ n)) [
  | inl low ↦
      let below = some_bit n mask some low in
      (below.0, (let lt = below.1 in omega (arith, lt)), below.2)
  | inr high ↦
      let pos : 0 < 2 ^ n = pow_pos n in
      let twice : 2 ^ (1 + n) ≡ 2 * 2 ^ n = pow-add 2 1 n in
      let next : 1 + n ≡ suc n = omega arith in
      let most' : mask < 2 * 2 ^ n = subst (λ (k : ℕ). mask < k) (subst (λ (k : ℕ). 2 ^ k ≡ 2 * 2 ^ n) next twice) most in
      let least : 1 ≤ mask / 2 ^ n = le-div 1 mask (2 ^ n) pos (omega (arith, high)) in
      let less : mask / 2 ^ n < 2 = div_below mask (2 ^ n) 2 pos (omega (arith, most')) in
      let one : mask / 2 ^ n ≡ 1 = omega (arith, least, less) in
      (n, (omega arith), rw one refl)
]

zero_held : (b : Bus) → holds_word b 0 ≡ true
zero_held b = on b.signed where
  high : 0 / 2 ^ (b.short - 1) ≡ 0
  high = let pos : 0 < 2 ^ (b.short - 1) = pow_pos (b.short - 1) in let h = div_below 0 (2 ^ (b.short - 1)) 1 pos (omega (arith, pos)) in omega (arith, h)

  on : (signed : Bool) → (if signed then 0 / 2 ^ (b.short - 1) == 0 || 0 / 2 ^ (b.short - 1) == 2 ^ (33 - b.short) - 1 else nat_lt 0 (2 ^ b.short)) ≡ true
  on true = rw high refl
  on false = let pos : 0 < 2 ^ b.short = pow_pos b.short in grind (arith, nat_tests)

-- every bus takes the word 0 from its short field
zero_on : (m : Machine) (bus : ℕ) → bus < length m.buses → is_source_on m bus (source.Value 0) ≡ true
zero_on m bus lt = on (slice_get m.buses bus) refl where
  on : (o : Option Bus) → slice_get m.buses bus ≡ o → option_map_or (λ b. holds_word b 0) o false ≡ true
  on None e = let h : is_some (slice_get m.buses bus) ≡ true = some_within m.buses bus lt in absurd cc
  on (Some b) e = zero_held b

-- some bus stands in the socket of control
to_control : (m : Machine) → IsMachine m → (bus : ℕ) × (bus < length m.buses) × (is_dest_on m bus dest.Halt ≡ true)
to_control m rules = on (slice_get m.sockets m.control.trigger) refl there where
  there : is_socket m.sockets true m.control.trigger ≡ true
  there =
      (and_parts (nat_le m.control.delay 4 && is_from_to 1 16 m.control.address) (is_socket m.sockets true m.control.trigger)
      (and_parts (nat_le m.control.delay 4 && is_from_to 1 16 m.control.address && is_socket m.sockets true m.control.trigger) (is_port_socket m.sockets false m.control.ra) rules.control).0).1

  on : (o : Option Socket) → slice_get m.sockets m.control.trigger ≡ o → option_map_or (λ s. is_same true s.input) o false ≡ true
      → (bus : ℕ) × (bus < length m.buses) × (option_map_or (λ s. is_same true s.input && has_bit s.buses bus) (slice_get m.sockets m.control.trigger) false ≡ true)
  on None e h = absurd cc
  on (Some s) e h =
      let set = all_one (λ (s : Socket). IsBusSet (length m.buses) s.buses) m.sockets m.control.trigger s rules.sockets e in
      let k = some_bit (length m.buses) s.buses set.0 set.1 in
      (k.0, k.1, ap (λ (o : Option Socket). option_map_or (λ s. is_same true s.input && has_bit s.buses k.0) o false) e ∙ and_from (is_same true s.input) (has_bit s.buses k.0) h k.2)

-- the word 0 can be moved to control
pub halt_joined : (m : Machine) → IsMachine m → joined m (Port (source.Value 0)) dest.Halt None ≡ true
halt_joined m rules =
    let t = to_control m rules in
    any_at (λ bus. joins m bus (source.Value 0) dest.Halt None) 0 (length m.buses) t.0 (omega arith) (let lt = t.1 in omega (arith, lt)) (rw (zero_on m t.0 t.1, t.2) refl)

-- ---- the unit that outputs

out_is : (o : UnitOp) → o.op ≡ Out → fits_kind o ≡ true → o ≡ record { op = Out; arity = 1; latency = o.latency }
out_is o is fits =
    let f : fits_kind (record o { op = Out }) ≡ true = subst (λ (p : Op). fits_kind (record o { op = p }) ≡ true) is fits in
    let a : (o.arity == 1) ≡ true = (and_parts (o.arity == 1) (o.latency == 0) f).0 in
    let n : o.arity ≡ 1 = grind (arith, nat_tests) in
    ap (λ (p : Op). record { op = p; arity = o.arity; latency = o.latency }) is ∙ ap (λ (k : ℕ). record { op = Out; arity = k; latency = o.latency }) n

same_out : (o : Op) → same_op o Out ≡ true → o ≡ Out
same_out Ldw e = absurd cc
same_out Stw e = absurd cc
same_out Ldf e = absurd cc
same_out Stf e = absurd cc
same_out Out e = refl
same_out TakeIn e = absurd cc
same_out (Set id) e = absurd cc

no_bus : (test : ℕ → Bool) (a n : ℕ) → ((k : ℕ) → test k ≡ false) → list_any test (range_with_len a n) ≡ true → ⊥
no_bus test a zero h e = cc
no_bus test a (suc n) h e = on (test a) (h a) e (λ f. no_bus test (a + 1) n h f) where
  on : (b : Bool) → b ≡ false → (b || list_any test (range_with_len (a + 1) n)) ≡ true → (list_any test (range_with_len (a + 1) n) ≡ true → ⊥) → ⊥
  on true f e ih = cc
  on false f e ih = ih e

-- no bus leads to a unit that is not there
not_there : (m : Machine) → IsMachine m → (w : ℕ) → joined m (Port (source.Value w)) (dest.Trigger 32 0) None ≡ true → ⊥
not_there m rules w e = no_bus (λ bus. joins m bus (source.Value w) (dest.Trigger 32 0) None) 0 (length m.buses) (λ bus. nothing bus) e where
  past : slice_get m.units 32 ≡ None
  past = let few = rules.limits.units in slice_get_past m.units 32 few

  off : (b : Bool) → (b && false && true) ≡ false
  off true = refl
  off false = refl

  nothing : (bus : ℕ) → joins m bus (source.Value w) (dest.Trigger 32 0) None ≡ false
  nothing bus = rw past (off (is_source_on m bus (source.Value w)))

-- the unit outputs words at this operation
abbrev pub Outputs : Machine → (unit op : ℕ) → Type 0
Outputs m unit op = (latency : ℕ) × (op_at m unit op ≡ Some (record { op = Out; arity = 1; latency = latency }))

-- where some words are to be output, the unit does so
abbrev pub CanOutput : Machine → Call → List ℕ → Type 0
CanOutput m f [] = ⊤
CanOutput m f (w ∷ words) = Outputs m f.unit f.op

-- so it is for any words
pub can_output : (m : Machine) (f : Call) (words : List ℕ) → Outputs m f.unit f.op → CanOutput m f words
can_output m f [] o = tt
can_output m f (w ∷ words) o = o

-- where a word is brought to the output, there is a unit that outputs it
pub outputs : (m : Machine) → IsMachine m → (w : ℕ) → brings m w ≡ true → Outputs m (out_of m).unit (out_of m).op
outputs m rules w e = on (anywhere m Out) refl e where
  at_call : (unit k : ℕ) (v : OpUnit) (o : UnitOp) → slice_get m.units unit ≡ Some v → slice_get v.ops k ≡ Some o → o.op ≡ Out → (f : Call) → record { unit = unit; op = k; does = o } ≡ f → Outputs m f.unit f.op
  at_call unit k v o hv ho is f same =
      let unit_ok : is_unit m.sockets v ≡ true = list_all_one (is_unit m.sockets) m.units unit v rules.units hv in
      let ops_ok : list_all (is_unit_op v) v.ops ≡ true = grind (arith, unit_ok) in
      let op_ok : is_unit_op v o ≡ true = list_all_one (is_unit_op v) v.ops k o ops_ok ho in
      let fits : fits_kind o ≡ true = (three (fits_kind o) (o.arity == 1 || is_some v.operand) _ op_ok).0 in
      let there : op_at m unit k ≡ Some o = rw (hv, ho) refl in
      subst (λ (g : Call). Outputs m g.unit g.op) same (o.latency, there ∙ ap Some (out_is o is fits))

  on : (found : Option Call) → anywhere m Out ≡ found → joined m (Port (source.Value w)) (trigger_at (unwrap_or found (no_call Out))) None ≡ true
      → Outputs m (unwrap_or found (no_call Out)).unit (unwrap_or found (no_call Out)).op
  on None is e = absurd (not_there m rules w e)
  on (Some f) is e =
      let a = first_there (λ unit (v : OpUnit). first_by (call_if Out unit) 0 v.ops) m.units f is in
      let d = first_there (call_if Out a.at) a.item.ops f a.answers in
      let t = if_true (same_op d.item.op Out) (Some (record { unit = a.at; op = d.at; does = d.item })) f d.answers in
      at_call a.at d.at a.item d.item a.there d.there (same_out d.item.op t.0) f (some_same t.1)

-- where some words are brought to the output, it can output them
pub can : (m : Machine) → IsMachine m → (words : List ℕ) → list_all (brings m) words ≡ true → CanOutput m (out_of m) words
can m rules [] all = tt
can m rules (w ∷ words) all = outputs m rules w (and_parts (brings m w) (list_all (brings m) words) all).0
