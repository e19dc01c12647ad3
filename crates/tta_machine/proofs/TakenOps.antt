-- One operation more keeps the draft's rules.
use Rattle.std.proofs.Common.{◌≡◌, ◌<◌, ◌+◌, ◌++◌, ◌∷◌, [], ℕ, Bool, List, Option, Some, None, true, false, not, suc, length, refl, subst, arith, length-set, ◌⊎◌, inl, inr, get_or, codes, is_some, is_none, option_map}
use Rattle.std.specs.Prelude.{◌&&◌, ◌||◌, ◌==◌, nat_le, slice_get, slice_set, if◌then◌else◌}
use Rattle.std.specs.Str.{bytes_eq}
use Rattle.std.specs.Option.{option_map_or}
use Rattle.std.specs.List.{list_any}
use Rattle.std.proofs.lemmas.Bool.{or_parts, and_from, and_parts, not-false, leb-false, le-leb}
use Rattle.std.proofs.lemmas.Bool.Decides.{nat_tests}
use Rattle.std.proofs.lemmas.List.{length_push}
use Rattle.tta_list.proofs.Lists.{list_all_push, list_all_changed, list_all_one}
use Rattle.tta_list.proofs.Tests.{and_map}
use Rattle.tta_machine.specs.Cited.{Units, named, first_at, Socket, UnitOp, Op, Ldw, Stw, Ldf, Stf, Out, Take, Set, has_result, is_from_to, is_socket, is_port_socket, fits_kind, is_unit, is_unit_op, same_op, is_data_op, is_frame_op, is_stream_op}
use Rattle.tta_machine.specs.declared.draft.Named.TheVariants as place
use Rattle.tta_machine.specs.declared.draft.Draft.{Draft}
use Rattle.tta_arch.specs.declared.parts.Unit.{Unit as OpUnit}
use Rattle.tta_machine.specs.Forms.{OpForm}
use Rattle.tta_machine.specs.Declarations.{op_named, timed_op, untimed_op, arity_of, is_latency, is_served, has_other, with_op}
use Rattle.tta_machine.specs.Kept.{IsDraft}
use Rattle.tta_arch.proofs.Lists.{different_push}
use Rattle.tta_machine.proofs.Naming.{AreNamed-changed}
use Rattle.tta_machine.proofs.Growth.{Grows, there_still}
use Rattle.tta_machine.proofs.Owners.{one_owner-more}
use Rattle.tta_machine.proofs.MadeLinks.{unit_op, op_added, OpMade}

-- ---- operations

first_at-lt : (name : List ℕ) (k : ℕ) (names : List (List ℕ)) (j : ℕ) → first_at name k names ≡ Some j → j < k + length names
first_at-lt name k [] j h = cc
first_at-lt name k (n ∷ ns) j h = by (first_at-lt name (k + 1) ns j) (bytes_eq n name) h where
  by : (first_at name (k + 1) ns ≡ Some j → j < k + 1 + length ns) → (b : Bool) → (if b then Some k else first_at name (k + 1) ns) ≡ Some j → j < k + suc (length ns)
  by later true e = let same : k ≡ j = cc in omega arith
  by later false e = let h : j < k + 1 + length ns = later e in omega arith

-- an operation of the units takes one word or two
set_arity : (u : Units) (name : List ℕ) (id : ℕ) → named u name ≡ Some id → is_from_to 1 2 (get_or u.arities id 0) ≡ true
set_arity u name id h =
    let there : id < 0 + length u.names = first_at-lt name 0 u.names id h in
    let known = u.one_or_two id (let same = u.paired in omega arith) in
    and_from (nat_le 1 (get_or u.arities id 0)) (nat_le (get_or u.arities id 0) 2) (le-leb 1 (get_or u.arities id 0) known.0) (le-leb (get_or u.arities id 0) 2 (let low = known.1 in omega arith))

timed_fits : (u : Units) (l : ℕ) (name : List ℕ) (o : Op) → timed_op u name ≡ Some o → is_from_to 1 16 l ≡ true → fits_kind (unit_op u o (Some l)) ≡ true
timed_fits u l name o h range = by (bytes_eq name (codes "ldw")) (bytes_eq name (codes "ldf")) (bytes_eq name (codes "in")) (named u name) refl h where
  by : (w f i : Bool) (id : Option ℕ) → named u name ≡ id
      → (if w then Some Ldw else if f then Some Ldf else if i then Some Take else option_map (λ i. Set (record { 0 = i })) id) ≡ Some o
      → fits_kind (unit_op u o (Some l)) ≡ true
  by true f i id e t = let same : Ldw ≡ o = cc in subst (λ p. fits_kind (unit_op u p (Some l)) ≡ true) same range
  by false true i id e t = let same : Ldf ≡ o = cc in subst (λ p. fits_kind (unit_op u p (Some l)) ≡ true) same range
  by false false true id e t = let same : Take ≡ o = cc in subst (λ p. fits_kind (unit_op u p (Some l)) ≡ true) same range
  by false false false None e t = cc
  by false false false (Some i) e t =
      let same : Set (record { 0 = i }) ≡ o = cc in
      subst (λ p. fits_kind (unit_op u p (Some l)) ≡ true) same (and_from (is_from_to 1 2 (get_or u.arities i 0)) (is_from_to 1 16 l) (set_arity u name i e) range)

untimed_fits : (u : Units) (name : List ℕ) (o : Op) → untimed_op name ≡ Some o → fits_kind (unit_op u o None) ≡ true
untimed_fits u name o h = by (bytes_eq name (codes "stw")) (bytes_eq name (codes "stf")) (bytes_eq name (codes "out")) h where
  by : (w f p : Bool) → (if w then Some Stw else if f then Some Stf else if p then Some Out else None) ≡ Some o → fits_kind (unit_op u o None) ≡ true
  by true f p t = let same : Stw ≡ o = cc in subst (λ q. fits_kind (unit_op u q None) ≡ true) same refl
  by false true p t = let same : Stf ≡ o = cc in subst (λ q. fits_kind (unit_op u q None) ≡ true) same refl
  by false false true t = let same : Out ≡ o = cc in subst (λ q. fits_kind (unit_op u q None) ≡ true) same refl
  by false false false t = cc

op_fits : (u : Units) (latency : Option ℕ) (name : List ℕ) (o : Op) → op_named u latency name ≡ Some o → is_latency latency ≡ true → fits_kind (unit_op u o latency) ≡ true
op_fits u None name o h range = untimed_fits u name o h
op_fits u (Some l) name o h range = timed_fits u l name o h range

-- a kind takes one word or two
arity_cases : (o : Op) (a l : ℕ) → fits_kind (record { op = o; arity = a; latency = l }) ≡ true → (a ≡ 1) ⊎ (a ≡ 2)
arity_cases Ldw a l h = let t = and_parts (a == 1) (is_from_to 1 16 l) h in grind (arith, nat_tests, t.0)
arity_cases Stw a l h = let t = and_parts (a == 2) (l == 0) h in grind (arith, nat_tests, t.0)
arity_cases Ldf a l h = let t = and_parts (a == 1) (is_from_to 1 16 l) h in grind (arith, nat_tests, t.0)
arity_cases Stf a l h = let t = and_parts (a == 2) (l == 0) h in grind (arith, nat_tests, t.0)
arity_cases Out a l h = let t = and_parts (a == 1) (l == 0) h in grind (arith, nat_tests, t.0)
arity_cases Take a l h = let t = and_parts (a == 1) (is_from_to 1 16 l) h in grind (arith, nat_tests, t.0)
arity_cases (Set id) a l h =
    let t = and_parts (is_from_to 1 2 a) (is_from_to 1 16 l) h in
    let s = and_parts (nat_le 1 a) (nat_le a 2) t.0 in
    grind (arith, nat_tests, s.0, s.1)

-- ---- a unit's ports

-- two words have an operand port, where that is not missing
has_operand : (a : ℕ) (port : Option ℕ) → (a ≡ 1) ⊎ (a ≡ 2) → (a == 2 && is_none port) ≡ false → (a == 1 || is_some port) ≡ true
has_operand a None (inl one) h = rw one refl
has_operand a None (inr two) h = let wrong : (2 == 2 && true) ≡ false = subst (λ b. (b == 2 && true) ≡ false) two h in cc
has_operand a (Some k) cases h = or_true (a == 1) where
  or_true : (b : Bool) → (b || true) ≡ true
  or_true true = refl
  or_true false = refl

has_port : (b : Bool) (port : Option ℕ) → (b && is_none port) ≡ false → (not b || is_some port) ≡ true
has_port true None h = cc
has_port true (Some k) h = refl
has_port false port h = refl

-- ---- the draft

unit_still : (sockets : List Socket) (unit : OpUnit) (o : UnitOp) → is_unit sockets unit ≡ true → is_unit_op unit o ≡ true
    → list_any (λ p. same_op p.op o.op) unit.ops ≡ false → length unit.ops < 32 → is_unit sockets (with_op unit o) ≡ true
unit_still sockets unit o h one new room =
    let ports : Bool = is_socket sockets true unit.trigger && is_port_socket sockets true unit.operand && is_port_socket sockets false unit.result in
    let more : length (unit.ops ++ o ∷ []) ≡ length unit.ops + 1 = length_push unit.ops o in
    let few : nat_le (length (unit.ops ++ o ∷ [])) 32 ≡ true = le-leb (length (unit.ops ++ o ∷ [])) 32 (omega arith) in
    and_map (and_map (and_map (λ (t : ports ≡ true). t)
    (λ (t : nat_le (length unit.ops) 32 ≡ true). few))
    (λ t. list_all_push (is_unit_op unit) unit.ops o t one))
    (λ t. different_push (λ p q. same_op p.op q.op) unit.ops o t new)
    h

-- a unit with an operation more
unit_op_kept : (d : Draft) (k : ℕ) (unit : OpUnit) (o : UnitOp) → IsDraft d → slice_get d.units k ≡ Some unit → is_unit_op unit o ≡ true
    → list_any (λ p. same_op p.op o.op) unit.ops ≡ false → is_served d.units k o.op ≡ false → length unit.ops < 32 → IsDraft (op_added d k unit o)
unit_op_kept d k unit o r at one new alone room =
    let stream = or_parts (is_data_op o.op && has_other is_data_op k 0 d.units || is_frame_op o.op && has_other is_frame_op k 0 d.units)
    (is_stream_op o.op && has_other is_stream_op k 0 d.units) alone in
    let spaces = or_parts (is_data_op o.op && has_other is_data_op k 0 d.units) (is_frame_op o.op && has_other is_frame_op k 0 d.units) stream.0 in
    let was : is_unit d.sockets unit ≡ true = list_all_one (is_unit d.sockets) d.units k unit r.rules.units at in
    let rule : is_unit d.sockets (with_op unit o) ≡ true = unit_still d.sockets unit o was one new room in
    let same : length (slice_set d.units k (with_op unit o)) ≡ length d.units = length-set d.units k (with_op unit o) in
    let grows : Grows d (op_added d k unit o) = omega arith in
    record {
      limits = let l = r.limits in omega arith;
      there = there_still d (op_added d k unit o) r.there refl grows;
      named = assumption (AreNamed-changed (λ v. v.name) place.Unit d.names d.units k (with_op unit o) unit at refl r.named.units);
      rules = assumption (
        list_all_changed (is_unit d.sockets) d.units k (with_op unit o) r.rules.units rule,
        one_owner-more is_data_op d.units k unit o at spaces.0 r.rules.one_data,
        one_owner-more is_frame_op d.units k unit o at spaces.1 r.rules.one_frame,
        one_owner-more is_stream_op d.units k unit o at stream.1 r.rules.one_stream,
      );
    }

pub op_kept : (u : Units) (d e : Draft) (f : OpForm) → IsDraft d → OpMade u d e f → IsDraft e
op_kept u d e f r m =
    let new = or_parts (list_any (λ p. same_op p.op m.op) m.unit.ops) (is_served d.units m.k m.op) m.new in
    let room = or_parts (not (is_latency f.latency)) (nat_le 32 (length m.unit.ops)) m.range in
    let ports = or_parts (arity_of u m.op == 2 && is_none m.unit.operand) (has_result m.op && is_none m.unit.result) m.ports in
    let fits : fits_kind (unit_op u m.op f.latency) ≡ true = op_fits u f.latency f.operation m.op m.is (not-false (is_latency f.latency) room.0) in
    let words : (arity_of u m.op ≡ 1) ⊎ (arity_of u m.op ≡ 2) = arity_cases m.op (arity_of u m.op) (option_map_or (λ l. l) f.latency 0) fits in
    let one : is_unit_op m.unit (unit_op u m.op f.latency) ≡ true =
    and_from _ (not (has_result m.op) || is_some m.unit.result)
    (and_from (fits_kind (unit_op u m.op f.latency)) (arity_of u m.op == 1 || is_some m.unit.operand) fits (has_operand (arity_of u m.op) m.unit.operand words ports.0))
    (has_port (has_result m.op) m.unit.result ports.1) in
    subst IsDraft m.made (unit_op_kept d m.k m.unit (unit_op u m.op f.latency) r m.there one new.0 new.1 (leb-false 32 (length m.unit.ops) room.1))
