-- What a machine's rules say of the operations that its moves start.
use Rattle.std.proofs.Common.{◌≡◌, ◌⊎◌, inl, inr, ℕ, zero, suc, ◌<◌, ◌≤◌, Bool, true, false, List, [], ◌∷◌, Option, Some, None, refl, sym, ap, ◌∙◌, arith, length, filter}
use Rattle.std.specs.Prelude.{slice_get, not, ◌&&◌, ◌||◌, ◌==◌, nat_le, nat_lt, if◌then◌else◌, option_and_then}
use Rattle.std.specs.List.{list_any}
use Rattle.std.proofs.lemmas.Bool.{cases_lt, and_parts}
use Rattle.std.proofs.lemmas.Bool.Decides.{nat_tests}
use Rattle.tta_list.proofs.Lists.{some_within}
use Rattle.tta_sched_laws.specs.Cited.{Dest, Op, Ldw, Stw, Ldf, Stf, Out, Take, Set, UnitOp, Machine, is_source_on, is_dest_on, has_guard, has_socket, within, IsMachine, is_from_to, fits_kind, is_data_op, is_frame_op, is_stream_op, has_one_owner, target_of, op_at, has_result, Item, Slot, Bus, Template, target_of_item, carried, carries}
use Rattle.tta_arch.specs.declared.ends.Dest.TheVariants as dest
use Rattle.tta_arch.specs.declared.parts.Unit.{Unit as OpUnit}
use Rattle.tta_moves.specs.declared.items.Item.TheVariants as item
use Rattle.tta_sched_laws.proofs.Steps.{IsPlain, to_register, to_imm, to_operand, to_trigger, to_jump, to_call, to_halt}
use Rattle.tta_sched_laws.specs.Overlap.{space_of}
use Rattle.tta_sched_laws.proofs.Spaces.{HasOwners}
use Rattle.tta_arch.proofs.Sizes.{unit_fits as unit_op}

-- ---- operations

or_last : (a b : Bool) → (not a || b) ≡ true → a ≡ true → b ≡ true
or_last true b e h = e
or_last false b e h = absurd cc

-- a result shows a cycle later at least
late : (o : UnitOp) → fits_kind o ≡ true → has_result o.op ≡ true → 0 < o.latency
late o f r = on o.op refl f r where
  some : (a b : Bool) → (a && b) ≡ true → b ≡ true
  some true b e = e
  some false b e = absurd cc

  from : is_from_to 1 16 o.latency ≡ true → 0 < o.latency
  from e = grind (arith, nat_tests, (and_parts (nat_le 1 o.latency) (nat_le o.latency 16) e).0)

  on : (p : Op) → o.op ≡ p → fits_kind (record o { op = p }) ≡ true → has_result p ≡ true → 0 < o.latency
  on Ldw e g h = from (some (o.arity == 1) _ g)
  on Stw e g h = absurd cc
  on Ldf e g h = from (some (o.arity == 1) _ g)
  on Stf e g h = absurd cc
  on Out e g h = absurd cc
  on Take e g h = from (some (o.arity == 1) _ g)
  on (Set id) e g h = from (some (is_from_to 1 2 o.arity) _ g)

op_there : (m : Machine) (unit k : ℕ) (q : OpUnit) (o : UnitOp) → slice_get m.units unit ≡ Some q → slice_get q.ops k ≡ Some o → op_at m unit k ≡ Some o
op_there m unit k q o a b = rw (a, b) refl

-- what an item that a slot carries starts is there
pub plain_item : (m : Machine) → IsMachine m → (s : Slot) (i : Item) → carries m s i ≡ true → IsPlain m (target_of_item i)
plain_item m rules (Bus b) (item.Move guard src dst) c = on dst (and_parts (is_source_on m b (carried m src)) (is_dest_on m b dst) (and_parts (is_source_on m b (carried m src) && is_dest_on m b dst) (has_guard m b guard) c).0).1 where
  there : (unit k : ℕ) → (u : Option OpUnit) → slice_get m.units unit ≡ u → has_socket m true (option_and_then (λ (q : OpUnit). within k (length q.ops) q.trigger) u) b ≡ true → (o : UnitOp) × (op_at m unit k ≡ Some o)
  there unit k None e h = absurd cc
  there unit k (Some q) e h = op (slice_get q.ops k) refl where
    op : (o : Option UnitOp) → slice_get q.ops k ≡ o → (o' : UnitOp) × (op_at m unit k ≡ Some o')
    op (Some o) g = (o, op_there m unit k q o e g)
    op None g = absurd (past (nat_lt k (length q.ops)) refl h) where
      past : (t : Bool) → nat_lt k (length q.ops) ≡ t → has_socket m true (if t then Some q.trigger else None) b ≡ true → ⊥
      past true t h = let l : k < length q.ops = grind (arith, nat_tests) in let z = some_within q.ops k l in absurd cc
      past false t h = absurd cc

  on : (d : Dest) → is_dest_on m b d ≡ true → IsPlain m (target_of d)
  on (dest.Reg f i) h = to_register f i
  on (dest.Operand q) h = to_operand q
  on (dest.Trigger q k) h = let o = there q k (slice_get m.units q) refl h in to_trigger q k o.0 o.1 (late o.0 (unit_op m rules q k o.0 o.1))
  on dest.Jump h = to_jump
  on dest.Call h = to_call
  on dest.Halt h = to_halt
plain_item m rules (Bus b) (item.Long q r value) c = absurd cc
plain_item m rules (Template t) (item.Move guard src dst) c = absurd cc
plain_item m rules (Template t) (item.Long q r value) c = to_imm q r

-- ---- owners

-- where at most one item of a list passes, those that pass stand at one place
filter_some : {A : Type 0} (p : A → Bool) (xs : List A) (k : ℕ) (x : A) → slice_get xs k ≡ Some x → p x ≡ true → 0 < length (filter p xs)
filter_some p [] k x e h = absurd cc
filter_some p (y ∷ xs) zero x e h = let s : y ≡ x = cc in let g : p y ≡ true = ap p s ∙ h in rw g (omega arith)
filter_some p (y ∷ xs) (suc k) x e h = on (p y) (filter_some p xs k x e h) where
  on : (b : Bool) → 0 < length (filter p xs) → 0 < length (if b then y ∷ filter p xs else filter p xs)
  on true l = omega arith
  on false l = l

one_passes : {A : Type 0} (p : A → Bool) (xs : List A) (i j : ℕ) (x y : A) → i < j → slice_get xs i ≡ Some x → slice_get xs j ≡ Some y → p x ≡ true → p y ≡ true → length (filter p xs) ≤ 1 → ⊥
one_passes p [] i j x y lt a b px py le = absurd cc
one_passes p (z ∷ xs) i zero x y lt a b px py le = absurd (omega arith)
one_passes p (z ∷ xs) zero (suc j) x y lt a b px py le =
    let s : z ≡ x = cc in
    let g : p z ≡ true = ap p s ∙ px in
    let l : suc (length (filter p xs)) ≤ 1 = rw g at le in
    let m = filter_some p xs j y b py in
    omega arith
one_passes p (z ∷ xs) (suc i) (suc j) x y lt a b px py le = one_passes p xs i j x y (omega arith) a b px py (on (p z) le) where
  on : (c : Bool) → length (if c then z ∷ filter p xs else filter p xs) ≤ 1 → length (filter p xs) ≤ 1
  on true l = omega arith
  on false l = l

any_op : (kind : Op → Bool) (ops : List UnitOp) (k : ℕ) (o : UnitOp) → slice_get ops k ≡ Some o → kind o.op ≡ true → list_any (λ (p : UnitOp). kind p.op) ops ≡ true
any_op kind [] k o e h = absurd cc
any_op kind (p ∷ ops) zero o e h = let s : p ≡ o = cc in let g : kind p.op ≡ true = ap (λ (q : UnitOp). kind q.op) s ∙ h in rw g refl
any_op kind (p ∷ ops) (suc k) o e h = on (kind p.op) (any_op kind ops k o e h) where
  on : (b : Bool) → list_any (λ (q : UnitOp). kind q.op) ops ≡ true → (b || list_any (λ (q : UnitOp). kind q.op) ops) ≡ true
  on true l = refl
  on false l = l

unit_of : (m : Machine) (unit k : ℕ) (o : UnitOp) → op_at m unit k ≡ Some o → (q : OpUnit) × (slice_get m.units unit ≡ Some q) × (slice_get q.ops k ≡ Some o)
unit_of m unit k o at = on (slice_get m.units unit) refl at where
  on : (u : Option OpUnit) → slice_get m.units unit ≡ u → option_and_then (λ (q : OpUnit). slice_get q.ops k) u ≡ Some o → (q : OpUnit) × (slice_get m.units unit ≡ Some q) × (slice_get q.ops k ≡ Some o)
  on None e g = absurd cc
  on (Some q) e g = (q, e, g)

one_owner : (m : Machine) (kind : Op → Bool) → has_one_owner kind m.units ≡ true → (a b k l : ℕ) (o o' : UnitOp) → op_at m a k ≡ Some o → op_at m b l ≡ Some o' → kind o.op ≡ true → kind o'.op ≡ true → a ≡ b
one_owner m kind one a b k l o o' at at' h h' =
    let le : length (filter (λ (u : OpUnit). list_any (λ (p : UnitOp). kind p.op) u.ops) m.units) ≤ 1 = grind (arith, nat_tests) in
    let q = unit_of m a k o at in
    let r = unit_of m b l o' at' in
    let pq = any_op kind q.0.ops k o q.2 h in
    let pr = any_op kind r.0.ops l o' r.2 h' in
    elim (cases_lt a b) [
      | inl lt ↦ absurd (one_passes (λ (u : OpUnit). list_any (λ (p : UnitOp). kind p.op) u.ops) m.units a b q.0 r.0 lt q.1 r.1 pq pr le)
      | inr ge ↦ elim (cases_lt b a) [
        | inl lt ↦ absurd (one_passes (λ (u : OpUnit). list_any (λ (p : UnitOp). kind p.op) u.ops) m.units b a r.0 q.0 lt r.1 q.1 pr pq le)
        | inr ge' ↦ omega arith
      ]
    ]

-- which kind of space an operation touches
kind_1 : (o : Op) → space_of o ≡ 1 → is_data_op o ≡ true
kind_1 Ldw e = refl
kind_1 Stw e = refl
kind_1 Ldf e = absurd cc
kind_1 Stf e = absurd cc
kind_1 Out e = absurd cc
kind_1 Take e = absurd cc
kind_1 (Set id) e = absurd cc

kind_2 : (o : Op) → space_of o ≡ 2 → is_frame_op o ≡ true
kind_2 Ldw e = absurd cc
kind_2 Stw e = absurd cc
kind_2 Ldf e = refl
kind_2 Stf e = refl
kind_2 Out e = absurd cc
kind_2 Take e = absurd cc
kind_2 (Set id) e = absurd cc

kind_3 : (o : Op) → space_of o ≡ 3 → is_stream_op o ≡ true
kind_3 Ldw e = absurd cc
kind_3 Stw e = absurd cc
kind_3 Ldf e = absurd cc
kind_3 Stf e = absurd cc
kind_3 Out e = refl
kind_3 Take e = refl
kind_3 (Set id) e = absurd cc

three_spaces : (o : Op) → 0 < space_of o → (space_of o ≡ 1) ⊎ ((space_of o ≡ 2) ⊎ (space_of o ≡ 3))
three_spaces Ldw l = inl refl
three_spaces Stw l = inl refl
three_spaces Ldf l = inr (inl refl)
three_spaces Stf l = inr (inl refl)
three_spaces Out l = inr (inr refl)
three_spaces Take l = inr (inr refl)
three_spaces (Set id) l = absurd (omega arith)

-- each space of a machine belongs to one unit
pub machine_owners : (m : Machine) → IsMachine m → HasOwners m
machine_owners m rules = record { owner = owner } where
  owner : (a b k l : ℕ) (o o' : UnitOp) → op_at m a k ≡ Some o → op_at m b l ≡ Some o' → space_of o.op ≡ space_of o'.op → 0 < space_of o.op → a ≡ b
  owner a b k l o o' at at' same pos = elim (three_spaces o.op pos) [
    | inl e ↦ one_owner m is_data_op rules.one_data a b k l o o' at at' (kind_1 o.op e) (kind_1 o'.op (sym same ∙ e))
    | inr more ↦ elim more [
      | inl e ↦ one_owner m is_frame_op rules.one_frame a b k l o o' at at' (kind_2 o.op e) (kind_2 o'.op (sym same ∙ e))
      | inr e ↦ one_owner m is_stream_op rules.one_stream a b k l o o' at at' (kind_3 o.op e) (kind_3 o'.op (sym same ∙ e))
    ]
  ]
