-- Codes of sources, destinations and guards tell them apart.
use Rattle.std.proofs.Common.{◌≡◌, ℕ, ◌+◌, ◌<◌, ◌==◌, Bool, true, false, ◌&&◌, nat_lt, if◌then◌else◌, List, [], ◌∷◌, ◌++◌, length, map, slice_get, Option, Some, None, option_and_then, refl, sym, ap, ◌∙◌, arith}
use Rattle.std.specs.Option.{option_map_or}
use Rattle.std.specs.List.{list_any, flat_map, enumerate_from, position_or_len}
use Rattle.std.proofs.lemmas.Bool.{false≢true, and_parts, and_from, or_left, eqb-true, eq-eqb, ltb-true}
use Rattle.tta_image.specs.Cited.{Guard, GuardRef, Source, Dest, Machine, within, has_socket, is_same_guard, is_source_on, is_dest_on, has_guard, numbers, all_sources, all_dests, sources_on, dests_on, guards_on, same_source, same_dest, source_code, dest_code, guard_code, has_source_socket}
use Rattle.tta_arch.specs.declared.ends.Source.TheVariants as source
use Rattle.tta_arch.specs.declared.ends.Dest.TheVariants as dest
use Rattle.tta_image.proofs.Places.{place_inside, one_item, any_left, any_right, any_kept, any_both, any_pieces, any_numbered}
use Rattle.tta_arch.proofs.Guards.{same_guard as same_guard_true}

both_eq : (a b c d : ℕ) → (a == b && c == d) ≡ true → (a ≡ b) × (c ≡ d)
both_eq a b c d h = let p = and_parts (a == b) (c == d) h in (eqb-true a b p.0, eqb-true c d p.1)

-- ---- the tests of sameness

pub same_source_true : (a b : Source) → same_source a b ≡ true → a ≡ b
same_source_true (source.Reg f i) (source.Reg g j) h = let p = both_eq f g i j h in ap (λ k. source.Reg k i) p.0 ∙ ap (λ k. source.Reg g k) p.1
same_source_true (source.Imm f i) (source.Imm g j) h = let p = both_eq f g i j h in ap (λ k. source.Imm k i) p.0 ∙ ap (λ k. source.Imm g k) p.1
same_source_true (source.Shown u) (source.Shown v) h = ap (λ k. source.Shown k) (eqb-true u v h)
same_source_true source.Ra source.Ra h = refl
same_source_true (source.Value a) (source.Value b) h = ap (λ k. source.Value k) (eqb-true a b h)
same_source_true a b h = absurd (false≢true h)

pub same_source_itself : (a : Source) → same_source a a ≡ true
same_source_itself (source.Reg f i) = and_from (f == f) (i == i) (eq-eqb f f refl) (eq-eqb i i refl)
same_source_itself (source.Imm f i) = and_from (f == f) (i == i) (eq-eqb f f refl) (eq-eqb i i refl)
same_source_itself (source.Shown u) = eq-eqb u u refl
same_source_itself source.Ra = refl
same_source_itself (source.Value a) = eq-eqb a a refl

pub same_dest_true : (a b : Dest) → same_dest a b ≡ true → a ≡ b
same_dest_true (dest.Reg f i) (dest.Reg g j) h = let p = both_eq f g i j h in ap (λ k. dest.Reg k i) p.0 ∙ ap (λ k. dest.Reg g k) p.1
same_dest_true (dest.Operand u) (dest.Operand v) h = ap (λ k. dest.Operand k) (eqb-true u v h)
same_dest_true (dest.Trigger f i) (dest.Trigger g j) h = let p = both_eq f g i j h in ap (λ k. dest.Trigger k i) p.0 ∙ ap (λ k. dest.Trigger g k) p.1
same_dest_true dest.Jump dest.Jump h = refl
same_dest_true dest.Call dest.Call h = refl
same_dest_true dest.Halt dest.Halt h = refl
same_dest_true a b h = absurd (false≢true h)

pub same_dest_itself : (a : Dest) → same_dest a a ≡ true
same_dest_itself (dest.Reg f i) = and_from (f == f) (i == i) (eq-eqb f f refl) (eq-eqb i i refl)
same_dest_itself (dest.Operand u) = eq-eqb u u refl
same_dest_itself (dest.Trigger f i) = and_from (f == f) (i == i) (eq-eqb f f refl) (eq-eqb i i refl)
same_dest_itself dest.Jump = refl
same_dest_itself dest.Call = refl
same_dest_itself dest.Halt = refl

-- ---- an end that a bus joins is on the machine's list

there : {P : Type 0} (m : Machine) (input : Bool) (bus : ℕ) (o : Option P) (f : P → Option ℕ) → has_socket m input (option_and_then f o) bus ≡ true
    → (x : P) × (o ≡ Some x) × (has_socket m input (f x) bus ≡ true)
there m input bus None f h = absurd (false≢true h)
there m input bus (Some x) f h = (x, refl, h)

below : (m : Machine) (input : Bool) (bus i size socket : ℕ) → has_socket m input (within i size socket) bus ≡ true → i < size
below m input bus i size socket h = by (nat_lt i size) refl h where
  by : (b : Bool) → nat_lt i size ≡ b → has_socket m input (if b then Some socket else None) bus ≡ true → i < size
  by true is k = ltb-true i size is
  by false is k = absurd (false≢true k)

port : {A : Type 0} (m : Machine) (input : Bool) (bus : ℕ) (q : A → Bool) (o : Option ℕ) (s : A) → has_socket m input o bus ≡ true → q s ≡ true
    → list_any q (option_map_or (λ r. s ∷ []) o []) ≡ true
port m input bus q None s h pass = absurd (false≢true h)
port m input bus q (Some r) s h pass = or_left (q s) false pass

-- a source that stands after a socket of the bus
pub source_listed : (m : Machine) (bus : ℕ) (src : Source) → has_source_socket m bus src ≡ true → list_any (same_source src) (all_sources m) ≡ true
source_listed m bus src h = by src h where
  q : Source → Bool
  q = same_source src

  files : List Source
  files = flat_map (λ f. map (source.Reg f.0) (numbers f.1.size)) (enumerate_from 0 m.files)

  imms : List Source
  imms = flat_map (λ u. map (source.Imm u.0) (numbers u.1.size)) (enumerate_from 0 m.imms)

  results : List Source
  results = flat_map (λ u. option_map_or (λ r. source.Shown u.0 ∷ []) u.1.result []) (enumerate_from 0 m.units)

  ra : List Source
  ra = option_map_or (λ r. source.Ra ∷ []) m.control.ra []

  by : (s : Source) → has_source_socket m bus s ≡ true → list_any (same_source s) (files ++ imms ++ results ++ ra) ≡ true
  by (source.Reg f i) k =
      let p = same_source (source.Reg f i) in
      let t = there m false bus (slice_get m.files f) (λ x. within i x.size x.out) k in
      let lt = below m false bus i t.0.size t.0.out t.2 in
      any_left p (files ++ imms ++ results) ra (any_left p (files ++ imms) results (any_left p files imms
      (any_pieces p (λ x. map (source.Reg x.0) (numbers x.1.size)) m.files 0 f f t.0 (omega arith) t.1
      (any_numbered p (source.Reg f) 0 t.0.size i i (omega arith) lt (same_source_itself (source.Reg f i))))))
  by (source.Imm f i) k =
      let p = same_source (source.Imm f i) in
      let t = there m false bus (slice_get m.imms f) (λ x. within i x.size x.out) k in
      let lt = below m false bus i t.0.size t.0.out t.2 in
      any_left p (files ++ imms ++ results) ra (any_left p (files ++ imms) results (any_right p files imms
      (any_pieces p (λ x. map (source.Imm x.0) (numbers x.1.size)) m.imms 0 f f t.0 (omega arith) t.1
      (any_numbered p (source.Imm f) 0 t.0.size i i (omega arith) lt (same_source_itself (source.Imm f i))))))
  by (source.Shown u) k =
      let p = same_source (source.Shown u) in
      let t = there m false bus (slice_get m.units u) (λ x. x.result) k in
      any_left p (files ++ imms ++ results) ra (any_right p (files ++ imms) results
      (any_pieces p (λ x. option_map_or (λ r. source.Shown x.0 ∷ []) x.1.result []) m.units 0 u u t.0 (omega arith) t.1
      (port m false bus p t.0.result (source.Shown u) t.2 (same_source_itself (source.Shown u)))))
  by source.Ra k =
      let p = same_source source.Ra in
      any_right p (files ++ imms ++ results) ra (port m false bus p m.control.ra source.Ra k refl)
  by (source.Value w) k = absurd (false≢true k)

-- a destination that stands after a socket of the bus
pub dest_listed : (m : Machine) (bus : ℕ) (dst : Dest) → is_dest_on m bus dst ≡ true → list_any (same_dest dst) (all_dests m) ≡ true
dest_listed m bus dst h = by dst h where
  files : List Dest
  files = flat_map (λ f. map (dest.Reg f.0) (numbers f.1.size)) (enumerate_from 0 m.files)

  units : List Dest
  units = flat_map (λ u. option_map_or (λ o. dest.Operand u.0 ∷ []) u.1.operand [] ++ map (dest.Trigger u.0) (numbers (length u.1.ops))) (enumerate_from 0 m.units)

  control : List Dest
  control = dest.Jump ∷ dest.Call ∷ dest.Halt ∷ []

  by : (d : Dest) → is_dest_on m bus d ≡ true → list_any (same_dest d) (files ++ units ++ control) ≡ true
  by (dest.Reg f i) k =
      let p = same_dest (dest.Reg f i) in
      let t = there m true bus (slice_get m.files f) (λ x. within i x.size x.into) k in
      let lt = below m true bus i t.0.size t.0.into t.2 in
      any_left p (files ++ units) control (any_left p files units
      (any_pieces p (λ x. map (dest.Reg x.0) (numbers x.1.size)) m.files 0 f f t.0 (omega arith) t.1
      (any_numbered p (dest.Reg f) 0 t.0.size i i (omega arith) lt (same_dest_itself (dest.Reg f i)))))
  by (dest.Operand u) k =
      let p = same_dest (dest.Operand u) in
      let t = there m true bus (slice_get m.units u) (λ x. x.operand) k in
      any_left p (files ++ units) control (any_right p files units
      (any_pieces p (λ x. option_map_or (λ o. dest.Operand x.0 ∷ []) x.1.operand [] ++ map (dest.Trigger x.0) (numbers (length x.1.ops))) m.units 0 u u t.0 (omega arith) t.1
      (any_left p (option_map_or (λ o. dest.Operand u ∷ []) t.0.operand []) (map (dest.Trigger u) (numbers (length t.0.ops)))
      (port m true bus p t.0.operand (dest.Operand u) t.2 (same_dest_itself (dest.Operand u))))))
  by (dest.Trigger u op) k =
      let p = same_dest (dest.Trigger u op) in
      let t = there m true bus (slice_get m.units u) (λ x. within op (length x.ops) x.trigger) k in
      let lt = below m true bus op (length t.0.ops) t.0.trigger t.2 in
      any_left p (files ++ units) control (any_right p files units
      (any_pieces p (λ x. option_map_or (λ o. dest.Operand x.0 ∷ []) x.1.operand [] ++ map (dest.Trigger x.0) (numbers (length x.1.ops))) m.units 0 u u t.0 (omega arith) t.1
      (any_right p (option_map_or (λ o. dest.Operand u ∷ []) t.0.operand []) (map (dest.Trigger u) (numbers (length t.0.ops)))
      (any_numbered p (dest.Trigger u) 0 (length t.0.ops) op op (omega arith) lt (same_dest_itself (dest.Trigger u op))))))
  by dest.Jump k = any_right (same_dest dest.Jump) (files ++ units) control refl
  by dest.Call k = any_right (same_dest dest.Call) (files ++ units) control refl
  by dest.Halt k = any_right (same_dest dest.Halt) (files ++ units) control refl

-- ---- codes

on_bus : (m : Machine) (bus : ℕ) (src : Source) → has_source_socket m bus src ≡ true → is_source_on m bus src ≡ true
on_bus m bus (source.Reg f i) h = h
on_bus m bus (source.Imm f i) h = h
on_bus m bus (source.Shown u) h = h
on_bus m bus source.Ra h = h
on_bus m bus (source.Value w) h = absurd (false≢true h)

pub source_kept : (m : Machine) (bus : ℕ) (src : Source) → has_source_socket m bus src ≡ true → list_any (same_source src) (sources_on m bus) ≡ true
source_kept m bus src h =
    any_kept (is_source_on m bus) (same_source src) (all_sources m)
    (λ x same. ap (λ (s : Source). is_source_on m bus s) (sym (same_source_true src x same)) ∙ on_bus m bus src h) (source_listed m bus src h)

pub source_code_inside : (m : Machine) (bus : ℕ) (src : Source) → has_source_socket m bus src ≡ true → source_code m bus src < length (sources_on m bus)
source_code_inside m bus src h = place_inside (same_source src) (sources_on m bus) (source_kept m bus src h)

pub source_code_tells : (m : Machine) (bus : ℕ) (a b : Source) → has_source_socket m bus a ≡ true → has_source_socket m bus b ≡ true
    → source_code m bus a ≡ source_code m bus b → a ≡ b
source_code_tells m bus a b h k same =
    let one = one_item (same_source a) (same_source b) (sources_on m bus) a (source_kept m bus a h) (source_kept m bus b k) same in
    same_source_true a one.0 one.1 ∙ sym (same_source_true b one.0 one.2)

pub dest_kept : (m : Machine) (bus : ℕ) (dst : Dest) → is_dest_on m bus dst ≡ true → list_any (same_dest dst) (dests_on m bus) ≡ true
dest_kept m bus dst h =
    any_kept (is_dest_on m bus) (same_dest dst) (all_dests m)
    (λ x same. ap (λ (d : Dest). is_dest_on m bus d) (sym (same_dest_true dst x same)) ∙ h) (dest_listed m bus dst h)

pub dest_code_inside : (m : Machine) (bus : ℕ) (dst : Dest) → is_dest_on m bus dst ≡ true → dest_code m bus dst < 1 + length (dests_on m bus)
dest_code_inside m bus dst h = let lt = place_inside (same_dest dst) (dests_on m bus) (dest_kept m bus dst h) in omega arith

pub dest_code_tells : (m : Machine) (bus : ℕ) (a b : Dest) → is_dest_on m bus a ≡ true → is_dest_on m bus b ≡ true → dest_code m bus a ≡ dest_code m bus b → a ≡ b
dest_code_tells m bus a b h k same =
    let place : position_or_len (same_dest a) (dests_on m bus) ≡ position_or_len (same_dest b) (dests_on m bus) = omega arith in
    let one = one_item (same_dest a) (same_dest b) (dests_on m bus) a (dest_kept m bus a h) (dest_kept m bus b k) place in
    same_dest_true a one.0 one.1 ∙ sym (same_dest_true b one.0 one.2)

pub guard_kept : (m : Machine) (bus : ℕ) (on : GuardRef) → has_guard m bus (Some on) ≡ true → list_any (λ g. is_same_guard g.on on) (guards_on m bus) ≡ true
guard_kept m bus on h = any_both (λ g. g.bus == bus) (λ g. is_same_guard g.on on) m.guards h

pub guard_code_inside : (m : Machine) (bus : ℕ) (guard : Option GuardRef) → has_guard m bus guard ≡ true → guard_code m bus guard < 1 + length (guards_on m bus)
guard_code_inside m bus None h = omega arith
guard_code_inside m bus (Some on) h = let lt = place_inside (λ (g : Guard). is_same_guard g.on on) (guards_on m bus) (guard_kept m bus on h) in omega arith

pub guard_code_tells : (m : Machine) (bus : ℕ) (a b : Option GuardRef) → has_guard m bus a ≡ true → has_guard m bus b ≡ true → guard_code m bus a ≡ guard_code m bus b → a ≡ b
guard_code_tells m bus None None h k same = refl
guard_code_tells m bus None (Some b) h k same = absurd (omega arith)
guard_code_tells m bus (Some a) None h k same = absurd (omega arith)
guard_code_tells m bus (Some a) (Some b) h k same =
    let place : position_or_len (λ (g : Guard). is_same_guard g.on a) (guards_on m bus) ≡ position_or_len (λ (g : Guard). is_same_guard g.on b) (guards_on m bus) = omega arith in
    let d : Guard = record { bus = bus; on = a } in
    let one = one_item (λ (g : Guard). is_same_guard g.on a) (λ (g : Guard). is_same_guard g.on b) (guards_on m bus) d (guard_kept m bus a h) (guard_kept m bus b k) place in
    ap (λ (g : GuardRef). Some g) (sym (same_guard_true one.0.on a one.1) ∙ same_guard_true one.0.on b one.2)
