-- The places that the items of a list touch are places of the machine, and their numbers differ.
use Rattle.std.proofs.Common.{◌≡◌, ℕ, zero, suc, ◌+◌, ◌<◌, ◌≤◌, Bool, true, false, List, [], ◌∷◌, length, Option, Some, None, refl, sym, ap, subst, arith, ◌∙◌}
use Rattle.std.specs.Prelude.{◌&&◌, ◌||◌, ◌==◌, nat_lt, slice_get, option_and_then, if◌then◌else◌}
use Rattle.std.specs.Option.{option_map_or}
use Rattle.std.specs.List.{list_any, list_all, range_with_len}
use Rattle.std.proofs.lemmas.Bool.{and_from, and_parts, ltb-true, lt-ltb}
use Rattle.std.proofs.lemmas.Bool.Decides.{nat_tests}
use Rattle.std.proofs.lemmas.Option.{slice_get_within}
use Rattle.tta_list.proofs.Lists.{list_all_one}
use Rattle.tta_moves.specs.Cited.{Machine, IsMachine, is_file, is_imm, is_from_to, is_socket, is_guard, is_template, GuardRef, Source, Dest, File, ImmUnit, Guard, UnitOp, Place, KeptReg, KeptImm, KeptOperand, KeptRa, KeptPort, same_place, target_of, op_at, has_result, has_socket, within, source_socket, dest_socket, joins, is_source_on, is_dest_on, has_guard, is_same_guard, is_same}
use Rattle.tta_arch.specs.declared.ends.Source.TheVariants as source
use Rattle.tta_arch.specs.declared.ends.Dest.TheVariants as dest
use Rattle.tta_arch.specs.declared.parts.Template.{Template}
use Rattle.tta_arch.specs.declared.parts.Unit.{Unit as OpUnit}
use Rattle.tta_moves.specs.declared.items.ItemSource.{ItemSource}
use Rattle.tta_moves.specs.declared.items.ItemSource.TheVariants.{Port, Address}
use Rattle.tta_moves.specs.declared.items.LongValue.{LongValue}
use Rattle.tta_moves.specs.declared.items.LongValue.TheVariants as long
use Rattle.tta_moves.specs.declared.items.Item.{Item}
use Rattle.tta_moves.specs.declared.items.Item.TheVariants.{Move, Long}
use Rattle.tta_moves.specs.Touches.{guard_of, source_of, target_of_item, place_of, place_of_source, guard_place, place_written}
use Rattle.tta_moves.specs.Numbers.{place_number, is_place}
use Rattle.tta_moves.specs.Slots.{carried, fills, has_slot}
use Rattle.tta_arch.proofs.Facts.{from_to-greatest as from_to}

-- ---- numbers

-- two places of one number are one
pub one_place : (p q : Place) → is_place p ≡ true → is_place q ≡ true → place_number p ≡ place_number q → same_place p q ≡ true
one_place (KeptReg f i) (KeptReg g j) h k e = grind (arith, nat_tests)
one_place (KeptReg f i) (KeptImm g j) h k e = absurd (grind (arith, nat_tests))
one_place (KeptReg f i) (KeptOperand v) h k e = absurd (grind (arith, nat_tests))
one_place (KeptReg f i) KeptRa h k e = absurd (grind (arith, nat_tests))
one_place (KeptReg f i) (KeptPort v) h k e = absurd (grind (arith, nat_tests))
one_place (KeptImm f i) (KeptReg g j) h k e = absurd (grind (arith, nat_tests))
one_place (KeptImm f i) (KeptImm g j) h k e = grind (arith, nat_tests)
one_place (KeptImm f i) (KeptOperand v) h k e = absurd (grind (arith, nat_tests))
one_place (KeptImm f i) KeptRa h k e = absurd (grind (arith, nat_tests))
one_place (KeptImm f i) (KeptPort v) h k e = absurd (grind (arith, nat_tests))
one_place (KeptOperand u) (KeptReg g j) h k e = absurd (grind (arith, nat_tests))
one_place (KeptOperand u) (KeptImm g j) h k e = absurd (grind (arith, nat_tests))
one_place (KeptOperand u) (KeptOperand v) h k e = grind (arith, nat_tests)
one_place (KeptOperand u) KeptRa h k e = absurd (grind (arith, nat_tests))
one_place (KeptOperand u) (KeptPort v) h k e = absurd (grind (arith, nat_tests))
one_place KeptRa (KeptReg g j) h k e = absurd (grind (arith, nat_tests))
one_place KeptRa (KeptImm g j) h k e = absurd (grind (arith, nat_tests))
one_place KeptRa (KeptOperand v) h k e = absurd (grind (arith, nat_tests))
one_place KeptRa KeptRa h k e = refl
one_place KeptRa (KeptPort v) h k e = absurd (grind (arith, nat_tests))
one_place (KeptPort u) (KeptReg g j) h k e = absurd (grind (arith, nat_tests))
one_place (KeptPort u) (KeptImm g j) h k e = absurd (grind (arith, nat_tests))
one_place (KeptPort u) (KeptOperand v) h k e = absurd (grind (arith, nat_tests))
one_place (KeptPort u) KeptRa h k e = absurd (grind (arith, nat_tests))
one_place (KeptPort u) (KeptPort v) h k e = grind (arith, nat_tests)

pub number_below : (p : Place) → is_place p ≡ true → place_number p < 641
number_below (KeptReg f i) h = grind (arith, nat_tests)
number_below (KeptImm f i) h = grind (arith, nat_tests)
number_below (KeptOperand u) h = grind (arith, nat_tests)
number_below KeptRa h = omega arith
number_below (KeptPort u) h = grind (arith, nat_tests)

-- ---- the parts of a machine

-- a number below a limit, by one below a lower one
below : (n k limit : ℕ) → n < k → k ≤ limit → nat_lt n limit ≡ true
below n k limit h le = lt-ltb n limit (omega arith)

file_size : (m : Machine) → IsMachine m → (file : ℕ) (f : File) → slice_get m.files file ≡ Some f → f.size ≤ 64
file_size m rules file f e =
    let is = list_all_one (is_file m.sockets) m.files file f rules.files e in
    let five = (and_parts _ (is_socket m.sockets true f.into) is).0 in
    let four = (and_parts _ (is_socket m.sockets false f.out) five).0 in
    let three = (and_parts _ (is_from_to 1 16 f.write) four).0 in
    let two = (and_parts _ (is_from_to 1 16 f.read) three).0 in
    from_to 1 64 f.size (and_parts (f.width == 1 || f.width == 32) (is_from_to 1 64 f.size) two).1

imm_size : (m : Machine) → IsMachine m → (unit : ℕ) (i : ImmUnit) → slice_get m.imms unit ≡ Some i → i.size ≤ 16
imm_size m rules unit i e =
    let is = list_all_one (is_imm m.sockets) m.imms unit i rules.imms e in
    from_to 1 16 i.size (and_parts (is_from_to 1 16 i.size) (is_socket m.sockets false i.out) is).0

register_is : (m : Machine) → IsMachine m → (file index : ℕ) (f : File) → slice_get m.files file ≡ Some f → index < f.size → is_place (KeptReg file index) ≡ true
register_is m rules file index f e lt =
    and_from (nat_lt file 8) (nat_lt index 64)
    (below file (length m.files) 8 (slice_get_within m.files file f e) rules.limits.files)
    (below index f.size 64 lt (file_size m rules file f e))

imm_is : (m : Machine) → IsMachine m → (unit index : ℕ) (i : ImmUnit) → slice_get m.imms unit ≡ Some i → index < i.size → is_place (KeptImm unit index) ≡ true
imm_is m rules unit index i e lt =
    and_from (nat_lt unit 4) (nat_lt index 16)
    (below unit (length m.imms) 4 (slice_get_within m.imms unit i e) rules.limits.imms)
    (below index i.size 16 lt (imm_size m rules unit i e))

unit_is : (m : Machine) → IsMachine m → (unit : ℕ) (u : OpUnit) → slice_get m.units unit ≡ Some u → nat_lt unit 32 ≡ true
unit_is m rules unit u e = below unit (length m.units) 32 (slice_get_within m.units unit u e) rules.limits.units

-- ---- sockets

some_socket : (m : Machine) (input : Bool) (o : Option ℕ) (bus : ℕ) → has_socket m input o bus ≡ true → (k : ℕ) × (o ≡ Some k)
some_socket m input None bus h = absurd cc
some_socket m input (Some k) bus h = (k, refl)

-- what stands after an index that is within
within_is : {A : Type 0} (o : Option A) (size socket : A → ℕ) (index k : ℕ) → option_and_then (λ q. within index (size q) (socket q)) o ≡ Some k → (q : A) × (o ≡ Some q) × (index < size q)
within_is None size socket index k e = absurd cc
within_is (Some q) size socket index k e = on (nat_lt index (size q)) refl e where
  on : (b : Bool) → nat_lt index (size q) ≡ b → (if b then Some (socket q) else None) ≡ Some k → (r : _) × (◌≡◌ {A = Option _} (Some q) (Some r)) × (index < size r)
  on true t e = (q, refl, ltb-true index (size q) t)
  on false t e = absurd cc

part_is : {A : Type 0} (o : Option A) (socket : A → Option ℕ) (k : ℕ) → option_and_then socket o ≡ Some k → (q : A) × (o ≡ Some q)
part_is None socket k e = absurd cc
part_is (Some q) socket k e = (q, refl)

-- ---- the ends of a move that some bus joins

pub some_bus : (p : ℕ → Bool) (a n : ℕ) → list_any p (range_with_len a n) ≡ true → (k : ℕ) × (p k ≡ true)
some_bus p a zero h = absurd cc
some_bus p a (suc n) h = on (p a) refl h (λ more. some_bus p (a + 1) n more) where
  on : (b : Bool) → p a ≡ b → (b || list_any p (range_with_len (a + 1) n)) ≡ true → (list_any p (range_with_len (a + 1) n) ≡ true → (k : ℕ) × (p k ≡ true)) → (k : ℕ) × (p k ≡ true)
  on true e h more = (a, e)
  on false e h more = more h

source_is : (m : Machine) → IsMachine m → (bus : ℕ) (src : Source) (p : Place) → is_source_on m bus src ≡ true → place_of src ≡ Some p → is_place p ≡ true
source_is m rules bus (source.Value w) p h e = absurd cc
source_is m rules bus source.Ra p h e = let same : KeptRa ≡ p = cc in ap is_place (sym same)
source_is m rules bus (source.Reg f i) p h e =
    let s = some_socket m false (source_socket m (source.Reg f i)) bus h in
    let q = within_is (slice_get m.files f) (λ (q : File). q.size) (λ (q : File). q.out) i s.0 s.1 in
    let same : KeptReg f i ≡ p = cc in ap is_place (sym same) ∙ register_is m rules f i q.0 q.1 q.2
source_is m rules bus (source.Imm f i) p h e =
    let s = some_socket m false (source_socket m (source.Imm f i)) bus h in
    let q = within_is (slice_get m.imms f) (λ (q : ImmUnit). q.size) (λ (q : ImmUnit). q.out) i s.0 s.1 in
    let same : KeptImm f i ≡ p = cc in ap is_place (sym same) ∙ imm_is m rules f i q.0 q.1 q.2
source_is m rules bus (source.Shown unit) p h e =
    let s = some_socket m false (source_socket m (source.Shown unit)) bus h in
    let q = part_is (slice_get m.units unit) (λ (q : OpUnit). q.result) s.0 s.1 in
    let same : KeptPort unit ≡ p = cc in ap is_place (sym same) ∙ unit_is m rules unit q.0 q.1

port_is : (m : Machine) → IsMachine m → (unit : ℕ) (o : Option UnitOp) (p : Place) → nat_lt unit 32 ≡ true → option_map_or (λ o. if has_result o.op then Some (KeptPort unit) else None) o None ≡ Some p → is_place p ≡ true
port_is m rules unit None p lt e = absurd cc
port_is m rules unit (Some o) p lt e = on (has_result o.op) e where
  on : (b : Bool) → (if b then Some (KeptPort unit) else None) ≡ Some p → is_place p ≡ true
  on true e = let same : KeptPort unit ≡ p = cc in ap is_place (sym same) ∙ lt
  on false e = absurd cc

dest_is : (m : Machine) → IsMachine m → (bus : ℕ) (dst : Dest) (p : Place) → is_dest_on m bus dst ≡ true → place_written m (target_of dst) ≡ Some p → is_place p ≡ true
dest_is m rules bus dest.Jump p h e = absurd cc
dest_is m rules bus dest.Halt p h e = absurd cc
dest_is m rules bus dest.Call p h e = let same : KeptRa ≡ p = cc in ap is_place (sym same)
dest_is m rules bus (dest.Reg f i) p h e =
    let s = some_socket m true (dest_socket m (dest.Reg f i)) bus h in
    let q = within_is (slice_get m.files f) (λ (q : File). q.size) (λ (q : File). q.into) i s.0 s.1 in
    let same : KeptReg f i ≡ p = cc in ap is_place (sym same) ∙ register_is m rules f i q.0 q.1 q.2
dest_is m rules bus (dest.Operand unit) p h e =
    let s = some_socket m true (dest_socket m (dest.Operand unit)) bus h in
    let q = part_is (slice_get m.units unit) (λ (q : OpUnit). q.operand) s.0 s.1 in
    let same : KeptOperand unit ≡ p = cc in ap is_place (sym same) ∙ unit_is m rules unit q.0 q.1
dest_is m rules bus (dest.Trigger unit op) p h e =
    let s = some_socket m true (dest_socket m (dest.Trigger unit op)) bus h in
    let q = part_is (slice_get m.units unit) (λ (q : OpUnit). within op (length q.ops) q.trigger) s.0 s.1 in
    port_is m rules unit (op_at m unit op) p (unit_is m rules unit q.0 q.1) e

guard_in : (m : Machine) → IsMachine m → (gs : List Guard) → list_all (is_guard (length m.buses) m.files) gs ≡ true → (bus : ℕ) (on : GuardRef)
    → list_any (λ g. g.bus == bus && is_same_guard g.on on) gs ≡ true → is_place (guard_place on) ≡ true
guard_in m rules [] all bus ref h = absurd cc
guard_in m rules (g ∷ gs) all bus ref h =
    let two = and_parts (is_guard (length m.buses) m.files g) (list_all (is_guard (length m.buses) m.files) gs) all in
    on (g.bus == bus && is_same_guard g.on ref) refl h two.0 (λ more. guard_in m rules gs two.1 bus ref more) where
      by : (o : Option File) → slice_get m.files g.on.file ≡ o → option_map_or (λ f. f.width == 1 && nat_lt g.on.index f.size) o false ≡ true → is_place (KeptReg g.on.file g.on.index) ≡ true
      by None e t = absurd cc
      by (Some f) e t = register_is m rules g.on.file g.on.index f e (ltb-true g.on.index f.size (and_parts (f.width == 1) (nat_lt g.on.index f.size) t).1)

      here : is_same_guard g.on ref ≡ true → is_guard (length m.buses) m.files g ≡ true → is_place (guard_place ref) ≡ true
      here same is =
          let parts = and_parts (g.on.file == ref.file && g.on.index == ref.index) (is_same g.on.inverted ref.inverted) same in
          let ends = and_parts (g.on.file == ref.file) (g.on.index == ref.index) parts.0 in
          let file : g.on.file ≡ ref.file = grind (arith, nat_tests, ends.0) in
          let index : g.on.index ≡ ref.index = grind (arith, nat_tests, ends.1) in
          let place = by (slice_get m.files g.on.file) refl (and_parts (nat_lt g.bus (length m.buses)) _ is).1 in
          ap (λ i. is_place (KeptReg ref.file i)) (sym index) ∙ ap (λ f. is_place (KeptReg f g.on.index)) (sym file) ∙ place

      on : (b : Bool) → (g.bus == bus && is_same_guard g.on ref) ≡ b → (b || list_any (λ g. g.bus == bus && is_same_guard g.on ref) gs) ≡ true → is_guard (length m.buses) m.files g ≡ true
          → (list_any (λ g. g.bus == bus && is_same_guard g.on ref) gs ≡ true → is_place (guard_place ref) ≡ true) → is_place (guard_place ref) ≡ true
      on true t h is more = here (and_parts (g.bus == bus) (is_same_guard g.on ref) t).1 is
      on false t h is more = more h

template_in : (m : Machine) → IsMachine m → (ts : List Template) → list_all (is_template m.imms) ts ≡ true → (unit index : ℕ) → list_any (fills unit index) ts ≡ true → is_place (KeptImm unit index) ≡ true
template_in m rules [] all unit index h = absurd cc
template_in m rules (t ∷ ts) all unit index h =
    let two = and_parts (is_template m.imms t) (list_all (is_template m.imms) ts) all in
    on (fills unit index t) refl h two.0 (λ more. template_in m rules ts two.1 unit index more) where
      by : (o : Option ImmUnit) → slice_get m.imms t.imm ≡ o → option_map_or (λ i. nat_lt t.reg i.size) o false ≡ true → is_place (KeptImm t.imm t.reg) ≡ true
      by None e r = absurd cc
      by (Some i) e r = imm_is m rules t.imm t.reg i e (ltb-true t.reg i.size r)

      here : fills unit index t ≡ true → is_template m.imms t ≡ true → is_place (KeptImm unit index) ≡ true
      here same is =
          let ends = and_parts (t.imm == unit) (t.reg == index) same in
          let u : t.imm ≡ unit = grind (arith, nat_tests, ends.0) in
          let i : t.reg ≡ index = grind (arith, nat_tests, ends.1) in
          ap (λ j. is_place (KeptImm unit j)) (sym i) ∙ ap (λ k. is_place (KeptImm k t.reg)) (sym u) ∙ by (slice_get m.imms t.imm) refl is

      on : (b : Bool) → fills unit index t ≡ b → (b || list_any (fills unit index) ts) ≡ true → is_template m.imms t ≡ true
          → (list_any (fills unit index) ts ≡ true → is_place (KeptImm unit index) ≡ true) → is_place (KeptImm unit index) ≡ true
      on true r h is more = here r is
      on false r h is more = more h

-- ---- an item that has a slot

-- its places are places of the machine
pub record InRange (m : Machine) (x : Item) : Type 0 where
  pub source : (p : Place) → place_of_source (source_of x) ≡ Some p → is_place p ≡ true
  pub guard : (g : GuardRef) → guard_of x ≡ Some g → is_place (guard_place g) ≡ true
  pub target : (p : Place) → place_written m (target_of_item x) ≡ Some p → is_place p ≡ true

pub in_range : (m : Machine) → IsMachine m → (x : Item) → has_slot m x ≡ true → InRange m x
in_range m rules (Long unit index value) h = record {
  source = λ p e. on value p e;
  guard = λ g e. absurd cc;
  target = λ p e. let same : KeptImm unit index ≡ p = cc in ap is_place (sym same) ∙ template_in m rules m.templates rules.templates unit index h;
} where
  on : (v : LongValue) (p : Place) → place_of_source (source_of (Long unit index v)) ≡ Some p → is_place p ≡ true
  on (long.Word w) p e = absurd cc
  on (long.Address b) p e = absurd cc
in_range m rules (Move guard src dst) h =
    let bus = some_bus (λ bus. joins m bus (carried m src) dst guard) 0 (length m.buses) h in
    let two = and_parts (is_source_on m bus.0 (carried m src) && is_dest_on m bus.0 dst) (has_guard m bus.0 guard) bus.1 in
    let ends = and_parts (is_source_on m bus.0 (carried m src)) (is_dest_on m bus.0 dst) two.0 in
    record {
      source = λ p e. on src p bus.0 ends.0 e;
      guard = λ g e. guards guard g bus.0 e two.1;
      target = λ p e. dest_is m rules bus.0 dst p ends.1 e;
    } where
      on : (s : ItemSource) (p : Place) (bus : ℕ) → is_source_on m bus (carried m s) ≡ true → place_of_source s ≡ Some p → is_place p ≡ true
      on (Port src) p bus h e = source_is m rules bus src p h e
      on (Address b) p bus h e = absurd cc

      guards : (o : Option GuardRef) (g : GuardRef) (bus : ℕ) → o ≡ Some g → has_guard m bus o ≡ true → is_place (guard_place g) ≡ true
      guards None g bus e h = absurd cc
      guards (Some r) g bus e h = let same : r ≡ g = cc in subst (λ (q : GuardRef). is_place (guard_place q) ≡ true) same (guard_in m rules m.guards rules.guards bus r h)
