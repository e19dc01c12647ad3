-- What is known of the instructions that a machine can carry out.
use Rattle.std.proofs.Common.{◌≡◌, ℕ, zero, suc, ◌+◌, ◌<◌, ◌==◌, Bool, true, false, ◌&&◌, ◌||◌, nat_lt, IsTrue, List, [], ◌∷◌, length, map, Option, Some, None, refl, ap, ◌∙◌, subst, arith}
use Rattle.std.specs.Prelude.{is_some, slice_get, option_map, option_and_then, if◌then◌else◌}
use Rattle.std.specs.Option.{option_map_or}
use Rattle.std.specs.List.{list_any, list_all, filter_map, AllByRecursion}
use Rattle.std.proofs.lemmas.Bool.{and_parts, and_from, eqb-true, ltb-true, lt-ltb}
use Rattle.tta_list.proofs.Lists.{list_all_one, some_within}
use Rattle.tta_sim.specs.Cited.{File, ImmUnit, Guard, Template, GuardRef, Source, Dest, Machine, within, source_socket, dest_socket, has_socket, is_source_on, is_dest_on, has_guard, joins, is_same, is_same_guard, all_slots, IsMachine, is_file, is_imm, is_guard, is_template, KeptReg, KeptImm, Move, Long, Instruction, moves_of, ends_of, is_legal}
use Rattle.tta_arch.specs.declared.ends.Source.TheVariants as source
use Rattle.tta_arch.specs.declared.ends.Dest.TheVariants as dest
use Rattle.tta_arch.proofs.Sizes.{small_file, small_imm}
use Rattle.tta_code.proofs.LegalParts.{legal_parts}
use Rattle.tta_sim.specs.Places.{is_place}
use Rattle.tta_sim.specs.Moves.{is_askable, is_readable, is_reachable, is_possible, is_possible_slot, IsPossible}
use Rattle.tta_sim.specs.Writing.{is_long_place}
use Rattle.tta_sim.specs.Decoded.{has_operation}

-- ---- parts

-- an element of a list, of which something is known
pub record Found {A : Type 0} (xs : List A) (k : ℕ) (test : A → Bool) : Type 0 where
  pub item : A
  pub at : slice_get xs k ≡ Some item
  pub within : k < length xs
  pub passes : test item ≡ true

-- where something comes of the element at a place, there is one
pub found : {A B : Type 0} (g : A → Option B) (xs : List A) (k : ℕ) → is_some (option_and_then g (slice_get xs k)) ≡ true → Found xs k (λ x. is_some (g x))
found g [] k some = cc
found g (x ∷ xs) zero some = record { item = x; at = refl; within = omega arith; passes = some }
found g (x ∷ xs) (suc k) some = let rest = found g xs k some in record { item = rest.item; at = rest.at; within = omega (arith, rest.within); passes = rest.passes }

pub found_if : {A : Type 0} (test : A → Bool) (xs : List A) (k : ℕ) → option_map_or test (slice_get xs k) false ≡ true → Found xs k test
found_if test [] k some = cc
found_if test (x ∷ xs) zero some = record { item = x; at = refl; within = omega arith; passes = some }
found_if test (x ∷ xs) (suc k) some = let rest = found_if test xs k some in record { item = rest.item; at = rest.at; within = omega (arith, rest.within); passes = rest.passes }

index_within : (index size socket : ℕ) → is_some (within index size socket) ≡ true → nat_lt index size ≡ true
index_within index size socket some = by (nat_lt index size) some where
  by : (b : Bool) → is_some (if b then Some socket else None) ≡ true → b ≡ true
  by true some = refl
  by false some = cc

socket_there : (m : Machine) (input : Bool) (o : Option ℕ) (bus : ℕ) → has_socket m input o bus ≡ true → is_some o ≡ true
socket_there m input None bus has = cc
socket_there m input (Some k) bus has = refl

-- a register within the bounds of its row has a place there
place_from : (unit index units size : ℕ) → unit < units → index < size → (nat_lt unit units && nat_lt index size) ≡ true
place_from unit index units size low inside = and_from (nat_lt unit units) (nat_lt index size) (lt-ltb unit units low) (lt-ltb index size inside)

module _ (m : Machine) (rules : IsMachine m) where
  -- a register of a file
  file_place : (f : File) (file index : ℕ) → slice_get m.files file ≡ Some f → file < length m.files → nat_lt index f.size ≡ true → is_place (KeptReg file index) ≡ true
  file_place f file index at within inside =
      let is : is_file m.sockets f ≡ true = list_all_one (is_file m.sockets) m.files file f rules.files at in
      let size = small_file m.sockets f is in
      place_from file index 8 64 (omega (arith, within, rules.limits.files)) (omega (arith, size, ltb-true index f.size inside))

  imm_place : (u : ImmUnit) (unit index : ℕ) → slice_get m.imms unit ≡ Some u → unit < length m.imms → nat_lt index u.size ≡ true → is_place (KeptImm unit index) ≡ true
  imm_place u unit index at within inside =
      let is : is_imm m.sockets u ≡ true = list_all_one (is_imm m.sockets) m.imms unit u rules.imms at in
      let size = small_imm m.sockets u is in
      place_from unit index 4 16 (omega (arith, within, rules.limits.imms)) (omega (arith, size, ltb-true index u.size inside))

  -- ---- the ends of a move

  source_there : (bus : ℕ) (src : Source) → is_source_on m bus src ≡ true → is_readable (length m.units) src ≡ true
  source_there bus (source.Reg file index) on =
      let f = found (λ q. within index q.size q.out) m.files file (socket_there m false (source_socket m (source.Reg file index)) bus on) in
      file_place f.item file index f.at f.within (index_within index f.item.size f.item.out f.passes)
  source_there bus (source.Imm unit index) on =
      let f = found (λ q. within index q.size q.out) m.imms unit (socket_there m false (source_socket m (source.Imm unit index)) bus on) in
      imm_place f.item unit index f.at f.within (index_within index f.item.size f.item.out f.passes)
  source_there bus (source.Shown unit) on =
      let f = found (λ u. u.result) m.units unit (socket_there m false (source_socket m (source.Shown unit)) bus on) in
      lt-ltb unit (length m.units) f.within
  source_there bus source.Ra on = refl
  source_there bus (source.Value word) on = refl

  dest_there : (bus : ℕ) (dst : Dest) → is_dest_on m bus dst ≡ true → is_reachable (length m.units) dst ≡ true
  dest_there bus (dest.Reg file index) on =
      let f = found (λ q. within index q.size q.into) m.files file (socket_there m true (dest_socket m (dest.Reg file index)) bus on) in
      file_place f.item file index f.at f.within (index_within index f.item.size f.item.into f.passes)
  dest_there bus (dest.Operand unit) on =
      let f = found (λ u. u.operand) m.units unit (socket_there m true (dest_socket m (dest.Operand unit)) bus on) in
      lt-ltb unit 32 (omega (arith, f.within, rules.limits.units))
  dest_there bus (dest.Trigger unit op) on =
      let f = found (λ u. within op (length u.ops) u.trigger) m.units unit (socket_there m true (dest_socket m (dest.Trigger unit op)) bus on) in
      lt-ltb unit (length m.units) f.within
  dest_there bus dest.Jump on = refl
  dest_there bus dest.Call on = refl
  dest_there bus dest.Halt on = refl

  -- a move to a trigger port starts an operation that there is
  operation_there : (bus : ℕ) (v : Move) → is_dest_on m bus v.dst ≡ true → has_operation m v ≡ true
  operation_there bus v on = by v.dst on where
    by : (d : Dest) → is_dest_on m bus d ≡ true → has_operation m (record v { dst = d }) ≡ true
    by (dest.Reg file index) on = refl
    by (dest.Operand unit) on = refl
    by (dest.Trigger unit op) on =
        let f = found (λ u. within op (length u.ops) u.trigger) m.units unit (socket_there m true (dest_socket m (dest.Trigger unit op)) bus on) in
        let inside = ltb-true op (length f.item.ops) (index_within op (length f.item.ops) f.item.trigger f.passes) in
        ap (λ o. is_some (option_and_then (λ u. slice_get u.ops op) o)) f.at ∙ some_within f.item.ops op inside
    by dest.Jump on = refl
    by dest.Call on = refl
    by dest.Halt on = refl

  -- ---- guards

  guard_there : (g : Guard) → is_guard (length m.buses) m.files g ≡ true → is_place (KeptReg g.on.file g.on.index) ≡ true
  guard_there g is =
      let both = and_parts (nat_lt g.bus (length m.buses)) (option_map_or (λ f. f.width == 1 && nat_lt g.on.index f.size) (slice_get m.files g.on.file) false) is in
      let f = found_if (λ f. f.width == 1 && nat_lt g.on.index f.size) m.files g.on.file both.1 in
      file_place f.item g.on.file g.on.index f.at f.within (and_parts (f.item.width == 1) (nat_lt g.on.index f.item.size) f.passes).1

  some_guard : (bus : ℕ) (on : GuardRef) (guards : List Guard) → list_all (is_guard (length m.buses) m.files) guards ≡ true
      → list_any (λ g. g.bus == bus && is_same_guard g.on on) guards ≡ true → is_place (KeptReg on.file on.index) ≡ true
  some_guard bus on [] all any = cc
  some_guard bus on (g ∷ guards) all any =
      let both = and_parts (is_guard (length m.buses) m.files g) (list_all (is_guard (length m.buses) m.files) guards) all in
      elim (g.bus == bus && is_same_guard g.on on) as (λ b. (g.bus == bus && is_same_guard g.on on) ≡ b → (b || list_any (λ g. g.bus == bus && is_same_guard g.on on) guards) ≡ true → is_place (KeptReg on.file on.index) ≡ true) [
        | true ↦ λ is any.
            let there = guard_there g both.0 in
            let same = and_parts (g.bus == bus) (is_same_guard g.on on) is in
            let ends = and_parts (g.on.file == on.file && g.on.index == on.index) (is_same g.on.inverted on.inverted) same.1 in
            let two = and_parts (g.on.file == on.file) (g.on.index == on.index) ends.0 in
            let file = eqb-true g.on.file on.file two.0 in
            let index = eqb-true g.on.index on.index two.1 in
            subst (λ f. is_place (KeptReg f on.index) ≡ true) file (subst (λ i. is_place (KeptReg g.on.file i) ≡ true) index there)
        | false ↦ λ is any. some_guard bus on guards both.1 any
      ] refl any

  asks : (bus : ℕ) (guard : Option GuardRef) → has_guard m bus guard ≡ true → is_askable guard ≡ true
  asks bus None has = refl
  asks bus (Some on) has = some_guard bus on m.guards rules.guards has

  -- ---- instructions

  move_possible : (bus : ℕ) (v : Move) → joins m bus v.src v.dst v.guard ≡ true → is_possible (length m.units) v ≡ true
  move_possible bus v joined =
      let two = and_parts (is_source_on m bus v.src && is_dest_on m bus v.dst) (has_guard m bus v.guard) joined in
      let one = and_parts (is_source_on m bus v.src) (is_dest_on m bus v.dst) two.0 in
      let src = source_there bus v.src one.0 in
      let dst = dest_there bus v.dst one.1 in
      let guard = asks bus v.guard two.1 in
      rw (guard, src, dst) refl

  slots_possible : (bus : ℕ) (slots : List (Option Move)) → all_slots (λ bus o. option_map_or (λ v. joins m bus v.src v.dst v.guard) o true) bus (map (option_map ends_of) slots) ≡ true
      → AllByRecursion (λ slot. IsTrue (is_possible_slot (length m.units) slot)) slots
  slots_possible bus [] all = tt
  slots_possible bus (None ∷ slots) all = (refl, slots_possible (bus + 1) slots all)
  slots_possible bus (Some v ∷ slots) all =
      let both = and_parts (joins m bus v.src v.dst v.guard) (all_slots (λ bus o. option_map_or (λ v. joins m bus v.src v.dst v.guard) o true) (bus + 1) (map (option_map ends_of) slots)) all in
      (move_possible bus v both.0, slots_possible (bus + 1) slots both.1)

  template_there : (t : Template) → is_template m.imms t ≡ true → is_place (KeptImm t.imm t.reg) ≡ true
  template_there t is =
      let f = found_if (λ i. nat_lt t.reg i.size) m.imms t.imm is in
      imm_place f.item t.imm t.reg f.at f.within f.passes

  pub long_possible : (long : Option Long) → is_long_place m long ≡ true
  long_possible None = refl
  long_possible (Some l) = by (slice_get m.templates l.template) refl where
    by : (o : Option Template) → slice_get m.templates l.template ≡ o → option_map_or (λ t. is_place (KeptImm t.imm t.reg)) o true ≡ true
    by None at = refl
    by (Some t) at = template_there t (list_all_one (is_template m.imms) m.templates l.template t rules.templates at)

  -- a legal instruction is one that a run can carry out
  pub possible : (i : Instruction) → is_legal m i ≡ true → IsPossible m i
  possible i h =
      let parts = legal_parts m i h in
      record {
        few = omega (arith, eqb-true (length i.moves) (length m.buses) parts.count, rules.limits.buses);
        slots = slots_possible 0 i.moves parts.joined;
        units = rules.limits.units;
      }

  slots_operate : (bus : ℕ) (slots : List (Option Move)) → all_slots (λ bus o. option_map_or (λ v. joins m bus v.src v.dst v.guard) o true) bus (map (option_map ends_of) slots) ≡ true
      → AllByRecursion (λ v. has_operation m v ≡ true) (filter_map (λ o. o) slots)
  slots_operate bus [] all = tt
  slots_operate bus (None ∷ slots) all = slots_operate (bus + 1) slots all
  slots_operate bus (Some v ∷ slots) all =
      let both = and_parts (joins m bus v.src v.dst v.guard) (all_slots (λ bus o. option_map_or (λ v. joins m bus v.src v.dst v.guard) o true) (bus + 1) (map (option_map ends_of) slots)) all in
      let two = and_parts (is_source_on m bus v.src && is_dest_on m bus v.dst) (has_guard m bus v.guard) both.0 in
      let one = and_parts (is_source_on m bus v.src) (is_dest_on m bus v.dst) two.0 in
      (operation_there bus v one.1, slots_operate (bus + 1) slots both.1)

  -- the moves of a legal instruction start operations that there are
  pub operations_there : (i : Instruction) → is_legal m i ≡ true → AllByRecursion (λ v. has_operation m v ≡ true) (moves_of i)
  operations_there i h = slots_operate 0 i.moves (legal_parts m i h).joined
