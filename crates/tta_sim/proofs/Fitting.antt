-- A legal instruction is decoded into a line that a run can carry out.
use Rattle.std.proofs.Common.{◌≡◌, ℕ, ◌<◌, ◌≤◌, Bool, true, false, ◌&&◌, IsTrue, List, [], ◌∷◌, ◌++◌, length, map, Option, Some, None, refl, arith}
use Rattle.std.specs.Prelude.{nat_lt, option_map, option_to_list, slice_get}
use Rattle.std.specs.Option.{option_map_or}
use Rattle.std.specs.List.{filter_map, cons_option, AllByRecursion}
use Rattle.std.proofs.lemmas.Bool.{and_parts, and_from, ltb-true}
use Rattle.std.proofs.lemmas.List.{length-append}
use Rattle.tta_sim.specs.Cited.{UnitOp, Template, GuardRef, Source, Dest, Machine, IsMachine, KeptReg, KeptImm, KeptOperand, write_of, op_at, Move, Long, Instruction, moves_of, is_legal}
use Rattle.tta_arch.specs.declared.ends.Source.TheVariants as source
use Rattle.tta_arch.specs.declared.ends.Dest.TheVariants as dest
use Rattle.tta_sim.specs.declared.decoded.DecodedSource.TheVariants as decoded
use Rattle.tta_sim.specs.declared.decoded.DecodedWrite.{DecodedWrite}
use Rattle.tta_sim.specs.Places.{is_place, number_of}
use Rattle.tta_sim.specs.Moves.{Arrival, is_askable, is_readable, is_reachable, is_possible, is_possible_slot, brought_of}
use Rattle.tta_sim.specs.Starts.{AreReachable}
use Rattle.tta_sim.specs.Writing.{is_long_place, long_writes, ArePlaces}
use Rattle.tta_sim.specs.Decoded.{source_decoded, reading_of, write_decoded, start_decoded, control_decoded, long_decoded, line_of}
use Rattle.tta_sim.specs.Lines.{is_source_there, is_reading_there, is_write_there, is_start_there, is_control_there, IsLineThere}
use Rattle.tta_sim.proofs.Rows.{number_within}
use Rattle.tta_sim.proofs.Lists.{length-filter_map}
use Rattle.tta_sim.proofs.Possible.{possible, long_possible}

-- what a function gives of elements passes where each of its answers does
all_filter_map : {A B : Type 0} (p : B → Bool) (g : A → Option B) (xs : List A) → AllByRecursion (λ x. option_map_or p (g x) true ≡ true) xs
    → AllByRecursion (λ y. IsTrue (p y)) (filter_map g xs)
all_filter_map p g [] all = tt
all_filter_map p g (x ∷ xs) all =
    let rest = all_filter_map p g xs all.1 in
    elim (g x) as (λ o. option_map_or p o true ≡ true → AllByRecursion (λ y. IsTrue (p y)) (cons_option o (filter_map g xs))) [
      | None ↦ λ here. rest
      | Some y ↦ λ here. (here, rest)
    ] all.0

all_append : {A : Type 0} (p : A → Bool) (xs ys : List A) → AllByRecursion (λ x. IsTrue (p x)) xs → AllByRecursion (λ x. IsTrue (p x)) ys → AllByRecursion (λ x. IsTrue (p x)) (xs ++ ys)
all_append p [] ys one other = other
all_append p (x ∷ xs) ys one other = (one.0, all_append p xs ys one.1 other)

-- the moves that there are, of slots that are empty or have possible moves
moves_possible : (units : ℕ) (slots : List (Option Move)) → AllByRecursion (λ slot. IsTrue (is_possible_slot units slot)) slots
    → AllByRecursion (λ v. is_possible units v ≡ true) (filter_map (λ o. o) slots)
moves_possible units [] all = tt
moves_possible units (None ∷ slots) all = moves_possible units slots all.1
moves_possible units (Some v ∷ slots) all = (all.0, moves_possible units slots all.1)

module _ (m : Machine) (units : ℕ) (few : units ≤ 32) where
  within : (number : ℕ) → number < 609 → nat_lt number 609 ≡ true
  within number less = grind (arith, less)

  guard_there : (guard : Option GuardRef) → is_askable guard ≡ true → option_map_or (λ g. nat_lt g.place 609) (reading_of (record { guard = guard; src = source.Ra; dst = dest.Halt })).guard true ≡ true
  guard_there None asks = refl
  guard_there (Some g) asks = within (number_of (KeptReg g.file g.index)) (number_within (KeptReg g.file g.index) asks)

  source_there : (src : Source) → is_readable units src ≡ true → is_source_there units (source_decoded src) ≡ true
  source_there (source.Reg file index) reads = within (number_of (KeptReg file index)) (number_within (KeptReg file index) reads)
  source_there (source.Imm unit index) reads = within (number_of (KeptImm unit index)) (number_within (KeptImm unit index) reads)
  source_there (source.Shown unit) reads = reads
  source_there source.Ra reads = refl
  source_there (source.Value word) reads = refl

  reading_there : (v : Move) → is_possible units v ≡ true → is_reading_there units (reading_of v) ≡ true
  reading_there v possible =
      let one = and_parts (is_askable v.guard) (is_readable units v.src && is_reachable units v.dst) possible in
      let two = and_parts (is_readable units v.src) (is_reachable units v.dst) one.1 in
      rw (guard_there v.guard one.0, source_there v.src two.0) refl

  reaches : (v : Move) → is_possible units v ≡ true → is_reachable units v.dst ≡ true
  reaches v possible =
      let one = and_parts (is_askable v.guard) (is_readable units v.src && is_reachable units v.dst) possible in
      (and_parts (is_readable units v.src) (is_reachable units v.dst) one.1).1

  write_there : (back : ℕ) (v : Move) → is_possible units v ≡ true → option_map_or (is_write_there units) (write_decoded m back v) true ≡ true
  write_there back v possible = by v.dst (reaches v possible) where
    by : (d : Dest) → is_reachable units d ≡ true → option_map_or (is_write_there units) (write_decoded m back (record v { dst = d })) true ≡ true
    by (dest.Reg file index) there = rw (reading_there v possible) (within (number_of (KeptReg file index)) (number_within (KeptReg file index) there))
    by (dest.Operand unit) there = rw (reading_there v possible) (within (number_of (KeptOperand unit)) (number_within (KeptOperand unit) there))
    by (dest.Trigger unit op) there = refl
    by dest.Jump there = refl
    by dest.Call there =
        let one = and_parts (is_askable v.guard) (is_readable units v.src && is_reachable units v.dst) possible in
        rw (guard_there v.guard one.0) refl
    by dest.Halt there = refl

  start_there : (v : Move) → is_possible units v ≡ true → option_map_or (is_start_there units) (start_decoded m v) true ≡ true
  start_there v possible = by v.dst (reaches v possible) where
    by : (d : Dest) → is_reachable units d ≡ true → option_map_or (is_start_there units) (start_decoded m (record v { dst = d })) true ≡ true
    by (dest.Reg file index) there = refl
    by (dest.Operand unit) there = refl
    by (dest.Trigger unit op) there = of (op_at m unit op) where
      unit_there : is_place (KeptOperand unit) ≡ true
      unit_there = let less = ltb-true unit units there in grind (arith, less, few)

      of : (o : Option UnitOp) → option_map_or (is_start_there units) (option_map (λ u. record { reading = reading_of v; unit = unit; does = u }) o) true ≡ true
      of None = refl
      of (Some u) = rw (reading_there v possible) (and_from (is_place (KeptOperand unit)) (nat_lt unit units) unit_there there)
    by dest.Jump there = refl
    by dest.Call there = refl
    by dest.Halt there = refl

  control_there : (v : Move) → is_possible units v ≡ true → option_map_or (is_control_there units) (control_decoded v) true ≡ true
  control_there v possible = by v.dst where
    by : (d : Dest) → option_map_or (is_control_there units) (control_decoded (record v { dst = d })) true ≡ true
    by (dest.Reg file index) = refl
    by (dest.Operand unit) = refl
    by (dest.Trigger unit op) = refl
    by dest.Jump = reading_there v possible
    by dest.Call = reading_there v possible
    by dest.Halt = reading_there v possible

  long_there : (long : Option Long) → is_long_place m long ≡ true → AllByRecursion (λ w. IsTrue (is_write_there units w)) (option_to_list (long_decoded m long))
  long_there None placed = tt
  long_there (Some l) placed = by (slice_get m.templates l.template) placed where
    by : (o : Option Template) → option_map_or (λ t. is_place (KeptImm t.imm t.reg)) o true ≡ true
        → AllByRecursion (λ w. IsTrue (is_write_there units w))
        (option_to_list (option_map {T = Template} {U = DecodedWrite} (λ t. record { reading = record { guard = None; src = decoded.Word l.value }; place = number_of (KeptImm t.imm t.reg); narrow = false }) o))
    by None placed = tt
    by (Some t) placed = (within (number_of (KeptImm t.imm t.reg)) (number_within (KeptImm t.imm t.reg) placed), tt)

  each : (p : Move → Bool) → ((v : Move) → is_possible units v ≡ true → p v ≡ true) → (ms : List Move) → AllByRecursion (λ v. is_possible units v ≡ true) ms
      → AllByRecursion (λ v. p v ≡ true) ms
  each p gives [] all = tt
  each p gives (v ∷ ms) all = (gives v all.0, each p gives ms all.1)

length-option : {A : Type 0} (o : Option A) → length (option_to_list o) ≤ 1
length-option None = omega arith
length-option (Some x) = omega arith

-- a legal instruction is decoded into a line that is there
pub line_there : (m : Machine) → IsMachine m → (back : ℕ) (i : Instruction) → is_legal m i ≡ true → IsLineThere (length m.units) (line_of m back i)
line_there m rules back i legal =
    let fits = possible m rules i legal in
    let units = length m.units in
    let ms = moves_of i in
    let all = moves_possible units i.moves fits.slots in
    let count = length-filter_map {A = Option Move} {B = Move} (λ o. o) i.moves in
    let writes = filter_map (write_decoded m back) ms in
    record {
      few_writes =
          omega (arith, fits.few, count, length-filter_map (write_decoded m back) ms, length-append writes (option_to_list (long_decoded m i.long)), length-option (long_decoded m i.long));
      few_starts = omega (arith, fits.few, count, length-filter_map (start_decoded m) ms);
      pure = refl;
      writes =
          all_append (is_write_there units) writes (option_to_list (long_decoded m i.long))
          (all_filter_map (is_write_there units) (write_decoded m back) ms
          (each m units fits.units (λ v. option_map_or (is_write_there units) (write_decoded m back v) true) (write_there m units fits.units back) ms all))
          (long_there m units fits.units i.long (long_possible m rules i.long));
      starts =
          all_filter_map (is_start_there units) (start_decoded m) ms
          (each m units fits.units (λ v. option_map_or (is_start_there units) (start_decoded m v) true) (start_there m units fits.units) ms all);
      controls =
          all_filter_map (is_control_there units) control_decoded ms
          (each m units fits.units (λ v. option_map_or (is_control_there units) (control_decoded v) true) (control_there m units fits.units) ms all);
    }

-- ---- places

long_placed : (m : Machine) (long : Option Long) → is_long_place m long ≡ true → ArePlaces (long_writes m long)
long_placed m None placed = tt
long_placed m (Some l) placed = by (slice_get m.templates l.template) placed where
  by : (o : Option Template) → option_map_or (λ t. is_place (KeptImm t.imm t.reg)) o true ≡ true → ArePlaces (option_map_or (λ t. (KeptImm t.imm t.reg, l.value) ∷ []) o [])
  by None placed = tt
  by (Some t) placed = (placed, tt)

-- all that a cycle writes has a place
pub writes_placed : (m : Machine) (back units : ℕ) (arrivals : List Arrival) (long : Option Long) → AreReachable units arrivals → is_long_place m long ≡ true
    → ArePlaces (filter_map (write_of m back) (map brought_of arrivals) ++ long_writes m long)
writes_placed m back units [] long there placed = long_placed m long placed
writes_placed m back units (a ∷ arrivals) long there placed = by a.dst there.0 (writes_placed m back units arrivals long there.1 placed) where
  by : (d : Dest) → is_reachable units d ≡ true → ArePlaces (filter_map (write_of m back) (map brought_of arrivals) ++ long_writes m long)
      → ArePlaces (filter_map (write_of m back) (map brought_of (record { dst = d; word = a.word } ∷ arrivals)) ++ long_writes m long)
  by (dest.Reg file index) there rest = (there, rest)
  by (dest.Operand unit) there rest = (there, rest)
  by (dest.Trigger unit op) there rest = rest
  by dest.Jump there rest = rest
  by dest.Call there rest = (refl, rest)
  by dest.Halt there rest = rest
