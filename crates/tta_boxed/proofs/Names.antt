-- No two signals of a circuit that leaves operations to modules have one name.
use Rattle.std.proofs.Common.{◌≡◌, ℕ, ◌+◌, ◌-◌, ◌<◌, ◌≤◌, Bool, true, false, not, ◌&&◌, List, [], ◌∷◌, ◌++◌, map, filter, slice_get, Option, Some, None, refl, sym, ap, ◌∙◌, subst, arith}
use Rattle.std.specs.Prelude.{if◌then◌else◌, nat_le}
use Rattle.std.specs.Option.{option_map_or}
use Rattle.std.specs.List.{list_any, flat_map, enumerate_from, range_with_len, AllByRecursion}
use Rattle.std.proofs.lemmas.Bool.{true≢false, and_parts, and_from, or_parts, not-true, leb-true, le-leb}
use Rattle.std.proofs.lemmas.List.{append_assoc}
use Rattle.tta_arch.specs.declared.parts.Unit.{Unit as OpUnit}
use Rattle.tta_boxed.specs.Cited.{Machine, UnitOp, Circuit, Register, Store, Shows, IsFrom, Boxes, ops_of, are_apart, signals_of, same_signal}
use Rattle.tta_circuit.specs.Laws.{TellsApart}
use Rattle.tta_hardware.specs.Signals.{Signal as Named}
use Rattle.tta_hardware.proofs.Named.{tells}
use Rattle.tta_hardware.proofs.Different.{Apart, split, rises, risen, numbers_rise, enumerated_rise, pieces, tested}
use Rattle.tta_hardware.proofs.WiresFit.{both_lists, all_map}
use Rattle.tta_hardware.proofs.RegistersFit.{weaker}
use Rattle.tta_hardware.proofs.PlainWires.{all_made, every_piece}
use Rattle.tta_trap.proofs.Listed.{all_parts}
use Rattle.tta_boxed.specs.Boxed.{is_left, left_ops, boxed_register, from_register, op_registers, box_registers, box_inputs, boxed}
use Rattle.tta_boxed.proofs.Wholes.{is_box}
use Rattle.tta_boxed.proofs.Registers.{same_name, of_boxes}
use Rattle.tta_boxed.proofs.Inputs.{of_inputs}

-- ---- lists that rise

lower : {A : Type 0} (g : A → ℕ) (a b : ℕ) (xs : List A) → a ≤ b → rises g b xs ≡ true → rises g a xs ≡ true
lower g a b [] le up = refl
lower g a b (x ∷ xs) le up =
    let p = and_parts (nat_le b (g x)) (rises g (g x + 1) xs) up in
    let high = leb-true b (g x) p.0 in
    and_from (nat_le a (g x)) (rises g (g x + 1) xs) (le-leb a (g x) (omega (arith, le, high))) p.1

-- what is left of one rises
left_rises : {A : Type 0} (g : A → ℕ) (p : A → Bool) (least : ℕ) (xs : List A) → rises g least xs ≡ true
    → rises g least (filter p xs) ≡ true
left_rises g p least [] up = refl
left_rises g p least (x ∷ xs) up = by (p x) (left_rises g p (g x + 1) xs parts.1) where
  parts : (nat_le least (g x) ≡ true) × (rises g (g x + 1) xs ≡ true)
  parts = and_parts (nat_le least (g x)) (rises g (g x + 1) xs) up

  by : (b : Bool) → rises g (g x + 1) (filter p xs) ≡ true → rises g least (if b then x ∷ filter p xs else filter p xs) ≡ true
  by true rest = and_from (nat_le least (g x)) (rises g (g x + 1) (filter p xs)) parts.0 rest
  by false rest = let high = leb-true least (g x) parts.0 in lower g least (g x + 1) (filter p xs) (omega (arith, high)) rest

rises_map : {A B : Type 0} (g : B → ℕ) (f : A → B) (least : ℕ) (xs : List A) → rises g least (map f xs) ≡ rises (λ x. g (f x)) least xs
rises_map g f least [] = refl
rises_map g f least (x ∷ xs) = ap (λ b. nat_le least (g (f x)) && b) (rises_map g f (g (f x) + 1) xs)

-- ---- names of lists

map_both : {A B : Type 0} (f : A → B) (xs ys : List A) → map f (xs ++ ys) ≡ map f xs ++ map f ys
map_both f [] ys = refl
map_both f (x ∷ xs) ys = ap (λ l. f x ∷ l) (map_both f xs ys)

map_flat : {A B C : Type 0} (f : B → C) (g : A → List B) (xs : List A) → map f (flat_map g xs) ≡ flat_map (λ x. map f (g x)) xs
map_flat f g [] = refl
map_flat f g (x ∷ xs) = map_both f (g x) (flat_map g xs) ∙ ap (λ l. map f (g x) ++ l) (map_flat f g xs)

-- names of what a list makes, each of another owner
named_pieces : {A B : Type 0} (name : B → Named) (key : A → ℕ) (owner : Named → ℕ) (f : A → List B) (xs : List A) → rises key 0 xs ≡ true
    → ((x : A) → AllByRecursion (λ y. owner (name y) ≡ key x) (f x)) → ((x : A) → Apart (map name (f x)))
    → Apart (map name (flat_map f xs))
named_pieces name key owner f xs up owned each =
    subst (λ l. Apart l) (sym (map_flat name f xs))
    (pieces key owner (λ x. map name (f x)) 0 xs up (λ x. all_map (λ y. owner y ≡ key x) name (f x) (owned x)) each)

-- a test that says so
none_of : {N : Type 0} (same : N → N → Bool) → TellsApart same → (x : N) (xs : List N) → list_any (same x) xs ≡ false
    → AllByRecursion (λ y. x ≡ y → ⊥) xs
none_of same able x [] none = tt
none_of same able x (y ∷ xs) none =
    let p = or_parts (same x y) (list_any (same x) xs) none in
    (λ e. true≢false (sym (able.itself x) ∙ ap (same x) e ∙ p.0), none_of same able x xs p.1)

apart_from : {N : Type 0} (same : N → N → Bool) → TellsApart same → (xs : List N) → are_apart same xs ≡ true → Apart xs
apart_from same able [] is = tt
apart_from same able (x ∷ xs) is =
    let p = and_parts (not (list_any (same x) xs)) (are_apart same xs) is in
    (none_of same able x xs (not-true (list_any (same x) xs) p.0), apart_from same able xs p.1)

-- ---- kinds of signals

-- those of modules come last, and what modules show comes before what says whose a result is
abbrev kind : Named → ℕ
kind (Boxes (Shows unit op)) = 1
kind (Boxes (IsFrom unit op delay)) = 2
kind n = 0

abbrev turned : Named → ℕ
turned (Boxes b) = 0
turned n = 1

abbrev whose : Named → ℕ
whose (Boxes (Shows unit op)) = unit
whose (Boxes (IsFrom unit op delay)) = unit
whose n = 0

abbrev which : Named → ℕ
which (Boxes (Shows unit op)) = op
which (Boxes (IsFrom unit op delay)) = op
which n = 0

abbrev soon : Named → ℕ
soon (Boxes (IsFrom unit op delay)) = delay
soon n = 0

is_low : (n : Named) → is_box n ≡ false → kind n ≤ 1
is_low (Boxes b) is = absurd (true≢false is)
is_low n is = omega arith

is_high : (n : Named) → is_box n ≡ false → 0 < turned n
is_high (Boxes b) is = absurd (true≢false is)
is_high n is = omega arith

-- names of modules between others
inserted : (xs bs ys : List Named) → Apart (xs ++ ys) → Apart bs → AllByRecursion (λ n. is_box n ≡ false) (xs ++ ys)
    → AllByRecursion (λ n. turned n ≤ 0) bs → Apart ((xs ++ bs) ++ ys)
inserted [] bs ys apart own plain low =
    split turned 0 bs ys low (weaker (λ n. is_box n ≡ false) (λ n. 0 < turned n) ys is_high plain) own apart
inserted (x ∷ xs) bs ys apart own plain low =
    let parts = all_parts (λ y. x ≡ y → ⊥) xs ys apart.0 in (
      both_lists (λ y. x ≡ y → ⊥) (xs ++ bs) ys
          (both_lists (λ y. x ≡ y → ⊥) xs bs parts.0
          (weaker (λ n. turned n ≤ 0) (λ y. x ≡ y → ⊥) bs
          (λ b less e. let same = ap turned e in let high = is_high x plain.0 in omega (arith, less, same, high)) low)) parts.1,
      inserted xs bs ys apart.1 own plain.1 low,
    )

module _ (m : Machine) (leaves : ℕ → Bool) where
  ops_rise : (unit : ℕ) → rises (λ (o : ℕ × UnitOp). o.0) 0 (left_ops m leaves unit) ≡ true
  ops_rise unit = left_rises (λ o. o.0) (λ o. is_left m leaves o.1) 0 (ops_of m unit) (by (slice_get m.units unit)) where
    by : (o : Option OpUnit) → rises (λ (o : ℕ × UnitOp). o.0) 0 (option_map_or (λ u. enumerate_from 0 u.ops) o []) ≡ true
    by None = refl
    by (Some x) = enumerated_rise 0 x.ops

  inputs_apart : Apart (map (λ i. i.0) (box_inputs m leaves))
  inputs_apart =
      named_pieces (λ (i : Named × ℕ). i.0) (λ (u : ℕ × OpUnit). u.0) whose
      (λ u. map (λ o. (Boxes (Shows u.0 o.0), 32)) (left_ops m leaves u.0)) (enumerate_from 0 m.units) (enumerated_rise 0 m.units)
      (λ u. all_made (λ (i : Named × ℕ). whose i.0 ≡ u.0) (λ (o : ℕ × UnitOp). (Boxes (Shows u.0 o.0), 32)) (left_ops m leaves u.0)
      (λ o. refl))
      (λ u. risen which 0 (map (λ i. i.0) (map (λ o. (Boxes (Shows u.0 o.0), 32)) (left_ops m leaves u.0)))
      (rises_map which (λ (i : Named × ℕ). i.0) 0 (map (λ o. (Boxes (Shows u.0 o.0), 32)) (left_ops m leaves u.0))
      ∙ rises_map (λ (i : Named × ℕ). which i.0) (λ (o : ℕ × UnitOp). (Boxes (Shows u.0 o.0), 32)) 0 (left_ops m leaves u.0)
      ∙ ops_rise u.0))

  one_apart : (unit : ℕ) (o : ℕ × UnitOp) → Apart (map (λ r. r.name) (op_registers m leaves unit o))
  one_apart unit o =
      risen soon 1 (map (λ r. r.name) (op_registers m leaves unit o))
      (rises_map soon (λ (r : Register Named Store). r.name) 1 (op_registers m leaves unit o)
      ∙ rises_map (λ (r : Register Named Store). soon r.name) (from_register m leaves unit o.0 o.1.latency) 1
      (range_with_len 1 (o.1.latency - 1)) ∙ numbers_rise 1 (o.1.latency - 1))

  registers_apart : Apart (map (λ r. r.name) (box_registers m leaves))
  registers_apart =
      named_pieces (λ (r : Register Named Store). r.name) (λ (u : ℕ × OpUnit). u.0) whose
      (λ u. flat_map (op_registers m leaves u.0) (left_ops m leaves u.0)) (enumerate_from 0 m.units) (enumerated_rise 0 m.units)
      (λ u. every_piece (λ (r : Register Named Store). whose r.name ≡ u.0) (op_registers m leaves u.0) (left_ops m leaves u.0)
      (λ o. all_made (λ (r : Register Named Store). whose r.name ≡ u.0) (from_register m leaves u.0 o.0 o.1.latency)
      (range_with_len 1 (o.1.latency - 1)) (λ delay. refl)))
      (λ u. named_pieces (λ (r : Register Named Store). r.name) (λ (o : ℕ × UnitOp). o.0) which (op_registers m leaves u.0)
      (left_ops m leaves u.0) (ops_rise u.0)
      (λ o. all_made (λ (r : Register Named Store). which r.name ≡ o.0) (from_register m leaves u.0 o.0 o.1.latency)
      (range_with_len 1 (o.1.latency - 1)) (λ delay. refl)) (one_apart u.0))

  names_back : (rs : List (Register Named Store)) → map (λ r. r.name) (map (boxed_register m leaves) rs) ≡ map (λ r. r.name) rs
  names_back [] = refl
  names_back (r ∷ rs) =
      ap (λ (n : Named). n ∷ map (λ r. r.name) (map (boxed_register m leaves) rs)) (same_name m leaves r)
      ∙ ap (λ l. r.name ∷ l) (names_back rs)

  module _ (d : Circuit Named Store) (apart : are_apart same_signal (signals_of d) ≡ true)
      (plain : AllByRecursion (λ n. is_box n ≡ false) (signals_of d)) where
    abbrev ins : List Named
    ins = map (λ i. i.0) d.inputs

    abbrev wires : List Named
    wires = map (λ w. w.name) d.wires

    abbrev registers : List Named
    registers = map (λ r. r.name) d.registers

    abbrev shows : List Named
    shows = map (λ i. i.0) (box_inputs m leaves)

    abbrev froms : List Named
    froms = map (λ r. r.name) (box_registers m leaves)

    straight : signals_of (boxed m leaves d) ≡ ((ins ++ shows) ++ (wires ++ registers)) ++ froms
    straight =
        ap (λ l. l ++ wires ++ map (λ r. r.name) (boxed m leaves d).registers) (map_both (λ i. i.0) d.inputs (box_inputs m leaves))
        ∙ ap (λ l. (ins ++ shows) ++ wires ++ l)
        (map_both (λ r. r.name) (map (boxed_register m leaves) d.registers) (box_registers m leaves)
        ∙ ap (λ l. l ++ froms) (names_back d.registers))
        ∙ append_assoc (ins ++ shows) wires (registers ++ froms)
        ∙ ap (λ l. (ins ++ shows) ++ l) (sym (append_assoc wires registers froms))
        ∙ sym (append_assoc (ins ++ shows) (wires ++ registers) froms)

    flat : signals_of d ≡ ins ++ (wires ++ registers)
    flat = append_assoc ins wires registers

    plain_flat : AllByRecursion (λ n. is_box n ≡ false) (ins ++ (wires ++ registers))
    plain_flat = subst (λ l. AllByRecursion (λ n. is_box n ≡ false) l) flat plain

    shows_low : AllByRecursion (λ n. kind n ≤ 1) shows
    shows_low =
        all_map (λ n. kind n ≤ 1) (λ (i : Named × ℕ). i.0) (box_inputs m leaves)
        (of_inputs m leaves (λ i. kind i.0 ≤ 1) (λ unit op. omega arith))

    first_low : AllByRecursion (λ n. kind n ≤ 1) ((ins ++ shows) ++ (wires ++ registers))
    first_low =
        let parts = all_parts (λ n. is_box n ≡ false) ins (wires ++ registers) plain_flat in
        both_lists (λ n. kind n ≤ 1) (ins ++ shows) (wires ++ registers)
        (both_lists (λ n. kind n ≤ 1) ins shows (weaker (λ n. is_box n ≡ false) (λ n. kind n ≤ 1) ins is_low parts.0) shows_low)
        (weaker (λ n. is_box n ≡ false) (λ n. kind n ≤ 1) (wires ++ registers) is_low parts.1)

    pub all_apart : are_apart same_signal (signals_of (boxed m leaves d)) ≡ true
    all_apart =
        tested same_signal tells (signals_of (boxed m leaves d))
        (subst (λ l. Apart l) (sym straight)
        (split kind 1 ((ins ++ shows) ++ (wires ++ registers)) froms first_low
        (all_map (λ n. 1 < kind n) (λ (r : Register Named Store). r.name) (box_registers m leaves)
        (of_boxes m leaves (λ r. 1 < kind r.name) (λ unit op o at left delay. omega arith)))
        (inserted ins shows (wires ++ registers)
        (subst (λ l. Apart l) flat (apart_from same_signal tells (signals_of d) apart)) inputs_apart plain_flat
        (all_map (λ n. turned n ≤ 0) (λ (i : Named × ℕ). i.0) (box_inputs m leaves)
        (of_inputs m leaves (λ i. turned i.0 ≤ 0) (λ unit op. omega arith))))
        registers_apart))
