-- The wires of a circuit that tells the first fault: which there are, and their order.
use Rattle.std.proofs.Common.{◌≡◌, ℕ, zero, suc, ◌+◌, ◌<◌, ◌≤◌, Bool, true, false, ◌&&◌, ◌||◌, List, [], ◌∷◌, ◌++◌, length, map, refl, ap, ◌∙◌, arith}
use Rattle.std.specs.Prelude.{if◌then◌else◌, nat_le, nat_lt}
use Rattle.std.specs.List.{list_any, flat_map, enumerate_from, range_with_len, AllByRecursion}
use Rattle.std.proofs.lemmas.Bool.{and_parts, and_from, or_left, or_right, le-leb, leb-true, ltb-true, lt-ltb}
use Rattle.std.proofs.lemmas.List.{append_assoc}
use Rattle.tta_image.proofs.Places.{any_left, any_right}
use Rattle.tta_circuit.specs.Order.{reads_below, is_ordered}
use Rattle.tta_circuit.specs.Laws.{AreMadeBy}
use Rattle.tta_trap.specs.Cited.{Machine, IsMachine, numbers, Controls, GoalNow, EndsNow, Lands, Asks, Gives, FaultNow, Watches, first_wires, bus_wires, unit_wires}
use Rattle.tta_hardware.specs.Hardware.{wire_names}
use Rattle.tta_hardware.specs.Signals.{Signal as Named}
use Rattle.tta_hardware.proofs.WiresFit.{both_lists}
use Rattle.tta_hardware.proofs.RegistersFit.{weaker}
use Rattle.tta_hardware.proofs.PlainWires.{below_all, all_pieces, every_piece}
use Rattle.tta_hardware.proofs.There.{is_there, wires_there}
use Rattle.tta_hardware.proofs.WiresApart.{of_wires, of_buses, of_units}
use Rattle.tta_trap.specs.Watches.{bus_watches, unit_watches, watch_wires}
use Rattle.tta_trap.specs.Trap.{trap_made, trap_wire, early_wires, late_wires, trap_wires}
use Rattle.tta_trap.specs.Sized.{trap_rank}
use Rattle.tta_trap.proofs.Meets.{meets}
use Rattle.tta_trap.proofs.Present.{trap_there, still_there, may, passes}
use Rattle.tta_trap.proofs.MemoryReads.{wire_reads}

-- ---- lists

-- what is in two lists is in one of them
pub in_either : {A : Type 0} (R : Type 0) (p : A → Bool) (xs ys : List A) → list_any p (xs ++ ys) ≡ true
    → (list_any p xs ≡ true → R) → (list_any p ys ≡ true → R) → R
in_either R p [] ys any first second = second any
in_either R p (x ∷ xs) ys any first second =
    by (p x) refl any (λ there. in_either R p xs ys there (λ here. first (or_right (p x) (list_any p xs) here)) second)
  where
    by : (b : Bool) → p x ≡ b → (b || list_any p (xs ++ ys)) ≡ true → (list_any p (xs ++ ys) ≡ true → R) → R
    by true is any rest = first (or_left (p x) (list_any p xs) is)
    by false is any rest = rest any

-- what holds of two lists holds of each
pub all_parts : {A : Type 0} (P : A → Type 0) (xs ys : List A) → AllByRecursion P (xs ++ ys) → AllByRecursion P xs × AllByRecursion P ys
all_parts P [] ys all = (tt, all)
all_parts P (x ∷ xs) ys all = let rest = all_parts P xs ys all.1 in ((all.0, rest.0), rest.1)

-- what each number below n gives
pub in_numbers : {A : Type 0} (q : A → Bool) (f : ℕ → List A) (a n k j : ℕ) → a + k ≡ j → k < n → list_any q (f j) ≡ true
    → list_any q (flat_map f (range_with_len a n)) ≡ true
in_numbers q f a zero k j e less any = absurd (omega (arith, less))
in_numbers q f a (suc n) zero j e less any =
    let same : a ≡ j = omega (arith, e) in any_left q (f a) (flat_map f (range_with_len (a + 1) n)) (ap (λ i. list_any q (f i)) same ∙ any)
in_numbers q f a (suc n) (suc k) j e less any =
    any_right q (f a) (flat_map f (range_with_len (a + 1) n))
    (in_numbers q f (a + 1) n k j (omega (arith, e)) (omega (arith, less)) any)

module _ (m : Machine) where
  -- ---- which there are

  abbrev pub buses : List Named
  buses = flat_map bus_wires (numbers (length m.buses))

  abbrev pub units : List Named
  units = flat_map unit_wires (enumerate_from 0 m.units)

  abbrev pub first : List Named
  first = first_wires m ++ buses ++ units

  abbrev pub control : List Named
  control = Controls ∷ GoalNow ∷ EndsNow ∷ Lands ∷ Asks ∷ Gives ∷ []

  abbrev pub bus_ones : List Named
  bus_ones = flat_map bus_watches (numbers (length m.buses))

  abbrev pub unit_ones : List Named
  unit_ones = flat_map unit_watches (numbers (length m.units))

  -- a wire that a circuit without a watch has
  pub plain_in : (p : Named → Bool) → list_any p (wire_names m) ≡ true → list_any p (trap_wires m) ≡ true
  plain_in p any =
      in_either (list_any p (trap_wires m) ≡ true) p first (control ++ late_wires) any
      (λ there. before (any_left p first control there))
      (λ there. in_either (list_any p (trap_wires m) ≡ true) p control late_wires there
      (λ here. before (any_right p first control here)) (λ here. any_right p (early_wires m ++ watch_wires m) late_wires here))
    where
      before : list_any p (early_wires m) ≡ true → list_any p (trap_wires m) ≡ true
      before there =
          any_left p (early_wires m ++ watch_wires m) late_wires (any_left p (early_wires m) (watch_wires m) there)

  -- one that only the watch has
  watch_in : (p : Named → Bool) → list_any p (watch_wires m) ≡ true → list_any p (trap_wires m) ≡ true
  watch_in p there =
      any_left p (early_wires m ++ watch_wires m) late_wires (any_right p (early_wires m) (watch_wires m) there)

  pub bus_watch_in : (bus : ℕ) → bus < length m.buses → (p : Named → Bool) → list_any p (bus_watches bus) ≡ true
      → list_any p (trap_wires m) ≡ true
  bus_watch_in bus less p any =
      watch_in p (any_left p (bus_ones ++ unit_ones) (Watches FaultNow ∷ []) (any_left p bus_ones unit_ones
      (in_numbers p bus_watches 0 (length m.buses) bus bus (omega arith) less any)))

  pub unit_watch_in : (unit : ℕ) → unit < length m.units → (p : Named → Bool) → list_any p (unit_watches unit) ≡ true
      → list_any p (trap_wires m) ≡ true
  unit_watch_in unit less p any =
      watch_in p (any_left p (bus_ones ++ unit_ones) (Watches FaultNow ∷ []) (any_right p bus_ones unit_ones
      (in_numbers p unit_watches 0 (length m.units) unit unit (omega arith) less any)))

  pub fault_in : (p : Named → Bool) → p (Watches FaultNow) ≡ true → list_any p (trap_wires m) ≡ true
  fault_in p is =
      watch_in p (any_right p (bus_ones ++ unit_ones) (Watches FaultNow ∷ []) (or_left (p (Watches FaultNow)) false is))

-- ---- that they are there

module _ (m : Machine) (rules : IsMachine m) where
  abbrev There : Named → Type 0
  There n = trap_there m n ≡ true

  plain_there : AllByRecursion There (wire_names m)
  plain_there = weaker (λ n. is_there m n ≡ true) There (wire_names m) (still_there m) (wires_there m rules)

  watch_there : AllByRecursion There (watch_wires m)
  watch_there =
      both_lists There (bus_ones m ++ unit_ones m) (Watches FaultNow ∷ [])
      (both_lists There (bus_ones m) (unit_ones m)
      (all_pieces (λ bus. bus < length m.buses) There bus_watches (numbers (length m.buses))
      (below_all (length m.buses) 0 (length m.buses) (omega arith))
      (λ bus less. (lt-ltb bus (length m.buses) less, (lt-ltb bus (length m.buses) less, tt))))
      (all_pieces (λ unit. unit < length m.units) There unit_watches (numbers (length m.units))
      (below_all (length m.units) 0 (length m.units) (omega arith))
      (λ unit less. (lt-ltb unit (length m.units) less, (lt-ltb unit (length m.units) less, tt)))))
      (refl, tt)

  -- all wires are
  pub trap_wires_there : AllByRecursion (λ n. trap_there m n ≡ true) (trap_wires m)
  trap_wires_there =
      let plain = all_parts There (first m) (control m ++ late_wires) plain_there in
      let ends = all_parts There (control m) late_wires plain.1 in
      both_lists There (early_wires m ++ watch_wires m) late_wires
      (both_lists There (early_wires m) (watch_wires m) (both_lists There (first m) (control m) plain.0 ends.0) watch_there) ends.1

  -- ---- their order

  -- ranks climb from a least one on
  abbrev climbs : ℕ → List Named → Bool
  climbs least [] = true
  climbs least (n ∷ ns) = nat_le least (trap_rank n) && climbs (trap_rank n) ns

  lower : (a b : ℕ) (ns : List Named) → a ≤ b → climbs b ns ≡ true → climbs a ns ≡ true
  lower a b [] le up = refl
  lower a b (n ∷ ns) le up =
      let p = and_parts (nat_le b (trap_rank n)) (climbs (trap_rank n) ns) up in
      and_from (nat_le a (trap_rank n)) (climbs (trap_rank n) ns)
      (le-leb a (trap_rank n) (let high = leb-true b (trap_rank n) p.0 in omega (arith, le, high))) p.1

  -- wires of one rank before others of no lower one
  block : (k least : ℕ) (names rest : List Named) → least ≤ k → AllByRecursion (λ n. trap_rank n ≡ k) names → climbs k rest ≡ true
      → climbs least (names ++ rest) ≡ true
  block k least [] rest le all up = lower least k rest le up
  block k least (n ∷ names) rest le all up =
      and_from (nat_le least (trap_rank n)) (climbs (trap_rank n) (names ++ rest))
      (le-leb least (trap_rank n) (let is = all.0 in omega (arith, le, is)))
      (block k (trap_rank n) names rest (let is = all.0 in omega (arith, is)) all.1 up)

  abbrev tail : List Named
  tail = bus_ones m ++ (unit_ones m ++ (Watches FaultNow ∷ late_wires))

  straight : trap_wires m ≡ first_wires m ++ (buses m ++ (units m ++ (control m ++ tail)))
  straight =
      append_assoc (first m ++ control m) (watch_wires m) late_wires
      ∙ append_assoc (first m) (control m) (watch_wires m ++ late_wires)
      ∙ append_assoc (first_wires m ++ buses m) (units m) (control m ++ (watch_wires m ++ late_wires))
      ∙ append_assoc (first_wires m) (buses m) (units m ++ (control m ++ (watch_wires m ++ late_wires)))
      ∙ ap (λ l. first_wires m ++ (buses m ++ (units m ++ (control m ++ l))))
      (append_assoc (bus_ones m ++ unit_ones m) (Watches FaultNow ∷ []) late_wires
      ∙ append_assoc (bus_ones m) (unit_ones m) (Watches FaultNow ∷ late_wires))

  climbing : climbs 1 (first_wires m ++ (buses m ++ (units m ++ (control m ++ tail)))) ≡ true
  climbing =
      block 2 1 (first_wires m) (buses m ++ (units m ++ (control m ++ tail))) (omega arith)
      (of_wires m (λ n. trap_rank n ≡ 2) (λ f. refl) (λ unit. refl))
      (block 3 2 (buses m) (units m ++ (control m ++ tail)) (omega arith) (of_buses m (λ n. trap_rank n ≡ 3) (λ b. refl) (λ b. refl))
      (block 4 3 (units m) (control m ++ tail) (omega arith)
      (of_units m (λ n. trap_rank n ≡ 4) (λ k op. refl) (λ k. refl) (λ k. refl))
      (block 4 4 (Controls ∷ GoalNow ∷ []) (EndsNow ∷ Lands ∷ Asks ∷ Gives ∷ tail) (omega arith) (refl, (refl, tt))
      (block 5 4 (EndsNow ∷ Lands ∷ Asks ∷ Gives ∷ []) tail (omega arith) (refl, (refl, (refl, (refl, tt))))
      (block 5 5 (bus_ones m) (unit_ones m ++ (Watches FaultNow ∷ late_wires)) (omega arith)
      (every_piece (λ n. trap_rank n ≡ 5) bus_watches (numbers (length m.buses)) (λ bus. (refl, (refl, tt))))
      (block 5 5 (unit_ones m) (Watches FaultNow ∷ late_wires) (omega arith)
      (every_piece (λ n. trap_rank n ≡ 5) unit_watches (numbers (length m.units)) (λ unit. (refl, (refl, tt)))) refl))))))

  module _ (count : ℕ) where
    -- a wire reads only signals of a lower rank
    reads_lower : (n : Named) → trap_there m n ≡ true → reads_below trap_rank (trap_rank n) (trap_made m count n) ≡ true
    reads_lower n is =
        meets (λ k. if may m (trap_rank n) k then 0 else 1) (λ k. if may m (trap_rank n) k then 0 else 1) trap_rank 1 1 (trap_rank n) each
        (trap_made m count n) (wire_reads m rules count n is) (wire_reads m rules count n is)
      where
        each : (k : Named) → (if may m (trap_rank n) k then 0 else 1) < 1 → (if may m (trap_rank n) k then 0 else 1) < 1
            → trap_rank k < trap_rank n
        each k a b =
            ltb-true (trap_rank k) (trap_rank n)
            (and_parts (trap_there m k) (nat_lt (trap_rank k) (trap_rank n)) (passes (may m (trap_rank n) k) a)).1

    ordered : (least : ℕ) (ns : List Named) → climbs least ns ≡ true → AllByRecursion There ns
        → is_ordered trap_rank least (map (trap_wire m count) ns) ≡ true
    ordered least [] up all = refl
    ordered least (n ∷ ns) up all =
        let p = and_parts (nat_le least (trap_rank n)) (climbs (trap_rank n) ns) up in
        and_from (nat_le least (trap_rank n) && reads_below trap_rank (trap_rank n) (trap_made m count n))
        (is_ordered trap_rank (trap_rank n) (map (trap_wire m count) ns))
        (and_from (nat_le least (trap_rank n)) (reads_below trap_rank (trap_rank n) (trap_made m count n)) p.0 (reads_lower n all.0))
        (ordered (trap_rank n) ns p.1 all.1)

    -- the wires are in order
    pub in_order : is_ordered trap_rank 1 (map (trap_wire m count) (trap_wires m)) ≡ true
    in_order = ordered 1 (trap_wires m) (ap (climbs 1) straight ∙ climbing) trap_wires_there

    -- each is made of its name
    pub made_by : (ns : List Named) → AreMadeBy (trap_made m count) (map (trap_wire m count) ns)
    made_by [] = tt
    made_by (n ∷ ns) = (refl, made_by ns)
