-- Parts with some wires and registers more, one after another.
use Rattle.std.proofs.Common.{◌≡◌, ℕ, suc, zero, ◌+◌, ◌-◌, ◌<◌, List, [], ◌∷◌, ◌++◌, map, length, refl, sym, ap, ◌∙◌, arith}
use Rattle.std.specs.List.{flat_map, enumerate_from, range_with_len}
use Rattle.std.proofs.lemmas.List.Concat.{flat_map-cons}
use Rattle.tta_cost.specs.Cited.{Machine, register, made_of, numbers, all_fields, bus_wires, first_wires, unit_wires, wire_names, load_registers, result_registers, unit_registers, register_names, KeptOperand, KeptPort, KeptRa, Pc, Whole, HasHalted, Underway, Goal, Ends, Keeps, IsDue, Due, Port, Fetched, Controls, GoalNow, EndsNow, Lands, Asks, Gives, Goes, NextPc, Puts, PutWord}
use Rattle.tta_arch.specs.declared.parts.Unit.{Unit as OpUnit}
use Rattle.tta_hardware.specs.Wires.{longest}
use Rattle.tta_cost.specs.Rows.{file_row, imm_row}
use Rattle.tta_hardware.specs.Signals.{Signal as Named}
use Rattle.tta_cost.specs.declared.parts.Parts.{Parts}
use Rattle.tta_cost.specs.Depths.{cost_of}
use Rattle.tta_cost.specs.Tally.{part_of, put, cost_of_register, wires_put, registers_put}

module _ (t : List ℕ) (m : Machine) where
  pub wires_append : (ns ms : List Named) (p : Parts) → wires_put t m (ns ++ ms) p ≡ wires_put t m ms (wires_put t m ns p)
  wires_append [] ms p = refl
  wires_append (n ∷ ns) ms p = wires_append ns ms (put (part_of n) (cost_of t m (made_of m n)) p)

  pub registers_append : (ns ms : List Named) (p : Parts) → registers_put t m (ns ++ ms) p ≡ registers_put t m ms (registers_put t m ns p)
  registers_append [] ms p = refl
  registers_append (n ∷ ns) ms p = registers_append ns ms (put (part_of n) (cost_of_register t m (register m n)) p)

  -- a row of registers, and one before it
  pub row_more : (F : ℕ → Named) (a n : ℕ) (p : Parts) → 0 < n
      → registers_put t m (map F (range_with_len (a + 1) (n - 1))) (put (part_of (F a)) (cost_of_register t m (register m (F a))) p)
      ≡ registers_put t m (map F (range_with_len a n)) p
  row_more F a zero p some = absurd (omega (arith, some))
  row_more F a (suc n) p some =
      let e : suc n - 1 ≡ n = omega arith in
      ap (λ (k : ℕ). registers_put t m (map F (range_with_len (a + 1) k)) (put (part_of (F a)) (cost_of_register t m (register m (F a))) p)) e

  -- what lists of names over numbers add
  pub wires_over : {A : Type 0} (F : A → List Named) (x : A) (xs : List A) (p : Parts)
      → wires_put t m (flat_map F xs) (wires_put t m (F x) p) ≡ wires_put t m (flat_map F (x ∷ xs)) p
  wires_over F x xs p =
      sym (wires_append (F x) (flat_map F xs) p) ∙ ap (λ (l : List Named). wires_put t m l p) (sym (flat_map-cons F x xs))

  pub registers_over : {A : Type 0} (F : A → List Named) (x : A) (xs : List A) (p : Parts)
      → registers_put t m (flat_map F xs) (registers_put t m (F x) p) ≡ registers_put t m (flat_map F (x ∷ xs)) p
  registers_over F x xs p =
      sym (registers_append (F x) (flat_map F xs) p) ∙ ap (λ (l : List Named). registers_put t m l p) (sym (flat_map-cons F x xs))

  -- two lists of names, one after the other
  pub wires_two : (ns ms : List Named) (p0 p1 p2 : Parts) → p1 ≡ wires_put t m ns p0 → p2 ≡ wires_put t m ms p1 → p2 ≡ wires_put t m (ns ++ ms) p0
  wires_two ns ms p0 p1 p2 first second = second ∙ ap (λ (p : Parts). wires_put t m ms p) first ∙ sym (wires_append ns ms p0)

  pub registers_two : (ns ms : List Named) (p0 p1 p2 : Parts) → p1 ≡ registers_put t m ns p0 → p2 ≡ registers_put t m ms p1
      → p2 ≡ registers_put t m (ns ++ ms) p0
  registers_two ns ms p0 p1 p2 first second = second ∙ ap (λ (p : Parts). registers_put t m ms p) first ∙ sym (registers_append ns ms p0)

  -- the registers of a unit
  pub unit_put : (unit : ℕ) (u : OpUnit) (p0 p1 p2 p3 p4 : Parts)
      → p1 ≡ registers_put t m (Keeps (KeptOperand unit) ∷ Keeps (KeptPort unit) ∷ []) p0
      → p2 ≡ registers_put t m (map (IsDue unit) (range_with_len 1 (longest m unit - 1))) p1
      → p3 ≡ registers_put t m (map (Due unit) (range_with_len 1 (longest m unit - 1))) p2
      → p4 ≡ registers_put t m (flat_map (load_registers unit) (enumerate_from 0 u.ops)) p3
      → p4 ≡ registers_put t m (unit_registers m (unit, u)) p0
  unit_put unit u p0 p1 p2 p3 p4 first second third fourth =
      let delays = range_with_len 1 (longest m unit - 1) in let ports = Keeps (KeptOperand unit) ∷ Keeps (KeptPort unit) ∷ [] in
      registers_two (result_registers m unit) (flat_map (load_registers unit) (enumerate_from 0 u.ops)) p0 p3 p4
      (registers_two (ports ++ map (IsDue unit) delays) (map (Due unit) delays) p0 p2 p3
      (registers_two ports (map (IsDue unit) delays) p0 p1 p2 first second) third) fourth

  -- those of a machine
  pub all_registers : (p0 p1 p2 p3 p4 p5 : Parts) → p1 ≡ registers_put t m (flat_map file_row (enumerate_from 0 m.files)) p0
      → p2 ≡ registers_put t m (flat_map imm_row (enumerate_from 0 m.imms)) p1
      → p3 ≡ registers_put t m (flat_map (unit_registers m) (enumerate_from 0 m.units)) p2
      → p4 ≡ registers_put t m (map Underway (range_with_len 1 m.control.delay)) p3
      → p5 ≡ registers_put t m (Keeps KeptRa ∷ Pc ∷ Whole ∷ HasHalted ∷ Goal ∷ Ends ∷ []) p4 → p5 ≡ registers_put t m (register_names m) p0
  all_registers p0 p1 p2 p3 p4 p5 files imms units underway fixed =
      let fs = flat_map file_row (enumerate_from 0 m.files) in let is = flat_map imm_row (enumerate_from 0 m.imms) in
      let us = flat_map (unit_registers m) (enumerate_from 0 m.units) in let ds = map Underway (range_with_len 1 m.control.delay) in
      registers_two (fs ++ is ++ us ++ ds) (Keeps KeptRa ∷ Pc ∷ Whole ∷ HasHalted ∷ Goal ∷ Ends ∷ []) p0 p4 p5
      (registers_two (fs ++ is ++ us) ds p0 p3 p4 (registers_two (fs ++ is) us p0 p2 p3 (registers_two fs is p0 p1 p2 files imms) units) underway)
      fixed

  -- the wires of a machine
  pub all_wires : (p0 p1 p2 p3 p4 p5 p6 : Parts) → p1 ≡ wires_put t m (map Fetched (all_fields m)) p0
      → p2 ≡ wires_put t m (map Port (numbers (length m.units))) p1
      → p3 ≡ wires_put t m (flat_map bus_wires (numbers (length m.buses))) p2
      → p4 ≡ wires_put t m (flat_map unit_wires (enumerate_from 0 m.units)) p3
      → p5 ≡ wires_put t m (Controls ∷ GoalNow ∷ EndsNow ∷ Lands ∷ []) p4
      → p6 ≡ wires_put t m (Asks ∷ Gives ∷ Goes ∷ NextPc ∷ Puts ∷ PutWord ∷ []) p5 → p6 ≡ wires_put t m (wire_names m) p0
  all_wires p0 p1 p2 p3 p4 p5 p6 fields ports buses units moves goings =
      let bs = flat_map bus_wires (numbers (length m.buses)) in let us = flat_map unit_wires (enumerate_from 0 m.units) in
      let last = Controls ∷ GoalNow ∷ EndsNow ∷ Lands ∷ Asks ∷ Gives ∷ Goes ∷ NextPc ∷ Puts ∷ PutWord ∷ [] in
      wires_two (first_wires m ++ bs ++ us) last p0 p4 p6
      (wires_two (first_wires m ++ bs) us p0 p3 p4 (wires_two (first_wires m) bs p0 p2 p3
      (wires_two (map Fetched (all_fields m)) (map Port (numbers (length m.units))) p0 p1 p2 fields ports) buses) units)
      (wires_two (Controls ∷ GoalNow ∷ EndsNow ∷ Lands ∷ []) (Asks ∷ Gives ∷ Goes ∷ NextPc ∷ Puts ∷ PutWord ∷ []) p4 p5 p6 moves goings)
