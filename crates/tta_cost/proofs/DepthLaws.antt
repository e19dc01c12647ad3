-- The depths of a machine's signals are those of its circuit.
use Rattle.std.proofs.Common.{◌≡◌, ℕ, ◌-◌, Bool, true, false, List, [], ◌∷◌, ◌++◌, map, refl, ap, ◌∙◌}
use Rattle.std.specs.Prelude.{if◌then◌else◌}
use Rattle.std.specs.List.{flat_map, enumerate_from, range_with_len, AllByRecursion}
use Rattle.tta_arch.specs.declared.parts.Unit.{Unit as OpUnit}
use Rattle.tta_cost.specs.Cited.{Machine, UnitOp, register, register_names, result_registers, load_registers, unit_registers, wire, wire_names, made_of, never, is_load, numbers, KeptReg, KeptImm, KeptOperand, KeptPort, KeptRa, Keeps, IsDue, Due, Underway, HasBegun, Raw, IsInside, Pc, Whole, HasHalted, Goal, Ends, IsOffered, Offer, IsReady, IsReset}
use Rattle.tta_hardware.specs.Signals.{Signal as Named}
use Rattle.tta_hardware.specs.Wires.{longest}
use Rattle.tta_cost.specs.Depths.{depth_of, cost_of}
use Rattle.tta_cost.specs.Laws.{DepthsAre}
use Rattle.tta_cost.proofs.Depths.{depth_is}

module _ (m : Machine) where
  -- what is no wire
  abbrev Still : Named → Type 0
  Still n = made_of m n ≡ never

  both : (xs ys : List Named) → AllByRecursion Still xs → AllByRecursion Still ys → AllByRecursion Still (xs ++ ys)
  both [] ys first second = second
  both (x ∷ xs) ys first second = (first.0, both xs ys first.1 second)

  mapped : {A : Type 0} (f : A → Named) (xs : List A) → ((x : A) → Still (f x)) → AllByRecursion Still (map f xs)
  mapped f [] all = tt
  mapped f (x ∷ xs) all = (all x, mapped f xs all)

  flat : {A : Type 0} (f : A → List Named) (xs : List A) → ((x : A) → AllByRecursion Still (f x)) → AllByRecursion Still (flat_map f xs)
  flat f [] all = tt
  flat f (x ∷ xs) all = both (f x) (flat_map f xs) (all x) (flat f xs all)

  of_load : (unit : ℕ) (o : ℕ × UnitOp) → AllByRecursion Still (load_registers unit o)
  of_load unit o = by (is_load o.1.op) where
    by : (b : Bool) → AllByRecursion Still (if b then HasBegun unit o.0 ∷ Raw unit o.0 ∷ IsInside unit o.0 ∷ [] else [])
    by true = (refl, (refl, (refl, tt)))
    by false = tt

  of_unit : (u : ℕ × OpUnit) → AllByRecursion Still (unit_registers m u)
  of_unit u =
      let delays = range_with_len 1 (longest m u.0 - 1) in
      both (result_registers m u.0) (flat_map (load_registers u.0) (enumerate_from 0 u.1.ops))
      (both (Keeps (KeptOperand u.0) ∷ Keeps (KeptPort u.0) ∷ map (IsDue u.0) delays) (map (Due u.0) delays)
      (refl, (refl, mapped (IsDue u.0) delays (λ k. refl))) (mapped (Due u.0) delays (λ k. refl)))
      (flat (load_registers u.0) (enumerate_from 0 u.1.ops) (of_load u.0))

  of_all : AllByRecursion Still (register_names m)
  of_all =
      let fs = flat_map (λ f. map (λ index. Keeps (KeptReg f.0 index)) (numbers f.1.size)) (enumerate_from 0 m.files) in
      let is = flat_map (λ i. map (λ index. Keeps (KeptImm i.0 index)) (numbers i.1.size)) (enumerate_from 0 m.imms) in
      let us = flat_map (unit_registers m) (enumerate_from 0 m.units) in let ds = map Underway (range_with_len 1 m.control.delay) in
      both (fs ++ is ++ us ++ ds) (Keeps KeptRa ∷ Pc ∷ Whole ∷ HasHalted ∷ Goal ∷ Ends ∷ [])
      (both (fs ++ is ++ us) ds (both (fs ++ is) us (both fs is
      (flat (λ f. map (λ index. Keeps (KeptReg f.0 index)) (numbers f.1.size)) (enumerate_from 0 m.files)
      (λ f. mapped (λ index. Keeps (KeptReg f.0 index)) (numbers f.1.size) (λ k. refl)))
      (flat (λ i. map (λ index. Keeps (KeptImm i.0 index)) (numbers i.1.size)) (enumerate_from 0 m.imms)
      (λ i. mapped (λ index. Keeps (KeptImm i.0 index)) (numbers i.1.size) (λ k. refl))))
      (flat (unit_registers m) (enumerate_from 0 m.units) of_unit)) (mapped Underway (range_with_len 1 m.control.delay) (λ k. refl)))
      (refl, (refl, (refl, (refl, (refl, (refl, tt))))))

  module _ (t : List ℕ) where
    still_depth : (n : Named) → Still n → depth_of t m n ≡ 0
    still_depth n is = depth_is t m n ∙ ap (λ e. (cost_of t m e).depth) is

    registers : (ns : List Named) → AllByRecursion Still ns → AllByRecursion (λ r. depth_of t m r.name ≡ 0) (map (register m) ns)
    registers [] all = tt
    registers (n ∷ ns) all = (still_depth n all.0, registers ns all.1)

    wires : (ns : List Named) → AllByRecursion (λ w. depth_of t m w.name ≡ (cost_of t m w.word).depth) (map (wire m) ns)
    wires [] = tt
    wires (n ∷ ns) = (depth_is t m n, wires ns)

pub depths_are : DepthsAre
depths_are t m words memory = record {
  inputs =
      (still_depth m t IsOffered refl, (still_depth m t Offer refl, (still_depth m t IsReady refl, (still_depth m t IsReset refl, tt))));
  registers = registers m t (register_names m) (of_all m);
  wires = wires m t (wire_names m);
}
