-- What the lines of signals tell that a circuit is given as wires.
use Rattle.std.proofs.Common.{◌≡◌, ℕ, ◌<◌, true, List, [], ◌∷◌, ◌++◌, refl, sym, ap, ap₂, ◌∙◌, arith, append_assoc}
use Rattle.std.specs.Prelude.{codes, drop}
use Rattle.std.specs.List.{flat_map, AllByRecursion}
use Rattle.std.proofs.lemmas.Bool.{true≢false}
use Rattle.tta_circuit.specs.Circuit.{Wire}
use Rattle.tta_verilog.specs.Expressions.{Names, expression}
use Rattle.tta_verilog.specs.Circuits.{range, wire_text, given_text}
use Rattle.tta_verilog.specs.Spelling.{Scope, AreNames, SignalName, Number}
use Rattle.tta_verilog.specs.Laws.{AreSpelled, begins_no_wire}
use Rattle.tta_verilog.proofs.Lines.{first, range_alike}
use Rattle.tta_verilog.proofs.Lists.{each_alike, one_list}
use Rattle.tta_verilog.proofs.Parts.{WireIs, signal_alike, small, wire_before}

module _ {N M : Type 0} (names : Names N M) (scope : Scope N M) (good : AreNames names scope) where
  abbrev pub GivenIs : N × ℕ → Type 0
  GivenIs i = AreSpelled scope (SignalName i.0 ∷ Number i.1 ∷ []) × (0 < i.1)

  given_before : (i : N × ℕ) (r : List ℕ)
      → given_text names i ++ r ≡ codes "wire " ++ (range i.1 ++ (names.signal i.0 ++ (59 ∷ 10 ∷ r)))
  given_before i r = simp append_assoc

  one_given : (i j : N × ℕ) (r s : List ℕ) → GivenIs i → GivenIs j → given_text names i ++ r ≡ given_text names j ++ s
      → (i ≡ j) × (r ≡ s)
  one_given i j r s p q is =
      let t = range_alike i.1 j.1 _ _ p.1 q.1 (small names scope good i.1 p.0.1.0) (small names scope good j.1 q.0.1.0)
      (ap (drop 5) (sym (given_before i r) ∙ is ∙ given_before j s)) in
      let n = signal_alike names scope good i.0 j.0 (59 ∷ 10 ∷ r) (59 ∷ 10 ∷ s) p.0.0 q.0.0 refl refl t.1 in
      (ap₂ (λ n w. (n, w)) n.0 t.0, ap (drop 2) n.1)

  module _ (signal : N → ℕ) (memory : M → ℕ) where
    -- no such line is a wire, behind whose name stands its word
    no_given : (i : N × ℕ) (t : List ℕ) (ws : List (Wire N M)) (s : List ℕ) → GivenIs i
        → AllByRecursion (WireIs names scope good signal memory) ws → begins_no_wire s ≡ true
        → given_text names i ++ t ≡ flat_map (wire_text names) ws ++ s → ⊥
    no_given i t [] s p all none is = true≢false (sym none ∙ ap begins_no_wire (sym is ∙ given_before i t))
    no_given i t (w ∷ ws) s p all none is =
        let more = append_assoc (wire_text names w) (flat_map (wire_text names) ws) s in
        let wide = range_alike i.1 w.width _ _ p.1 all.0.1.some (small names scope good i.1 p.0.1.0)
        (small names scope good w.width all.0.0.1.0) (ap (drop 5) (sym (given_before i t) ∙ is ∙ more
        ∙ wire_before (names.signal w.name) w.width (expression names w.word) (flat_map (wire_text names) ws ++ s))) in
        let name = signal_alike names scope good i.0 w.name _ _ p.0.0 all.0.0.0 refl refl wide.1 in
        let e : 59 ≡ 32 = ap first name.1 in
        omega (arith, e)

  -- Such signals before wires are told.
  pub all_given : (signal other : N → ℕ) (memory other_memory : M → ℕ) (is js : List (N × ℕ)) (ws xs : List (Wire N M)) (r s : List ℕ)
      → AllByRecursion GivenIs is → AllByRecursion GivenIs js
      → AllByRecursion (WireIs names scope good signal memory) ws → AllByRecursion (WireIs names scope good other other_memory) xs
      → begins_no_wire r ≡ true → begins_no_wire s ≡ true
      → flat_map (given_text names) is ++ (flat_map (wire_text names) ws ++ r) ≡ flat_map (given_text names) js ++ (flat_map (wire_text names) xs ++ s)
      → (is ≡ js) × (flat_map (wire_text names) ws ++ r ≡ flat_map (wire_text names) xs ++ s)
  all_given signal other memory other_memory is js ws xs r s p q w_all x_all r_none s_none e =
      let t = each_alike (given_text names) GivenIs GivenIs (λ i j. i ≡ j) one_given _ _
      (λ i u known h. no_given other other_memory i u xs s known x_all s_none h)
      (λ j u known h. no_given signal memory j u ws r known w_all r_none h) is js p q e in
      (one_list (λ i j. i ≡ j) GivenIs GivenIs (λ i j same a b. same) is js t.0 p q, t.1)
