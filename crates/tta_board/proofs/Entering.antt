-- The words that come into a circuit, and whether it goes.
use Rattle.std.proofs.Common.{◌≡◌, ℕ, Bool, true, false, not, ◌&&◌, ◌||◌, List, map, refl, sym, ap, ◌∙◌, arith}
use Rattle.std.proofs.lemmas.Bool.{and_parts}
use Rattle.tta_board.specs.Cited.{Units, Machine, is_set, given, settled, Store, HasHalted, IsOffered, Offer, IsReady, IsReset, Asks, Gives, Goes, Puts, same_signal, made_of, wire_names, wire, circuit_of, rank, Hardware}
use Rattle.tta_code.specs.declared.code.Code.{Code as Program}
use Rattle.tta_circuit.proofs.Settling.{settled_solves}
use Rattle.tta_hardware.specs.Signals.{Signal as Named}
use Rattle.tta_hardware.proofs.Chained.{set_bit, going}
use Rattle.tta_hardware.proofs.Named.{tells}
use Rattle.tta_hardware.proofs.Ordered.{in_order, made_by}
use Rattle.tta_hardware.proofs.Circuits.{is_settled}

module _ (u : Units) (m : Machine) (code : Program) (memory : List ℕ) (h : Hardware) (inputs : Named → ℕ) where
  abbrev env : Named → ℕ
  env = settled same_signal u (circuit_of m code memory) h inputs

  -- inputs have the words that are handed in
  offered_is : env IsOffered ≡ inputs IsOffered
  offered_is =
      (settled_solves Named Store same_signal tells rank u h.memories (given same_signal (circuit_of m code memory) h inputs) (made_of m) 1
      (map (wire m) (wire_names m)) (in_order m) (made_by m (wire_names m))).1 IsOffered (omega arith)

  offer_is : env Offer ≡ inputs Offer
  offer_is =
      (settled_solves Named Store same_signal tells rank u h.memories (given same_signal (circuit_of m code memory) h inputs) (made_of m) 1
      (map (wire m) (wire_names m)) (in_order m) (made_by m (wire_names m))).1 Offer (omega arith)

  ready_is : env IsReady ≡ inputs IsReady
  ready_is =
      (settled_solves Named Store same_signal tells rank u h.memories (given same_signal (circuit_of m code memory) h inputs) (made_of m) 1
      (map (wire m) (wire_names m)) (in_order m) (made_by m (wire_names m))).1 IsReady (omega arith)

  pub record Enters : Type 0 where
    pub offered : env IsOffered ≡ inputs IsOffered
    pub offer : env Offer ≡ inputs Offer
    pub ready : env IsReady ≡ inputs IsReady

  pub enters : Enters
  enters = record { offered = offered_is; offer = offer_is; ready = ready_is }

  goes_is : is_set (env Goes) ≡ (not (is_set (env IsReset)) && (not (is_set (env HasHalted))
      && ((not (is_set (env Asks)) || is_set (env IsOffered)) && (not (is_set (env Gives)) || is_set (env IsReady)))))
  goes_is =
      ap is_set (is_settled u m code memory h inputs).goes
      ∙ going (is_set (env IsReset)) (is_set (env HasHalted)) (is_set (env Asks)) (is_set (env IsOffered)) (is_set (env Gives))
      (is_set (env IsReady))

  puts_is : is_set (env Puts) ≡ (is_set (env Goes) && is_set (env Gives))
  puts_is = ap is_set (is_settled u m code memory h inputs).puts ∙ set_bit (is_set (env Goes) && is_set (env Gives))

  -- a circuit that does not go puts nothing out
  pub quiet : is_set (env Goes) ≡ false → is_set (env Puts) ≡ false
  quiet stops = puts_is ∙ ap (λ g. g && is_set (env Gives)) stops

  -- one that has halted does not go
  pub halts : is_set (env HasHalted) ≡ true → is_set (env Goes) ≡ false
  halts halted =
      goes_is ∙ ap (λ y. not (is_set (env IsReset)) && (not y
      && ((not (is_set (env Asks)) || is_set (env IsOffered)) && (not (is_set (env Gives)) || is_set (env IsReady))))) halted
      ∙ neither (not (is_set (env IsReset)))
    where
      neither : (b : Bool) → (b && false) ≡ false
      neither true = refl
      neither false = refl

  -- one that puts a word out does so where it would be taken
  pub ready_for : is_set (env Puts) ≡ true → is_set (inputs IsReady) ≡ true
  ready_for puts =
      let both = and_parts (is_set (env Goes)) (is_set (env Gives)) (sym puts_is ∙ puts) in
      let some = and_parts (not (is_set (env IsReset))) (not (is_set (env HasHalted))
      && ((not (is_set (env Asks)) || is_set (env IsOffered)) && (not (is_set (env Gives)) || is_set (env IsReady))))
      (sym goes_is ∙ both.0) in
      let more = and_parts (not (is_set (env HasHalted))) ((not (is_set (env Asks)) || is_set (env IsOffered))
      && (not (is_set (env Gives)) || is_set (env IsReady))) some.1 in
      let last = and_parts (not (is_set (env Asks)) || is_set (env IsOffered)) (not (is_set (env Gives)) || is_set (env IsReady)) more.1 in
      ap is_set (sym ready_is) ∙ sym (ap (λ g. not g || is_set (env IsReady)) both.1) ∙ last.1
