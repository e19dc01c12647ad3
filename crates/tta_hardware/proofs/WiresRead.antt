-- The wires of a machine read only signals that are there.
use Rattle.std.proofs.Common.{◌≡◌, ℕ, ◌==◌, Bool, true, false, ◌&&◌, List, [], ◌∷◌, length, map, slice_get, Option, Some, None, refl, sym, ◌∙◌, inl, inr, arith}
use Rattle.std.specs.Prelude.{is_some, if◌then◌else◌, nat_lt, nat_le}
use Rattle.std.specs.Option.{option_map_or}
use Rattle.std.specs.List.{flat_map}
use Rattle.std.proofs.lemmas.Bool.{and_parts, and_from, ltb-true, lt-ltb, le-leb, false≢true, eq-eqb, cases_lt}
use Rattle.tta_hardware.specs.Cited.{Out, Take, Guard, File, UnitOp, Source, Machine, IsMachine, is_guard, same_op, is_source_on, all_sources, guards_on, sources_on, guard_width, payload_width, KeptReg, KeptImm, KeptOperand, KeptPort, Const, Signal, Join, Not, Equal}
use Rattle.tta_arch.specs.declared.ends.Source.TheVariants as source
use Rattle.tta_arch.specs.declared.ends.Dest.TheVariants as dest
use Rattle.tta_arch.specs.Effects.{width_of}
use Rattle.tta_hardware.specs.Signals.{GuardOf, IsShort, SourceOf, ShortOf, Signal as Named, Pc, HasHalted, Underway, Goal, Ends, Keeps, IsDue, Due, HasBegun, Raw, IsInside, Port, IsOffered, Offer, IsReady, IsReset, Whole, Fetched, Word, Acts, Starts, Trigger, Operand, Controls, GoalNow, EndsNow, Lands, Asks, Gives, Goes, NextPc, Puts, PutWord, Watches, Boxes}
use Rattle.tta_hardware.specs.Chains.{first_of, pick_from}
use Rattle.tta_hardware.specs.Wires.{never, nothing, source_word, passing, hits, buses_to, reached, arrivals, ops_of, made_of}
use Rattle.tta_hardware.proofs.Bringing.{reg_there, imm_there, unit_there}
use Rattle.tta_hardware.proofs.PartsRead.{field_reads}
use Rattle.tta_hardware.proofs.WiresFit.{all_filter, kept_filter, all_from}
use Rattle.tta_hardware.proofs.There.{is_there, some_at}
use Rattle.tta_hardware.proofs.OnlyThere.{ok, sig, three, first_ok, both_ok, pick_ok, reached_ok, arriving, word_ok, arrivals_ok, some_ok, of_start, fresh_ok}

module _ (m : Machine) (rules : IsMachine m) where
  -- ---- wires

  source_ok : (bus : ℕ) (src : Source) → is_source_on m bus src ≡ true → ok m (source_word m src) ≡ true
  source_ok bus (source.Reg file index) on = by (width_of m file == 1) where
    it : ok m (Signal (Keeps (KeptReg file index))) ≡ true
    it = sig m (Keeps (KeptReg file index)) (reg_there m bus file index on)

    by : (b : Bool)
        → ok m (if b then Join 1 (Const 31 0) (Signal (Keeps (KeptReg file index))) else Signal (Keeps (KeptReg file index))) ≡ true
    by true = it
    by false = it
  source_ok bus (source.Imm unit index) on = sig m (Keeps (KeptImm unit index)) (imm_there m bus unit index on)
  source_ok bus (source.Shown unit) on = sig m (Port unit) (lt-ltb unit (length m.units) (unit_there m bus unit on))
  source_ok bus source.Ra on = refl
  source_ok bus (source.Value word) on = refl

  guard_ok : (g : Guard) → is_guard (length m.buses) m.files g ≡ true → ok m (passing g.on) ≡ true
  guard_ok g good = by g.on.inverted where
    narrow : (o : Option File) → option_map_or (λ f. f.width == 1 && nat_lt g.on.index f.size) o false ≡ true
        → option_map_or (λ f. nat_lt g.on.index f.size) o false ≡ true
    narrow None is = absurd (false≢true is)
    narrow (Some f) is = (and_parts (f.width == 1) (nat_lt g.on.index f.size) is).1

    it : ok m (Signal (Keeps (KeptReg g.on.file g.on.index))) ≡ true
    it =
        sig m (Keeps (KeptReg g.on.file g.on.index))
        (narrow (slice_get m.files g.on.file)
        (and_parts (nat_lt g.bus (length m.buses))
        (option_map_or (λ f. f.width == 1 && nat_lt g.on.index f.size) (slice_get m.files g.on.file) false) good).1)

    by : (b : Bool)
        → ok m (if b then Not (Signal (Keeps (KeptReg g.on.file g.on.index))) else Signal (Keeps (KeptReg g.on.file g.on.index)))
        ≡ true
    by true = it
    by false = it

  bus_word_ok : (bus : ℕ) → nat_lt bus (length m.buses) ≡ true → ok m (made_of m (Word bus)) ≡ true
  bus_word_ok bus there =
      three m (Signal (Fetched (IsShort bus))) (Signal (Fetched (ShortOf bus)))
      (pick_from (payload_width m bus) (Signal (Fetched (SourceOf bus))) 0 (map (source_word m) (sources_on m bus)) nothing)
      (sig m (Fetched (IsShort bus)) there) (sig m (Fetched (ShortOf bus)) there)
      (pick_ok m (payload_width m bus) 0 (Signal (Fetched (SourceOf bus))) (source_word m) (sources_on m bus) nothing
      (sig m (Fetched (SourceOf bus)) there)
      (all_filter (λ src. ok m (source_word m src) ≡ true) (is_source_on m bus) (all_sources m) (source_ok bus)) refl)

  acts_ok : (bus : ℕ) → nat_lt bus (length m.buses) ≡ true → ok m (made_of m (Acts bus)) ≡ true
  acts_ok bus there = by (nat_lt 0 (guard_width m bus)) refl where
    by : (b : Bool) → nat_lt 0 (guard_width m bus) ≡ b → ok m (if b
        then pick_from (guard_width m bus) (Signal (Fetched (GuardOf bus))) 0 (Const 1 1 ∷ map (λ g. passing g.on) (guards_on m bus)) never
        else Const 1 1) ≡ true
    by true some =
        let code = sig m (Fetched (GuardOf bus)) (and_from (nat_lt bus (length m.buses)) (nat_lt 0 (guard_width m bus)) there some) in
        three m (Equal (Signal (Fetched (GuardOf bus))) (Const (guard_width m bus) 0)) (Const 1 1)
        (pick_from (guard_width m bus) (Signal (Fetched (GuardOf bus))) 1 (map (λ g. passing g.on) (guards_on m bus)) never)
        (and_from (ok m (Signal (Fetched (GuardOf bus)))) true code refl) refl
        (pick_ok m (guard_width m bus) 1 (Signal (Fetched (GuardOf bus))) (λ (g : Guard). passing g.on) (guards_on m bus) never code
        (kept_filter (λ (g : Guard). ok m (passing g.on) ≡ true) (λ g. g.bus == bus) m.guards
        (all_from (λ (g : Guard). ok m (passing g.on) ≡ true) (is_guard (length m.buses) m.files) m.guards rules.guards guard_ok)) refl)
    by false none = refl

  over_ops : (unit : ℕ) (ops : List (ℕ × UnitOp)) → ok m (first_of (flat_map (λ o. arrivals m (dest.Trigger unit o.0)) ops) nothing) ≡ true
  over_ops unit [] = refl
  over_ops unit (o ∷ ops) =
      both_ok m (arrivals m (dest.Trigger unit o.0)) (flat_map (λ o. arrivals m (dest.Trigger unit o.0)) ops) nothing
      (arrivals_ok m (dest.Trigger unit o.0)) (over_ops unit ops)

  place_of : (unit : ℕ) → nat_lt unit (length m.units) ≡ true → is_some (slice_get m.units unit) ≡ true
  place_of unit less = some_at m rules m.units unit (ltb-true unit (length m.units) less)

  lands_ok : ok m (made_of m Lands) ≡ true
  lands_ok = by (m.control.delay == 0) refl where
    by : (b : Bool) → (m.control.delay == 0) ≡ b → ok m (if b then Signal Controls else Signal (Underway 1)) ≡ true
    by true is = refl
    by false is = elim (cases_lt 0 m.control.delay) [
      | inl some ↦
          sig m (Underway 1) (and_from (nat_lt 0 1) (nat_le 1 m.control.delay) refl (le-leb 1 m.control.delay (omega (arith, some))))
      | inr none ↦ let z : m.control.delay ≡ 0 = omega (arith, none) in absurd (false≢true (sym is ∙ eq-eqb m.control.delay 0 z))
    ]

  pub wire_ok : (n : Named) → is_there m n ≡ true → ok m (made_of m n) ≡ true
  wire_ok (Port unit) is = fresh_ok m unit 1 (Signal (Keeps (KeptPort unit))) (sig m (Keeps (KeptPort unit)) (place_of unit is))
  wire_ok (Fetched f) is = field_reads (λ n. if is_there m n then 0 else 1) 1 m (Signal Whole) refl f
  wire_ok (Word bus) is = bus_word_ok bus is
  wire_ok (Acts bus) is = acts_ok bus is
  wire_ok (Starts unit op) is = reached_ok m (dest.Trigger unit op)
  wire_ok (Trigger unit) is = over_ops unit (ops_of m unit)
  wire_ok (Operand unit) is =
      first_ok m (hits m (dest.Operand unit)) (λ bus. Signal (Word bus)) (buses_to m (dest.Operand unit))
      (Signal (Keeps (KeptOperand unit)))
      (arriving m (dest.Operand unit) (λ bus. Signal (Word bus)) (word_ok m)) (sig m (Keeps (KeptOperand unit)) (place_of unit is))
  wire_ok Controls is =
      and_from (ok m (reached m dest.Jump)) (ok m (reached m dest.Call) && ok m (reached m dest.Halt)) (reached_ok m dest.Jump)
      (and_from (ok m (reached m dest.Call)) (ok m (reached m dest.Halt)) (reached_ok m dest.Call) (reached_ok m dest.Halt))
  wire_ok GoalNow is =
      both_ok m (arrivals m dest.Jump) (arrivals m dest.Call) (Signal Goal) (arrivals_ok m dest.Jump)
      (first_ok m (hits m dest.Call) (λ bus. Signal (Word bus)) (buses_to m dest.Call) (Signal Goal)
      (arriving m dest.Call (λ bus. Signal (Word bus)) (word_ok m)) refl)
  wire_ok EndsNow is = and_from (ok m (reached m dest.Halt)) true (reached_ok m dest.Halt) refl
  wire_ok Lands is = lands_ok
  wire_ok Asks is = some_ok m (same_op Take)
  wire_ok Gives is = some_ok m (same_op Out)
  wire_ok Goes is = refl
  wire_ok NextPc is = refl
  wire_ok Puts is = refl
  wire_ok PutWord is = of_start m (same_op Out) Trigger (λ unit less. less)
  wire_ok Pc is = refl
  wire_ok Whole is = refl
  wire_ok HasHalted is = refl
  wire_ok (Underway delay) is = refl
  wire_ok Goal is = refl
  wire_ok Ends is = refl
  wire_ok (Keeps p) is = refl
  wire_ok (IsDue unit delay) is = refl
  wire_ok (Due unit delay) is = refl
  wire_ok (HasBegun unit op) is = refl
  wire_ok (Raw unit op) is = refl
  wire_ok (IsInside unit op) is = refl
  wire_ok IsOffered is = refl
  wire_ok Offer is = refl
  wire_ok IsReady is = refl
  wire_ok IsReset is = refl
  wire_ok (Watches w) is = refl
  wire_ok (Boxes b) is = refl
