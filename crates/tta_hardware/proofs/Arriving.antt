-- Which bus brings a word to a destination.
use Rattle.std.proofs.Common.{◌≡◌, ℕ, zero, suc, ◌+◌, ◌<◌, ◌≤◌, ◌==◌, Bool, true, false, ◌&&◌, ◌∷◌, length, map, filter, Option, Some, None, refl, sym, ap, ◌∙◌, arith}
use Rattle.std.specs.Prelude.{is_some, if◌then◌else◌}
use Rattle.std.specs.Option.{option_map_or}
use Rattle.std.specs.List.{find, range_with_len}
use Rattle.std.proofs.lemmas.Bool.{and_parts, false≢true, eq-eqb, ne_eqb}
use Rattle.tta_hardware.specs.Cited.{Units, Dest, Machine, is_source_on, is_dest_on, has_guard, numbers, same_dest, dest_code, Move, Instruction, State, bit, is_set, value}
use Rattle.tta_image.proofs.EndsLemmas.{same_dest_true, same_dest_itself, dest_code_tells}
use Rattle.tta_hardware.specs.Signals.{DestOf, Signal as Named, Fetched, Acts, Expression}
use Rattle.tta_hardware.specs.Chains.{first_of}
use Rattle.tta_hardware.specs.Fields.{slot_at}
use Rattle.tta_hardware.specs.Wires.{hits, buses_to, reached}
use Rattle.tta_hardware.specs.Stands.{Hardware}
use Rattle.tta_hardware.specs.Laws.{Meet}
use Rattle.tta_hardware.proofs.Bits.{dest_some}
use Rattle.tta_hardware.proofs.Chained.{set_bit, any_found, first_found}
use Rattle.tta_hardware.proofs.Carrying.{is_joined_at}

-- whether the move of a bus acts and goes to a destination
abbrev pub goes : (Named → ℕ) → Instruction → Dest → ℕ → Bool
goes env i dst bus = option_map_or (λ v. is_set (env (Acts bus)) && same_dest v.dst dst) (slot_at i bus) false

and_false : (b : Bool) → (b && false) ≡ false
and_false true = refl
and_false false = refl

module _ (u : Units) (m : Machine) (h : Hardware) (env : Named → ℕ) (s : State) (i : Instruction) (meet : Meet u m h env s i)
    (dst : Dest) where
  on_bus : (bus : ℕ) (v : Move) → slot_at i bus ≡ Some v → is_dest_on m bus v.dst ≡ true
  on_bus bus v at =
      let ends = and_parts (is_source_on m bus v.src && is_dest_on m bus v.dst) (has_guard m bus v.guard)
      (is_joined_at m i meet.legal bus v at) in
      (and_parts (is_source_on m bus v.src) (is_dest_on m bus v.dst) ends.0).1

  -- codes are one where destinations are
  same_code : (bus : ℕ) (d : Dest) → is_dest_on m bus d ≡ true → is_dest_on m bus dst ≡ true → (dest_code m bus d == dest_code m bus dst)
      ≡ same_dest d dst
  same_code bus d on on' = by (same_dest d dst) refl where
    by : (b : Bool) → same_dest d dst ≡ b → (dest_code m bus d == dest_code m bus dst) ≡ b
    by true is = eq-eqb (dest_code m bus d) (dest_code m bus dst) (ap (dest_code m bus) (same_dest_true d dst is))
    by false is = ne_eqb (dest_code m bus d) (dest_code m bus dst) (λ same.
        let one : d ≡ dst = dest_code_tells m bus d dst on on' same in
        absurd (false≢true (sym is ∙ ap (λ x. same_dest x dst) one ∙ same_dest_itself dst)))

  -- the circuit tells whether a bus goes to a destination
  hit : (bus : ℕ) → bus < length m.buses → is_dest_on m bus dst ≡ true → is_set (value u h.memories env (hits m dst bus))
      ≡ goes env i dst bus
  hit bus below on =
      set_bit (is_set (env (Acts bus)) && is_set (bit (env (Fetched (DestOf bus)) == dest_code m bus dst)))
      ∙ ap (λ b. is_set (env (Acts bus)) && b) (set_bit (env (Fetched (DestOf bus)) == dest_code m bus dst))
      ∙ ap (λ (n : ℕ). is_set (env (Acts bus)) && n == dest_code m bus dst) (meet.fetched.dest bus below (dest_some m bus dst on))
      ∙ by (slot_at i bus) refl
    where
      by : (o : Option Move) → slot_at i bus ≡ o
          → (is_set (env (Acts bus)) && option_map_or (λ v. dest_code m bus v.dst) o 0 == dest_code m bus dst)
          ≡ option_map_or (λ v. is_set (env (Acts bus)) && same_dest v.dst dst) o false
      by None at =
          let none : (0 == dest_code m bus dst) ≡ false = ne_eqb 0 (dest_code m bus dst) (λ e. absurd (omega (arith, e))) in
          ap (λ b. is_set (env (Acts bus)) && b) none ∙ and_false (is_set (env (Acts bus)))
      by (Some v) at = ap (λ b. is_set (env (Acts bus)) && b) (same_code bus v.dst (on_bus bus v at) on)

  -- and where it cannot, it does not
  off : (bus : ℕ) → is_dest_on m bus dst ≡ false → goes env i dst bus ≡ false
  off bus not_on = by (slot_at i bus) refl where
    other : (v : Move) → slot_at i bus ≡ Some v → (b : Bool) → same_dest v.dst dst ≡ b → b ≡ false
    other v at true is = absurd (false≢true (sym not_on ∙ ap (is_dest_on m bus) (sym (same_dest_true v.dst dst is)) ∙ on_bus bus v at))
    other v at false is = refl

    by : (o : Option Move) → slot_at i bus ≡ o → option_map_or (λ v. is_set (env (Acts bus)) && same_dest v.dst dst) o false ≡ false
    by None at = refl
    by (Some v) at = ap (λ b. is_set (env (Acts bus)) && b) (other v at (same_dest v.dst dst) refl) ∙ and_false (is_set (env (Acts bus)))

  -- the first of some buses that does
  pub found_bus : (a n : ℕ) → a + n ≤ length m.buses
      → find (λ b. is_set (value u h.memories env (hits m dst b))) (filter (λ bus. is_dest_on m bus dst) (range_with_len a n))
      ≡ find (goes env i dst) (range_with_len a n)
  found_bus a zero below = refl
  found_bus a (suc n) below = by (is_dest_on m a dst) refl (found_bus (a + 1) n (omega (arith, below))) where
    by : (on : Bool) → is_dest_on m a dst ≡ on
        → find (λ b. is_set (value u h.memories env (hits m dst b))) (filter (λ bus. is_dest_on m bus dst) (range_with_len (a + 1) n))
        ≡ find (goes env i dst) (range_with_len (a + 1) n)
        → find (λ b. is_set (value u h.memories env (hits m dst b))) (filter (λ bus. is_dest_on m bus dst) (a ∷ range_with_len (a + 1) n))
        ≡ find (goes env i dst) (a ∷ range_with_len (a + 1) n)
    by true is rest =
        ap (λ c. find (λ b. is_set (value u h.memories env (hits m dst b)))
        (if c then a ∷ filter (λ bus. is_dest_on m bus dst) (range_with_len (a + 1) n)
        else filter (λ bus. is_dest_on m bus dst) (range_with_len (a + 1) n))) is
        ∙ ap (λ c. if c then Some a else find (λ b. is_set (value u h.memories env (hits m dst b)))
        (filter (λ bus. is_dest_on m bus dst) (range_with_len (a + 1) n))) (hit a (omega (arith, below)) is)
        ∙ ap (λ o. if goes env i dst a then Some a else o) rest
    by false is rest =
        ap (λ c. find (λ b. is_set (value u h.memories env (hits m dst b)))
        (if c then a ∷ filter (λ bus. is_dest_on m bus dst) (range_with_len (a + 1) n)
        else filter (λ bus. is_dest_on m bus dst) (range_with_len (a + 1) n))) is
        ∙ rest ∙ ap (λ c. if c then Some a else find (goes env i dst) (range_with_len (a + 1) n)) (sym (off a is))

  -- the bus that brings a word
  abbrev pub bus_of : Option ℕ
  bus_of = find (goes env i dst) (numbers (length m.buses))

  -- whether the destination is reached
  pub is_reached : is_set (value u h.memories env (reached m dst)) ≡ is_some bus_of
  is_reached = any_found u h.memories env (hits m dst) (buses_to m dst) ∙ ap is_some (found_bus 0 (length m.buses) (omega arith))

  -- the word that it then has
  pub arrives : (e : ℕ → Expression) (other : Expression)
      → value u h.memories env (first_of (map (λ bus. (hits m dst bus, e bus)) (buses_to m dst)) other)
      ≡ option_map_or (λ b. value u h.memories env (e b)) bus_of (value u h.memories env other)
  arrives e other =
      first_found u h.memories env (hits m dst) e (buses_to m dst) other
      ∙ ap (λ o. option_map_or (λ b. value u h.memories env (e b)) o (value u h.memories env other))
      (found_bus 0 (length m.buses) (omega arith))
