-- Which control move acts, and what the circuit has of it.
use Rattle.std.proofs.Common.{◌≡◌, ℕ, ◌<◌, Bool, true, false, ◌&&◌, ◌||◌, List, [], ◌∷◌, ◌++◌, length, map, slice_get, Option, Some, None, refl, sym, ap, ◌∙◌, subst, arith}
use Rattle.std.specs.Prelude.{is_some, if◌then◌else◌, option_map, option_and_then}
use Rattle.std.specs.Option.{option_map_or}
use Rattle.std.specs.List.{find, filter_map, cons_option}
use Rattle.std.proofs.lemmas.Option.{same_Some}
use Rattle.std.proofs.lemmas.Bool.{and_parts, and_from, false≢true}
use Rattle.std.proofs.lemmas.List.Elements.{filter_map-append}
use Rattle.tta_hardware.specs.Cited.{Units, Template, Dest, Machine, numbers, same_dest, Kind, Jumps, Calls, Halts, Brought, target_of, bring, control_of, long_effect, first_some, or_else, Move, Long, Instruction, State, read_source, effect_of, moves_of, long_effects, bit, is_set, value}
use Rattle.tta_arch.specs.declared.ends.Dest.TheVariants as dest
use Rattle.tta_arch.specs.Legal.{same_place}
use Rattle.tta_image.proofs.EndsLemmas.{same_dest_itself}
use Rattle.tta_circuit.specs.Circuit.{Signal as OfSignal}
use Rattle.tta_hardware.specs.Signals.{Signal as Named, Word, Acts, Controls, GoalNow, EndsNow, Goal, Ends}
use Rattle.tta_hardware.specs.Chains.{first_of}
use Rattle.tta_hardware.specs.Fields.{slot_at}
use Rattle.tta_hardware.specs.Wires.{arrivals, reached}
use Rattle.tta_hardware.specs.Stands.{Hardware, halts}
use Rattle.tta_hardware.specs.Laws.{Meet, carried, brought, Steers, SteersAlike}
use Rattle.tta_hardware.proofs.Chained.{set_bit}
use Rattle.tta_hardware.proofs.Carrying.{buses_carry}
use Rattle.tta_hardware.proofs.Arriving.{goes, bus_of, is_reached, arrives}
use Rattle.tta_hardware.proofs.Sole.{one_bus}
use Rattle.tta_hardware.proofs.Starting.{find_none, find_only, find_passes, find_weaker, find_within}
use Rattle.tta_hardware.proofs.Goings.{going, first_append}

-- ---- the first control move

-- the kind of control move that a destination is
abbrev pub kind_at : Dest → Option Kind
kind_at (dest.Reg file index) = None
kind_at (dest.Operand unit) = None
kind_at (dest.Trigger unit op) = None
kind_at dest.Jump = Some Jumps
kind_at dest.Call = Some Calls
kind_at dest.Halt = Some Halts

-- the destination of a kind of control move
abbrev pub dest_of : Kind → Dest
dest_of Jumps = dest.Jump
dest_of Calls = dest.Call
dest_of Halts = dest.Halt

kind_of_dest : (d : Dest) (k : Kind) → kind_at d ≡ Some k → d ≡ dest_of k
kind_of_dest dest.Jump Jumps is = refl
kind_of_dest dest.Call Calls is = refl
kind_of_dest dest.Halt Halts is = refl
kind_of_dest d k is = absurd cc

-- the first of two lists
first_both : (xs ys : List Brought) → first_some control_of (xs ++ ys) ≡ or_else (first_some control_of xs) (first_some control_of ys)
first_both [] ys = refl
first_both (x ∷ xs) ys = by (control_of x) (first_both xs ys) where
  by : (o : Option (Kind × ℕ)) → first_some control_of (xs ++ ys) ≡ or_else (first_some control_of xs) (first_some control_of ys)
      → or_else o (first_some control_of (xs ++ ys)) ≡ or_else (or_else o (first_some control_of xs)) (first_some control_of ys)
  by None rest = rest
  by (Some c) rest = refl

or_none : (o : Option (Kind × ℕ)) → or_else o None ≡ o
or_none None = refl
or_none (Some c) = refl

module _ (env : Named → ℕ) (i : Instruction) where
  -- whether a bus has a control move that acts
  abbrev pub steers : ℕ → Bool
  steers bus = option_map_or (λ v. is_set (env (Acts bus)) && is_some (kind_at v.dst)) (slot_at i bus) false

  -- what it does
  abbrev pub steering : ℕ → Option (Kind × ℕ)
  steering bus = option_and_then (λ v. option_map (λ k. (k, env (Word bus))) (kind_at v.dst)) (slot_at i bus)

  into : (b : ℕ) (d : Dest) (rest : List Brought) (found : Option ℕ) → first_some control_of rest ≡ option_and_then steering found
      → steering b ≡ option_map (λ k. (k, env (Word b))) (kind_at d)
      → first_some control_of ((target_of d, env (Word b)) ∷ rest)
      ≡ option_and_then steering (if is_some (kind_at d) then Some b else found)
  into b (dest.Reg file index) rest found is at = is
  into b (dest.Operand unit) rest found is at = is
  into b (dest.Trigger unit op) rest found is at = is
  into b dest.Jump rest found is at = sym at
  into b dest.Call rest found is at = sym at
  into b dest.Halt rest found is at = sym at

  step : (b : ℕ) (o : Option Move) (a : Bool) (rest : List Brought) (found : Option ℕ) → slot_at i b ≡ o
      → first_some control_of rest ≡ option_and_then steering found
      → first_some control_of (cons_option (option_and_then (λ v. if a then Some (target_of v.dst, env (Word b)) else None) o) rest)
      ≡ option_and_then steering (if option_map_or (λ v. a && is_some (kind_at v.dst)) o false then Some b else found)
  step b None a rest found at is = is
  step b (Some v) false rest found at is = is
  step b (Some v) true rest found at is =
      into b v.dst rest found is (ap (option_and_then (λ v. option_map (λ k. (k, env (Word b))) (kind_at v.dst))) at)

  -- the first bus with a control move that acts has the first control move
  pub steered_by : (ns : List ℕ) → first_some control_of (filter_map (carried env i) ns) ≡ option_and_then steering (find steers ns)
  steered_by [] = refl
  steered_by (b ∷ ns) = step b (slot_at i b) (is_set (env (Acts b))) (filter_map (carried env i) ns) (find steers ns) refl (steered_by ns)

-- ---- what the circuit has of it

module _ (u : Units) (m : Machine) (h : Hardware) (env : Named → ℕ) (s : State) (i : Instruction) (meet : Meet u m h env s i) where
  long_steers : (long : Option Long) → first_some control_of (filter_map (bring (read_source s)) (long_effects m long)) ≡ None
  long_steers None = refl
  long_steers (Some l) = by (slice_get m.templates l.template) where
    by : (o : Option Template)
        → first_some control_of (filter_map (bring (read_source s)) (option_map_or (λ t. long_effect t.imm t.reg l.value ∷ []) o [])) ≡ None
    by None = refl
    by (Some t) = refl

  -- the cycle's control move
  pub control_found : first_some control_of (brought m s i)
      ≡ option_and_then (steering env i) (find (steers env i) (numbers (length m.buses)))
  control_found =
      ap (first_some control_of) (filter_map-append (bring (read_source s)) (map effect_of (moves_of i)) (long_effects m i.long))
      ∙ first_both (filter_map (bring (read_source s)) (map effect_of (moves_of i)))
      (filter_map (bring (read_source s)) (long_effects m i.long))
      ∙ ap (or_else (first_some control_of (filter_map (bring (read_source s)) (map effect_of (moves_of i))))) (long_steers i.long)
      ∙ or_none (first_some control_of (filter_map (bring (read_source s)) (map effect_of (moves_of i))))
      ∙ ap (first_some control_of) (buses_carry u m h env s i meet)
      ∙ steered_by env i (numbers (length m.buses))

  goes_steers : (k : Kind) (bus : ℕ) → goes env i (dest_of k) bus ≡ true → steers env i bus ≡ true
  goes_steers k bus is =
      let g = going env i (dest_of k) bus is in
      ap (λ o. option_map_or (λ v. is_set (env (Acts bus)) && is_some (kind_at v.dst)) o false) g.at
      ∙ and_from (is_set (env (Acts bus))) (is_some (kind_at g.move.dst)) g.acts (ap (λ d. is_some (kind_at d)) g.to ∙ known k)
    where
      known : (k : Kind) → is_some (kind_at (dest_of k)) ≡ true
      known Jumps = refl
      known Calls = refl
      known Halts = refl

  none_for : find (steers env i) (numbers (length m.buses)) ≡ None → (k : Kind) → bus_of u m h env s i meet (dest_of k) ≡ None
  none_for none k = find_weaker (steers env i) (goes env i (dest_of k)) (numbers (length m.buses)) (goes_steers k) none

  control_place : (a b : Kind) → same_place (dest_of a) (dest_of b) ≡ true
  control_place Jumps Jumps = refl
  control_place Jumps Calls = refl
  control_place Jumps Halts = refl
  control_place Calls Jumps = refl
  control_place Calls Calls = refl
  control_place Calls Halts = refl
  control_place Halts Jumps = refl
  control_place Halts Calls = refl
  control_place Halts Halts = refl

  -- the bus of each kind of control move, where one has this kind
  module _ (bus : ℕ) (v : Move) (k : Kind) (at : slot_at i bus ≡ Some v) (acts : is_set (env (Acts bus)) ≡ true) (to : v.dst ≡ dest_of k)
      (below : bus < length m.buses) where
    sole : (k' : Kind) (j : ℕ) → goes env i (dest_of k') j ≡ true → (j ≡ bus) × (dest_of k' ≡ dest_of k)
    sole k' j is =
        let g = going env i (dest_of k') j is in
        let same_bus : j ≡ bus = one_bus m i meet.legal j bus g.move v g.at at
        (ap (λ d. same_place d v.dst) g.to ∙ ap (λ d. same_place (dest_of k') d) to ∙ control_place k' k)
        (ap (λ d. same_place d g.move.dst) to ∙ ap (λ d. same_place (dest_of k) d) g.to ∙ control_place k k') in
        let same_move : g.move ≡ v = same_Some g.move v (sym g.at ∙ ap (slot_at i) same_bus ∙ at) in
        (same_bus, sym g.to ∙ ap (λ (w : Move). w.dst) same_move ∙ to)

    here : bus_of u m h env s i meet (dest_of k) ≡ Some bus
    here =
        find_only (goes env i (dest_of k)) 0 (length m.buses) bus (omega arith) (omega (arith, below))
        (ap (λ o. option_map_or (λ v. is_set (env (Acts bus)) && same_dest v.dst (dest_of k)) o false) at
        ∙ and_from (is_set (env (Acts bus))) (same_dest v.dst (dest_of k)) acts (ap (λ d. same_dest d (dest_of k)) to
        ∙ same_dest_itself (dest_of k)))
        (λ j is. (sole k j is).0)

    elsewhere : (k' : Kind) → (dest_of k' ≡ dest_of k → ⊥) → bus_of u m h env s i meet (dest_of k') ≡ None
    elsewhere k' other = find_none (goes env i (dest_of k')) (numbers (length m.buses)) (λ j. by j (goes env i (dest_of k') j) refl) where
      by : (j : ℕ) (b : Bool) → goes env i (dest_of k') j ≡ b → b ≡ false
      by j true is = absurd (other (sole k' j is).1)
      by j false is = refl

  controls_is : is_set (env Controls)
      ≡ (is_some (bus_of u m h env s i meet dest.Jump)
      || (is_some (bus_of u m h env s i meet dest.Call) || is_some (bus_of u m h env s i meet dest.Halt)))
  controls_is =
      let j = is_set (value u h.memories env (reached m dest.Jump)) in
      let c = is_set (value u h.memories env (reached m dest.Call)) in
      let t = is_set (value u h.memories env (reached m dest.Halt)) in
      ap is_set meet.settled.controls ∙ set_bit (j || is_set (bit (c || t))) ∙ ap (λ b. j || b) (set_bit (c || t))
      ∙ ap (λ b. b || (c || t)) (is_reached u m h env s i meet dest.Jump)
      ∙ ap (λ b. is_some (bus_of u m h env s i meet dest.Jump) || (b || t)) (is_reached u m h env s i meet dest.Call)
      ∙ ap (λ b. is_some (bus_of u m h env s i meet dest.Jump) || (is_some (bus_of u m h env s i meet dest.Call) || b))
      (is_reached u m h env s i meet dest.Halt)

  ends_is : is_set (env EndsNow) ≡ (if is_set (env Controls) then is_some (bus_of u m h env s i meet dest.Halt) else is_set (h.words Ends))
  ends_is = ap is_set meet.settled.ends_now ∙ by (is_set (env Controls)) where
    by : (b : Bool) → is_set (if b then value u h.memories env (reached m dest.Halt) else env Ends)
        ≡ (if b then is_some (bus_of u m h env s i meet dest.Halt) else is_set (h.words Ends))
    by true = is_reached u m h env s i meet dest.Halt
    by false = ap is_set meet.settled.ends

  goal_is : env GoalNow ≡ option_map_or (λ b. env (Word b)) (bus_of u m h env s i meet dest.Jump)
      (option_map_or (λ b. env (Word b)) (bus_of u m h env s i meet dest.Call) (h.words Goal))
  goal_is =
      meet.settled.goal_now ∙ first_append u m h env (arrivals m dest.Jump) (arrivals m dest.Call) (OfSignal Goal)
      ∙ arrives u m h env s i meet dest.Jump (λ bus. OfSignal (Word bus)) (first_of (arrivals m dest.Call) (OfSignal Goal))
      ∙ ap (λ n. option_map_or (λ b. env (Word b)) (bus_of u m h env s i meet dest.Jump) n)
      (arrives u m h env s i meet dest.Call (λ bus. OfSignal (Word bus)) (OfSignal Goal)
      ∙ ap (λ n. option_map_or (λ b. env (Word b)) (bus_of u m h env s i meet dest.Call) n) meet.settled.goal)

  -- the circuit has this of its control moves
  has : (j c t : Option ℕ) (k : Option (Kind × ℕ)) → bus_of u m h env s i meet dest.Jump ≡ j → bus_of u m h env s i meet dest.Call ≡ c
      → bus_of u m h env s i meet dest.Halt ≡ t
      → (is_some j || (is_some c || is_some t)) ≡ is_some k
      → (if is_some k then is_some t else is_set (h.words Ends)) ≡ option_map_or (λ x. halts x.0) k (is_set (h.words Ends))
      → option_map_or (λ b. env (Word b)) j (option_map_or (λ b. env (Word b)) c (h.words Goal))
      ≡ option_map_or (λ x. if halts x.0 then h.words Goal else x.1) k (h.words Goal)
      → Steers env h.words k
  has j c t k jumps calls ends some is_end goal =
      let on : is_set (env Controls) ≡ is_some k =
      controls_is ∙ ap (λ o. is_some o || (is_some (bus_of u m h env s i meet dest.Call) || is_some (bus_of u m h env s i meet dest.Halt)))
      jumps
      ∙ ap (λ o. is_some j || (is_some o || is_some (bus_of u m h env s i meet dest.Halt))) calls
      ∙ ap (λ o. is_some j || (is_some c || is_some o)) ends ∙ some in
      record {
        controls = on;
        ends = ends_is ∙ ap (λ b. if b then is_some (bus_of u m h env s i meet dest.Halt) else is_set (h.words Ends)) on
            ∙ ap (λ o. if is_some k then is_some o else is_set (h.words Ends)) ends ∙ is_end;
        goal = goal_is
            ∙ ap (λ o. option_map_or (λ b. env (Word b)) o
            (option_map_or (λ b. env (Word b)) (bus_of u m h env s i meet dest.Call) (h.words Goal))) jumps
            ∙ ap (λ o. option_map_or (λ b. env (Word b)) j (option_map_or (λ b. env (Word b)) o (h.words Goal))) calls ∙ goal;
      }

  steered : (bus : ℕ) (v : Move) (k : Kind) → slot_at i bus ≡ Some v → is_set (env (Acts bus)) ≡ true → v.dst ≡ dest_of k
      → bus < length m.buses
      → Steers env h.words (Some (k, env (Word bus)))
  steered bus v Jumps at acts to below =
      has (Some bus) None None (Some (Jumps, env (Word bus))) (here bus v Jumps at acts to below)
      (elsewhere bus v Jumps at acts to below Calls (λ e. absurd cc)) (elsewhere bus v Jumps at acts to below Halts (λ e. absurd cc)) refl
      refl refl
  steered bus v Calls at acts to below =
      has None (Some bus) None (Some (Calls, env (Word bus))) (elsewhere bus v Calls at acts to below Jumps (λ e. absurd cc))
      (here bus v Calls at acts to below)
      (elsewhere bus v Calls at acts to below Halts (λ e. absurd cc)) refl refl refl
  steered bus v Halts at acts to below =
      has None None (Some bus) (Some (Halts, env (Word bus))) (elsewhere bus v Halts at acts to below Jumps (λ e. absurd cc))
      (elsewhere bus v Halts at acts to below Calls (λ e. absurd cc)) (here bus v Halts at acts to below) refl refl refl

  -- the circuit has the cycle's control move
  pub steering_alike : Steers env h.words (first_some control_of (brought m s i))
  steering_alike = subst (Steers env h.words) (sym control_found) (by (find (steers env i) (numbers (length m.buses))) refl) where
    of : (bus : ℕ) → bus < length m.buses → (o : Option Move) → slot_at i bus ≡ o
        → option_map_or (λ v. is_set (env (Acts bus)) && is_some (kind_at v.dst)) o false ≡ true
        → Steers env h.words (option_and_then (λ v. option_map (λ k. (k, env (Word bus))) (kind_at v.dst)) o)
    of bus below None at is = absurd (false≢true is)
    of bus below (Some v) at is = kinds (kind_at v.dst) refl parts.1 where
      parts : (is_set (env (Acts bus)) ≡ true) × (is_some (kind_at v.dst) ≡ true)
      parts = and_parts (is_set (env (Acts bus))) (is_some (kind_at v.dst)) is

      kinds : (q : Option Kind) → kind_at v.dst ≡ q → is_some q ≡ true → Steers env h.words (option_map (λ k. (k, env (Word bus))) q)
      kinds None kind some = absurd (false≢true some)
      kinds (Some k) kind some = steered bus v k at parts.0 (kind_of_dest v.dst k kind) below

    by : (o : Option ℕ) → find (steers env i) (numbers (length m.buses)) ≡ o → Steers env h.words (option_and_then (steering env i) o)
    by None is = has None None None None (none_for is Jumps) (none_for is Calls) (none_for is Halts) refl refl refl
    by (Some bus) is =
        let inside = find_within (steers env i) 0 (length m.buses) bus is in
        of bus (omega (arith, inside.1)) (slot_at i bus) refl (find_passes (steers env i) (numbers (length m.buses)) bus is)

pub steers_alike : SteersAlike
steers_alike u m h env s i meet = steering_alike u m h env s i meet
