-- The cores of a cluster after steps: outputs only grow, and each core has a past.
use Rattle.std.proofs.Common.{◌≡◌, ◌≢◌, inl, inr, ℕ, suc, ◌+◌, ◌-◌, Bool, true, false, List, [], ◌∷◌, length, drop, Option, Some, None, refl, sym, ap, subst, ◌∙◌}
use Rattle.std.specs.Prelude.{slice_get, slice_set, if◌then◌else◌}
use Rattle.std.specs.Option.{option_map_or}
use Rattle.std.proofs.lemmas.Option.{slice_get_within}
use Rattle.std.proofs.lemmas.Bool.{cases_eq}
use Rattle.tta_list.proofs.Prefixes.{prefix_same, prefix_chain}
use Rattle.tta_kahn.specs.Cited.{IsPrefixOf}
use Rattle.tta_kahn.specs.Network.{Network, NetworkCore, output_of, feeder_of, fed_to, after_step, stepped, turn, interleaved}
use Rattle.tta_kahn.specs.Queues.{UsesQueues}
use Rattle.tta_kahn.proofs.Turns.{IsPast, past_longer, past_next}
use Rattle.tta_list.proofs.Sets.{set_same as get_set_same, set_other as get_set_other}

module _ {S : Type 0} (net : Network S) where
  -- what a core of a cluster has output
  pub output_at : (cores : List (NetworkCore S)) (core : ℕ) (c : NetworkCore S) → slice_get cores core ≡ Some c → output_of net cores core ≡ net.output c.state
  output_at cores core c there = ap (λ o. option_map_or (λ x. net.output x.state) o []) there

  -- what feeds a core grows where outputs do
  pub fed_grows : (cores later : List (NetworkCore S)) → ((core : ℕ) → IsPrefixOf (output_of net cores core) (output_of net later core)) → (core : ℕ)
      → IsPrefixOf (fed_to net cores core) (fed_to net later core)
  fed_grows cores later grows core = by (feeder_of net core) where
    by : (o : Option ℕ)
        → IsPrefixOf (option_map_or (output_of net cores) o (net.given core)) (option_map_or (output_of net later) o (net.given core))
    by None = prefix_same _ _ refl
    by (Some feeder) = grows feeder

  -- ---- one step

  -- a core of a cluster once it has stepped
  abbrev pub next_core : List (NetworkCore S) → (core : ℕ) → NetworkCore S → NetworkCore S
  next_core cores core c = stepped net core (drop c.taken (fed_to net cores core)) c

  pub turn_none : (cores : List (NetworkCore S)) (core : ℕ) → slice_get cores core ≡ None → turn net cores core ≡ cores
  turn_none cores core none = ap (λ o. option_map_or (λ c. slice_set cores core (next_core cores core c)) o cores) none

  pub turn_some : (cores : List (NetworkCore S)) (core : ℕ) (c : NetworkCore S) → slice_get cores core ≡ Some c → turn net cores core ≡ slice_set cores core (next_core cores core c)
  turn_some cores core c there = ap (λ o. option_map_or (λ c. slice_set cores core (next_core cores core c)) o cores) there

  pub turn_here : (cores : List (NetworkCore S)) (core : ℕ) (c : NetworkCore S) → slice_get cores core ≡ Some c → slice_get (turn net cores core) core ≡ Some (next_core cores core c)
  turn_here cores core c there =
      ap (λ cs. slice_get cs core) (turn_some cores core c there) ∙ get_set_same cores core (next_core cores core c) (slice_get_within cores core c there)

  pub turn_other : (cores : List (NetworkCore S)) (core k : ℕ) → core ≢ k → slice_get (turn net cores core) k ≡ slice_get cores k
  turn_other cores core k apart = by (slice_get cores core) refl where
    by : (o : Option (NetworkCore S)) → slice_get cores core ≡ o → slice_get (turn net cores core) k ≡ slice_get cores k
    by None none = ap (λ cs. slice_get cs k) (turn_none cores core none)
    by (Some c) there = ap (λ cs. slice_get cs k) (turn_some cores core c there) ∙ get_set_other cores core k (next_core cores core c) apart

  module _ (uses : UsesQueues net) where
    -- a core's step only adds to its output
    pub stepped_grows : (core : ℕ) (input : List ℕ) (c : NetworkCore S) → IsPrefixOf (net.output c.state) (net.output (stepped net core input c).state)
    stepped_grows core input c = by (net.waits next) where
      next : S
      next = after_step net core input c

      new : NetworkCore S
      new = record { state = net.with_rest next []; taken = c.taken + (length input - length (net.rest next)) }

      by : (b : Bool) → IsPrefixOf (net.output c.state) (net.output (if b then c else new).state)
      by true = prefix_same _ _ refl
      by false =
          prefix_chain _ _ _ (prefix_same _ _ (sym (uses.output_is c.state input)))
          (prefix_chain _ _ _ (uses.grows core (net.with_rest c.state input)) (prefix_same _ _ (sym (uses.output_is next []))))

    -- what each core has output grows with each step
    pub turn_grows : (cores : List (NetworkCore S)) (core k : ℕ) → IsPrefixOf (output_of net cores k) (output_of net (turn net cores core) k)
    turn_grows cores core k = elim (cases_eq core k) as (λ e. IsPrefixOf (output_of net cores k) (output_of net (turn net cores core) k)) [
      | inl same ↦ subst (λ (j : ℕ). IsPrefixOf (output_of net cores j) (output_of net (turn net cores core) j)) same (here (slice_get cores core) refl)
      | inr apart ↦ prefix_same _ _ (ap (λ o. option_map_or (λ c. net.output c.state) o []) (sym (turn_other cores core k apart)))
    ] where
      here : (o : Option (NetworkCore S)) → slice_get cores core ≡ o → IsPrefixOf (output_of net cores core) (output_of net (turn net cores core) core)
      here None none = prefix_same _ _ (ap (λ cs. output_of net cs core) (sym (turn_none cores core none)))
      here (Some c) there =
          prefix_chain _ _ _ (prefix_same _ _ (output_at cores core c there))
          (prefix_chain _ _ _ (stepped_grows core (drop c.taken (fed_to net cores core)) c)
          (prefix_same _ _ (sym (output_at (turn net cores core) core (next_core cores core c) (turn_here cores core c there)))))

    -- and so with any steps
    pub interleaved_grows : (cores : List (NetworkCore S)) (steps : List ℕ) (k : ℕ) → IsPrefixOf (output_of net cores k) (output_of net (interleaved net cores steps) k)
    interleaved_grows cores [] k = prefix_same _ _ refl
    interleaved_grows cores (core ∷ steps) k = prefix_chain _ _ _ (turn_grows cores core k) (interleaved_grows (turn net cores core) steps k)

-- ---- the past of each core

-- A core of a cluster began in this state, and has made so many steps since.
pub record HasMade {S : Type 0} (net : Network S) (cores : List (NetworkCore S)) (core : ℕ) (s : S) (made : ℕ) : Type 0 where
  pub now : NetworkCore S
  pub there : slice_get cores core ≡ Some now
  pub past : IsPast net core s (fed_to net cores core) now made

-- Each core of a cluster began in its state, and there are no others.
pub record HavePast {S : Type 0} (net : Network S) (starts : List S) (cores : List (NetworkCore S)) : Type 0 where
  pub each : (core : ℕ) (s : S) → slice_get starts core ≡ Some s → (made : ℕ) × HasMade net cores core s made
  pub none : (core : ℕ) → slice_get starts core ≡ None → slice_get cores core ≡ None

module _ {S : Type 0} (net : Network S) (uses : UsesQueues net) where
  -- a core's past after a step of another, or of its own that waits
  made_beside : (cores later : List (NetworkCore S)) (core : ℕ) (s : S) (made : ℕ) → ((k : ℕ) → IsPrefixOf (output_of net cores k) (output_of net later k))
      → slice_get later core ≡ slice_get cores core → HasMade net cores core s made → HasMade net later core s made
  made_beside cores later core s made grows same has = record {
    now = has.now;
    there = same ∙ has.there;
    past = past_longer net uses core s (fed_to net cores core) (fed_to net later core) has.now made (fed_grows net cores later grows core) has.past;
  }

  -- a step that does not wait is one more
  pub made_one : (cores : List (NetworkCore S)) (core : ℕ) (s : S) (made : ℕ) (has : HasMade net cores core s made)
      → net.waits (after_step net core (drop has.now.taken (fed_to net cores core)) has.now) ≡ false → HasMade net (turn net cores core) core s (suc made)
  made_one cores core s made has goes = record {
    now = next_core net cores core has.now;
    there = turn_here net cores core has.now has.there;
    past =
        past_longer net uses core s (fed_to net cores core) (fed_to net (turn net cores core) core) (next_core net cores core has.now) (suc made)
        (fed_grows net cores (turn net cores core) (turn_grows net uses cores core) core)
        (past_next net uses core s (fed_to net cores core) has.now made has.past goes);
  }

  -- a step that waits is none
  made_none : (cores : List (NetworkCore S)) (core : ℕ) (s : S) (made : ℕ) (has : HasMade net cores core s made)
      → net.waits (after_step net core (drop has.now.taken (fed_to net cores core)) has.now) ≡ true → HasMade net (turn net cores core) core s made
  made_none cores core s made has waits =
      let same : next_core net cores core has.now ≡ has.now =
      ap (λ (b : Bool). if b then has.now else record {
        state = net.with_rest (after_step net core (drop has.now.taken (fed_to net cores core)) has.now) [];
        taken = has.now.taken + (length (drop has.now.taken (fed_to net cores core)) - length (net.rest (after_step net core (drop has.now.taken (fed_to net cores core)) has.now)));
      }) waits in
      made_beside cores (turn net cores core) core s made (turn_grows net uses cores core)
      (turn_here net cores core has.now has.there ∙ ap (λ c. Some c) same ∙ sym has.there) has

  -- each core has a past after a step
  pub past_turn : (starts : List S) (cores : List (NetworkCore S)) (core : ℕ) → HavePast net starts cores → HavePast net starts (turn net cores core)
  past_turn starts cores core have = record {
    each = λ k s at. elim (cases_eq core k) as (λ e. (made : ℕ) × HasMade net (turn net cores core) k s made) [
      | inl same ↦ subst (λ (j : ℕ). (made : ℕ) × HasMade net (turn net cores core) j s made) same
          (here s (have.each core s (ap (slice_get starts) same ∙ at)))
      | inr apart ↦
          let was = have.each k s at in
          (was.0, made_beside cores (turn net cores core) k s was.0 (turn_grows net uses cores core) (turn_other net cores core k apart) was.1)
    ];
    none = λ k none. elim (cases_eq core k) as (λ e. slice_get (turn net cores core) k ≡ None) [
      | inl same ↦
          let there : slice_get cores core ≡ None = ap (slice_get cores) same ∙ have.none k none in
          ap (λ cs. slice_get cs k) (turn_none net cores core there) ∙ have.none k none
      | inr apart ↦ turn_other net cores core k apart ∙ have.none k none
    ];
  } where
    here : (s : S) → (made : ℕ) × HasMade net cores core s made → (made : ℕ) × HasMade net (turn net cores core) core s made
    here s was = by (net.waits (after_step net core (drop was.1.now.taken (fed_to net cores core)) was.1.now)) refl where
      by : (b : Bool) → net.waits (after_step net core (drop was.1.now.taken (fed_to net cores core)) was.1.now) ≡ b → (made : ℕ) × HasMade net (turn net cores core) core s made
      by true waits = (was.0, made_none cores core s was.0 was.1 waits)
      by false goes = (suc was.0, made_one cores core s was.0 was.1 goes)

  -- and after any steps
  pub past_interleaved : (starts : List S) (cores : List (NetworkCore S)) (steps : List ℕ) → HavePast net starts cores → HavePast net starts (interleaved net cores steps)
  past_interleaved starts cores [] have = have
  past_interleaved starts cores (core ∷ steps) have = past_interleaved starts (turn net cores core) steps (past_turn starts cores core have)
