-- What one network outputs, another outputs too, where each of its cores does on each input.
use Rattle.std.proofs.Common.{◌≡◌, inl, inr, ℕ, zero, suc, ◌+◌, ◌-◌, Bool, true, false, List, [], ◌∷◌, ◌++◌, length, drop, replicate, Option, Some, None, refl, sym, ap, subst, ◌∙◌, arith, append_assoc}
use Rattle.std.specs.Prelude.{slice_get, if◌then◌else◌}
use Rattle.std.specs.Option.{option_map_or}
use Rattle.std.proofs.lemmas.Bool.{cases_eq}
use Rattle.std.proofs.lemmas.List.Sums.{fold-append}
use Rattle.tta_list.proofs.Prefixes.{prefix_same, prefix_chain}
use Rattle.tta_kahn.specs.Cited.{IsPrefixOf}
use Rattle.tta_kahn.specs.Network.{Network, NetworkCore, output_of, feeder_of, fed_to, after_step, turn, interleaved, joined, AreAtRest, AreComparable}
use Rattle.tta_kahn.specs.Queues.{UsesQueues}
use Rattle.tta_kahn.proofs.Prefixes.{prefixes_meet}
use Rattle.tta_kahn.proofs.OneCore.{put_by, put_longer}
use Rattle.tta_kahn.proofs.Turns.{past_output, past_next}
use Rattle.tta_kahn.proofs.Clusters.{output_at, next_core, turn_none, turn_here, turn_other, interleaved_grows, HasMade, HavePast, past_turn}
use Rattle.tta_kahn.proofs.Reaching.{AreFresh, joined_at, past_first, past_of, catches_up}

-- What the core outputs on an input, the other outputs on it too: of any core of the one network, and the core of the other that
-- has its number. What a core of the one is given from outside begins what that of the other is, and all that is fed to the cores of
-- the other is such an input.
pub record Does {S T : Type 0} (net : Network S) (starts : List S) (other : Network T) (others : List T) (IsInput : List ℕ → Type 0) : Type 0 where
  pub feeds : net.feeds ≡ other.feeds
  pub given : (core : ℕ) → IsPrefixOf (net.given core) (other.given core)
  pub there : (core : ℕ) (s : S) → slice_get starts core ≡ Some s → (t : T) × (slice_get others core ≡ Some t)
  pub puts : (core : ℕ) (s : S) (t : T) → slice_get starts core ≡ Some s → slice_get others core ≡ Some t → (input : List ℕ) → IsInput input → (n : ℕ)
      → (m : ℕ) × IsPrefixOf (put_by net core s input n) (put_by other core t input m)
  pub inputs : (steps : List ℕ) (core : ℕ) → IsInput (fed_to other (interleaved other (joined others) steps) core)

-- what a core has output after its step is what its run outputs on what it was fed before
put_on : {S : Type 0} (net : Network S) → UsesQueues net → (cores : List (NetworkCore S)) (core : ℕ) (s : S) (made : ℕ) → HasMade net cores core s made
    → (n : ℕ) × (output_of net (turn net cores core) core ≡ put_by net core s (fed_to net cores core) n)
put_on {S} net uses cores core s made has = by (net.waits next) refl where
  fed : List ℕ
  fed = fed_to net cores core

  next : S
  next = after_step net core (drop has.now.taken fed) has.now

  new : NetworkCore S
  new = record { state = net.with_rest next []; taken = has.now.taken + (length (drop has.now.taken fed) - length (net.rest next)) }

  at : output_of net (turn net cores core) core ≡ net.output (next_core net cores core has.now).state
  at = output_at net (turn net cores core) core (next_core net cores core has.now) (turn_here net cores core has.now has.there)

  by : (b : Bool) → net.waits next ≡ b → (n : ℕ) × (output_of net (turn net cores core) core ≡ put_by net core s fed n)
  by true waits =
      (made, at ∙ ap (λ (b : Bool). net.output (if b then has.now else new).state) waits ∙ past_output net uses core s fed has.now made has.past)
  by false goes =
      (suc made, at ∙ past_output net uses core s fed (next_core net cores core has.now) (suc made) (past_next net uses core s fed has.now made has.past goes))

module _ {S T : Type 0} (net : Network S) (uses : UsesQueues net) (starts : List S) (fresh : AreFresh net starts)
    (other : Network T) (uses' : UsesQueues other) (others : List T) (fresh' : AreFresh other others)
    (IsInput : List ℕ → Type 0) (does : Does net starts other others IsInput) where
  -- the other network after these steps
  abbrev after : List ℕ → List (NetworkCore T)
  after steps = interleaved other (joined others) steps

  -- it has output at least what the one has
  abbrev IsAhead : List (NetworkCore S) → List ℕ → Type 0
  IsAhead cores steps = (core : ℕ) → IsPrefixOf (output_of net cores core) (output_of other (after steps) core)

  after_more : (steps more : List ℕ) → after (steps ++ more) ≡ interleaved other (after steps) more
  after_more steps more = fold-append (turn other) (joined others) steps more

  still_ahead : (cores : List (NetworkCore S)) (steps more : List ℕ) → IsAhead cores steps → IsAhead cores (steps ++ more)
  still_ahead cores steps more ahead core =
      prefix_chain _ _ _ (ahead core)
      (prefix_chain _ _ _ (interleaved_grows other uses' (after steps) more core) (prefix_same _ _ (ap (λ cs. output_of other cs core) (sym (after_more steps more)))))

  fed_ahead : (cores : List (NetworkCore S)) (steps : List ℕ) (core : ℕ) → IsAhead cores steps → IsPrefixOf (fed_to net cores core) (fed_to other (after steps) core)
  fed_ahead cores steps core ahead =
      prefix_chain _ _ _ (by (feeder_of net core))
      (prefix_same _ _ (ap (λ fs. option_map_or (output_of other (after steps)) (option_map_or (λ o. o) (slice_get fs core) None)
      (other.given core)) does.feeds))
    where
      by : (o : Option ℕ)
          → IsPrefixOf (option_map_or (output_of net cores) o (net.given core)) (option_map_or (output_of other (after steps)) o (other.given core))
      by None = does.given core
      by (Some feeder) = ahead feeder

  -- where a core of the one steps, that of the other catches up
  one_ahead : (cores : List (NetworkCore S)) (steps : List ℕ) (core : ℕ) → HavePast net starts cores → IsAhead cores steps → (more : List ℕ) × IsAhead (turn net cores core) (steps ++ more)
  one_ahead cores steps core have ahead = by (slice_get starts core) refl where
    by : (o : Option S) → slice_get starts core ≡ o → (more : List ℕ) × IsAhead (turn net cores core) (steps ++ more)
    by None none = (
      [],
      λ k. subst (λ cs. IsPrefixOf (output_of net cs k) (output_of other (after (steps ++ [])) k))
          (sym (turn_none net cores core (have.none core none))) (still_ahead cores steps [] ahead k),
    )
    by (Some s) at =
        let has = have.each core s at in
        let put = put_on net uses cores core s has.0 has.1 in
        let fed = fed_to net cores core in
        let fed' = fed_to other (after steps) core in
        let partner = does.there core s at in
        let catch = does.puts core s partner.0 at partner.1 fed' (does.inputs steps core) put.0 in
        let past' = (past_of other uses' others fresh' steps).each core partner.0 partner.1 in
        let more = replicate catch.0 core in (
          more,
          λ k. elim (cases_eq core k) as (λ e. IsPrefixOf (output_of net (turn net cores core) k) (output_of other (after (steps ++ more)) k)) [
            | inl same ↦ subst (λ (j : ℕ). IsPrefixOf (output_of net (turn net cores core) j) (output_of other (after (steps ++ more)) j)) same
                (prefix_chain _ _ _ (prefix_same _ _ put.1)
                (prefix_chain _ _ _ (put_longer net uses core s fed fed' put.0 (fed_ahead cores steps core ahead))
                (prefix_chain _ _ _ catch.1
                (prefix_chain _ _ _ (catches_up other uses' others fresh' catch.0 (after steps) core partner.0 past'.0 fed' catch.0 past'.1 (prefix_same _ _ refl) (omega arith))
                (prefix_same _ _ (ap (λ cs. output_of other cs core) (sym (after_more steps more))))))))
            | inr apart ↦
                prefix_chain _ _ _ (prefix_same _ _ (ap (λ o. option_map_or (λ c. net.output c.state) o []) (turn_other net cores core k apart)))
                (still_ahead cores steps more ahead k)
          ],
        )

  all_ahead : (cores : List (NetworkCore S)) (steps todo : List ℕ) → HavePast net starts cores → IsAhead cores steps → (more : List ℕ) × IsAhead (interleaved net cores todo) (steps ++ more)
  all_ahead cores steps [] have ahead = ([], still_ahead cores steps [] ahead)
  all_ahead cores steps (core ∷ todo) have ahead =
      let one = one_ahead cores steps core have ahead in
      let rest = all_ahead (turn net cores core) (steps ++ one.0) todo (past_turn net uses starts cores core have) one.1 in
      (one.0 ++ rest.0, subst (λ (l : List ℕ). IsAhead (interleaved net cores (core ∷ todo)) l) (append_assoc steps one.0 rest.0) rest.1)

  -- at first nothing was output
  none_ahead : (steps : List ℕ) → IsAhead (joined starts) steps
  none_ahead steps core = by (slice_get starts core) refl where
    by : (o : Option S) → slice_get starts core ≡ o → IsPrefixOf (output_of net (joined starts) core) (output_of other (after steps) core)
    by None none =
        prefix_chain _ [] _ (prefix_same _ _ (ap (λ o. option_map_or (λ c. net.output c.state) o []) ((past_first net uses starts fresh).none core none)))
        (output_of other (after steps) core, refl)
    by (Some s) at =
        let has = ((past_first net uses starts fresh).each core s at).1 in
        let silent = fresh.silent core s at in
        prefix_chain _ [] _ (prefix_same _ _ (output_at net (joined starts) core (record { state = s; taken = zero }) (joined_at starts core s at) ∙ silent))
        (output_of other (after steps) core, refl)

  -- Whatever the one does and the other has done, the other can go on so that it has output at least as much.
  pub reaches : (todo steps : List ℕ) → (more : List ℕ) × IsAhead (interleaved net (joined starts) todo) (steps ++ more)
  reaches todo steps = all_ahead (joined starts) steps todo (past_first net uses starts fresh) (none_ahead steps)

  -- so what two cores of a number output is prefix-comparable
  pub compares : (todo steps : List ℕ) (core : ℕ) → AreComparable (output_of net (interleaved net (joined starts) todo) core) (output_of other (after steps) core)
  compares todo steps core =
      let reach = reaches todo steps in
      prefixes_meet _ _ _ (reach.1 core)
      (prefix_chain _ _ _ (interleaved_grows other uses' (after steps) reach.0 core) (prefix_same _ _ (ap (λ cs. output_of other cs core) (sym (after_more steps reach.0)))))

  rests : (cores : List (NetworkCore T)) (more : List ℕ) → AreAtRest other cores → interleaved other cores more ≡ cores
  rests cores [] rest = refl
  rests cores (core ∷ more) rest = ap (λ cs. interleaved other cs more) (rest core) ∙ rests cores more rest

  -- and where the other is at rest, it has output all that the one can
  pub bounds : (todo steps : List ℕ) (core : ℕ) → AreAtRest other (after steps) → IsPrefixOf (output_of net (interleaved net (joined starts) todo) core) (output_of other (after steps) core)
  bounds todo steps core rest =
      let reach = reaches todo steps in
      prefix_chain _ _ _ (reach.1 core) (prefix_same _ _ (ap (λ cs. output_of other cs core) (after_more steps reach.0 ∙ rests (after steps) reach.0 rest)))
