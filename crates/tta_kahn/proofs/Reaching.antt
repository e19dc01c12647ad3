-- One network reaches what another outputs, where each of its cores does on each input.
use Rattle.std.proofs.Common.{◌≡◌, ℕ, zero, suc, ◌+◌, ◌≤◌, Bool, true, false, List, [], ◌∷◌, drop, replicate, Some, None, refl, sym, ap, ◌∙◌, arith}
use Rattle.std.specs.Prelude.{slice_get}
use Rattle.std.specs.Option.{option_map_or}
use Rattle.tta_list.proofs.Prefixes.{prefix_same, prefix_chain}
use Rattle.tta_kahn.specs.Cited.{IsPrefixOf}
use Rattle.tta_kahn.specs.Network.{Network, NetworkCore, output_of, fed_to, after_step, turn, interleaved, joined}
use Rattle.tta_kahn.specs.Queues.{UsesQueues}
use Rattle.tta_kahn.proofs.OneCore.{run, put_by, put_longer, put_later, put_all}
use Rattle.tta_kahn.proofs.Turns.{past_output, past_step}
use Rattle.tta_kahn.proofs.Clusters.{output_at, fed_grows, turn_grows, interleaved_grows, HasMade, HavePast, made_one, past_interleaved}

-- ---- at first

-- no step was made
pub joined_at : {S : Type 0} (starts : List S) (core : ℕ) (s : S) → slice_get starts core ≡ Some s → slice_get (joined starts) core ≡ Some (record { state = s; taken = 0 })
joined_at [] core s at = absurd cc
joined_at (x ∷ starts) zero s at = ap (λ o. option_map_or (λ (t : _). Some (record { state = t; taken = 0 })) o None) at
joined_at (x ∷ starts) (suc core) s at = joined_at starts core s at

pub joined_none : {S : Type 0} (starts : List S) (core : ℕ) → slice_get starts core ≡ None → slice_get (joined starts) core ≡ None
joined_none [] core none = refl
joined_none (x ∷ starts) zero none = absurd cc
joined_none (x ∷ starts) (suc core) none = joined_none starts core none

-- States in which a core can begin: none waits, and nothing was output.
pub record AreFresh {S : Type 0} (net : Network S) (starts : List S) : Type 0 where
  pub goes : (core : ℕ) (s : S) → slice_get starts core ≡ Some s → net.waits s ≡ false
  pub silent : (core : ℕ) (s : S) → slice_get starts core ≡ Some s → net.output s ≡ []

module _ {S : Type 0} (net : Network S) (uses : UsesQueues net) (starts : List S) (fresh : AreFresh net starts) where
  pub past_first : HavePast net starts (joined starts)
  past_first = record {
    each = λ core s at. (
      zero,
      record {
        now = record { state = s; taken = 0 };
        there = joined_at starts core s at;
        past = record { within = omega arith; goes = fresh.goes core s at; is = refl };
      },
    );
    none = joined_none starts;
  }

  -- every core has a past
  pub past_of : (steps : List ℕ) → HavePast net starts (interleaved net (joined starts) steps)
  past_of steps = past_interleaved net uses starts (joined starts) steps past_first

  pub none_output : (steps : List ℕ) (core : ℕ) → slice_get starts core ≡ None → output_of net (interleaved net (joined starts) steps) core ≡ []
  none_output steps core none = ap (λ o. option_map_or (λ c. net.output c.state) o []) ((past_of steps).none core none)

  -- ---- catching up

  -- a core that steps often enough outputs what its run outputs on what it was fed before
  pub catches_up : (more : ℕ) (cores : List (NetworkCore S)) (core : ℕ) (s : S) (made : ℕ) (input : List ℕ) (n : ℕ) → HasMade net cores core s made
      → IsPrefixOf input (fed_to net cores core) → n ≤ made + more → IsPrefixOf (put_by net core s input n) (output_of net (interleaved net cores (replicate more core)) core)
  catches_up zero cores core s made input n has begins le =
      prefix_chain _ _ _ (put_longer net uses core s input (fed_to net cores core) n begins)
      (prefix_chain _ _ _ (put_later net uses core s (fed_to net cores core) n made (omega arith))
      (prefix_same _ _ (sym (past_output net uses core s (fed_to net cores core) has.now made has.past) ∙ sym (output_at net cores core has.now has.there))))
  catches_up (suc more) cores core s made input n has begins le =
      by (net.waits next) refl (λ one. catches_up more (turn net cores core) core s (suc made) input n one
      (prefix_chain _ _ _ begins (fed_grows net cores (turn net cores core) (turn_grows net uses cores core) core)) (omega arith))
    where
      fed : List ℕ
      fed = fed_to net cores core

      next : S
      next = after_step net core (drop has.now.taken fed) has.now

      by : (b : Bool) → net.waits next ≡ b
          → (HasMade net (turn net cores core) core s (suc made) → IsPrefixOf (put_by net core s input n) (output_of net (interleaved net (turn net cores core) (replicate more core)) core))
          → IsPrefixOf (put_by net core s input n) (output_of net (interleaved net cores (replicate (suc more) core)) core)
      by false goes later = later (made_one net uses cores core s made has goes)
      by true waits later =
          let stuck : run net core s fed (suc made) ≡ next = past_step net uses core s fed has.now made has.past in
          let still : net.output (run net core s fed (suc made)) ≡ net.output has.now.state =
          uses.still core (run net core s fed made) (ap net.waits stuck ∙ waits) ∙ sym (past_output net uses core s fed has.now made has.past) in
          prefix_chain _ _ _ (put_longer net uses core s input fed n begins)
          (prefix_chain _ _ _ (put_all net uses core s fed (suc made) n (ap net.waits stuck ∙ waits))
          (prefix_chain _ _ _ (prefix_same _ _ (still ∙ sym (output_at net cores core has.now has.there)))
          (interleaved_grows net uses cores (replicate (suc more) core) core)))
