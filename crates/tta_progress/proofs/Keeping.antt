-- No core keeps an input.
use Rattle.std.proofs.Common.{◌≡◌, ⊎_elim, ℕ, ◌+◌, ◌-◌, Bool, true, false, List, [], ◌∷◌, length, drop, Option, Some, None, refl, sym, ap, ◌∙◌}
use Rattle.std.specs.Prelude.{if◌then◌else◌, slice_get}
use Rattle.tta_list.proofs.Lists.{slice_get-changed}
use Rattle.tta_kahn.specs.Network.{Network, NetworkCore, fed_to, after_step, stepped, turn, interleaved}
use Rattle.tta_kahn.specs.Queues.{UsesQueues}
use Rattle.tta_kahn.proofs.Clusters.{next_core, turn_none, turn_some}

module _ {S : Type 0} (net : Network S) (uses : UsesQueues net) where
  abbrev pub KeepNone : List (NetworkCore S) → Type 0
  KeepNone cores = (core : ℕ) (c : NetworkCore S) → slice_get cores core ≡ Some c → net.rest c.state ≡ []

  stepped_keeps : (core : ℕ) (input : List ℕ) (c : NetworkCore S) → net.rest c.state ≡ [] → net.rest (stepped net core input c).state ≡ []
  stepped_keeps core input c none = by (net.waits after) where
    after : S
    after = after_step net core input c

    by : (b : Bool)
        → net.rest (if b then c else record {
          state = net.with_rest after [];
          taken = c.taken + (length input - length (net.rest after));
        }).state ≡ []
    by true = none
    by false = uses.rest_is after []

  turn_keeps : (cores : List (NetworkCore S)) (core : ℕ) → KeepNone cores → KeepNone (turn net cores core)
  turn_keeps cores core keep n c at = by (slice_get cores core) refl where
    by : (o : Option (NetworkCore S)) → slice_get cores core ≡ o → net.rest c.state ≡ []
    by None none = keep n c (ap (λ cs. slice_get cs n) (sym (turn_none net cores core none)) ∙ at)
    by (Some b) there =
        ⊎_elim (λ same. keep n c same)
        (λ new. ap (λ (x : NetworkCore S). net.rest x.state) (sym new.1)
        ∙ stepped_keeps core (drop b.taken (fed_to net cores core)) b (keep core b there))
        (slice_get-changed cores core (next_core net cores core b) n c
        (ap (λ cs. slice_get cs n) (sym (turn_some net cores core b there)) ∙ at))

  -- so it stays in any order of steps
  pub all_keep : (cores : List (NetworkCore S)) (steps : List ℕ) → KeepNone cores → KeepNone (interleaved net cores steps)
  all_keep cores [] keep = keep
  all_keep cores (core ∷ steps) keep = all_keep (turn net cores core) steps (turn_keeps cores core keep)
