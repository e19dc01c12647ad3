-- What steps do with their queues.
use Rattle.std.specs.Prelude.{◌≡◌, ℕ, true, false, List, ◌++◌}
use Rattle.tta_kahn.specs.Cited.{IsPrefixOf}
use Rattle.tta_kahn.specs.Network.{Network}

-- Steps use their queues as such: words are taken from the first of the input on, and put at the end of the output. Only
-- whether there is a word decides whether a step waits: with more input, a step that need not wait does the same.
pub record UsesQueues {S : Type 0} (net : Network S) : Type 0 where
  pub rest_is : (s : S) (words : List ℕ) → net.rest (net.with_rest s words) ≡ words
  pub again : (s : S) (words others : List ℕ) → net.with_rest (net.with_rest s words) others ≡ net.with_rest s others
  pub itself : (s : S) → net.with_rest s (net.rest s) ≡ s
  pub output_is : (s : S) (words : List ℕ) → net.output (net.with_rest s words) ≡ net.output s
  pub waits_is : (s : S) (words : List ℕ) → net.waits (net.with_rest s words) ≡ net.waits s
  pub grows : (core : ℕ) (s : S) → IsPrefixOf (net.output s) (net.output (net.step core s))
  pub takes : (core : ℕ) (s : S) → (taken : List ℕ) × (net.rest s ≡ taken ++ net.rest (net.step core s))
  pub more : (core : ℕ) (s : S) (words : List ℕ) → net.waits (net.step core s) ≡ false
      → net.step core (net.with_rest s (net.rest s ++ words)) ≡ net.with_rest (net.step core s) (net.rest (net.step core s) ++ words)
  pub stays : (core : ℕ) (s : S) → net.waits s ≡ true → net.step core s ≡ s
  pub still : (core : ℕ) (s : S) → net.waits (net.step core s) ≡ true → net.output (net.step core s) ≡ net.output s
