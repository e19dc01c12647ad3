-- What one step of a cluster does to each core: a core is always in a state of its own run on what its feeder has output.
use Rattle.std.proofs.Common.{◌≡◌, ℕ, suc, ◌+◌, ◌-◌, ◌≤◌, Bool, false, List, [], ◌++◌, length, drop, refl, sym, ap, subst, ◌∙◌, arith}
use Rattle.std.specs.Prelude.{if◌then◌else◌}
use Rattle.std.proofs.lemmas.List.{drop-append-le, drop-drop, drop_at, length-drop, length-append}
use Rattle.tta_kahn.specs.Cited.{IsPrefixOf}
use Rattle.tta_kahn.specs.Network.{Network, NetworkCore, after_step, stepped}
use Rattle.tta_kahn.specs.Queues.{UsesQueues}
use Rattle.tta_kahn.proofs.OneCore.{run, put_by, run_more}

-- ---- one core

-- A core has made so many steps of its run on this input, and does not wait.
pub record IsPast {S : Type 0} (net : Network S) (core : ℕ) (s : S) (input : List ℕ) (c : NetworkCore S) (made : ℕ) : Type 0 where
  pub within : c.taken ≤ length input
  pub goes : net.waits c.state ≡ false
  pub is : run net core s input made ≡ net.with_rest c.state (drop c.taken input)

module _ {S : Type 0} (net : Network S) (uses : UsesQueues net) (core : ℕ) (s : S) where
  -- it has also made them on a longer input
  pub past_more : (input words : List ℕ) (c : NetworkCore S) (made : ℕ) → IsPast net core s input c made → IsPast net core s (input ++ words) c made
  past_more input words c made past =
      let at = run net core s input made in
      let goes : net.waits at ≡ false = ap net.waits past.is ∙ uses.waits_is c.state (drop c.taken input) ∙ past.goes in
      record {
        within = omega (arith, past.within, length-append input words);
        goes = past.goes;
        is =
            run_more net uses core s input words made goes
            ∙ ap (λ t. net.with_rest t (net.rest t ++ words)) past.is
            ∙ uses.again c.state (drop c.taken input) (net.rest (net.with_rest c.state (drop c.taken input)) ++ words)
            ∙ ap (λ (r : List ℕ). net.with_rest c.state (r ++ words)) (uses.rest_is c.state (drop c.taken input))
            ∙ ap (net.with_rest c.state) (sym (drop-append-le c.taken input words past.within));
      }

  pub past_longer : (input longer : List ℕ) (c : NetworkCore S) (made : ℕ) → IsPrefixOf input longer → IsPast net core s input c made → IsPast net core s longer c made
  past_longer input longer c made begins past = subst (λ (l : List ℕ). IsPast net core s l c made) (sym begins.1) (past_more input begins.0 c made past)

  -- its output is that of the run
  pub past_output : (input : List ℕ) (c : NetworkCore S) (made : ℕ) → IsPast net core s input c made → net.output c.state ≡ put_by net core s input made
  past_output input c made past = sym (uses.output_is c.state (drop c.taken input)) ∙ ap net.output (sym past.is)

  -- a step on the rest of the input is the next step of the run
  pub past_step : (input : List ℕ) (c : NetworkCore S) (made : ℕ) → IsPast net core s input c made → run net core s input (suc made) ≡ after_step net core (drop c.taken input) c
  past_step input c made past = ap (net.step core) past.is

  -- and where it does not wait, the core has made it
  pub past_next : (input : List ℕ) (c : NetworkCore S) (made : ℕ) → IsPast net core s input c made → net.waits (after_step net core (drop c.taken input) c) ≡ false
      → IsPast net core s input (stepped net core (drop c.taken input) c) (suc made)
  past_next input c made past goes =
      let rest = drop c.taken input in
      let before = net.with_rest c.state rest in
      let next = after_step net core rest c in
      let took = uses.takes core before in
      let split : rest ≡ took.0 ++ net.rest next = sym (uses.rest_is c.state rest) ∙ took.1 in
      let many : length rest ≡ length took.0 + length (net.rest next) = ap length split ∙ length-append took.0 (net.rest next) in
      let all : length rest ≡ length input - c.taken = length-drop c.taken input in
      let count : length rest - length (net.rest next) ≡ length took.0 = omega arith in
      let left : drop (c.taken + (length rest - length (net.rest next))) input ≡ net.rest next =
      ap (λ (n : ℕ). drop (c.taken + n) input) count ∙ sym (drop-drop (length took.0) c.taken input) ∙ ap (drop (length took.0)) split
      ∙ drop_at took.0 (net.rest next) (length took.0) refl in
      let new : NetworkCore S = record { state = net.with_rest next []; taken = c.taken + (length rest - length (net.rest next)) } in
      let done : IsPast net core s input new (suc made) = record {
        within = omega (arith, past.within);
        goes = uses.waits_is next [] ∙ goes;
        is =
            past_step input c made past ∙ sym (uses.itself next) ∙ ap (net.with_rest next) (sym left)
            ∙ sym (uses.again next [] (drop new.taken input));
      } in
      subst (λ (b : Bool). IsPast net core s input (if b then c else new) (suc made)) (sym goes) done
