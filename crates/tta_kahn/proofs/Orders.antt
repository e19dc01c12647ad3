-- Cores in two orders of their steps.
use Rattle.std.proofs.Common.{◌≡◌, ℕ, zero, suc, List, [], ◌∷◌, map, false, Option, Some, refl, sym, ap, subst, ◌∙◌}
use Rattle.std.specs.Prelude.{slice_get, zip}
use Rattle.tta_list.proofs.Prefixes.{prefix_same}
use Rattle.tta_kahn.specs.Cited.{Units, Program}
use Rattle.tta_program.specs.Sequential as program
use Rattle.tta_code.specs.Cycle.{start}
use Rattle.tta_kahn.specs.declared.cores.Core.{Core}
use Rattle.tta_kahn.specs.Network.{Network, output_of, interleaved, joined, AreAtRest}
use Rattle.tta_kahn.specs.Queues.{UsesQueues}
use Rattle.tta_kahn.specs.Cluster.{cycles_given, first_states}
use Rattle.tta_kahn.specs.Programs as programs
use Rattle.tta_kahn.specs.Laws.{Compare, CoresCompare, ProgramsCompare}
use Rattle.tta_kahn.proofs.Prefixes.{prefixes_same}
use Rattle.tta_kahn.proofs.OneCore.{put_by}
use Rattle.tta_kahn.proofs.Reaching.{AreFresh}
use Rattle.tta_kahn.proofs.Meeting.{Does, compares, bounds}
use Rattle.tta_kahn.proofs.CoreQueues.{cores_use}
use Rattle.tta_kahn.proofs.ProgramQueues.{programs_use}

-- a fact of each element that a list was made of
pub made_by : {A B : Type 0} (f : A → B) (P : B → Type 0) → ((x : A) → P (f x)) → (xs : List A) (k : ℕ) (y : B) → slice_get (map f xs) k ≡ Some y → P y
made_by f P all [] k y at = absurd cc
made_by f P all (x ∷ xs) zero y at = let same : f x ≡ y = cc in subst P same (all x)
made_by f P all (x ∷ xs) (suc k) y at = made_by f P all xs k y at

-- two networks of which each does what the other does
pub both_compare : {S T : Type 0} (net : Network S) → UsesQueues net → (starts : List S) → AreFresh net starts
    → (other : Network T) → UsesQueues other → (others : List T) → AreFresh other others
    → (IsInput : List ℕ → Type 0) → Does net starts other others IsInput → Does other others net starts IsInput
    → Compare (λ steps core. output_of net (interleaved net (joined starts) steps) core) (λ steps core. output_of other (interleaved other (joined others) steps) core)
    (λ steps. AreAtRest net (interleaved net (joined starts) steps)) (λ steps. AreAtRest other (interleaved other (joined others) steps))
both_compare net uses starts fresh other uses' others fresh' IsInput does does' = record {
  comparable = compares net uses starts fresh other uses' others fresh' IsInput does;
  within = bounds net uses starts fresh other uses' others fresh' IsInput does;
  beyond = λ steps others' core rest. bounds other uses' others fresh' net uses starts fresh IsInput does' others' steps core rest;
  equal = λ steps others' core rest rest'.
      prefixes_same _ _ (bounds net uses starts fresh other uses' others fresh' IsInput does steps others' core rest')
      (bounds other uses' others fresh' net uses starts fresh IsInput does' others' steps core rest);
}

-- a network does what it does
does_itself : {S : Type 0} (net : Network S) (starts : List S) → Does net starts net starts (λ input. Unit {0})
does_itself net starts = record {
  feeds = refl;
  given = λ core. prefix_same _ _ refl;
  there = λ core s at. (s, at);
  puts = λ core s t at at' input is n. (n, prefix_same _ _ (let same : s ≡ t = (let e : Some s ≡ Some t = sym at ∙ at' in cc) in ap (λ x. put_by net core x input n) same));
  inputs = λ steps core. tt;
}

pub cores_fresh : (u : Units) (cores : List Core) (feeds : List (Option ℕ)) (given : ℕ → List ℕ) (memories : List (List ℕ))
    → AreFresh (cycles_given u cores feeds given) (first_states cores memories)
cores_fresh u cores feeds given memories = record {
  goes = λ core s at.
      made_by (λ c. start c.0.machine c.1 []) (λ t. (cycles_given u cores feeds given).waits t ≡ false) (λ c. refl) (zip cores memories) core s at;
  silent = λ core s at. made_by (λ c. start c.0.machine c.1 []) (λ t. t.output ≡ []) (λ c. refl) (zip cores memories) core s at;
}

pub programs_fresh : (u : Units) (ps : List Program) (feeds : List (Option ℕ)) (given : ℕ → List ℕ) (memories : List (List ℕ))
    → AreFresh (programs.steps_of u ps feeds given) (programs.first_states ps memories)
programs_fresh u ps feeds given memories = record {
  goes = λ core s at.
      made_by (λ p. program.start p.0 p.1 []) (λ t. (programs.steps_of u ps feeds given).waits t ≡ false) (λ p. refl) (zip ps memories) core s at;
  silent = λ core s at. made_by (λ p. program.start p.0 p.1 []) (λ t. t.output ≡ []) (λ p. refl) (zip ps memories) core s at;
}

pub cores_compare : CoresCompare
cores_compare u cores feeds given memories all =
    let net = cycles_given u cores feeds given in
    let starts = first_states cores memories in
    let uses = cores_use u cores all feeds given in
    let fresh = cores_fresh u cores feeds given memories in
    both_compare net uses starts fresh net uses starts fresh (λ input. Unit {0}) (does_itself net starts) (does_itself net starts)

pub programs_compare : ProgramsCompare
programs_compare u ps feeds given memories =
    let net = programs.steps_of u ps feeds given in
    let starts = programs.first_states ps memories in
    let uses = programs_use u ps feeds given in
    let fresh = programs_fresh u ps feeds given memories in
    both_compare net uses starts fresh net uses starts fresh (λ input. Unit {0}) (does_itself net starts) (does_itself net starts)
