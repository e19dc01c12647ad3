-- The run of one core on an input.
use Rattle.std.proofs.Common.{◌≡◌, inl, inr, ℕ, zero, suc, ◌≤◌, Bool, true, false, List, ◌++◌, refl, sym, ap, subst, ◌∙◌, arith}
use Rattle.std.proofs.lemmas.Bool.{cases_lt}
use Rattle.tta_list.proofs.Prefixes.{prefix_same, prefix_chain}
use Rattle.tta_kahn.specs.Cited.{IsPrefixOf, iterate}
use Rattle.tta_kahn.specs.Network.{Network}
use Rattle.tta_kahn.specs.Queues.{UsesQueues}

-- the state of a core after so many steps from a state, where this is its whole input
abbrev pub run : {S : Type 0} → Network S → (core : ℕ) → S → List ℕ → ℕ → S
run net core s input n = iterate n (net.step core) (net.with_rest s input)

-- what it has output then
abbrev pub put_by : {S : Type 0} → Network S → (core : ℕ) → S → List ℕ → ℕ → List ℕ
put_by net core s input n = net.output (run net core s input n)

module _ {S : Type 0} (net : Network S) (uses : UsesQueues net) (core : ℕ) where
  -- a step that does not wait begins at a state that does not
  pub goes_from : (s : S) → net.waits (net.step core s) ≡ false → net.waits s ≡ false
  goes_from s goes = by (net.waits s) refl where
    by : (b : Bool) → net.waits s ≡ b → b ≡ false
    by false e = refl
    by true e = absurd (let same = uses.stays core s e in let odd : true ≡ false = sym e ∙ sym (ap net.waits same) ∙ goes in cc)

  module _ (s : S) where
    -- a run that does not wait does the same where there is more input
    pub run_more : (input words : List ℕ) (n : ℕ) → net.waits (run net core s input n) ≡ false
        → run net core s (input ++ words) n ≡ net.with_rest (run net core s input n) (net.rest (run net core s input n) ++ words)
    run_more input words zero goes =
        sym (ap (λ (r : List ℕ). net.with_rest (net.with_rest s input) (r ++ words)) (uses.rest_is s input) ∙ uses.again s input (input ++ words))
    run_more input words (suc n) goes =
        let at = run net core s input n in
        ap (net.step core) (run_more input words n (goes_from at goes)) ∙ uses.more core at words goes

    -- with more input there is more output
    pub put_more : (input words : List ℕ) (n : ℕ) → IsPrefixOf (put_by net core s input n) (put_by net core s (input ++ words) n)
    put_more input words zero = prefix_same _ _ (uses.output_is s input ∙ sym (uses.output_is s (input ++ words)))
    put_more input words (suc n) = by (put_more input words n) (net.waits (run net core s input (suc n))) refl where
      by : IsPrefixOf (put_by net core s input n) (put_by net core s (input ++ words) n) → (b : Bool) → net.waits (run net core s input (suc n)) ≡ b
          → IsPrefixOf (put_by net core s input (suc n)) (put_by net core s (input ++ words) (suc n))
      by before false goes = prefix_same _ _ (sym (ap net.output (run_more input words (suc n) goes) ∙ uses.output_is _ _))
      by before true waits =
          prefix_chain _ _ _ (prefix_same _ _ (uses.still core (run net core s input n) waits))
          (prefix_chain _ _ _ before (uses.grows core (run net core s (input ++ words) n)))

    pub put_longer : (input longer : List ℕ) (n : ℕ) → IsPrefixOf input longer → IsPrefixOf (put_by net core s input n) (put_by net core s longer n)
    put_longer input longer n begins = subst (λ (l : List ℕ). IsPrefixOf (put_by net core s input n) (put_by net core s l n)) (sym begins.1) (put_more input begins.0 n)

    -- with more steps there is more output
    pub put_later : (input : List ℕ) (n m : ℕ) → n ≤ m → IsPrefixOf (put_by net core s input n) (put_by net core s input m)
    put_later input n zero le = let none : n ≡ zero = omega arith in prefix_same _ _ (ap (put_by net core s input) none)
    put_later input n (suc m) le = elim (cases_lt n (suc m)) as (λ c. IsPrefixOf (put_by net core s input n) (put_by net core s input (suc m))) [
      | inl less ↦ prefix_chain _ _ _ (put_later input n m (omega arith)) (uses.grows core (run net core s input m))
      | inr past ↦ let same : n ≡ suc m = omega arith in prefix_same _ _ (ap (put_by net core s input) same)
    ]

    -- a run that waits stays
    pub run_stays : (input : List ℕ) (n m : ℕ) → net.waits (run net core s input n) ≡ true → n ≤ m → run net core s input m ≡ run net core s input n
    run_stays input n zero waits le = let none : zero ≡ n = omega arith in ap (run net core s input) none
    run_stays input n (suc m) waits le = elim (cases_lt n (suc m)) as (λ c. run net core s input (suc m) ≡ run net core s input n) [
      | inl less ↦
          let same = run_stays input n m waits (omega arith) in
          ap (net.step core) same ∙ uses.stays core (run net core s input n) waits
      | inr past ↦ let same : suc m ≡ n = omega arith in ap (run net core s input) same
    ]

    -- and so its output is all that there will be
    pub put_all : (input : List ℕ) (n m : ℕ) → net.waits (run net core s input n) ≡ true → IsPrefixOf (put_by net core s input m) (put_by net core s input n)
    put_all input n m waits = elim (cases_lt m n) as (λ c. IsPrefixOf (put_by net core s input m) (put_by net core s input n)) [
      | inl less ↦ put_later input m n (omega arith)
      | inr past ↦ prefix_same _ _ (ap net.output (run_stays input n m waits past))
    ]
