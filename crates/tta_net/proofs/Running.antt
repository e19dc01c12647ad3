-- What is known between two rounds.
use Rattle.std.proofs.Common.{◌≡◌, inl, inr, ℕ, zero, suc, ◌+◌, ◌≤◌, ◌<◌, Bool, true, false, ◌||◌, List, [], ◌∷◌, length, map, replicate, Some, refl, sym, ap, subst, ◌∙◌, arith}
use Rattle.std.specs.Option.{option_map_or}
use Rattle.std.specs.List.{list_any}
use Rattle.std.proofs.lemmas.Bool.{cases_lt}
use Rattle.std.proofs.lemmas.List.{length-replicate}
use Rattle.std.proofs.lemmas.List.Sums.{fold-append}
use Rattle.tta_net.specs.Cited.{Units, State, Core, Network, NetworkCore, turn, cycles}
use Rattle.tta_net.specs.declared.step_result.StepResult.{StepResult}
use Rattle.tta_net.specs.declared.step_result.StepResult.TheVariants as turn_told
use Rattle.tta_net.specs.Clusters.{HeldCluster, IsClusterOf, StandsFor, feeds_of, made_by}
use Rattle.tta_net.specs.Rounds.{numbers, steps_in, answers, is_ran, round, after_rounds, answers_in, last_answers, went_in, HasEnded}

-- So many rounds are made, and in each some core ran.
pub record IsRunSoFar (u : Units) (cores : List Core) (old now : HeldCluster) (last : List StepResult) (made : ℕ) : Type 0 where
  pub within : made ≤ old.rounds
  pub loaded : IsClusterOf cores now
  pub feeds : feeds_of now ≡ feeds_of old
  pub rounds : now.rounds ≡ old.rounds
  pub turns : length last ≡ length cores
  pub counted : (k : ℕ) → made_by now k ≤ made
  pub next : (cs : List (NetworkCore State)) → StandsFor cores old cs → StandsFor cores now (after_rounds (cycles u cores (feeds_of old)) (length cores) cs made)
  pub went : (cs : List (NetworkCore State)) → StandsFor cores old cs → (i : ℕ) → i < made → went_in (cycles u cores (feeds_of old)) (length cores) cs i ≡ true
  pub told : (cs : List (NetworkCore State)) → StandsFor cores old cs → map (λ t. Some t) last ≡ last_answers (cycles u cores (feeds_of old)) (length cores) cs made

-- a round more is made from where the rounds before it led
pub round_more : (net : Network State) (count : ℕ) (cs : List (NetworkCore State)) (made : ℕ)
    → after_rounds net count cs (suc made) ≡ round net count (after_rounds net count cs made)
round_more net count cs made = fold-append (turn net) cs (steps_in count made) (numbers count)

any_some : (ts : List StepResult) → list_any (λ o. option_map_or is_ran o false) (map (λ t. Some t) ts) ≡ list_any is_ran ts
any_some [] = refl
any_some (t ∷ ts) = ap (λ b. is_ran t || b) (any_some ts)

-- as many of one
same_each : {A B : Type 0} (f : A → B) (n : ℕ) (x : A) → map f (replicate n x) ≡ replicate n (f x)
same_each f zero x = refl
same_each f (suc n) x = ap (λ xs. f x ∷ xs) (same_each f n x)

-- none is made
pub run_begins : (u : Units) (cores : List Core) (old : HeldCluster) (last : List StepResult) → IsClusterOf cores old → last ≡ replicate (length cores) turn_told.Ran
    → ((k : ℕ) → made_by old k ≡ 0) → IsRunSoFar u cores old old last 0
run_begins u cores old last loaded turns none = record {
  within = omega arith;
  loaded = loaded;
  feeds = refl;
  rounds = refl;
  turns = ap length turns ∙ length-replicate {A = StepResult} (length cores) turn_told.Ran;
  counted = λ k. omega (arith, none k);
  next = λ cs stands. stands;
  went = λ cs stands i less. absurd (omega (arith, less));
  told = λ cs stands. ap (map (λ t. Some t)) turns ∙ same_each (λ t. Some t) (length cores) turn_told.Ran;
}

-- What a round leaves.
pub record RoundSo (u : Units) (cores : List Core) (now new : HeldCluster) (turns : List StepResult) (ran : Bool) : Type 0 where
  pub loaded : IsClusterOf cores new
  pub feeds : feeds_of new ≡ feeds_of now
  pub rounds : new.rounds ≡ now.rounds
  pub counted : (k : ℕ) → made_by new k ≤ made_by now k + 1
  pub next : (cs : List (NetworkCore State)) → StandsFor cores now cs → StandsFor cores new (round (cycles u cores (feeds_of now)) (length cores) cs)
  pub told : (cs : List (NetworkCore State)) → StandsFor cores now cs → map (λ t. Some t) turns ≡ answers (cycles u cores (feeds_of now)) cs (numbers (length cores))
  pub ran_is : ran ≡ list_any is_ran turns

module _ (u : Units) (cores : List Core) (old now new : HeldCluster) (last turns : List StepResult) (ran : Bool) (made : ℕ) (was : IsRunSoFar u cores old now last made) (so : RoundSo u cores now new turns ran) where
  abbrev net : Network State
  net = cycles u cores (feeds_of old)

  answered : (cs : List (NetworkCore State)) → StandsFor cores old cs → map (λ t. Some t) turns ≡ answers_in net (length cores) cs made
  answered cs stands =
      so.told (after_rounds net (length cores) cs made) (was.next cs stands)
      ∙ ap (λ fs. answers (cycles u cores fs) (after_rounds net (length cores) cs made) (numbers (length cores))) was.feeds

  went_is : (cs : List (NetworkCore State)) → StandsFor cores old cs → went_in net (length cores) cs made ≡ ran
  went_is cs stands = sym (ap (list_any (λ o. option_map_or is_ran o false)) (answered cs stands)) ∙ any_some turns ∙ sym so.ran_is

  stood : (cs : List (NetworkCore State)) → StandsFor cores old cs → StandsFor cores new (after_rounds net (length cores) cs (suc made))
  stood cs stands =
      subst (StandsFor cores new) (sym (round_more net (length cores) cs made))
      (subst (λ fs. StandsFor cores new (round (cycles u cores fs) (length cores) (after_rounds net (length cores) cs made))) was.feeds
      (so.next (after_rounds net (length cores) cs made) (was.next cs stands)))

  number : suc made ≡ made + 1
  number = omega arith

  -- some core ran in one more
  pub run_goes : ran ≡ true → made < old.rounds → length turns ≡ length cores → IsRunSoFar u cores old new turns (made + 1)
  run_goes goes less many = record {
    within = omega (arith, less);
    loaded = so.loaded;
    feeds = so.feeds ∙ was.feeds;
    rounds = so.rounds ∙ was.rounds;
    turns = many;
    counted = λ k. omega (arith, so.counted k, was.counted k);
    next = λ cs stands. subst (λ (n : ℕ). StandsFor cores new (after_rounds net (length cores) cs n)) number (stood cs stands);
    went = λ cs stands i less'. elim (cases_lt i made) as (λ e. went_in net (length cores) cs i ≡ true) [
      | inl before ↦ was.went cs stands i before
      | inr past ↦ let same : i ≡ made = omega (arith, less', past) in ap (went_in net (length cores) cs) same ∙ went_is cs stands ∙ goes
    ];
    told = λ cs stands. answered cs stands ∙ ap (last_answers net (length cores) cs) number;
  }

  -- none did
  pub run_rests : ran ≡ false → made < old.rounds → (cs : List (NetworkCore State)) → StandsFor cores old cs → HasEnded net (length cores) cs old.rounds false turns (StandsFor cores new)
  run_rests rests less cs stands = record {
    made = made + 1;
    stops = record {
      within = omega (arith, less);
      before = λ i less'. was.went cs stands i (omega (arith, less'));
      over = λ less'. (made, refl, went_is cs stands ∙ rests);
    };
    running = λ is. absurd (let odd : false ≡ true = is in cc);
    resting = λ is. (made, refl, went_is cs stands ∙ rests);
    answers = answered cs stands ∙ ap (last_answers net (length cores) cs) number;
    stands = subst (λ (n : ℕ). StandsFor cores new (after_rounds net (length cores) cs n)) number (stood cs stands);
  }

-- all that may be made are made
pub run_over : (u : Units) (cores : List Core) (old now : HeldCluster) (last : List StepResult) (made : ℕ) → IsRunSoFar u cores old now last made → old.rounds ≤ made
    → (cs : List (NetworkCore State)) → StandsFor cores old cs → HasEnded (cycles u cores (feeds_of old)) (length cores) cs old.rounds true last (StandsFor cores now)
run_over u cores old now last made was past cs stands = record {
  made = made;
  stops = record {
    within = was.within;
    before = λ i less. was.went cs stands i (omega (arith, less));
    over = λ less. absurd (omega (arith, less, past));
  };
  running = λ is i less. was.went cs stands i (omega (arith, less, past));
  resting = λ is. absurd (let odd : true ≡ false = is in cc);
  answers = was.told cs stands;
  stands = was.next cs stands;
}
