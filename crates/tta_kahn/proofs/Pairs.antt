-- Cores and the programs that they agree with.
use Rattle.std.proofs.Common.{◌≡◌, ◌≢◌, ℕ, zero, suc, ◌+◌, ◌*◌, List, [], ◌∷◌, ◌++◌, drop, length, map, Option, Some, None, refl, sym, ap, subst, ◌∙◌}
use Rattle.std.specs.Prelude.{slice_get, zip}
use Rattle.std.specs.Option.{option_map_or}
use Rattle.std.specs.List.{AllByRecursion}
use Rattle.std.proofs.lemmas.Option.{same_Some}
use Rattle.tta_list.proofs.Prefixes.{prefix_same, prefix_chain}
use Rattle.tta_kahn.specs.Cited.{iterate, Units, Program, IsProgram, AreWords, IsGiven, Fault, code_at, program_at}
use Rattle.tta_list.proofs.Lists.{all_one}
use Rattle.tta_program.specs.Sequential as program
use Rattle.tta_code.specs.Cycle.{State, next, start}
use Rattle.tta_kahn.specs.declared.cores.Core.{Core}
use Rattle.tta_kahn.specs.Network.{Network, NetworkCore, output_of, feeder_of, fed_to, interleaved, joined}
use Rattle.tta_kahn.specs.Cluster.{cycles_given, cycle_of, first_states}
use Rattle.tta_kahn.specs.Programs as programs
use Rattle.tta_kahn.specs.Laws.{IsCore, Pair, IsPair, core_in, core_memory, program_memory, CoresAgree, PairsNeverFault}
use Rattle.tta_kahn.proofs.OneCore.{run, put_by}
use Rattle.tta_kahn.proofs.Clusters.{HavePast}
use Rattle.tta_kahn.proofs.Reaching.{past_of}
use Rattle.tta_kahn.proofs.Meeting.{Does, reaches}
use Rattle.tta_kahn.proofs.CoreQueues.{cores_use}
use Rattle.tta_kahn.proofs.ProgramQueues.{programs_use}
use Rattle.tta_kahn.proofs.ProgramWords.{KeepsWords, over_words, start_words, prefix_words}
use Rattle.tta_kahn.proofs.GroupWords.{AllKeep, all_words}
use Rattle.tta_kahn.proofs.Orders.{both_compare, cores_fresh, programs_fresh}

-- ---- lists

-- an element of a list that was made of another
pub made_at : {A B : Type 0} (f : A → B) (xs : List A) (k : ℕ) (x : A) → slice_get xs k ≡ Some x → slice_get (map f xs) k ≡ Some (f x)
made_at f [] k x at = absurd cc
made_at f (y ∷ xs) zero x at = let same : y ≡ x = cc in ap (λ z. Some (f z)) same
made_at f (y ∷ xs) (suc k) x at = made_at f xs k x at

pub made_from : {A B : Type 0} (f : A → B) (xs : List A) (k : ℕ) (y : B) → slice_get (map f xs) k ≡ Some y → (x : A) × (slice_get xs k ≡ Some x) × (f x ≡ y)
made_from f [] k y at = absurd cc
made_from f (x ∷ xs) zero y at = (x, refl, cc)
made_from f (x ∷ xs) (suc k) y at = made_from f xs k y at

map_zip : {A B C D : Type 0} (h : B × C → D) (f : A → B) (g : A → C) (xs : List A) → map h (zip (map f xs) (map g xs)) ≡ map (λ x. h (f x, g x)) xs
map_zip h f g [] = refl
map_zip h f g (x ∷ xs) = ap (λ ys. h (f x, g x) ∷ ys) (map_zip h f g xs)

all_made : {A B : Type 0} (P : A → Type 0) (Q : B → Type 0) (f : A → B) → ((x : A) → P x → Q (f x)) → (xs : List A) → AllByRecursion P xs → AllByRecursion Q (map f xs)
all_made P Q f tells [] all = tt
all_made P Q f tells (x ∷ xs) all = (tells x all.0, all_made P Q f tells xs all.1)

module _ (u : Units) (pairs : List Pair) (feeds : List (Option ℕ)) (given : ℕ → List ℕ) (all : AllByRecursion (IsPair u) pairs)
    (given_words : (core : ℕ) → AreWords (given core)) where
  abbrev cores : List Core
  cores = map core_in pairs

  abbrev ps : List Program
  ps = map (λ p. p.program) pairs

  abbrev net : Network State
  net = cycles_given u cores feeds given

  abbrev other : Network program.State
  other = programs.steps_of u ps feeds given

  abbrev begin_core : Pair → State
  begin_core p = start p.machine (core_memory p) []

  abbrev begin_program : Pair → program.State
  begin_program p = program.start p.program (program_memory p) []

  abbrev starts : List State
  starts = first_states cores (map core_memory pairs)

  abbrev others : List program.State
  others = programs.first_states ps (map program_memory pairs)

  starts_are : starts ≡ map begin_core pairs
  starts_are = map_zip (λ c. start c.0.machine c.1 []) core_in core_memory pairs

  others_are : others ≡ map begin_program pairs
  others_are = map_zip (λ p. program.start p.0 p.1 []) (λ p. p.program) program_memory pairs

  -- ---- runs

  core_run : (core : ℕ) (p : Pair) → slice_get pairs core ≡ Some p → (input : List ℕ) (n : ℕ) → run net core (begin_core p) input n ≡ code_at u p.machine p.whole p.memory input n
  core_run core p at input n = ap (λ (step : State → State). iterate n step (start p.machine (core_memory p) input)) same where
    same : cycle_of u cores core ≡ next u p.machine p.whole.code
    same = ap (λ (o : Option Core). λ (s : State). option_map_or (λ c. next u c.machine c.code s) o s) (made_at core_in pairs core p at)

  program_run : (core : ℕ) (p : Pair) → slice_get pairs core ≡ Some p → (input : List ℕ) (n : ℕ) → run other core (begin_program p) input n ≡ program_at u p.program p.memory input n
  program_run core p at input n = ap (λ (step : program.State → program.State). iterate n step (program.start p.program (program_memory p) input)) same where
    same : programs.step_of u ps core ≡ program.next u p.program
    same = ap (λ (o : Option Program). λ (s : program.State). option_map_or (λ q. program.next u q s) o s) (made_at (λ p. p.program) pairs core p at)

  of_core : (core : ℕ) (s : State) → slice_get starts core ≡ Some s → (p : Pair) × (slice_get pairs core ≡ Some p) × (begin_core p ≡ s)
  of_core core s at = made_from begin_core pairs core s (ap (λ xs. slice_get xs core) (sym starts_are) ∙ at)

  of_program : (core : ℕ) (t : program.State) → slice_get others core ≡ Some t → (p : Pair) × (slice_get pairs core ≡ Some p) × (begin_program p ≡ t)
  of_program core t at = made_from begin_program pairs core t (ap (λ xs. slice_get xs core) (sym others_are) ∙ at)

  is_given : (core : ℕ) (p : Pair) → slice_get pairs core ≡ Some p → (input : List ℕ) → AreWords input → IsGiven p.machine p.memory input
  is_given core p at input words =
      let is = all_one (IsPair u) pairs core p all at in record { size = is.size; words = is.words; inputs = words }

  one_pair : (core : ℕ) (p q : Pair) → slice_get pairs core ≡ Some p → slice_get pairs core ≡ Some q → p ≡ q
  one_pair core p q at at' = let e : Some p ≡ Some q = sym at ∙ at' in cc

  -- ---- words

  programs_rules : AllByRecursion IsProgram ps
  programs_rules = all_made (IsPair u) IsProgram (λ p. p.program) (λ p is. is.program) pairs all

  keep_first : AllKeep u ps programs_rules feeds given given_words (joined others)
  keep_first core c at =
      let of = made_from (λ (s : program.State). record { state = s; taken = 0 }) others core c at in
      let pair = of_program core of.0 of.1 in
      let is = all_one (IsPair u) pairs core pair.0 all pair.1 in
      let words = start_words u pair.0.program is.program (program_memory pair.0) (over_words pair.0.program pair.0.memory is.program is.words) in
      subst (λ (x : NetworkCore program.State). KeepsWords x.state) of.2 (subst KeepsWords pair.2 words)

  output_words : (steps : List ℕ) (core : ℕ) → AreWords (output_of other (interleaved other (joined others) steps) core)
  output_words steps core = all_words u ps programs_rules feeds given given_words (joined others) steps keep_first core

  -- ---- what cores do, programs do

  does : Does net starts other others AreWords
  does = record {
    feeds = refl;
    given = λ core. prefix_same _ _ refl;
    there = λ core s at.
        let of = of_core core s at in
        (begin_program of.0, ap (λ xs. slice_get xs core) others_are ∙ made_at begin_program pairs core of.0 of.1);
    puts = λ core s t at at' input words n.
        let a = of_core core s at in
        let b = of_program core t at' in
        let same : b.0 ≡ a.0 = one_pair core b.0 a.0 b.1 a.1 in
        let is = all_one (IsPair u) pairs core a.0 all a.1 in
        let m = a.0.rate * (n + 1) in
        let t_is : begin_program a.0 ≡ t = ap begin_program (sym same) ∙ b.2 in (
          m,
          prefix_chain _ _ _ (prefix_same _ _ (sym (ap (λ x. put_by net core x input n) a.2) ∙ ap (λ x. x.output) (core_run core a.0 a.1 input n)))
              (prefix_chain _ _ _ (is.agrees.output_only a.0.memory input n (is_given core a.0 a.1 input words))
              (prefix_same _ _ (sym (ap (λ x. x.output) (program_run core a.0 a.1 input m)) ∙ ap (λ x. put_by other core x input m) t_is))),
        );
    inputs = fed;
  } where
    fed : (steps : List ℕ) (core : ℕ) → AreWords (fed_to other (interleaved other (joined others) steps) core)
    fed steps core = by (feeder_of other core) where
      by : (o : Option ℕ) → AreWords (option_map_or (output_of other (interleaved other (joined others) steps)) o (given core))
      by None = given_words core
      by (Some feeder) = output_words steps feeder

  cores_all : AllByRecursion IsCore cores
  cores_all = all_made (IsPair u) IsCore core_in (λ p is. record { machine = is.machine; legal = is.legal }) pairs all

  core_words : (steps : List ℕ) (core : ℕ) → AreWords (output_of net (interleaved net (joined starts) steps) core)
  core_words steps core =
      let reach = reaches net (cores_use u cores cores_all feeds given) starts (cores_fresh u cores feeds given (map core_memory pairs))
      other (programs_use u ps feeds given) others (programs_fresh u ps feeds given (map program_memory pairs)) AreWords does steps [] in
      let begins = reach.1 core in
      prefix_words _ begins.0 (subst AreWords begins.1 (output_words ([] ++ reach.0) core))

  does_too : Does other others net starts AreWords
  does_too = record {
    feeds = refl;
    given = λ core. prefix_same _ _ refl;
    there = λ core t at.
        let of = of_program core t at in
        (begin_core of.0, ap (λ xs. slice_get xs core) starts_are ∙ made_at begin_core pairs core of.0 of.1);
    puts = λ core t s at at' input words n.
        let b = of_program core t at in
        let a = of_core core s at' in
        let same : a.0 ≡ b.0 = one_pair core a.0 b.0 a.1 b.1 in
        let is = all_one (IsPair u) pairs core b.0 all b.1 in
        let m = length b.0.whole.code.words * (n + 1) in
        let s_is : begin_core b.0 ≡ s = ap begin_core (sym same) ∙ a.2 in (
          m,
          prefix_chain _ _ _ (prefix_same _ _ (sym (ap (λ x. put_by other core x input n) b.2) ∙ ap (λ x. x.output) (program_run core b.0 b.1 input n)))
              (prefix_chain _ _ _ (is.agrees.output b.0.memory input n (is_given core b.0 b.1 input words))
              (prefix_same _ _ (sym (ap (λ x. x.output) (core_run core b.0 b.1 input m)) ∙ ap (λ x. put_by net core x input m) s_is))),
        );
    inputs = fed;
  } where
    fed : (steps : List ℕ) (core : ℕ) → AreWords (fed_to net (interleaved net (joined starts) steps) core)
    fed steps core = by (feeder_of net core) where
      by : (o : Option ℕ) → AreWords (option_map_or (output_of net (interleaved net (joined starts) steps)) o (given core))
      by None = given_words core
      by (Some feeder) = core_words steps feeder

  -- ---- faults

  -- A core is in a state of its own run on what feeds it, which are words.
  no_fault : (steps : List ℕ) (core : ℕ) (j : NetworkCore State) → slice_get (interleaved net (joined starts) steps) core ≡ Some j
      → (number at : ℕ) → j.state.outcome ≢ Fault number at
  no_fault steps core j there number at is = by (slice_get starts core) refl where
    after : List (NetworkCore State)
    after = interleaved net (joined starts) steps

    past : HavePast net starts after
    past = past_of net (cores_use u cores cores_all feeds given) starts (cores_fresh u cores feeds given (map core_memory pairs)) steps

    by : (o : Option State) → slice_get starts core ≡ o → ⊥
    by None none = let e : None ≡ Some j = sym (past.none core none) ∙ there in cc
    by (Some s) begins =
        let has = past.each core s begins in
        let of = of_core core s begins in
        let fed = fed_to net after core in
        let same : has.1.now ≡ j = same_Some has.1.now j (sym has.1.there ∙ there) in
        let made : run net core (begin_core of.0) fed has.0 ≡ net.with_rest has.1.now.state (drop has.1.now.taken fed) =
        ap (λ x. run net core x fed has.0) of.2 ∙ has.1.past.is in
        let pair = all_one (IsPair u) pairs core of.0 all of.1 in
        pair.agrees.no_fault of.0.memory fed has.0 number at (is_given core of.0 of.1 fed (does_too.inputs steps core))
        (ap (λ x. x.outcome) (sym (core_run core of.0 of.1 fed has.0) ∙ made) ∙ ap (λ x. x.state.outcome) same ∙ is)

pub pairs_never_fault : PairsNeverFault
pairs_never_fault u pairs feeds given all words = no_fault u pairs feeds given all words

pub cores_agree : CoresAgree
cores_agree u pairs feeds given all words =
    let of = cores u pairs feeds given all words in
    let programs_of = ps u pairs feeds given all words in
    both_compare (net u pairs feeds given all words) (cores_use u of (cores_all u pairs feeds given all words) feeds given)
    (starts u pairs feeds given all words) (cores_fresh u of feeds given (map core_memory pairs))
    (other u pairs feeds given all words) (programs_use u programs_of feeds given) (others u pairs feeds given all words)
    (programs_fresh u programs_of feeds given (map program_memory pairs))
    AreWords (does u pairs feeds given all words) (does_too u pairs feeds given all words)
