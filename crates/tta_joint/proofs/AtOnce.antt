-- Cores that step at once come to what they come to one after another.
use Rattle.std.proofs.Common.{◌≡◌, ◌≢◌, ⊎_elim, ℕ, suc, ◌+◌, ◌-◌, ◌==◌, Bool, true, false, not, ◌||◌, List, [], ◌∷◌, ◌++◌, length, drop, Option, Some, None, refl, sym, ap, ◌∙◌, arith, length-append, append_assoc}
use Rattle.std.specs.Prelude.{slice_get, if◌then◌else◌}
use Rattle.std.proofs.lemmas.Bool.{and_parts, cases_eq, eq-eqb, ne_eqb, not-true, false≢true, or_right}
use Rattle.std.proofs.lemmas.List.{drop-append-le}
use Rattle.tta_list.specs.Prefix.{IsPrefixOf}
use Rattle.tta_kahn.specs.Network.{Network, NetworkCore, fed_to, after_step, stepped, turn, interleaved}
use Rattle.tta_kahn.specs.Queues.{UsesQueues}
use Rattle.tta_kahn.proofs.Clusters.{fed_grows, next_core, turn_none, turn_here, turn_other, turn_grows}
use Rattle.tta_joint.specs.Joint.{is_among, stand_once, StepAtOnce}
use Rattle.tta_joint.specs.Laws.{IsShown, ClocksInterleave}

-- lists with the same elements at all places
pub same_places : {A : Type 0} (xs ys : List A) → ((k : ℕ) → slice_get xs k ≡ slice_get ys k) → xs ≡ ys
same_places [] [] same = refl
same_places [] (y ∷ ys) same = absurd (let e = same 0 in cc)
same_places (x ∷ xs) [] same = absurd (let e = same 0 in cc)
same_places {A} (x ∷ xs) (y ∷ ys) same =
    let first : x ≡ y = (let e : Some x ≡ Some y = same 0 in cc) in
    ap (λ (z : A). z ∷ xs) first ∙ ap (λ zs. y ∷ zs) (same_places xs ys (λ k. same (suc k)))

module _ {S : Type 0} (net : Network S) (uses : UsesQueues net) where
  -- ---- with more words

  -- a step that need not wait does the same with more words
  pub step_more : (core : ℕ) (c : NetworkCore S) (input words : List ℕ) → net.waits (after_step net core input c) ≡ false
      → after_step net core (input ++ words) c ≡ net.with_rest (after_step net core input c)
      (net.rest (after_step net core input c) ++ words)
  step_more core c input words goes =
      ap (net.step core)
      (sym (ap (λ (r : List ℕ). net.with_rest (net.with_rest c.state input) (r ++ words)) (uses.rest_is c.state input)
      ∙ uses.again c.state input (input ++ words)))
      ∙ uses.more core (net.with_rest c.state input) words goes

  pub goes_more : (core : ℕ) (c : NetworkCore S) (input words : List ℕ) → net.waits (after_step net core input c) ≡ false
      → net.waits (after_step net core (input ++ words) c) ≡ false
  goes_more core c input words goes =
      let next = after_step net core input c in
      ap net.waits (step_more core c input words goes) ∙ uses.waits_is next (net.rest next ++ words) ∙ goes

  -- a core after a step that did not wait
  abbrev moved : (core : ℕ) (input : List ℕ) → NetworkCore S → NetworkCore S
  moved core input c = record {
    state = net.with_rest (after_step net core input c) [];
    taken = c.taken + (length input - length (net.rest (after_step net core input c)));
  }

  pub stepped_goes : (core : ℕ) (c : NetworkCore S) (input : List ℕ) → net.waits (after_step net core input c) ≡ false
      → stepped net core input c ≡ moved core input c
  stepped_goes core c input goes = ap (λ (b : Bool). if b then c else moved core input c) goes

  pub stepped_more : (core : ℕ) (c : NetworkCore S) (input words : List ℕ) → net.waits (after_step net core input c) ≡ false
      → stepped net core (input ++ words) c ≡ stepped net core input c
  stepped_more core c input words goes =
      let next = after_step net core input c in
      let it : after_step net core (input ++ words) c ≡ net.with_rest next (net.rest next ++ words) = step_more core c input words goes in
      let left : net.rest (after_step net core (input ++ words) c) ≡ net.rest next ++ words = ap net.rest it
      ∙ uses.rest_is next (net.rest next ++ words) in
      let all : length (input ++ words) ≡ length input + length words = length-append input words in
      let some : length (net.rest next ++ words) ≡ length (net.rest next) + length words = length-append (net.rest next) words in
      let gone : length (net.rest (after_step net core (input ++ words) c)) ≡ length (net.rest next) + length words = ap length left
      ∙ some in
      let count : length (input ++ words) - length (net.rest (after_step net core (input ++ words) c)) ≡ length input - length
      (net.rest next) = omega (arith, all, gone) in
      let state : net.with_rest (after_step net core (input ++ words) c) [] ≡ net.with_rest next [] = ap (λ s. net.with_rest s []) it
      ∙ uses.again next (net.rest next ++ words) [] in
      stepped_goes core c (input ++ words) (goes_more core c input words goes)
      ∙ ap (λ s. record {
        state = s;
        taken = c.taken +
            (length (input ++ words) - length (net.rest (after_step net core (input ++ words) c)));
      }) state
      ∙ ap (λ n. record { state = net.with_rest next []; taken = c.taken + n }) count
      ∙ sym (stepped_goes core c input goes)

  -- ---- what a core is shown

  -- the step on its whole queue is the step on what it is shown
  pub shown_step : (cores : List (NetworkCore S)) (core : ℕ) (shown : List ℕ) (c : NetworkCore S) → IsShown net cores core shown c
      → next_core net cores core c ≡ stepped net core shown c
  shown_step cores core shown c is = ap (λ ws. stepped net core ws c) is.begins ∙ stepped_more core c shown is.later is.goes

  -- and it is shown that where its feeder has output more
  shown_more : (cores later : List (NetworkCore S)) (core : ℕ) (shown : List ℕ) (c : NetworkCore S)
      → IsPrefixOf (fed_to net cores core) (fed_to net later core)
      → IsShown net cores core shown c → IsShown net later core shown c
  shown_more cores later core shown c begins is = record {
    within = let l : length (fed_to net later core) ≡ length (fed_to net cores core) + length begins.0 = ap length begins.1
        ∙ length-append (fed_to net cores core) begins.0 in
        omega (arith, l, is.within);
    later = is.later ++ begins.0;
    begins =
        ap (drop c.taken) begins.1 ∙ drop-append-le c.taken (fed_to net cores core) begins.0 is.within ∙ ap (λ ws. ws ++ begins.0) is.begins
        ∙ append_assoc shown is.later begins.0;
    goes = is.goes;
  }

  -- ---- one after another

  abbrev AreShown : (shown : ℕ → List ℕ) → (going : List ℕ) → List (NetworkCore S) → Type 0
  AreShown shown going cores = (core : ℕ) (c : NetworkCore S) → is_among core going ≡ true → slice_get cores core ≡ Some c
      → IsShown net cores core (shown core) c

  -- no core among others is one that is not
  differs : (core k : ℕ) (going : List ℕ) → not (is_among core going) ≡ true → is_among k going ≡ true → core ≢ k
  differs core k going absent among same =
      absurd (false≢true (sym (not-true (is_among core going) absent) ∙ ap (λ c. is_among c going) same ∙ among))

  -- after one core's step the others are shown the same
  rest_shown : (shown : ℕ → List ℕ) (core : ℕ) (going : List ℕ) (cores : List (NetworkCore S)) → not (is_among core going) ≡ true
      → AreShown shown (core ∷ going) cores
      → AreShown shown going (turn net cores core)
  rest_shown shown core going cores absent are k c among there =
      let apart : core ≢ k = differs core k going absent among in
      shown_more cores (turn net cores core) k (shown k) c (fed_grows net cores (turn net cores core) (turn_grows net uses cores core) k)
      (are k c (or_right (core == k) (is_among k going) among) (sym (turn_other net cores core k apart) ∙ there))

  -- where a core is after one turn and more, of which this is known
  one_turn : (shown : ℕ → List ℕ) (core : ℕ) (going : List ℕ) (cores : List (NetworkCore S)) → not (is_among core going) ≡ true
      → AreShown shown (core ∷ going) cores → (k : ℕ) (c : NetworkCore S)
      → slice_get cores k ≡ Some c
      → ((d : NetworkCore S) → slice_get (turn net cores core) k ≡ Some d
      → slice_get (interleaved net cores (core ∷ going)) k ≡ Some (if is_among k going then stepped net k (shown k) d else d))
      → slice_get (interleaved net cores (core ∷ going)) k ≡ Some (if is_among k (core ∷ going) then stepped net k (shown k) c else c)
  one_turn shown core going cores absent are k c there go_on = ⊎_elim here other (cases_eq core k) where
    here : core ≡ k
        → slice_get (interleaved net cores (core ∷ going)) k ≡ Some (if is_among k (core ∷ going) then stepped net k (shown k) c else c)
    here same =
        let first : (core == k) ≡ true = eq-eqb core k same in
        let none : is_among k going ≡ false = ap (λ n. is_among n going) (sym same) ∙ not-true (is_among core going) absent in
        let is : IsShown net cores k (shown k) c = are k c (ap (λ b. b || is_among k going) first) there in
        let at : slice_get (turn net cores core) k ≡ Some (next_core net cores k c) = ap (λ n. slice_get (turn net cores n) k) same
        ∙ turn_here net cores k c there in
        go_on (next_core net cores k c) at
        ∙ ap (λ b. Some (if b then stepped net k (shown k) (next_core net cores k c) else next_core net cores k c)) none
        ∙ ap (λ d. Some d) (shown_step cores k (shown k) c is)
        ∙ sym (ap (λ b. Some (if b || is_among k going then stepped net k (shown k) c else c)) first)

    other : core ≢ k
        → slice_get (interleaved net cores (core ∷ going)) k ≡ Some (if is_among k (core ∷ going) then stepped net k (shown k) c else c)
    other apart =
        go_on c (turn_other net cores core k apart ∙ there)
        ∙ sym (ap (λ b. Some (if b || is_among k going then stepped net k (shown k) c else c)) (ne_eqb core k apart))

  -- each core then is where its own step leads
  pub in_turn : (shown : ℕ → List ℕ) (going : List ℕ) (cores : List (NetworkCore S)) → stand_once going ≡ true → AreShown shown going cores
      → (k : ℕ) (c : NetworkCore S)
      → slice_get cores k ≡ Some c
      → slice_get (interleaved net cores going) k ≡ Some (if is_among k going then stepped net k (shown k) c else c)
  in_turn shown [] cores apart are k c there = there
  in_turn shown (core ∷ going) cores apart are k c there =
      let parts = and_parts (not (is_among core going)) (stand_once going) apart in
      one_turn shown core going cores parts.0 are k c there
      (λ d at. in_turn shown going (turn net cores core) parts.1 (rest_shown shown core going cores parts.0 are) k d at)

  -- and no core comes to be
  pub none_in_turn : (going : List ℕ) (cores : List (NetworkCore S)) (k : ℕ) → slice_get cores k ≡ None
      → slice_get (interleaved net cores going) k ≡ None
  none_in_turn [] cores k none = none
  none_in_turn (core ∷ going) cores k none = none_in_turn going (turn net cores core) k (⊎_elim here other (cases_eq core k)) where
    here : core ≡ k → slice_get (turn net cores core) k ≡ None
    here same = ap (λ cs. slice_get cs k) (turn_none net cores core (ap (slice_get cores) same ∙ none)) ∙ none

    other : core ≢ k → slice_get (turn net cores core) k ≡ None
    other apart = turn_other net cores core k apart ∙ none

  pub interleave : (shown : ℕ → List ℕ) (going : List ℕ) (before after : List (NetworkCore S)) → stand_once going ≡ true
      → AreShown shown going before
      → StepAtOnce net shown going before after → after ≡ interleaved net before going
  interleave shown going before after apart are step =
      same_places after (interleaved net before going) (λ k. by k (slice_get before k) refl) where
        by : (k : ℕ) (o : Option (NetworkCore S)) → slice_get before k ≡ o → slice_get after k ≡ slice_get (interleaved net before going) k
        by k None none = step.none k none ∙ sym (none_in_turn going before k none)
        by k (Some c) there = step.some k c there ∙ sym (in_turn shown going before apart are k c there)

pub clocks_interleave : (S : Type 0) → ClocksInterleave S
clocks_interleave S net uses shown going before after apart are step = interleave net uses shown going before after apart are step
