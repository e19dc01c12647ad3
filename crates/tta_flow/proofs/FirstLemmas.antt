-- Steps with which blocks begin, by the step that makes them so.
use Rattle.std.proofs.Common.{◌≡◌, ℕ, ◌+◌, ◌/◌, ◌<◌, ◌≤◌, Bool, true, false, List, length, get_or, refl, sym, ◌∙◌, ap, subst, arith, ◌⊎◌, inl, inr}
use Rattle.std.specs.Prelude.{◌&&◌, ◌||◌, ◌==◌}
use Rattle.std.specs.Option.{option_map_or}
use Rattle.std.proofs.lemmas.Bool.{eqb-true, eq-eqb, or_cases}
use Rattle.std.proofs.Math.Bool.{or-true}
use Rattle.tta_list.proofs.Tests.{and_left, and_right}
use Rattle.tta_flow.specs.Cited.{Step}
use Rattle.tta_flow.specs.Steps.{cuts, cuts_at, target, branches}
use Rattle.tta_flow.specs.Paths.{Reached}
use Rattle.tta_flow.specs.Blocks.{IsFirst, AtBegin, Named, After}
use Rattle.tta_flow.specs.Runs.{begins_by}
use Rattle.tta_flow.proofs.Reaching.{test_within, test_there}

-- the firsts that the steps below a number make are set, and no others
pub record AreFirsts (steps : List Step) (reached first : ℕ → Bool) (at : ℕ) : Type 0 where
  pub sound : (k : ℕ) → k < length steps → first k ≡ true → IsFirst steps k
  pub begin : first 0 ≡ true
  pub whole : (i k : ℕ) → i < at → k < length steps → begins_by steps reached i k ≡ true → first k ≡ true

module _ (steps : List Step) (seen : ℕ → Bool) (sound : (k : ℕ) → seen k ≡ true → Reached steps k) where
  pub begins_first : (i k : ℕ) → begins_by steps seen i k ≡ true → IsFirst steps k
  begins_first i k e = elim (or_cases (cuts_at steps i && i + 1 == k) (seen i && branches steps i k) e) [
    | inl c ↦ subst (λ (n : ℕ). IsFirst steps n) (eqb-true (i + 1) k (and_right (cuts_at steps i) _ c)) (After i (and_left (cuts_at steps i) _ c))
    | inr b ↦ Named i k (sound i (and_left (seen i) _ b)) (and_right (seen i) _ b)
  ]

  pub firsts_start : (first : ℕ → Bool) → ((k : ℕ) → k < length steps → first k ≡ (false || 0 == k)) → first 0 ≡ true → AreFirsts steps seen first 0
  firsts_start first one begin = record {
    sound = λ k small e. subst (λ (n : ℕ). IsFirst steps n) (eqb-true 0 k (sym (one k small) ∙ e)) AtBegin;
    begin = begin;
    whole = λ i k less small e. absurd (omega arith);
  }

  pub firsts_more : (at : ℕ) (first new : ℕ → Bool) → AreFirsts steps seen first at
      → ((k : ℕ) → k < length steps → new k ≡ (first k || begins_by steps seen at k)) → new 0 ≡ (first 0 || begins_by steps seen at 0)
      → AreFirsts steps seen new (at + 1)
  firsts_more at first new h step zero = record {
    sound = λ k small e. elim (or_cases (first k) (begins_by steps seen at k) (sym (step k small) ∙ e)) [
      | inl o ↦ h.sound k small o
      | inr b ↦ begins_first at k b
    ];
    begin = zero ∙ ap (λ b. b || begins_by steps seen at 0) h.begin;
    whole = λ i k less small e. whole i k small e (last i less);
  } where
    last : (i : ℕ) → i < at + 1 → (i < at) ⊎ (i ≡ at)
    last i less = grind arith

    whole : (i k : ℕ) → k < length steps → begins_by steps seen i k ≡ true → (i < at) ⊎ (i ≡ at) → new k ≡ true
    whole i k small e (inl l) = step k small ∙ ap (λ b. b || begins_by steps seen at k) (h.whole i k l small e)
    whole i k small e (inr s) =
        step k small ∙ ap (λ b. first k || b) (ap (λ (n : ℕ). begins_by steps seen n k) (sym s) ∙ e) ∙ or-true (first k)

  pub firsts_whole : ((k : ℕ) → Reached steps k → seen k ≡ true) → (at : ℕ) (first : ℕ → Bool) → length steps ≤ at → AreFirsts steps seen first at
      → (k : ℕ) → k < length steps → IsFirst steps k → first k ≡ true
  firsts_whole all at first past h _ small AtBegin = h.begin
  firsts_whole all at first past h k small (Named i _ r e) =
      let w = test_within (λ s. option_map_or (λ t. t == k) (target s) false) steps i e in
      h.whole i k (omega arith) small (ap (λ b. (cuts_at steps i && i + 1 == k) || (b && branches steps i k)) (all i r)
      ∙ ap (λ b. (cuts_at steps i && i + 1 == k) || b) e ∙ or-true (cuts_at steps i && i + 1 == k))
  firsts_whole all at first past h _ small (After i e) =
      let w = test_within cuts steps i e in
      h.whole i (i + 1) (omega arith) small (ap (λ b. (b && i + 1 == i + 1) || (seen i && branches steps i (i + 1))) e
      ∙ ap (λ b. b || (seen i && branches steps i (i + 1))) (eq-eqb (i + 1) (i + 1) refl))

-- each of so many bits has a word
pub word_of : (bits words k : ℕ) → words ≡ bits / 64 + 1 → k < bits → k / 64 < words
word_of bits words k room small = omega arith

-- what one step makes, by its place
pub begins_here : (steps : List Step) (seen : ℕ → Bool) (at k : ℕ) (step : Step) (was was_seen : Bool) → at < length steps
    → step ≡ get_or steps at step → was_seen ≡ seen at
    → (was || ((cuts step && at + 1 == k) || (was_seen && option_map_or (λ to. to == k) (target step) false))) ≡ (was || begins_by steps seen at k)
begins_here steps seen at k step was was_seen below is same =
    ap (λ b. was || ((b && at + 1 == k) || (was_seen && option_map_or (λ to. to == k) (target step) false))) (sym (test_there cuts steps at step below is))
    ∙ ap (λ b. was || ((cuts_at steps at && at + 1 == k) || (was_seen && b))) (sym (test_there (λ s. option_map_or (λ to. to == k) (target s) false) steps at step below is))
    ∙ ap (λ b. was || ((cuts_at steps at && at + 1 == k) || (b && branches steps at k))) same
