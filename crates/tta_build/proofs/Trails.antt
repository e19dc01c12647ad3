-- Trails lead to candidates of their blocks.
use Rattle.std.proofs.Common.{◌≡◌, ℕ, true, List, [], ◌∷◌, ◌++◌, Option, Some, None, refl, sym, subst, slice_get, length, ◌⊎◌, inl, inr}
use Rattle.std.specs.Prelude.{IfSome, unwrap_or, Result, Ok, OnOk}
use Rattle.std.specs.Option.{option_map_or}
use Rattle.tta_list.proofs.Lists.{slice_get-push, slice_get-longer}
use Rattle.tta_build.specs.Cited.{Machine, BlockList, is_list, IsEquivalent, optimised}
use Rattle.tta_optim.proofs.StandIns.{stands_itself, stand_in_next}
use Rattle.tta_optim.proofs.Passing.{passed_is}
use Rattle.tta_compiler_laws.proofs.Composed.{optimised_stand}
use Rattle.tta_build.specs.Candidates.{IsCandidate, AreCandidates}
use Rattle.tta_build.specs.declared.trail.Ordered.{Ordered}
use Rattle.tta_build.specs.declared.trail.Round.{Round}
use Rattle.tta_build.specs.declared.trail.Rounds.{Rounds}
use Rattle.tta_build.specs.declared.trail.Start.{Start}
use Rattle.tta_build.specs.declared.trail.Derivation.{Derivation}
use Rattle.tta_build.specs.Derivation.{IsStart, start_of, order_of, IsRound, AreRounds, rounds_last, IsTrail, AreTrailsOf, last_of}

-- ---- one round

-- what the passes make of a list that may be placed for the block's is a candidate
candidate : (m : Machine) (b other : BlockList) → IsEquivalent m b other → IsCandidate m b (optimised m other)
candidate m b other stands = let made = optimised_stand m b other stands in record { stands = made.0; forms = made.1 }

-- a candidate of a list that may be placed for the block's is a candidate of the block
candidate_next : (m : Machine) (b other r : BlockList) → IsEquivalent m b other → IsCandidate m other r → IsCandidate m b r
candidate_next m b other r stands is = record { stands = stand_in_next m b other r stands is.stands; forms = is.forms }

-- a list that takes another's place, or the other itself, may be placed for it
or_stands : (m : Machine) (b : BlockList) (o : Option BlockList) → IfSome o (λ l. IsEquivalent m b l) → IsEquivalent m b (unwrap_or o b)
or_stands m b None is = stands_itself m b
or_stands m b (Some l) is = is

order_stands : (m : Machine) (list : BlockList) (o : Option Ordered) → IfSome o (λ x. IsEquivalent m list x.list) → IsEquivalent m list (order_of list o)
order_stands m list None is = stands_itself m list
order_stands m list (Some o) is = is

-- what a round makes of a list is a candidate of it
pub round_candidate : (m : Machine) (list : BlockList) (r : Round) → IsRound m list r → IsCandidate m list r.passed.lively
round_candidate m list r is =
    let ordered = order_of list r.ordered in
    let before = unwrap_or r.bound ordered in
    subst (IsCandidate m list) (sym (passed_is m before r.passed is.passed))
    (candidate m list before
    (stand_in_next m list ordered before (order_stands m list r.ordered is.ordered) (or_stands m ordered r.bound is.bound)))

-- a list is one of the machine after a round, where it was one before
pub round_list : (m : Machine) (list : BlockList) (r : Round) → IsRound m list r → is_list m list.items ≡ true → is_list m r.passed.lively.items ≡ true
round_list m list r is there = (round_candidate m list r is).stands.spare.list there

-- ---- one trail

-- so is what rounds make of it
rounds_candidate : (m : Machine) (list : BlockList) (r : Rounds) → AreRounds m list r → IsCandidate m list (rounds_last r)
rounds_candidate m list r is = by r.second is.second where
  first : IsCandidate m list r.first.passed.lively
  first = round_candidate m list r.first is.first

  by : (o : Option Round) → IfSome o (λ n. IsRound m r.first.passed.lively n) → IsCandidate m list (option_map_or (λ n. n.passed.lively) o r.first.passed.lively)
  by None second = first
  by (Some n) second = candidate_next m list r.first.passed.lively n.passed.lively first.stands (round_candidate m r.first.passed.lively n second)

-- the list with which the first round begins may be placed for the selected one
start_stands : (m : Machine) (b : BlockList) (s : Start) → IsStart m b s → IsEquivalent m b (start_of b s)
start_stands m b s is =
    let served = unwrap_or s.served b in
    stand_in_next m b served (start_of b s) (or_stands m b s.served is.served) (or_stands m served s.bound is.bound)

-- the list to which a trail leads is a candidate of the block
pub trail_candidate : (m : Machine) (b : BlockList) (t : Derivation) → IsTrail m b t → IsCandidate m b (last_of t)
trail_candidate m b t is =
    candidate_next m b (start_of b t.start) (last_of t) (start_stands m b t.start is.start)
    (rounds_candidate m (start_of b t.start) t.rounds is.rounds)

-- it is a list of the machine, where the block's is one
pub trail_list : (m : Machine) (b : BlockList) (t : Derivation) → IsTrail m b t → is_list m b.items ≡ true → is_list m (last_of t).items ≡ true
trail_list m b t is there = (trail_candidate m b t is).stands.spare.list there

-- the list after its first round is one, too
pub first_list : (m : Machine) (b : BlockList) (t : Derivation) → IsTrail m b t → is_list m b.items ≡ true → is_list m t.rounds.first.passed.lively.items ≡ true
first_list m b t is there =
    round_list m (start_of b t.start) t.rounds.first is.rounds.first ((start_stands m b t.start is.start).spare.list there)

-- with another second round a trail is a trail of the block
pub trail_with : (m : Machine) (b : BlockList) (t : Derivation) (n : Round) → IsTrail m b t → IsRound m t.rounds.first.passed.lively n
    → IsTrail m b (record { start = t.start; rounds = record { first = t.rounds.first; second = Some n } })
trail_with m b t n is second = record { start = is.start; rounds = record { first = is.rounds.first; second = second } }

-- ---- some trails of a block

-- one trail more
pub trails_more : (m : Machine) (b : BlockList) (ts us : List Derivation) (t : Derivation) → us ≡ ts ++ t ∷ [] → IsTrail m b t → AreTrailsOf m b ts → AreTrailsOf m b us
trails_more m b ts us t same is are k x e = by (slice_get-push ts t k x (subst (λ (vs : List Derivation). slice_get vs k ≡ Some x) same e)) where
  by : (slice_get ts k ≡ Some x) ⊎ ((k ≡ length ts) × (t ≡ x)) → IsTrail m b x
  by (inl f) = are k x f
  by (inr f) = subst (IsTrail m b) f.1 is

-- one candidate more
pub candidates_more : (m : Machine) (b : BlockList) (lists : List BlockList) (l : BlockList) → IsCandidate m b l → AreCandidates m b lists
    → AreCandidates m b (lists ++ l ∷ [])
candidates_more m b lists l is are = record {
  first = slice_get-longer lists (l ∷ []) 0 (optimised m b) are.first;
  each = λ k x e. by k x (slice_get-push lists l k x e);
} where
  by : (k : ℕ) (x : BlockList) → (slice_get lists k ≡ Some x) ⊎ ((k ≡ length lists) × (l ≡ x)) → IsCandidate m b x
  by k x (inl f) = are.each k x f
  by k x (inr f) = subst (IsCandidate m b) f.1 is

-- of no trail there is one that is not the block's
pub no_trails : (m : Machine) (b : BlockList) (ts : List Derivation) → ts ≡ [] → AreTrailsOf m b ts
no_trails m b ts none k t e = let there = subst (λ (us : List Derivation). slice_get us k ≡ Some t) none e in absurd cc

-- what holds where a call goes well holds where it went well
pub on_ok : {T E : Type 0} {P : Type 0} {r : Result T E} {x : T} → r ≡ Ok x → OnOk r P → P
on_ok {P = P} e h = subst (λ s. OnOk s P) e h

-- the trail that stands behind some of those of a block is the block's
pub next_trail : (m : Machine) (b : BlockList) (all ts rest : List Derivation) (t : Derivation) → AreTrailsOf m b all → ts ++ t ∷ rest ≡ all → IsTrail m b t
next_trail m b all ts rest t are same = are (length ts) t (subst (λ (us : List Derivation). slice_get us (length ts) ≡ Some t) same (behind ts)) where
  behind : (us : List Derivation) → slice_get (us ++ t ∷ rest) (length us) ≡ Some t
  behind [] = refl
  behind (u ∷ us) = behind us
