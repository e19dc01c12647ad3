-- Rounds that stop by themselves leave the cores at rest, where none is at a fault.
use Rattle.std.proofs.Common.{◌≡◌, inl, inr, ℕ, zero, suc, ◌+◌, ◌≤◌, ◌<◌, ◌==◌, ◌||◌, true, false, List, [], ◌∷◌, length, Option, Some, None, refl, sym, ap, ◌∙◌, arith}
use Rattle.std.specs.Prelude.{slice_get, zip}
use Rattle.std.specs.List.{list_any}
use Rattle.std.proofs.lemmas.Bool.{cases_lt, eq-eqb, or_right, or_left}
use Rattle.std.proofs.lemmas.List.Folds.{list_any-append}
use Rattle.std.proofs.lemmas.Option.{slice_get_past}
use Rattle.tta_net.specs.Cited.{Units, State, start, Core, Network, NetworkCore, joined, turn, interleaved, cycles, first_states}
use Rattle.tta_kahn.proofs.Clusters.{turn_none, turn_some, next_core}
use Rattle.tta_net.specs.Clusters.{fault_at}
use Rattle.tta_net.specs.Rounds.{numbers, steps_in, after_rounds}
use Rattle.tta_net.specs.Laws.{RoundsRest}
use Rattle.tta_net.proofs.Running.{round_more}
use Rattle.tta_net.proofs.Resting.{KeepNone, all_keep, rests}
use Rattle.tta_kahn.proofs.Pairs.{made_from as from_map}
use Rattle.tta_list.proofs.Sets.{set_count as length_set}
use Rattle.tta_list.proofs.Lists.{map_count as length_map}

-- the number of each core is among theirs
numbers_have : (n k : ℕ) → k < n → list_any (λ x. x == k) (numbers n) ≡ true
numbers_have zero k less = absurd (omega arith)
numbers_have (suc n) k less =
    list_any-append (λ x. x == k) (numbers n) (n ∷ [])
    ∙ elim (cases_lt k n) as (λ e. (list_any (λ x. x == k) (numbers n) || ((n == k) || false)) ≡ true) [
      | inl below ↦ or_left (list_any (λ x. x == k) (numbers n)) ((n == k) || false) (numbers_have n k below)
      | inr past ↦
          let same : n ≡ k = omega (arith, less, past) in
          or_right (list_any (λ x. x == k) (numbers n)) ((n == k) || false) (or_left (n == k) false (eq-eqb n k same))
    ]

zip_short : {A B : Type 0} (xs : List A) (ys : List B) → length (zip xs ys) ≤ length xs
zip_short [] ys = omega arith
zip_short (x ∷ xs) [] = omega arith
zip_short (x ∷ xs) (y ∷ ys) = omega (arith, zip_short xs ys)

module _ (u : Units) (cores : List Core) (feeds : List (Option ℕ)) (memories : List (List ℕ)) where
  abbrev net : Network State
  net = cycles u cores feeds

  abbrev begin : List (NetworkCore State)
  begin = joined (first_states cores memories)

  abbrev at : ℕ → List (NetworkCore State)
  at made = after_rounds net (length cores) begin made

  length_turn : (cs : List (NetworkCore State)) (k : ℕ) → length (turn net cs k) ≡ length cs
  length_turn cs k = by (slice_get cs k) refl where
    by : (o : Option (NetworkCore State)) → slice_get cs k ≡ o → length (turn net cs k) ≡ length cs
    by None none = ap length (turn_none net cs k none)
    by (Some c) there = ap length (turn_some net cs k c there) ∙ length_set cs k (next_core net cs k c)

  length_steps : (cs : List (NetworkCore State)) (steps : List ℕ) → length (interleaved net cs steps) ≡ length cs
  length_steps cs [] = refl
  length_steps cs (k ∷ steps) = length_steps (turn net cs k) steps ∙ length_turn cs k

  few : (made : ℕ) → length (at made) ≤ length cores
  few made =
      let many : length begin ≡ length (zip cores memories) = length_map _ (first_states cores memories) ∙ length_map _ (zip cores memories) in
      omega (arith, many, zip_short cores memories, length_steps begin (steps_in (length cores) made))

  keep_first : KeepNone u cores feeds begin
  keep_first k c is =
      let s = from_map (λ (t : State). record { state = t; taken = 0 }) (first_states cores memories) k c is in
      let z = from_map (λ (p : Core × List ℕ). start p.0.machine p.1 []) (zip cores memories) k s.0 s.1 in
      sym (ap (λ x. x.state.rest) s.2) ∙ sym (ap (λ (t : State). t.rest) z.2)

  keeps : (made : ℕ) → KeepNone u cores feeds (at made)
  keeps made = all_keep u cores feeds begin (steps_in (length cores) made) keep_first

  more : (made : ℕ) → at (suc made) ≡ interleaved net (at made) (numbers (length cores))
  more made = round_more net (length cores) begin made

pub rounds_rest : RoundsRest
rounds_rest u cores feeds memories most last h ended none k =
    let r = ended.resting refl in
    let number : r.0 + 1 ≡ suc r.0 = omega arith in
    let made : ended.made ≡ suc r.0 = r.1 ∙ number in
    let still = rests u cores feeds (at u cores feeds memories r.0) (numbers (length cores)) (keeps u cores feeds memories r.0) r.2
    (λ j. sym (ap (λ cs. fault_at cs j) (ap (at u cores feeds memories) made ∙ more u cores feeds memories r.0)) ∙ none j) in
    let same : at u cores feeds memories ended.made ≡ at u cores feeds memories r.0 = ap (at u cores feeds memories) made ∙ more u cores feeds memories r.0 ∙ still.0 in
    let here : turn (cycles u cores feeds) (at u cores feeds memories r.0) k ≡ at u cores feeds memories r.0 = elim (cases_lt k (length cores)) as (λ e. turn (cycles u cores feeds) (at u cores feeds memories r.0) k ≡ at u cores feeds memories r.0) [
      | inl less ↦ still.1 k (numbers_have (length cores) k less)
      | inr past ↦ turn_none (cycles u cores feeds) (at u cores feeds memories r.0) k (slice_get_past (at u cores feeds memories r.0) k (omega (arith, past, few u cores feeds memories r.0)))
    ] in
    ap (λ cs. turn (cycles u cores feeds) cs k) same ∙ here ∙ sym same
