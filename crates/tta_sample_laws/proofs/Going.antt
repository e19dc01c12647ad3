-- A program of a sample's shape halts: it goes forward within a round, and a round counts down.
use Rattle.std.proofs.Common.{◌≡◌, ℕ, zero, suc, ◌+◌, ◌-◌, ◌*◌, ◌<◌, ◌≤◌, ◌==◌, ◌⊎◌, inl, inr, Bool, true, false, List, [], ◌∷◌, ◌++◌, length, get_or, set, refl, sym, ap, ◌∙◌, subst, arith}
use Rattle.std.specs.Prelude.{Some, not, ◌&&◌, if◌then◌else◌, is_none, slice_get}
use Rattle.std.specs.Option.{option_map_or}
use Rattle.std.proofs.lemmas.Bool.{cases_lt}
use Rattle.std.proofs.lemmas.Bool.Decides.{nat_tests}
use Rattle.std.proofs.lemmas.List.{get_or-set_same, get_or-set_other, length-set}
use Rattle.tta_sample_laws.specs.Cited.{iterate, OpId, Units, Src, Var, Word, Ne, Step, Copy, Apply, Load, Store, Put, Take, If, Goto, When, Invoke, Return, Halt, End, DataLine, Program, State, Frame, Running, Halted, Waiting, next, goes_through, carry_out, takes, operand, holds, step_at, seq, start}
use Rattle.tta_list.proofs.Lists.{slice_get-back, slice_get-longer}
use Rattle.tta_list.proofs.Iterated.{iterate-more, iterate-later}
use Rattle.tta_sample_laws.proofs.Shape.{before, counting, shaped, IsMild, AreMild, mild_at}
use Rattle.tta_program.proofs.Halted.{halted_stays}

-- so a run that has halted has halted later too
pub halts_later : (u : Units) (p : Program) (k m : ℕ) (s : State) → k ≤ m → (iterate k (next u p) s).outcome ≡ Halted → (iterate m (next u p) s).outcome ≡ Halted
halts_later u p k m s le is =
    ap (λ (x : State). x.outcome) (iterate-later (next u p) k m s le (halted_stays u p (iterate k (next u p) s) is)) ∙ is

-- a state that runs: the step that comes next, the variables, and the rest
abbrev pub going : (at : ℕ) (vars memory rest output : List ℕ) (steps : ℕ) → State
going at vars memory rest output steps = record {
  stack = record { proc = 0; at = at; vars = vars } ∷ [];
  memory = memory;
  rest = rest;
  output = output;
  steps = steps;
  outcome = Running;
}

-- where a step of a round leads: to a later place of the round, with the counter as it was
record GoesForward (at end n : ℕ) (s : State) : Type 0 where
  to : ℕ
  vars : List ℕ
  memory : List ℕ
  rest : List ℕ
  output : List ℕ
  steps : ℕ
  is : s ≡ going to vars memory rest output steps
  forward : at < to
  within : to ≤ end
  long : length vars ≡ 9
  count : get_or vars 8 0 ≡ n

module _ (u : Units) (sub : OpId) (body : List Step) (lines : List ℕ) (init : List DataLine) where
  abbrev p : Program
  p = shaped sub body lines init

  -- a step that takes no word is carried out
  carried : (at : ℕ) (vars memory rest output : List ℕ) (steps : ℕ) (step : Step) → step_at p 0 at ≡ Some step → takes step ≡ false
      → next u p (going at vars memory rest output steps)
      ≡ carry_out u p (going at vars memory rest output (steps + 1)) (record { proc = 0; at = at; vars = vars }) [] step
  unfolding next
  carried at vars memory rest output steps step there free =
      let s : State = going at vars memory rest output steps in
      ap (λ o. option_map_or (goes_through u p s (record { proc = 0; at = at; vars = vars }) []) o s) there
      ∙ ap (λ b. if b && is_none (slice_get rest 0) then record s { outcome = Waiting } else carry_out u p (going at vars memory rest output (steps + 1)) (record { proc = 0; at = at; vars = vars }) [] step) free

  module _ (at end n : ℕ) (vars memory rest output : List ℕ) (steps : ℕ) (below : at < end) (long : length vars ≡ 9) (count : get_or vars 8 0 ≡ n) where
    abbrev f : Frame
    f = record { proc = 0; at = at; vars = vars }

    abbrev on : State
    on = going at vars memory rest output (steps + 1)

    -- after an assignment to a variable that is not the counter, and after a step without one
    assigned : (d v : ℕ) → d < 8 → GoesForward at end n (going (at + 1) (set vars d v) memory rest output (steps + 1))
    assigned d v small = record {
      to = at + 1;
      vars = set vars d v;
      memory = memory;
      rest = rest;
      output = output;
      steps = steps + 1;
      is = refl;
      forward = omega arith;
      within = omega arith;
      long = length-set vars d v ∙ long;
      count = get_or-set_other vars d 8 v 0 (λ e. omega arith) ∙ count;
    }

    passed : (to : ℕ) (memory output : List ℕ) → at < to → to ≤ end → GoesForward at end n (going to vars memory rest output (steps + 1))
    passed to memory output forward within = record {
      to = to;
      vars = vars;
      memory = memory;
      rest = rest;
      output = output;
      steps = steps + 1;
      is = refl;
      forward = forward;
      within = within;
      long = long;
      count = count;
    }

    jumped : (to : ℕ) (b : Bool) → at < to → to ≤ end → GoesForward at end n (going (if b then to else at + 1) vars memory rest output (steps + 1))
    jumped to true forward within = passed to memory output forward within
    jumped to false forward within = passed (at + 1) memory output (omega arith) (omega arith)

    copied : (d v : ℕ) (b : Bool) → d < 8
        → GoesForward at end n (if b then going (at + 1) (set vars d v) memory rest output (steps + 1) else going (at + 1) vars memory rest output (steps + 1))
    copied d v true small = assigned d v small
    copied d v false small = passed (at + 1) memory output (omega arith) (omega arith)

    -- what a mild step does
    mild_goes : (step : Step) → IsMild at end step → (takes step ≡ false) × GoesForward at end n (carry_out u p on f [] step)
    mild_goes (Copy d s) mild = (refl, assigned d (operand vars s) mild)
    mild_goes (Apply d op a b) mild = (refl, assigned d (u.value op.0 (operand vars a) (operand vars b)) mild)
    mild_goes (Load d a) mild = (refl, assigned d (get_or memory (operand vars a) 0) mild)
    mild_goes (Store a v) mild = (refl, passed (at + 1) (set memory (operand vars a) (operand vars v)) output (omega arith) (omega arith))
    mild_goes (Put v) mild = (refl, passed (at + 1) memory (output ++ operand vars v ∷ []) (omega arith) (omega arith))
    mild_goes (Take d) mild = absurd mild
    mild_goes (If rel a b to) mild = (refl, jumped to (holds u rel (operand vars a) (operand vars b)) mild.0 mild.1)
    mild_goes (Goto to) mild = absurd mild
    mild_goes (When rel a b d s) mild = (refl, copied d (operand vars s) (holds u rel (operand vars a) (operand vars b)) mild)
    mild_goes (Invoke d callee args) mild = absurd mild
    mild_goes (Return s) mild = absurd mild
    mild_goes Halt mild = absurd mild
    mild_goes End mild = absurd mild

    mild_next : (step : Step) → step_at p 0 at ≡ Some step → IsMild at end step → GoesForward at end n (next u p (going at vars memory rest output steps))
    mild_next step there mild =
        let goes = mild_goes step mild in
        subst (GoesForward at end n) (sym (carried at vars memory rest output steps step there goes.0)) goes.1

  -- ---- from a place

  -- a run from a place halts within so many steps, where the counter has this value
  abbrev HaltsFrom : (at n k : ℕ) → Type 0
  HaltsFrom at n k =
      (vars memory rest output : List ℕ) (steps : ℕ) → length vars ≡ 9 → get_or vars 8 0 ≡ n
      → (iterate k (next u p) (going at vars memory rest output steps)).outcome ≡ Halted

  -- one step, and then the others
  stepped : (k : ℕ) (s t : State) → next u p s ≡ t → (iterate k (next u p) t).outcome ≡ Halted → (iterate (suc k) (next u p) s).outcome ≡ Halted
  stepped k s t is halts =
      ap (λ (x : State). x.outcome) (ap (λ m. iterate m (next u p) s) (let e : suc k ≡ k + 1 = omega arith in e) ∙ iterate-more k 1 (next u p) s ∙ ap (iterate k (next u p)) is)
      ∙ halts

  end : ℕ
  end = 9 + length body

  -- the steps behind the first nine
  later_step : (i : ℕ) (step : Step) → slice_get (body ++ counting sub) i ≡ Some step → step_at p 0 (9 + i) ≡ Some step
  later_step i step there = slice_get-back before (body ++ counting sub) i ∙ there

  -- a round goes on to its end
  pub round_goes : (mild : AreMild 9 (9 + length body) body) (fuel at n k : ℕ) → 9 ≤ at → at ≤ 9 + length body → 9 + length body ≤ at + fuel
      → HaltsFrom (9 + length body) n k → HaltsFrom at n (fuel + k)
  round_goes mild zero at n k low high enough ends vars memory rest output steps long count =
      subst (λ a. (iterate (zero + k) (next u p) (going a vars memory rest output steps)).outcome ≡ Halted) (let e : 9 + length body ≡ at = omega arith in e)
      (halts_later u p k (zero + k) (going (9 + length body) vars memory rest output steps) (omega arith) (ends vars memory rest output steps long count))
  round_goes mild (suc fuel) at n k low high enough ends vars memory rest output steps long count =
      by (cases_lt at (9 + length body)) (λ to low inside more. round_goes mild fuel to n k low inside more ends)
    where
      by : (at < 9 + length body) ⊎ (9 + length body ≤ at) → ((to : ℕ) → 9 ≤ to → to ≤ 9 + length body → 9 + length body ≤ to + fuel → HaltsFrom to n (fuel + k))
          → (iterate (suc fuel + k) (next u p) (going at vars memory rest output steps)).outcome ≡ Halted
      by (inl less) again =
          let i : ℕ = at - 9 in
          let here : 9 + i ≡ at = omega arith in
          let m = mild_at 9 (9 + length body) i body mild (omega arith) in
          let there : step_at p 0 at ≡ Some m.step = ap (step_at p 0) (sym here) ∙ later_step i m.step (slice_get-longer body (counting sub) i m.step m.there) in
          let f = mild_next at (9 + length body) n vars memory rest output steps less long count m.step there (subst (λ a. IsMild a (9 + length body) m.step) here m.mild) in
          let forward = f.forward in
          let inside = f.within in
          let rest_halts = again f.to (omega arith) (omega arith) (omega arith) f.vars f.memory f.rest f.output f.steps f.long f.count in
          ap (λ j. (iterate j (next u p) (going at vars memory rest output steps)).outcome) (let e : suc fuel + k ≡ suc (fuel + k) = omega arith in e)
          ∙ stepped (fuel + k) (going at vars memory rest output steps) (going f.to f.vars f.memory f.rest f.output f.steps) f.is rest_halts
      by (inr past) again =
          subst (λ a. (iterate (suc fuel + k) (next u p) (going a vars memory rest output steps)).outcome ≡ Halted) (let e : 9 + length body ≡ at = omega arith in e)
          (halts_later u p k (suc fuel + k) (going (9 + length body) vars memory rest output steps) (omega arith) (ends vars memory rest output steps long count))

  -- ---- after the rounds

  -- a run from a place of the end halts within so many steps, whatever the variables are
  abbrev Ends : (i k : ℕ) → Type 0
  Ends i k =
      (vars memory rest output : List ℕ) (steps : ℕ)
      → (iterate k (next u p) (going (9 + (length body + i)) vars memory rest output steps)).outcome ≡ Halted

  last_step : (i : ℕ) (step : Step) → slice_get (counting sub) i ≡ Some step → step_at p 0 (9 + (length body + i)) ≡ Some step
  last_step i step there = later_step (length body + i) step (slice_get-back body (counting sub) i ∙ there)

  puts : (i k : ℕ) (v : Src) → slice_get (counting sub) i ≡ Some (Put v) → Ends (i + 1) k → Ends i (suc k)
  puts i k v there ends vars memory rest output steps =
      stepped k (going (9 + (length body + i)) vars memory rest output steps) (going (9 + (length body + (i + 1))) vars memory rest (output ++ operand vars v ∷ []) (steps + 1))
      (carried (9 + (length body + i)) vars memory rest output steps (Put v) (last_step i (Put v) there) refl
      ∙ ap (λ a. going a vars memory rest (output ++ operand vars v ∷ []) (steps + 1)) (let e : 9 + (length body + i) + 1 ≡ 9 + (length body + (i + 1)) = omega arith in e))
      (ends vars memory rest (output ++ operand vars v ∷ []) (steps + 1))

  halts : Ends 10 1
  halts vars memory rest output steps =
      ap (λ (x : State). x.outcome) (carried (9 + (length body + 10)) vars memory rest output steps Halt (last_step 10 Halt refl) refl)

  all_ends : Ends 2 9
  all_ends =
      puts 2 8 (Var 0) refl (puts 3 7 (Var 1) refl (puts 4 6 (Var 2) refl (puts 5 5 (Var 3) refl (puts 6 4 (Var 4) refl (puts 7 3 (Var 5) refl (puts 8 2 (Var 6) refl (puts 9 1 (Var 7) refl halts)))))))

  -- ---- the rounds

  -- the words that count: one less, and whether a word is 0
  module _ (less : (n : ℕ) → n < 16 → u.value sub.0 (n + 1) 1 ≡ n) (more : (n : ℕ) → n < 16 → holds u Ne n 0 ≡ not (n == 0)) (mild : AreMild 9 (9 + length body) body) where
    -- the steps that are left at the end of a round, where so many rounds come after it
    abbrev pub left : (rounds : ℕ) → ℕ
    left zero = 2 + 9
    left (suc n) = 2 + (length body + left n)

    -- the count at the end of a round
    counted : (n k : ℕ) → n < 16
        → ((vars memory rest output : List ℕ) (steps : ℕ) → length vars ≡ 9 → get_or vars 8 0 ≡ n
        → (iterate k (next u p) (going (if not (n == 0) then 9 else 9 + (length body + 2)) vars memory rest output steps)).outcome ≡ Halted)
        → HaltsFrom (9 + length body) (n + 1) (2 + k)
    counted n k small goes vars memory rest output steps long count =
        let v : ℕ = u.value sub.0 (get_or vars 8 0) 1 in
        let is : v ≡ n = ap (λ c. u.value sub.0 c 1) count ∙ less n small in
        let vars_ : List ℕ = set vars 8 v in
        let now : get_or vars_ 8 0 ≡ n = get_or-set_same vars 8 v 0 (omega (arith, long)) ∙ is in
        let e : 9 + (length body + 0) ≡ 9 + length body = omega arith in
        let f : (9 + length body) + 1 ≡ 9 + (length body + 1) = omega arith in
        let g : (9 + (length body + 1)) + 1 ≡ 9 + (length body + 2) = omega arith in
        let first_at : step_at p 0 (9 + length body) ≡ Some (Apply 8 sub (Var 8) (Word 1)) = ap (step_at p 0) (sym e) ∙ last_step 0 (Apply 8 sub (Var 8) (Word 1)) refl in
        let first : next u p (going (9 + length body) vars memory rest output steps) ≡ going (9 + (length body + 1)) vars_ memory rest output (steps + 1)
        = carried (9 + length body) vars memory rest output steps (Apply 8 sub (Var 8) (Word 1)) first_at refl
        ∙ ap (λ a. going a vars_ memory rest output (steps + 1)) f in
        let second : next u p (going (9 + (length body + 1)) vars_ memory rest output (steps + 1))
        ≡ going (if not (n == 0) then 9 else 9 + (length body + 2)) vars_ memory rest output ((steps + 1) + 1)
        = carried (9 + (length body + 1)) vars_ memory rest output (steps + 1) (If Ne (Var 8) (Word 0) 9) (last_step 1 (If Ne (Var 8) (Word 0) 9) refl) refl
        ∙ ap (λ (b : Bool). going (if b then 9 else (9 + (length body + 1)) + 1) vars_ memory rest output ((steps + 1) + 1)) (ap (λ c. holds u Ne c 0) now ∙ more n small)
        ∙ ap (λ a. going (if not (n == 0) then 9 else a) vars_ memory rest output ((steps + 1) + 1)) g in
        let two : 2 + k ≡ suc (suc k) = omega arith in
        ap (λ j. (iterate j (next u p) (going (9 + length body) vars memory rest output steps)).outcome) two
        ∙ stepped (suc k) (going (9 + length body) vars memory rest output steps) (going (9 + (length body + 1)) vars_ memory rest output (steps + 1)) first
        (stepped k (going (9 + (length body + 1)) vars_ memory rest output (steps + 1)) (going (if not (n == 0) then 9 else 9 + (length body + 2)) vars_ memory rest output ((steps + 1) + 1)) second
        (goes vars_ memory rest output ((steps + 1) + 1) (length-set vars 8 v ∙ long) now))

    -- from the end of a round, with so many rounds after it
    rounds_halt : (n : ℕ) → n < 16 → HaltsFrom (9 + length body) (n + 1) (left n)
    rounds_halt zero small = counted zero 9 small (λ vars memory rest output steps long count. all_ends vars memory rest output steps)
    rounds_halt (suc n) small =
        let again = rounds_halt n (omega arith) in
        let one : n + 1 ≡ suc n = omega arith in
        let other : (suc n == 0) ≡ false = grind (arith, nat_tests) in
        counted (suc n) (length body + left n) small
        (λ vars memory rest output steps long count.
        subst (λ b. (iterate (length body + left n) (next u p) (going (if not b then 9 else 9 + (length body + 2)) vars memory rest output steps)).outcome ≡ Halted) (sym other)
        (round_goes mild (length body) 9 (n + 1) (left n) (omega arith) (omega arith) (omega arith) again vars memory rest output steps long (count ∙ sym one)))

    -- the first nine steps
    first_nine : (memory input : List ℕ) → seq u p memory input 9 ≡ going 9 (1 ∷ 2 ∷ 3 ∷ 4 ∷ 5 ∷ 6 ∷ 7 ∷ 8 ∷ 16 ∷ []) memory input [] 9
    unfolding next
    first_nine memory input = refl

    -- a program of this shape halts
    pub shaped_halts : (memory input : List ℕ) (bound : ℕ) → 50 + 16 * length body ≤ bound → (seq u p memory input bound).outcome ≡ Halted
    shaped_halts memory input bound enough =
        let k : ℕ = length body + left 15 in
        let rounds = round_goes mild (length body) 9 16 (left 15) (omega arith) (omega arith) (omega arith) (rounds_halt 15 (omega arith)) in
        let here = rounds (1 ∷ 2 ∷ 3 ∷ 4 ∷ 5 ∷ 6 ∷ 7 ∷ 8 ∷ 16 ∷ []) memory input [] 9 refl refl in
        let whole : (iterate (k + 9) (next u p) (start p memory input)).outcome ≡ Halted
        = ap (λ (x : State). x.outcome) (iterate-more k 9 (next u p) (start p memory input) ∙ ap (iterate k (next u p)) (first_nine memory input)) ∙ here in
        halts_later u p (k + 9) bound (start p memory input) (omega arith) whole
