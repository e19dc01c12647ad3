-- When a cycle is carried out, and when none will be.
use Rattle.std.proofs.Common.{◌≡◌, inl, inr, ℕ, zero, suc, ◌+◌, ◌<◌, ◌≤◌, ◌==◌, Bool, true, false, ◌&&◌, List, [], ◌∷◌, Option, None, length, refl, sym, ap, ◌∙◌, arith}
use Rattle.std.specs.Prelude.{if◌then◌else◌, slice_get, slice_index}
use Rattle.std.specs.List.{list_any}
use Rattle.std.proofs.lemmas.Bool.{cases_eq, cases_lt, ne_eqb, eqb-true}
use Rattle.tta_profile.specs.Cited.{Units, Machine, Code, Instruction, Move, State, Running, next, next_of, carry_out, slots_of}
use Rattle.tta_code.specs.Cycle.{Halted, Waiting, Fault}
use Rattle.tta_profile.specs.Counts.{is_made}
use Rattle.tta_profile.specs.declared.outside.Space.{Space}
use Rattle.tta_profile.specs.Outside.{is_outside, strays}
use Rattle.tta_profile.specs.Steps.{IsOver}

-- nothing stands past the end of a list
nothing_past : {A : Type 0} (xs : List A) (k : ℕ) → length xs ≤ k → slice_get xs k ≡ None
nothing_past [] k past = refl
nothing_past (x ∷ xs) zero past = absurd (omega (arith, past))
nothing_past (x ∷ xs) (suc k) past = nothing_past xs k (omega arith)

module _ (u : Units) (m : Machine) (code : Code) where
  abbrev step : State → State
  step = next u m code

  -- a state that is over stays
  halted_stays : (s : State) → s.outcome ≡ Halted → step s ≡ s
  unfolding next
  halted_stays s is = ap (next_of u m code s) is

  waiting_stays : (s : State) → s.outcome ≡ Waiting → step s ≡ s
  unfolding next
  waiting_stays s is = ap (next_of u m code s) is

  fault_stays : (s : State) (number at : ℕ) → s.outcome ≡ Fault number at → step s ≡ s
  unfolding next
  fault_stays s number at is = ap (next_of u m code s) is

  -- no cycle was made where none is counted
  unmade : (s : State) → (step s).cycle ≡ s.cycle → is_made step s ≡ false
  unmade s same = ne_eqb (step s).cycle (s.cycle + 1) (λ e. absurd (omega (arith, e, same)))

  pub over_halted : (s : State) → s.outcome ≡ Halted → IsOver step s
  over_halted s is =
      let same = halted_stays s is in record { made = unmade s (ap (λ (t : State). t.cycle) same); stays = ap step same }

  pub over_fault : (s : State) (number at : ℕ) → (step s).outcome ≡ Fault number at → (step s).cycle ≡ s.cycle → IsOver step s
  over_fault s number at is same = record { made = unmade s same; stays = fault_stays (step s) number at is }

  pub over_waiting : (s : State) → step s ≡ record s { outcome = Waiting } → IsOver step s
  over_waiting s is = record {
    made = unmade s (ap (λ (t : State). t.cycle) is);
    stays = waiting_stays (step s) (ap (λ (t : State). t.outcome) is);
  }

  -- where there is no instruction, a cycle faults
  past_faults : (s : State) → s.outcome ≡ Running → slice_get code.words s.pc ≡ None → step s ≡ record s { outcome = Fault 65 s.cycle }
  unfolding next
  past_faults s runs none = ap (next_of u m code s) runs ∙ ap (carry_out u m s) none

  -- so what was carried out has an instruction
  pub within : (s : State) → s.outcome ≡ Running → is_made step s ≡ true → s.pc < length code.words
  within s runs made = elim (cases_lt s.pc (length code.words)) [
    | inl below ↦ below
    | inr past ↦
        let faults = past_faults s runs (nothing_past code.words s.pc past) in
        let same : (step s).cycle ≡ s.cycle = ap (λ (t : State). t.cycle) faults in
        let more : (step s).cycle ≡ s.cycle + 1 = eqb-true (step s).cycle (s.cycle + 1) made in
        absurd (omega (arith, same, more))
  ]

-- what holds at the address of the instruction holds at an address that is the same
pub at_address : (a pc : ℕ) (has : Bool) (f : ℕ → Bool) → has ≡ f pc → (a == pc && has) ≡ (a == pc && f a)
at_address a pc has f is = elim (cases_eq a pc) [
  | inl same ↦ ap (λ (b : Bool). a == pc && b) (is ∙ ap f (sym same))
  | inr other ↦ rw (ne_eqb a pc other) refl
]

-- What the moves of the instruction did that was carried out is counted at its address, and nothing at others.
pub strays_more : (step : State → State) (m : Machine) (words : List Instruction) (space : Space) (s : State) (address a : ℕ) (slots : List (Option Move))
    → address ≡ s.pc → is_made step s ≡ true → slots ≡ slots_of (slice_get words s.pc) → (old mid new : List ℕ) → mid ≡ old
    → slice_index new a ≡ slice_index mid a + (if a == address && list_any (is_outside m space (step s).written s) slots then 1 else 0)
    → slice_index new a ≡ slice_index old a + (if strays step m words space a s then 1 else 0)
strays_more step m words space s address a slots here made are old mid new same is =
    is ∙ ap (λ (l : List ℕ). slice_index l a + (if a == address && did slots then 1 else 0)) same
    ∙ ap (λ (b : Bool). slice_index old a + (if b then 1 else 0))
    (ap (λ (n : ℕ). a == n && did slots) here ∙ at_address a s.pc (did slots) (λ n. did (slots_of (slice_get words n))) (ap did are)
    ∙ sym (ap (λ (b : Bool). b && (a == s.pc && did (slots_of (slice_get words a)))) made)) where
      did : List (Option Move) → Bool
      did = list_any (is_outside m space (step s).written s)
