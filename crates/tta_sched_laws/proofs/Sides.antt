-- What a machine holds at the sides of a block.
use Rattle.std.proofs.Common.{◌≡◌, ◌⊎◌, inl, inr, ℕ, zero, suc, ◌<◌, ◌≤◌, Bool, true, false, List, [], ◌∷◌, Option, Some, None, refl, sym, ap, subst, ◌∙◌, arith, take}
use Rattle.std.specs.Prelude.{nat_le, ◌&&◌, ◌==◌}
use Rattle.std.specs.List.{list_all}
use Rattle.std.proofs.lemmas.Bool.{cases_lt}
use Rattle.std.proofs.lemmas.Bool.Decides.{nat_tests}
use Rattle.tta_sched_laws.specs.Cited.{Units, Machine, Jumps, Calls, Halts, Effect, Place, KeptReg, KeptImm, KeptOperand, KeptRa, KeptPort, kept, or_else, State, Result', Exit, Next, Leaves, is_waiting, Held}
use Rattle.tta_arch.specs.Effects.{first_some as pick}
use Rattle.tta_code.specs.Cycle.{Running}
use Rattle.tta_moves.specs.Meaning.{Waits as Stopped}
use Rattle.tta_sched_laws.proofs.Total.{do_move, wants, waits_at}
use Rattle.tta_sched_laws.specs.Overlap.{word_in, Covers, Holds, IsLeft}
use Rattle.tta_sched_laws.proofs.Ports.{due_then}
use Rattle.tta_sched_laws.proofs.Steps.{is_kept}
use Rattle.tta_sched_laws.proofs.Padded.{next_none, next_some}
use Rattle.tta_sched_laws.proofs.InBlock.{Matches}
use Rattle.tta_sched_laws.proofs.Block.{leaves}

-- ---- results to come

pub none_due : (unit d now : ℕ) (rs : List Result') → now < d → list_all (λ (r : Result'). nat_le r.due now) rs ≡ true → pick (due_then unit d) rs ≡ None
none_due unit d now [] lt e = refl
none_due unit d now (r ∷ rs) lt e = on (nat_le r.due now) refl e (none_due unit d now rs lt) where
  on : (b : Bool) → nat_le r.due now ≡ b → (b && list_all (λ (q : Result'). nat_le q.due now) rs) ≡ true → (list_all (λ (q : Result'). nat_le q.due now) rs ≡ true → pick (due_then unit d) rs ≡ None) → pick (due_then unit d) (r ∷ rs) ≡ None
  on true q e ih = let le : r.due ≤ now = grind (arith, nat_tests) in let not_now : (r.due == d) ≡ false = grind (arith, nat_tests) in rw (not_now, no_and (r.unit == unit)) (ih e) where
    no_and : (b : Bool) → (b && false) ≡ false
    no_and true = refl
    no_and false = refl
  on false q e ih = absurd cc

pub due_none_all : (now : ℕ) (rs : List Result') → ((unit d : ℕ) → now < d → pick (due_then unit d) rs ≡ None) → list_all (λ (r : Result'). nat_le r.due now) rs ≡ true
due_none_all now [] h = refl
due_none_all now (r ∷ rs) h = on (cases_lt now r.due) (due_none_all now rs) where
  rest : (unit d : ℕ) → now < d → pick (due_then unit d) rs ≡ None
  rest unit d lt = second (due_then unit d r) (pick (due_then unit d) rs) (h unit d lt) where
    second : (a b : Option Result') → or_else a b ≡ None → b ≡ None
    second None b e = e
    second (Some x) b e = absurd cc

  on : (now < r.due) ⊎ (r.due ≤ now) → (((unit d : ℕ) → now < d → pick (due_then unit d) rs ≡ None) → list_all (λ (q : Result'). nat_le q.due now) rs ≡ true) → list_all (λ (q : Result'). nat_le q.due now) (r ∷ rs) ≡ true
  on (inl lt) ih =
      let self : (r.unit == r.unit) ≡ true = grind (arith, nat_tests) in
      let self' : (r.due == r.due) ≡ true = grind (arith, nat_tests) in
      let z : Some r ≡ None = sym (rw (self, self') refl) ∙ h r.unit r.due lt in
      absurd cc
  on (inr le) ih = let g : nat_le r.due now ≡ true = grind (arith, nat_tests) in rw g (ih rest)

-- ---- what a machine holds

pub kept_word : (s : State) (x : Place) → is_kept x ≡ true → word_in s x ≡ kept s.written x
kept_word s (KeptReg f i) e = refl
kept_word s (KeptImm f i) e = refl
kept_word s (KeptOperand q) e = refl
kept_word s KeptRa e = refl
kept_word s (KeptPort q) e = absurd cc

pub matches_of : (s : State) (h : Held) → s.outcome ≡ Running → Holds s h → Matches s h
matches_of s h runs holds = record {
  outcome = runs;
  kept = λ x k. subst (λ o. Covers o (kept h.written x)) (kept_word s x k) (holds.places x);
  ports = λ unit. holds.places (KeptPort unit);
  memory = holds.memory;
  frame = holds.frame;
  rest = holds.rest;
  output = holds.output;
  settled = λ unit d lt. none_due unit d s.cycle s.started lt holds.settled;
}

pub places_of : (s : State) (h : Held) → Matches s h → (x : Place) → Covers (word_in s x) (kept h.written x)
places_of s h match (KeptReg f i) = match.kept (KeptReg f i) refl
places_of s h match (KeptImm f i) = match.kept (KeptImm f i) refl
places_of s h match (KeptOperand q) = match.kept (KeptOperand q) refl
places_of s h match KeptRa = match.kept KeptRa refl
places_of s h match (KeptPort q) = match.ports q

pub holds_left : (s : State) (h : Held) (exit : Exit) → Matches s h → Holds (leaves s exit) h
holds_left s h Next match = record { places = places_of s h match; memory = match.memory; frame = match.frame; rest = match.rest; output = match.output; pending = refl; settled = due_none_all s.cycle s.started match.settled }
holds_left s h (Leaves Jumps w) match = record { places = places_of s h match; memory = match.memory; frame = match.frame; rest = match.rest; output = match.output; pending = refl; settled = due_none_all s.cycle s.started match.settled }
holds_left s h (Leaves Calls w) match = record { places = places_of s h match; memory = match.memory; frame = match.frame; rest = match.rest; output = match.output; pending = refl; settled = due_none_all s.cycle s.started match.settled }
holds_left s h (Leaves Halts w) match = record { places = places_of s h match; memory = match.memory; frame = match.frame; rest = match.rest; output = match.output; pending = refl; settled = due_none_all s.cycle s.started match.settled }
holds_left s h Stopped match = record { places = places_of s h match; memory = match.memory; frame = match.frame; rest = match.rest; output = match.output; pending = refl; settled = due_none_all s.cycle s.started match.settled }

pub left_is : (s : State) (exit : Exit) (behind : ℕ) → s.outcome ≡ Running → s.pc ≡ behind → is_waiting exit ≡ false → IsLeft exit behind (leaves s exit)
left_is s Next behind runs pc w = (runs, pc)
left_is s (Leaves Jumps word) behind runs pc w = (runs, refl)
left_is s (Leaves Calls word) behind runs pc w = (runs, refl)
left_is s (Leaves Halts word) behind runs pc w = refl
left_is s Stopped behind runs pc w = absurd cc

pub count_left : (s : State) (exit : Exit) → (leaves s exit).cycle ≡ s.cycle
count_left s Next = refl
count_left s (Leaves Jumps w) = refl
count_left s (Leaves Calls w) = refl
count_left s (Leaves Halts w) = refl
count_left s Stopped = refl

pub waits_take : (u : Units) (m : Machine) (back : ℕ) (es : List Effect) (h : Held) (k : ℕ) → waits_at u m back h es ≡ None → waits_at u m back h (take k es) ≡ None
waits_take u m back es h zero w = refl
waits_take u m back [] h (suc k) w = refl
waits_take u m back (e ∷ es) h (suc k) w =
    let p = next_none (wants m h e) (waits_at u m back (do_move u m back h e) es) w in
    rw (p.0, waits_take u m back es (do_move u m back h e) k p.1) refl

pub waits_before : (u : Units) (m : Machine) (back : ℕ) (es : List Effect) (h : Held) (k : ℕ) → waits_at u m back h es ≡ Some k → waits_at u m back h (take k es) ≡ None
waits_before u m back [] h k w = absurd cc
waits_before u m back (e ∷ es) h zero w = refl
waits_before u m back (e ∷ es) h (suc k) w = elim (next_some (wants m h e) (waits_at u m back (do_move u m back h e) es) (suc k) w) [
  | inl q ↦ absurd (let z = q.1 in omega arith)
  | inr q ↦
      let g : waits_at u m back (do_move u m back h e) es ≡ Some k = q.1.1 ∙ ap Some (let z = q.1.2 in omega arith) in
      rw (q.0, waits_before u m back es (do_move u m back h e) k g) refl
]

pub waits_there : (u : Units) (m : Machine) (back : ℕ) (es : List Effect) (h : Held) (k : ℕ) → waits_at u m back h es ≡ Some k → waits_at u m back h (take (suc k) es) ≡ Some k
waits_there u m back [] h k w = absurd cc
waits_there u m back (e ∷ es) h zero w = elim (next_some (wants m h e) (waits_at u m back (do_move u m back h e) es) zero w) [
  | inl q ↦ rw q.0 refl
  | inr q ↦ absurd (let z = q.1.2 in omega arith)
]
waits_there u m back (e ∷ es) h (suc k) w = elim (next_some (wants m h e) (waits_at u m back (do_move u m back h e) es) (suc k) w) [
  | inl q ↦ absurd (let z = q.1 in omega arith)
  | inr q ↦
      let g : waits_at u m back (do_move u m back h e) es ≡ Some k = q.1.1 ∙ ap Some (let z = q.1.2 in omega arith) in
      rw (q.0, waits_there u m back es (do_move u m back h e) k g) refl
]
