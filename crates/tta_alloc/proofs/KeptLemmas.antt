-- Which variables are kept over calls, by the steps that were looked at.
use Rattle.std.proofs.Common.{◌≡◌, ℕ, ◌+◌, ◌<◌, ◌≤◌, ◌/◌, true, false, length, Option, Some, None, refl, sym, ◌∙◌, ap, subst, arith, ◌⊎◌, inl, inr}
use Rattle.std.specs.Prelude.{◌==◌, ◌||◌, slice_get}
use Rattle.std.specs.Option.{option_map_or}
use Rattle.std.proofs.lemmas.Bool.{eqb-true, eq-eqb, or_cases, and_from}
use Rattle.std.proofs.Math.Bool.{or-true, or-false}
use Rattle.tta_list.proofs.Tests.{and_left, and_right}
use Rattle.tta_alloc.specs.Cited.{Step, Copy, Apply, Load, Take, Store, Put, If, Goto, When, Invoke, Return, Halt, End, BitRow, has, Sets, live_before, LiveBefore, follows}
use Rattle.tta_alloc.specs.declared.body.Body.{Body}
use Rattle.tta_alloc.specs.Bodies.{IsKnown, is_held, is_held_over}
use Rattle.tta_alloc.specs.Intervals.{keeps, keeps_at, IsKept}
use Rattle.tta_alloc.specs.Together.{AreKept}
use Rattle.tta_alloc.proofs.WalkLemmas.{reached_small}

-- only the step in the next place follows a call
after_call : (o : Option Step) (at next x : ℕ) → option_map_or (λ s. keeps s x) o false ≡ true
    → option_map_or (λ s. follows s at next) o false ≡ (at + 1 == next)
after_call None at next x e = absurd cc
after_call (Some (Invoke d callee args)) at next x e = or-false (at + 1 == next)
after_call (Some (Copy d s)) at next x e = absurd cc
after_call (Some (Apply d op a b)) at next x e = absurd cc
after_call (Some (Load d a)) at next x e = absurd cc
after_call (Some (Take d)) at next x e = absurd cc
after_call (Some (Store a v)) at next x e = absurd cc
after_call (Some (Put v)) at next x e = absurd cc
after_call (Some (If rel a b to)) at next x e = absurd cc
after_call (Some (Goto to)) at next x e = absurd cc
after_call (Some (When rel a b d s)) at next x e = absurd cc
after_call (Some (Return s)) at next x e = absurd cc
after_call (Some Halt) at next x e = absurd cc
after_call (Some End) at next x e = absurd cc

module _ (b : Body) (h : IsKnown b) (x : ℕ) (small : x < b.q.now.vars) where
  held_kept : (at : ℕ) → at < length b.q.now.steps → is_held b at x ≡ true → IsKept b.q.now x
  held_kept at there e =
      let over = and_right (has b.reached.now at) (is_held_over b at x) e in
      let keeps = and_right (live_before b.live.now b.owner (at + 1) x) (keeps_at b.q.now.steps at x) over in
      record {
        at = at;
        reached = h.sound at there (and_left (has b.reached.now at) (is_held_over b at x) e);
        keeps = keeps;
        live = record {
          next = at + 1;
          leads = after_call (slice_get b.q.now.steps at) at (at + 1) x keeps ∙ eq-eqb (at + 1) (at + 1) refl;
          live = (h.before (at + 1) x small).0 (and_left (live_before b.live.now b.owner (at + 1) x) (keeps_at b.q.now.steps at x) over);
        };
      }

  kept_held : (k : IsKept b.q.now x) → is_held b k.at x ≡ true
  kept_held k =
      let next = eqb-true (k.at + 1) k.live.next (sym (after_call (slice_get b.q.now.steps k.at) k.at k.live.next x k.keeps) ∙ k.live.leads) in
      and_from _ _ (h.whole k.at k.reached) (and_from _ _ ((h.before (k.at + 1) x small).1 (subst (LiveBefore b.q.now.steps x) (sym next) k.live.live)) k.keeps)

-- the row has only variables that are kept, and all that steps below a number keep
pub record AreHeld (b : Body) (n : ℕ) (kept spare : BitRow) : Type 0 where
  pub wide : length kept.words.items ≡ b.q.now.vars / 64 + 1
  pub alike : length spare.words.items ≡ b.q.now.vars / 64 + 1
  pub sound : (x : ℕ) → x < b.q.now.vars → has kept x ≡ true → IsKept b.q.now x
  pub whole : (x i : ℕ) → x < b.q.now.vars → i < n → is_held b i x ≡ true → has kept x ≡ true

pub held_none : (b : Body) (kept room : BitRow) → length kept.words.items ≡ b.q.now.vars / 64 + 1 → length room.words.items ≡ b.q.now.vars / 64 + 1
    → ((k : ℕ) → has kept k ≡ false) → AreHeld b 0 kept room
held_none b kept room wide alike none = record {
  wide = wide;
  alike = alike;
  sound = λ x small e. let f = none x in absurd cc;
  whole = λ x i small low e. absurd (omega arith);
}

pub held_more : (b : Body) → IsKnown b → (at : ℕ) (kept room new spare : BitRow) → at < length b.q.now.steps → AreHeld b at kept room
    → Sets (is_held b at) kept new → length spare.words.items ≡ length room.words.items → AreHeld b (at + 1) new spare
held_more b known at kept room new spare there h sets alike = record {
  wide = sets.room ∙ h.wide;
  alike = alike ∙ h.alike;
  sound = λ x small e. elim (or_cases (has kept x) (is_held b at x) (sym (is x small) ∙ e)) [
    | inl f ↦ h.sound x small f
    | inr f ↦ held_kept b known x small at there f
  ];
  whole = λ x i small low e. whole x i small e (last i low);
} where
  is : (x : ℕ) → x < b.q.now.vars → has new x ≡ (has kept x || is_held b at x)
  is x small = sets.bits x (let w = h.wide in omega arith)

  last : (i : ℕ) → i < at + 1 → (i < at) ⊎ (i ≡ at)
  last i low = grind arith

  whole : (x i : ℕ) → x < b.q.now.vars → is_held b i x ≡ true → (i < at) ⊎ (i ≡ at) → has new x ≡ true
  whole x i small e (inl low) = is x small ∙ ap (λ r. r || is_held b at x) (h.whole x i small low e)
  whole x i small e (inr s) =
      is x small ∙ ap (λ r. has kept x || r) (ap (λ (n : ℕ). is_held b n x) (sym s) ∙ e) ∙ or-true (has kept x)

pub held_all : (b : Body) → IsKnown b → (at : ℕ) (kept room : BitRow) → length b.q.now.steps ≤ at → AreHeld b at kept room → AreKept b.q.now kept
held_all b known at kept room past h x small = (
  h.sound x small,
  λ k. h.whole x k.at small (let s = reached_small b known k.at k.reached in omega arith) (kept_held b known x small k),
)
