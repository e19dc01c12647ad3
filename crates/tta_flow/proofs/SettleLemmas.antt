-- Variables are carried backward, until each step has what it wants.
use Rattle.std.proofs.Common.{◌≡◌, ◌≢◌, ◌<◌, ◌≤◌, ◌/◌, ◌+◌, ℕ, Bool, true, false, List, [], length, Option, Some, None, refl, sym, ap, ◌∙◌, ◌⊎◌, inl, inr, arith, subst}
use Rattle.std.specs.Prelude.{◌==◌, ◌||◌, ◌&&◌, not, slice_get}
use Rattle.std.specs.Option.{option_map_or}
use Rattle.std.proofs.lemmas.Bool.{cases_eq, or_cases, eqb-true}
use Rattle.std.proofs.Math.Bool.{or-true}
use Rattle.tta_list.proofs.Tests.{and_left, and_right}
use Rattle.tta_flow.specs.Cited.{Step}
use Rattle.tta_flow.specs.declared.bits.BitRow.{BitRow}
use Rattle.tta_flow.specs.declared.rows.Work.{Work}
use Rattle.tta_flow.specs.declared.settle.Settling.{Settling}
use Rattle.tta_flow.specs.Bits.{has}
use Rattle.tta_flow.specs.Live.{AreRows}
use Rattle.tta_flow.specs.Paths.{LiveBefore}
use Rattle.tta_flow.specs.Rows.{has_at, leaves, wanted, AreWide, IsSettled, IsWork}
use Rattle.tta_flow.specs.Settle.{passes, IsCalm, Spreads}
use Rattle.tta_flow.specs.Steps.{leads, reads, assigns, assigns_at}
use Rattle.tta_flow.proofs.GrowthLemmas.{has_within}
use Rattle.tta_flow.proofs.PutLemmas.{alike_none, alike_then, alike_wide}
use Rattle.tta_flow.proofs.RowLemmas.{no, leaves_cases, leaves_by, wanted_from, wanted_live}
use Rattle.tta_flow.proofs.RoundLemmas.{settled_rows}

-- ---- several variables

pub spreads_none : (steps : List Step) (test : ℕ → Bool) (s : Settling) → IsCalm steps s → Spreads steps test s s
spreads_none steps test s calm = record {
  calm = calm;
  alike = alike_none s.rows.items;
  others = λ k x other. refl;
  kept = λ k x e. e;
  sound = λ k x e. inl e;
  onward = λ i k x free e p. no (sym e ∙ free);
}

-- the variable passes the test
pub spreads_one : (steps : List Step) (test : ℕ → Bool) (x : ℕ) (a b : Settling) → test x ≡ true → Spreads steps (λ y. x == y) a b → Spreads steps test a b
spreads_one steps test x a b passes h = record {
  calm = h.calm;
  alike = h.alike;
  others = λ k y fails. others k y fails (x == y) refl;
  kept = h.kept;
  sound = h.sound;
  onward = h.onward;
} where
  others : (k y : ℕ) → test y ≡ false → (e : Bool) → (x == y) ≡ e → has_at b.rows.items k y ≡ has_at a.rows.items k y
  others k y fails true e = no (sym passes ∙ ap test (eqb-true x y e) ∙ fails)
  others k y fails false e = h.others k y e

pub spreads_then : (steps : List Step) (test : ℕ → Bool) (a b c : Settling) → Spreads steps test a b → Spreads steps test b c → Spreads steps test a c
spreads_then steps test a b c one two = record {
  calm = two.calm;
  alike = alike_then a.rows.items b.rows.items c.rows.items one.alike two.alike;
  others = λ k x fails. two.others k x fails ∙ one.others k x fails;
  kept = λ k x e. two.kept k x (one.kept k x e);
  sound = λ k x e. elim (two.sound k x e) [
    | inl f ↦ one.sound k x f
    | inr l ↦ inr l
  ];
  onward = λ i k x free e p. onward i k x free e p (has_at b.rows.items k x) refl;
} where
  onward : (i k x : ℕ) → has_at a.rows.items k x ≡ false → has_at c.rows.items k x ≡ true → passes steps k x i ≡ true
      → (h : Bool) → has_at b.rows.items k x ≡ h → has_at c.rows.items i x ≡ true
  onward i k x free e p true f = two.kept i x (one.onward i k x free f p)
  onward i k x free e p false f = two.onward i k x f e p

-- what a room has is in the row of a step, as far as was looked
pub record Taken (steps : List Step) (at : ℕ) (room : BitRow) (looked : ℕ) (old new : Settling) : Type 0 where
  pub spreads : Spreads steps (has room) old new
  pub here : (x : ℕ) → x < looked → has room x ≡ true → has_at new.rows.items at x ≡ true

pub taken_none : (steps : List Step) (at : ℕ) (room : BitRow) (s : Settling) → IsCalm steps s → Taken steps at room 0 s s
taken_none steps at room s calm = record { spreads = spreads_none steps (has room) s calm; here = λ x small. absurd (omega arith) }

pub taken_more : (steps : List Step) (at : ℕ) (room : BitRow) (x next : ℕ) (old mid new : Settling) → Taken steps at room x old mid
    → Spreads steps (has room) mid new → (has room x ≡ true → has_at new.rows.items at x ≡ true)
    → ((k : ℕ) → x + 1 ≤ k → k < next → has room k ≡ true → has_at new.rows.items at k ≡ true) → Taken steps at room next old new
taken_more steps at room x next old mid new one two here covered = record {
  spreads = spreads_then steps (has room) old mid new one.spreads two;
  here = λ k small e. by k small e (order k);
} where
  order : (k : ℕ) → (k < x) ⊎ ((k ≡ x) ⊎ (x + 1 ≤ k))
  order k = grind arith

  by : (k : ℕ) → k < next → has room k ≡ true → (k < x) ⊎ ((k ≡ x) ⊎ (x + 1 ≤ k)) → has_at new.rows.items at k ≡ true
  by k small e (inl l) = two.kept at k (one.here k l e)
  by k small e (inr (inl s)) = ap (has_at new.rows.items at) s ∙ here (ap (has room) (sym s) ∙ e)
  by k small e (inr (inr l)) = covered k l small e

-- ---- step by step

-- a step that has what it wants still has it
spreads_settled : (steps : List Step) (vars : ℕ) (test : ℕ → Bool) (old new : Settling) (i : ℕ) → Spreads steps test old new
    → IsSettled steps vars old.rows.items i → IsSettled steps vars new.rows.items i
spreads_settled steps vars test old new i h settled x small e = by (slice_get steps i) refl e where
  by : (o : Option Step) → slice_get steps i ≡ o → option_map_or (λ s. wanted new.rows.items s i x) o false ≡ true → has_at new.rows.items i x ≡ true
  by None is e = absurd cc
  by (Some s) is e = elim (or_cases (leaves new.rows.items s i x && not (assigns s x)) (reads s x) e) [
    | inl f ↦
        let w = leaves_cases steps new.rows.items i x s is (and_left (leaves new.rows.items s i x) _ f) in
        led w.0 w.1.0 w.1.1 (and_right (leaves new.rows.items s i x) _ f) (has_at old.rows.items w.0 x) refl
    | inr r ↦
        had (ap (λ b. (leaves old.rows.items s i x && not (assigns s x)) || b) r ∙ or-true (leaves old.rows.items s i x && not (assigns s x)))
  ] where
    had : wanted old.rows.items s i x ≡ true → has_at new.rows.items i x ≡ true
    had w = h.kept i x (settled x small (ap (λ o. option_map_or (λ s. wanted old.rows.items s i x) o false) is ∙ w))

    led : (k : ℕ) → leads steps i k ≡ true → has_at new.rows.items k x ≡ true → not (assigns s x) ≡ true
        → (b : Bool) → has_at old.rows.items k x ≡ b → has_at new.rows.items i x ≡ true
    led k l n free true f = had (ap (λ b. b || reads s x) (ap (λ b. b && not (assigns s x)) (leaves_by steps old.rows.items i k x s is l f) ∙ free))
    led k l n free false f =
        h.onward i k x f n (ap (λ b. b && not (assigns_at steps i x)) l ∙ ap (λ o. not (option_map_or (λ (s : Step). assigns s x) o false)) is ∙ free)

-- the steps before a place have what they want, and so have those that have not to be looked at
pub record IsSettling (steps : List Step) (vars at : ℕ) (due room : BitRow) (s : Settling) : Type 0 where
  pub calm : IsCalm steps s
  pub wide : AreWide s.rows.items (vars / 64 + 1)
  pub size : length room.words.items ≡ vars / 64 + 1
  pub sound : (k x : ℕ) → has_at s.rows.items k x ≡ true → LiveBefore steps x k
  pub left : (i : ℕ) → i < length steps → ((at ≤ i) × (has due i ≡ true)) ⊎ (IsSettled steps vars s.rows.items i)

pub settling_start : (steps : List Step) (vars : ℕ) (work : Work) (s : Settling) → IsWork steps vars work → s.rows.items ≡ work.rows.items
    → s.stack.items ≡ [] → IsSettling steps vars 0 work.due work.room s
settling_start steps vars work s h rows empty = record {
  calm = record { count = ap length rows ∙ h.count; empty = empty };
  wide = subst (λ (l : List BitRow). AreWide l (vars / 64 + 1)) (sym rows) h.wide;
  size = h.room;
  sound = λ k x e. h.sound k x (ap (λ l. has_at l k x) (sym rows) ∙ e);
  left = λ i below. elim (h.left i below) [
    | inl d ↦ inl (omega arith, d)
    | inr t ↦ inr (subst (λ (l : List BitRow). IsSettled steps vars l i) (sym rows) t)
  ];
}

-- a step that has not to be looked at
pub settling_skip : (steps : List Step) (vars at : ℕ) (due room : BitRow) (s : Settling) → has due at ≡ false
    → IsSettling steps vars at due room s → IsSettling steps vars (at + 1) due room s
settling_skip steps vars at due room s done h = record {
  calm = h.calm;
  wide = h.wide;
  size = h.size;
  sound = h.sound;
  left = λ i below. elim (h.left i below) [
    | inl d ↦ by i d (cases_eq i at)
    | inr t ↦ inr t
  ];
} where
  by : (i : ℕ) → (at ≤ i) × (has due i ≡ true) → (i ≡ at) ⊎ (i ≢ at) → ((at + 1 ≤ i) × (has due i ≡ true)) ⊎ (IsSettled steps vars s.rows.items i)
  by i d (inl e) = no (sym d.1 ∙ ap (has due) e ∙ done)
  by i d (inr other) = inl (later d.0 other, d.1) where
    later : at ≤ i → i ≢ at → at + 1 ≤ i
    later l n = grind arith

-- a room that has what a step wants
pub record IsWanted (steps : List Step) (vars at : ℕ) (step : Step) (rows : List BitRow) (room : BitRow) : Type 0 where
  pub there : slice_get steps at ≡ Some step
  pub bits : (x : ℕ) → x / 64 < vars / 64 + 1 → has room x ≡ wanted rows step at x
  pub size : length room.words.items ≡ vars / 64 + 1

pub wanted_is_live : (steps : List Step) (vars at : ℕ) (step : Step) (rows : List BitRow) (room : BitRow)
    → ((k x : ℕ) → has_at rows k x ≡ true → LiveBefore steps x k) → IsWanted steps vars at step rows room
    → (x : ℕ) → has room x ≡ true → LiveBefore steps x at
wanted_is_live steps vars at step rows room sound w x e =
    wanted_live steps rows at x step w.there (λ k. sound k x)
    (sym (w.bits x (let i = has_within room x e in let s = w.size in omega arith)) ∙ e)

pub settling_more : (steps : List Step) (vars at : ℕ) (step : Step) (due room wants : BitRow) (old new : Settling)
    → IsWanted steps vars at step old.rows.items wants → Spreads steps (has wants) old new
    → ((x : ℕ) → x < vars → has wants x ≡ true → has_at new.rows.items at x ≡ true)
    → IsSettling steps vars at due room old → IsSettling steps vars (at + 1) due wants new
settling_more steps vars at step due room wants old new w spreads here h = record {
  calm = spreads.calm;
  wide = alike_wide (vars / 64 + 1) old.rows.items new.rows.items spreads.alike h.wide;
  size = w.size;
  sound = λ k x e. elim (spreads.sound k x e) [
    | inl f ↦ h.sound k x f
    | inr l ↦ l
  ];
  left = λ i below. by i (cases_eq i at) (h.left i below);
} where
  settled : IsSettled steps vars new.rows.items at
  settled x small e = look (has wants x) refl where
    look : (b : Bool) → has wants x ≡ b → has_at new.rows.items at x ≡ true
    look true f = here x small f
    look false f =
        let now : wanted new.rows.items step at x ≡ true = sym (ap (λ o. option_map_or (λ s. wanted new.rows.items s at x) o false) w.there) ∙ e in
        let was = wanted_from steps old.rows.items new.rows.items at x step w.there (λ k l g. sym (spreads.others k x f) ∙ g) now in
        no (sym was ∙ sym (w.bits x (fits x small)) ∙ f)
      where
        fits : (x : ℕ) → x < vars → x / 64 < vars / 64 + 1
        fits x small = omega arith

  by : (i : ℕ) → (i ≡ at) ⊎ (i ≢ at) → ((at ≤ i) × (has due i ≡ true)) ⊎ (IsSettled steps vars old.rows.items i)
      → ((at + 1 ≤ i) × (has due i ≡ true)) ⊎ (IsSettled steps vars new.rows.items i)
  by i (inl e) d = inr (subst (λ (n : ℕ). IsSettled steps vars new.rows.items n) (sym e) settled)
  by i (inr other) (inl d) = inl (later d.0 other, d.1) where
    later : at ≤ i → i ≢ at → at + 1 ≤ i
    later l n = grind arith
  by i (inr other) (inr t) = inr (spreads_settled steps vars (has wants) old new i spreads t)

pub settling_all : (steps : List Step) (vars at : ℕ) (due room : BitRow) (s : Settling) → length steps ≤ at → IsSettling steps vars at due room s
    → AreRows steps vars s.rows.items
settling_all steps vars at due room s past h = settled_rows steps vars s.rows.items h.sound (λ i below. elim (h.left i below) [
  | inl d ↦ let l = d.0 in absurd (omega arith)
  | inr t ↦ t
])
