-- A variable is carried backward from a step.
use Rattle.std.proofs.Common.{◌≡◌, ◌<◌, ℕ, Bool, true, false, List, [], ◌∷◌, ◌++◌, length, refl, sym, ap, ◌∙◌, ◌⊎◌, inl, inr, arith, subst, Vec, Global}
use Rattle.std.specs.Prelude.{◌==◌, ◌||◌, ◌&&◌, not}
use Rattle.std.proofs.lemmas.Bool.{eq-eqb, or_cases, eqb-true, not-true}
use Rattle.std.proofs.Math.Bool.{or-true}
use Rattle.tta_list.proofs.Tests.{and_left, and_right}
use Rattle.tta_flow.specs.Cited.{Step}
use Rattle.tta_flow.specs.declared.bits.BitRow.{BitRow}
use Rattle.tta_flow.specs.declared.settle.Settling.{Settling}
use Rattle.tta_flow.specs.Paths.{LiveBefore, ReadHere, ReadLater}
use Rattle.tta_flow.specs.Rows.{has_at}
use Rattle.tta_flow.specs.Search.{is_found}
use Rattle.tta_flow.specs.Settle.{AreAlike, Puts, passes, IsCalm, Spreads}
use Rattle.tta_flow.specs.Steps.{follows, leads, reads, assigns_at}
use Rattle.tta_flow.proofs.PutLemmas.{alike_then}
use Rattle.tta_flow.proofs.Reaching.{test_within}
use Rattle.tta_flow.proofs.RowLemmas.{no}
use Rattle.tta_flow.proofs.Searches.{found_more}

-- a variable is live only before a step that is there
pub live_within : (steps : List Step) (x k : ℕ) → LiveBefore steps x k → k < length steps
live_within steps x _ (ReadHere i e) = test_within (λ s. reads s x) steps i e
live_within steps x _ (ReadLater i j free e l) = test_within (λ s. follows s i j) steps i e

-- and so it is before one that leads there and does not assign it
passed : (steps : List Step) (at x k : ℕ) → LiveBefore steps x at → passes steps at x k ≡ true → LiveBefore steps x k
passed steps at x k l e =
    ReadLater k at (not-true (assigns_at steps k x) (and_right (leads steps k at) _ e)) (and_left (leads steps k at) _ e) l

-- ---- one variable

-- a variable was put into the row of a step, and carried backward but for the steps that wait
pub record Carrying (steps : List Step) (x from : ℕ) (old : List BitRow) (s : Settling) : Type 0 where
  pub alike : AreAlike old s.rows.items
  pub others : (k y : ℕ) → (x == y) ≡ false → has_at s.rows.items k y ≡ has_at old k y
  pub kept : (k y : ℕ) → has_at old k y ≡ true → has_at s.rows.items k y ≡ true
  pub here : has_at s.rows.items from x ≡ true
  pub stack : (k : ℕ) → is_found s.stack.items k ≡ true → LiveBefore steps x k
  pub sound : (k : ℕ) → has_at s.rows.items k x ≡ true → (has_at old k x ≡ true) ⊎ (LiveBefore steps x k)
  pub onward : (i k : ℕ) → has_at old k x ≡ false → has_at s.rows.items k x ≡ true → passes steps k x i ≡ true
      → (is_found s.stack.items k ≡ true) ⊎ (has_at s.rows.items i x ≡ true)

module _ (test : ℕ → Bool) (x : ℕ) (old new : Settling) (h : Puts test x old new) where
  put_others : (k y : ℕ) → (x == y) ≡ false → has_at new.rows.items k y ≡ has_at old.rows.items k y
  put_others k y other =
      h.bits k y ∙ ap (λ b. has_at old.rows.items k y || (test k && b)) other ∙ nothing (has_at old.rows.items k y) (test k) where
        nothing : (a b : Bool) → (a || (b && false)) ≡ a
        nothing true b = refl
        nothing false true = refl
        nothing false false = refl

  put_kept : (k y : ℕ) → has_at old.rows.items k y ≡ true → has_at new.rows.items k y ≡ true
  put_kept k y e = h.bits k y ∙ ap (λ b. b || (test k && x == y)) e

  put_there : (k : ℕ) → test k ≡ true → has_at new.rows.items k x ≡ true
  put_there k e =
      h.bits k x ∙ ap (λ b. has_at old.rows.items k x || (b && x == x)) e ∙ ap (λ b. has_at old.rows.items k x || b) (eq-eqb x x refl)
      ∙ or-true (has_at old.rows.items k x)

  put_cases : (k : ℕ) → has_at new.rows.items k x ≡ true → (has_at old.rows.items k x ≡ true) ⊎ (test k ≡ true)
  put_cases k e = elim (or_cases (has_at old.rows.items k x) (test k && x == x) (sym (h.bits k x) ∙ e)) [
    | inl f ↦ inl f
    | inr f ↦ inr (and_left (test k) _ f)
  ]

  waits_cases : (k : ℕ) → is_found new.stack.items k ≡ true → (is_found old.stack.items k ≡ true) ⊎ (test k ≡ true)
  waits_cases k e = elim (or_cases (is_found old.stack.items k) (test k && not (has_at old.rows.items k x)) (sym (h.stack k) ∙ e)) [
    | inl f ↦ inl f
    | inr f ↦ inr (and_left (test k) _ f)
  ]

  still_waits : (k : ℕ) → is_found old.stack.items k ≡ true → is_found new.stack.items k ≡ true
  still_waits k e = h.stack k ∙ ap (λ b. b || (test k && not (has_at old.rows.items k x))) e

  new_waits : (k : ℕ) → test k ≡ true → has_at old.rows.items k x ≡ false → is_found new.stack.items k ≡ true
  new_waits k t free =
      h.stack k ∙ ap (λ b. is_found old.stack.items k || (b && not (has_at old.rows.items k x))) t
      ∙ ap (λ b. is_found old.stack.items k || not b) free ∙ or-true (is_found old.stack.items k)

pub carrying_start : (steps : List Step) (x from : ℕ) (old s : Settling) → IsCalm steps old → LiveBefore steps x from
    → Puts (λ k. from == k) x old s → Carrying steps x from old.rows.items s
carrying_start steps x from old s calm live h = record {
  alike = h.alike;
  others = put_others (λ k. from == k) x old s h;
  kept = put_kept (λ k. from == k) x old s h;
  here = put_there (λ k. from == k) x old s h from (eq-eqb from from refl);
  stack = λ k e. elim (waits_cases (λ k. from == k) x old s h k e) [
    | inl f ↦ no (sym f ∙ ap (λ l. is_found l k) calm.empty)
    | inr f ↦ there k f
  ];
  sound = λ k e. elim (put_cases (λ k. from == k) x old s h k e) [
    | inl f ↦ inl f
    | inr f ↦ inr (there k f)
  ];
  onward = λ i k free e p. elim (put_cases (λ k. from == k) x old s h k e) [
    | inl f ↦ no (sym f ∙ free)
    | inr f ↦ inl (new_waits (λ k. from == k) x old s h k f free)
  ];
} where
  there : (k : ℕ) → (from == k) ≡ true → LiveBefore steps x k
  there k e = subst (λ (n : ℕ). LiveBefore steps x n) (eqb-true from k e) live

-- a step that waits is taken, and the variable is put into the rows of those that lead there and keep it
module _ (steps : List Step) (x from at : ℕ) (old : List BitRow) (s mid : Settling) (c : Carrying steps x from old s)
    (rows : mid.rows.items ≡ s.rows.items) (stack : s.stack.items ≡ mid.stack.items ++ at ∷ []) where
  found_is : (k : ℕ) → is_found s.stack.items k ≡ (is_found mid.stack.items k || at == k)
  found_is k = ap (λ l. is_found l k) stack ∙ found_more mid.stack.items at k

  pub waits_live : LiveBefore steps x at
  waits_live = c.stack at (found_is at ∙ ap (λ b. is_found mid.stack.items at || b) (eq-eqb at at refl) ∙ or-true (is_found mid.stack.items at))

  same_rows : (k y : ℕ) → has_at mid.rows.items k y ≡ has_at s.rows.items k y
  same_rows k y = ap (λ l. has_at l k y) rows

  pub carrying_more : (new : Settling) → Puts (passes steps at x) x mid new → Carrying steps x from old new
  carrying_more new h = record {
    alike = alike_then old s.rows.items new.rows.items c.alike (subst (λ (l : List BitRow). AreAlike l new.rows.items) rows h.alike);
    others = λ k y other. put_others (passes steps at x) x mid new h k y other ∙ same_rows k y ∙ c.others k y other;
    kept = λ k y e. put_kept (passes steps at x) x mid new h k y (same_rows k y ∙ c.kept k y e);
    here = put_kept (passes steps at x) x mid new h from x (same_rows from x ∙ c.here);
    stack = λ k e. elim (waits_cases (passes steps at x) x mid new h k e) [
      | inl f ↦ c.stack k (found_is k ∙ ap (λ b. b || at == k) f)
      | inr f ↦ passed steps at x k waits_live f
    ];
    sound = λ k e. elim (put_cases (passes steps at x) x mid new h k e) [
      | inl f ↦ c.sound k (sym (same_rows k x) ∙ f)
      | inr f ↦ inr (passed steps at x k waits_live f)
    ];
    onward = λ i k free e p. onward i k free e p (has_at mid.rows.items k x) refl;
  } where
    known : (i k : ℕ) → passes steps k x i ≡ true → (is_found s.stack.items k ≡ true) ⊎ (has_at s.rows.items i x ≡ true)
        → (is_found new.stack.items k ≡ true) ⊎ (has_at new.rows.items i x ≡ true)
    known i k p (inr e) = inr (put_kept (passes steps at x) x mid new h i x (same_rows i x ∙ e))
    known i k p (inl e) = elim (or_cases (is_found mid.stack.items k) (at == k) (sym (found_is k) ∙ e)) [
      | inl f ↦ inl (still_waits (passes steps at x) x mid new h k f)
      | inr f ↦ inr (put_there (passes steps at x) x mid new h i (ap (λ n. passes steps n x i) (eqb-true at k f) ∙ p))
    ]

    onward : (i k : ℕ) → has_at old k x ≡ false → has_at new.rows.items k x ≡ true → passes steps k x i ≡ true
        → (b : Bool) → has_at mid.rows.items k x ≡ b → (is_found new.stack.items k ≡ true) ⊎ (has_at new.rows.items i x ≡ true)
    onward i k free e p true f = known i k p (c.onward i k free (sym (same_rows k x) ∙ f) p)
    onward i k free e p false f = elim (put_cases (passes steps at x) x mid new h k e) [
      | inl g ↦ no (sym g ∙ f)
      | inr g ↦ inl (new_waits (passes steps at x) x mid new h k g f)
    ]

pub carrying_all : (steps : List Step) (x from : ℕ) (old s : Settling) (stack : Vec ℕ Global) → IsCalm steps old → length s.stack.items ≡ 0
    → length stack.items ≡ 0 → Carrying steps x from old.rows.items s → Spreads steps (λ y. x == y) old (record { rows = s.rows; stack = stack })
carrying_all steps x from old s stack calm last empty c = record {
  calm = record { count = c.alike.count ∙ calm.count; empty = nothing stack.items empty };
  alike = c.alike;
  others = λ k y other. c.others k y other;
  kept = c.kept;
  sound = λ k y e. sound k y e (x == y) refl;
  onward = λ i k y free e p. onward i k y free e p (x == y) refl;
} where
  nothing : (l : List ℕ) → length l ≡ 0 → l ≡ []
  nothing [] e = refl
  nothing (n ∷ l) e = absurd (omega arith)

  sound : (k y : ℕ) → has_at s.rows.items k y ≡ true → (b : Bool) → (x == y) ≡ b → (has_at old.rows.items k y ≡ true) ⊎ (LiveBefore steps y k)
  sound k y e true f =
      subst (λ (n : ℕ). (has_at old.rows.items k n ≡ true) ⊎ (LiveBefore steps n k)) (eqb-true x y f)
      (c.sound k (ap (has_at s.rows.items k) (eqb-true x y f) ∙ e))
  sound k y e false f = inl (sym (c.others k y f) ∙ e)

  same : (i k : ℕ) → has_at old.rows.items k x ≡ false → has_at s.rows.items k x ≡ true → passes steps k x i ≡ true → has_at s.rows.items i x ≡ true
  same i k free e p = elim (c.onward i k free e p) [
    | inl f ↦ no (sym f ∙ ap (λ l. is_found l k) (nothing s.stack.items last))
    | inr f ↦ f
  ]

  onward : (i k y : ℕ) → has_at old.rows.items k y ≡ false → has_at s.rows.items k y ≡ true → passes steps k y i ≡ true
      → (b : Bool) → (x == y) ≡ b → has_at s.rows.items i y ≡ true
  onward i k y free e p false f = no (sym e ∙ c.others k y f ∙ free)
  onward i k y free e p true f =
      let is = eqb-true x y f in
      ap (has_at s.rows.items i) (sym is)
      ∙ same i k (ap (has_at old.rows.items k) is ∙ free) (ap (has_at s.rows.items k) is ∙ e) (ap (λ n. passes steps k n i) is ∙ p)
