-- What the rows and the steps that can follow say of a program.
use Rattle.std.proofs.Common.{◌≡◌, ℕ, ◌+◌, ◌<◌, ◌≤◌, Bool, true, false, List, [], ◌∷◌, ◌++◌, length, get_or, Option, Some, None, refl, sym, ◌∙◌, ap, subst, arith, ◌⊎◌, inl, inr, if◌then◌else◌, length-append}
use Rattle.std.specs.Prelude.{◌↔◌, ◌&&◌, ◌||◌, ◌==◌, slice_get, option_map}
use Rattle.std.specs.Option.{option_map_or}
use Rattle.std.proofs.lemmas.Bool.{eq-eqb, eqb-true}
use Rattle.std.proofs.lemmas.Option.{slice_get-map, slice_get_read, slice_get_within}
use Rattle.std.proofs.Math.Bool.{or-true}
use Rattle.tta_list.proofs.Tests.{and_left, and_right, some_same}
use Rattle.tta_list.proofs.Lists.{slice_get-longer, slice_get-back}
use Rattle.tta_flow.specs.Cited.{Step, Proc, Program}
use Rattle.tta_flow.specs.declared.live.Live.{Live}
use Rattle.tta_flow.specs.declared.live.LiveProc.{LiveProc}
use Rattle.tta_flow.specs.Steps.{falls_through, target, follows, branches}
use Rattle.tta_flow.specs.Paths.{LiveBefore, LiveAfter}
use Rattle.tta_flow.specs.Live.{before_in, after_next, after_in, live_before, live_after, next_of, IsLiveProc, IsLive}
use Rattle.tta_flow.proofs.BlockLemmas.{leads_cases}

module _ (q : Proc) (l : LiveProc) (h : IsLiveProc q l) (x : ℕ) (small : x < q.vars) where
  pub before_exact : (k : ℕ) → (before_in l k x ≡ true) ↔ LiveBefore q.steps x k
  before_exact k = (h.rows.sound x k small, h.rows.whole x k small)

  after_is : (i : ℕ) → after_in l i x ≡ option_map_or (λ n. after_next l n i x) (option_map next_of (slice_get q.steps i)) false
  after_is i = ap (λ ns. option_map_or (λ n. after_next l n i x) (slice_get ns i) false) h.nexts
      ∙ ap (λ o. option_map_or (λ n. after_next l n i x) o false) (slice_get-map next_of q.steps i)

  -- the step in the next place, or the one that is named
  next_cases : (a : Bool) (b : Bool) → (if a then true else b) ≡ true → (a ≡ true) ⊎ (b ≡ true)
  next_cases true b e = inl refl
  next_cases false b e = inr e

  next_first : (a b : Bool) → a ≡ true → (if a then true else b) ≡ true
  next_first true b e = refl
  next_first false b e = absurd cc

  next_second : (a b : Bool) → b ≡ true → (if a then true else b) ≡ true
  next_second true b e = refl
  next_second false b e = e

  after_sound : (i : ℕ) → after_in l i x ≡ true → LiveAfter q.steps x i
  after_sound i e = by (slice_get q.steps i) refl (sym (after_is i) ∙ e) where
    by : (o : Option Step) → slice_get q.steps i ≡ o → option_map_or (λ n. after_next l n i x) (option_map next_of o) false ≡ true
        → LiveAfter q.steps x i
    by None is t = absurd cc
    by (Some s) is t = elim (next_cases (falls_through s && before_in l (i + 1) x) _ t) [
      | inl f ↦ record {
        next = i + 1;
        leads = ap (λ o. option_map_or (λ (s : Step). follows s i (i + 1)) o false) is
            ∙ ap (λ b. (b && i + 1 == i + 1) || option_map_or (λ to. to == i + 1) (target s) false) (and_left (falls_through s) _ f)
            ∙ ap (λ b. b || option_map_or (λ to. to == i + 1) (target s) false) (eq-eqb (i + 1) (i + 1) refl);
        live = h.rows.sound x (i + 1) small (and_right (falls_through s) _ f);
      }
      | inr g ↦ named (target s) refl g
    ] where
      named : (o : Option ℕ) → target s ≡ o → option_map_or (λ to. before_in l to x) o false ≡ true → LiveAfter q.steps x i
      named None at g = absurd cc
      named (Some to) at g = record {
        next = to;
        leads = ap (λ o. option_map_or (λ (s : Step). follows s i to) o false) is
            ∙ ap (λ o. (falls_through s && i + 1 == to) || option_map_or (λ t. t == to) o false) at
            ∙ ap (λ b. (falls_through s && i + 1 == to) || b) (eq-eqb to to refl) ∙ or-true (falls_through s && i + 1 == to);
        live = h.rows.sound x to small g;
      }

  after_whole : (i : ℕ) → LiveAfter q.steps x i → after_in l i x ≡ true
  after_whole i a = after_is i ∙ by (slice_get q.steps i) refl (leads_cases q.steps i a.next a.leads) where
    here : before_in l a.next x ≡ true
    here = h.rows.whole x a.next small a.live

    by : (o : Option Step) → slice_get q.steps i ≡ o
        → ((option_map_or falls_through (slice_get q.steps i) false ≡ true) × (a.next ≡ i + 1)) ⊎ (branches q.steps i a.next ≡ true)
        → option_map_or (λ n. after_next l n i x) (option_map next_of o) false ≡ true
    by None is (inl f) = let e = sym (ap (λ o. option_map_or falls_through o false) is) ∙ f.0 in absurd cc
    by None is (inr t) = let e = sym (ap (λ o. option_map_or (λ s. option_map_or (λ t. t == a.next) (target s) false) o false) is) ∙ t in absurd cc
    by (Some s) is (inl f) =
        next_first (falls_through s && before_in l (i + 1) x) _
        (ap (λ b. b && before_in l (i + 1) x) (sym (ap (λ o. option_map_or falls_through o false) is) ∙ f.0) ∙ ap (λ (n : ℕ). before_in l n x) (sym f.1) ∙ here)
    by (Some s) is (inr t) =
        next_second (falls_through s && before_in l (i + 1) x) _
        (named (target s) (sym (ap (λ o. option_map_or (λ s. option_map_or (λ t. t == a.next) (target s) false) o false) is) ∙ t)) where
          named : (o : Option ℕ) → option_map_or (λ t. t == a.next) o false ≡ true → option_map_or (λ to. before_in l to x) o false ≡ true
          named None t = absurd cc
          named (Some to) t = ap (λ (n : ℕ). before_in l n x) (eqb-true to a.next t) ∙ here

  pub after_exact : (i : ℕ) → (after_in l i x ≡ true) ↔ LiveAfter q.steps x i
  after_exact i = (after_sound i, after_whole i)

-- ---- the procedures in turn

pub record AreLive (procs : List Proc) (n : ℕ) (lives : List LiveProc) : Type 0 where
  pub count : length lives ≡ n
  pub all : (k : ℕ) (q : Proc) → k < n → slice_get procs k ≡ Some q → (l : LiveProc) × ((slice_get lives k ≡ Some l) × IsLiveProc q l)

pub lives_none : (procs : List Proc) → AreLive procs 0 []
lives_none procs = record { count = refl; all = λ k q below e. absurd (omega arith) }

pub lives_more : (procs : List Proc) (n : ℕ) (lives new : List LiveProc) (q : Proc) (l : LiveProc) → n < length procs → q ≡ get_or procs n q
    → AreLive procs n lives → IsLiveProc q l → new ≡ lives ++ l ∷ [] → AreLive procs (n + 1) new
lives_more procs n lives new q l below is h here grown = record {
  count = ap length grown ∙ (let e = length-append lives (l ∷ []) in let c = h.count in omega arith);
  all = λ k r small e. all k r e (last k small);
} where
  last : (k : ℕ) → k < n + 1 → (k < n) ⊎ (k ≡ n)
  last k small = grind arith

  all : (k : ℕ) (r : Proc) → slice_get procs k ≡ Some r → (k < n) ⊎ (k ≡ n) → (m : LiveProc) × ((slice_get new k ≡ Some m) × IsLiveProc r m)
  all k r e (inl less) =
      let w = h.all k r less e in
      (w.0, (ap (λ ls. slice_get ls k) grown ∙ slice_get-longer lives (l ∷ []) k w.0 w.1.0, w.1.1))
  all k r e (inr same) =
      let there = slice_get_read procs (length procs) n q refl below is in
      let alike : q ≡ r = some_same (sym there ∙ ap (slice_get procs) (sym same) ∙ e) in
      let at : k ≡ length lives + 0 = (let c = h.count in omega arith) in
      (l, (ap (λ ls. slice_get ls k) grown ∙ ap (slice_get (lives ++ l ∷ [])) at ∙ slice_get-back lives (l ∷ []) 0, subst (λ (s : Proc). IsLiveProc s l) alike here))

pub lives_all : (p : Program) (procs : List Proc) (n : ℕ) (live : Live) → procs ≡ p.procs → length procs ≤ n → AreLive procs n live.procs.items → IsLive p live
unfolding live_before live_after
lives_all p procs n live are past h = record {
  before = λ owner step x q is small.
      let w = there owner q is in
      iff (λ (o : Option LiveProc). (option_map_or (λ r. before_in r step x) o false ≡ true) ↔ LiveBefore q.steps x step) w.1.0 (before_exact q w.0 w.1.1 x small step);
  after = λ owner step x q is small.
      let w = there owner q is in
      iff (λ (o : Option LiveProc). (option_map_or (λ r. after_in r step x) o false ≡ true) ↔ LiveAfter q.steps x step) w.1.0 (after_exact q w.0 w.1.1 x small step);
} where
  there : (owner : ℕ) (q : Proc) → slice_get p.procs owner ≡ Some q
      → (l : LiveProc) × ((slice_get live.procs.items owner ≡ Some l) × IsLiveProc q l)
  there owner q is =
      let e = ap (λ l. slice_get l owner) are ∙ is in
      let w = slice_get_within procs owner q e in
      h.all owner q (omega arith) e

  iff : (P : Option LiveProc → Type 0) {o : Option LiveProc} {l : LiveProc} → o ≡ Some l → P (Some l) → P o
  iff P e x = subst P (sym e) x
