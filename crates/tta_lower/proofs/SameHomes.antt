-- The homes and the liveness of a program are what lowering takes them for.
use Rattle.std.proofs.Common.{◌≡◌, ◌≢◌, ◌<◌, ◌+◌, ◌⊎◌, inl, inr, ℕ, Bool, true, false, List, Option, Some, None, refl, sym, ap, subst, ◌∙◌, arith, slice_get}
use Rattle.std.specs.Prelude.{◌==◌, not, nat_lt, if◌then◌else◌}
use Rattle.std.specs.Option.{option_map_or}
use Rattle.std.proofs.lemmas.Bool.{eqb-true, and_parts, lt-ltb}
use Rattle.std.proofs.lemmas.Bool.Decides.{nat_tests}
use Rattle.tta_lower.specs.Cited.{Src, Proc, Program, IsProgram, step_at, live_before, live_after, Home, Slot, home_of, SlotsAsScanned, KeepsLaw, IsLiveAtEntry, IsRead, IsAssigned, IsLiveBefore, IsLiveAfter, IsKept, keeps}
use Rattle.tta_program.specs.declared.step.Step.TheVariants.{Invoke}
use Rattle.tta_flow.specs.Steps as steps
use Rattle.tta_alloc.specs.declared.home.Home.TheVariants.{Reg}
use Rattle.tta_alloc.specs.declared.homes.Homes.{Homes}
use Rattle.tta_alloc.specs.Intervals.{Counts}
use Rattle.tta_lower.specs.Layout.{vars_of}
use Rattle.tta_lower.specs.Liveness.{Reached, LiveAfter, Touches, ByRead, ByAssigned, ByBefore, ByAfter, IsHomes}
use Rattle.tta_lower.proofs.Bridge.{is-flow, blocks-in-order}
use Rattle.tta_lower.proofs.Callers.{live-below, live-after-below}
use Rattle.tta_lower.specs.LoweringInput.{reg_of, home_by, AnswersKnow}
use Rattle.tta_lower.proofs.SameSteps.{same_reads, same_assigned}
use Rattle.tta_lower.proofs.SamePaths.{passes_at, reached_from, live_to, live_from, after_to, after_from}
use Rattle.tta_lower.proofs.SameBlocks.{are_blocks}
use Rattle.tta_alloc.proofs.HolderLemmas.{reg_slot}

-- a variable of a procedure that is there
pub record Owned (p : Program) (owner x : ℕ) : Type 0 where
  pub proc : Proc
  pub is : slice_get p.procs owner ≡ Some proc
  pub below : x < proc.vars

-- a variable below the count is there
owned : (p : Program) (owner x : ℕ) → nat_lt x (vars_of p owner) ≡ true → Owned p owner x
owned p owner x e = on (slice_get p.procs owner) refl e where
  on : (o : Option Proc) → slice_get p.procs owner ≡ o → nat_lt x (option_map_or (λ q. q.vars) o 0) ≡ true → Owned p owner x
  on None is f = let z : x < 0 = grind (arith, nat_tests) in absurd (omega arith)
  on (Some q) is f = record { proc = q; is = is; below = grind (arith, nat_tests) }

-- a home that is a register
reg_is : (h : Home) (k : ℕ) → reg_of h ≡ Some k → h ≡ Reg k
reg_is (Reg j) k e = let z : j ≡ k = cc in ap (λ (n : ℕ). Reg n) z
reg_is (Slot x) k e = absurd cc

-- a register is no slot

module _ (p : Program) (rules : IsProgram p) (homes : ℕ) (h : Homes) (allotted : SlotsAsScanned p homes h) where
  -- a variable's home, if it is a register
  pub record InReg (owner x k : ℕ) : Type 0 where
    pub var : Owned p owner x
    pub answer : List Home
    pub law : KeepsLaw (var).proc homes answer
    pub of : (y : ℕ) → y < ((var).proc).vars → slice_get answer y ≡ Some (home_of h owner y)
    pub is : slice_get answer x ≡ Some (Reg k)

  -- a home that is a register
  in_reg : (owner x k : ℕ) → home_by p h owner x ≡ Some k → InReg owner x k
  in_reg owner x k e = on (nat_lt x (vars_of p owner)) refl e where
    on : (b : Bool) → nat_lt x (vars_of p owner) ≡ b → (if b then reg_of (home_of h owner x) else None) ≡ Some k → InReg owner x k
    on false t f = absurd cc
    on true t f =
        let v = owned p owner x t in
        let s = allotted.allotted owner v.proc v.is in
        record {
          var = v;
          answer = s.0;
          law = s.1.0.law;
          of = s.1.1;
          is = s.1.1 x v.below ∙ ap (λ (o : Home). Some o) (reg_is (home_of h owner x) k f);
        }

  -- a register is below the number of home registers
  few : (owner x k : ℕ) → home_by p h owner x ≡ Some k → k < homes
  few owner x k e = let r = in_reg owner x k e in by ((r.law).range x (Reg k) r.is) where
    by : (Reg k ≡ Slot x) ⊎ ((j : ℕ) × ((j < homes) × (Reg k ≡ Reg j))) → k < homes
    by (inl s) = reg_slot k x s
    by (inr s) = let z : s.0 ≡ k = let f = s.1.1 in cc in subst (λ (n : ℕ). n < homes) z s.1.0

  -- a position at which both count, and one register
  meets : (owner x y k at : ℕ) → home_by p h owner x ≡ Some k → home_by p h owner y ≡ Some k
      → ((q : Proc) → slice_get p.procs owner ≡ Some q → Counts q x at) → ((q : Proc) → slice_get p.procs owner ≡ Some q → Counts q y at) → x ≡ y
  meets owner x y k at hx hy cx cy = on (x == y) refl where
    on : (b : Bool) → (x == y) ≡ b → x ≡ y
    on true e = eqb-true x y e
    on false e =
        let r = in_reg owner x k hx in
        let s = in_reg owner y k hy in
        let q : Proc = (r.var).proc in
        let there : slice_get p.procs owner ≡ Some q = (r.var).is in
        let one : (s.var).proc ≡ q = let a = (s.var).is in let b = (r.var).is in cc in
        let low : y < q.vars = subst (λ (t : Proc). y < t.vars) one (s.var).below in
        let other : slice_get r.answer y ≡ Some (Reg k) = r.of y low ∙ sym (s.of y (s.var).below) ∙ s.is in
        let differ : x ≢ y = λ f. let z : (x == y) ≡ true = grind (arith, nat_tests) in let w : true ≡ false = sym z ∙ e in absurd cc in
        absurd ((r.law).meet x y at (r.var).below low differ (cx q there) (cy q there) (r.is ∙ sym other))

  -- a variable that a step touches counts there
  touched : (owner at x : ℕ) → Reached p owner at → Touches p owner at x → (q : Proc) → slice_get p.procs owner ≡ Some q → Counts q x (at + 1)
  touched owner at x r (ByRead st there e) q is =
      IsRead at (reached_from p owner q is at r) (passes_at p owner q is (λ s. steps.reads s x) at st there true (same_reads st x ∙ e))
  touched owner at x r (ByAssigned st there e) q is =
      IsAssigned at (reached_from p owner q is at r)
      (passes_at p owner q is (λ s. steps.assigns s x) at st there true (ap (λ (o : Option ℕ). option_map_or (λ d. d == x) o false) (same_assigned st ∙ e) ∙ same)) where
        same : (x == x) ≡ true
        same = grind (arith, nat_tests)
  touched owner at x r (ByBefore l) q is = IsLiveBefore at (reached_from p owner q is at r) (live_from p owner q is x at l)
  touched owner at x r (ByAfter l) q is = IsLiveAfter at (reached_from p owner q is at r) (after_from p owner q is x at l)

  -- a variable that a call keeps has its slot
  saved : (owner at callee x : ℕ) (d : Option ℕ) (args : List Src) → Reached p owner at → step_at p owner at ≡ Some (Invoke d callee args)
      → LiveAfter p owner x at → d ≢ Some x → home_by p h owner x ≡ None
  saved owner at callee x d args r call l ne = on (home_by p h owner x) refl where
    other : (o : Option ℕ) → o ≢ Some x → not (option_map_or (λ v. v == x) o false) ≡ true
    other None e = refl
    other (Some v) e = by (v == x) refl where
      by : (b : Bool) → (v == x) ≡ b → not (v == x) ≡ true
      by true t = absurd (e (ap (λ (n : ℕ). Some n) (eqb-true v x t)))
      by false t = rw t refl

    on : (o : Option ℕ) → home_by p h owner x ≡ o → home_by p h owner x ≡ None
    on None e = e
    on (Some k) e =
        let i = in_reg owner x k e in
        let q : Proc = (i.var).proc in
        let is : slice_get p.procs owner ≡ Some q = (i.var).is in
        let kept : IsKept q x = record {
          at = at;
          reached = reached_from p owner q is at r;
          keeps = passes_at p owner q is (λ s. keeps s x) at (Invoke d callee args) call true (other d ne);
          live = after_from p owner q is x at l;
        } in
        let slot = (i.law).kept x (i.var).below kept in
        reg_slot k x (let a = i.is in cc)

  -- the homes are what the simulation needs
  pub homes_are : IsHomes p (home_by p h)
  homes_are = record {
    apart = λ owner at x y k r tx ty hx hy. meets owner x y k (at + 1) hx hy (touched owner at x r tx) (touched owner at y r ty);
    entry = λ owner x y k lx ly hx hy. meets owner x y k 0 hx hy (λ q is. IsLiveAtEntry (live_from p owner q is x 0 lx)) (λ q is. IsLiveAtEntry (live_from p owner q is y 0 ly));
    saved = saved;
  }

  -- the home registers are there
  pub home_few : (owner x k : ℕ) → home_by p h owner x ≡ Some k → k < homes
  home_few = few

-- all that lowering has to know
pub answers_know : AnswersKnow
answers_know p homes blocks l h rules flow live allotted = record {
  flow = is-flow p blocks (are_blocks p rules blocks flow);
  apart = homes_are p rules homes h allotted;
  answers = record {
    order = blocks-in-order p blocks (are_blocks p rules blocks flow);
    first_only = λ owner x e.
        let s = and_parts (nat_lt x (vars_of p owner)) (live_before l owner 0 x) e in
        let v = owned p owner x s.0 in
        live_to p owner v.proc v.is x 0 ((live.before owner 0 x v.proc v.is v.below).0 s.1);
    first_all = λ owner x a.
        let low = lt-ltb x (vars_of p owner) (live-below p rules owner x 0 a) in
        let v = owned p owner x low in
        rw (low, (live.before owner 0 x v.proc v.is v.below).1 (live_from p owner v.proc v.is x 0 a)) refl;
    after_only = λ b has x e.
        let s = and_parts (nat_lt x (vars_of p b.owner)) (live_after l b.owner b.last x) e in
        let v = owned p b.owner x s.0 in
        after_to p b.owner v.proc v.is x b.last ((live.after b.owner b.last x v.proc v.is v.below).0 s.1);
    after_all = λ b has x a.
        let low = lt-ltb x (vars_of p b.owner) (live-after-below p rules b.owner x b.last a) in
        let v = owned p b.owner x low in
        rw (low, (live.after b.owner b.last x v.proc v.is v.below).1 (after_from p b.owner v.proc v.is x b.last a)) refl;
    few = home_few p rules homes h allotted;
  };
}
