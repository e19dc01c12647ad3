-- What the crates below state of blocks and homes is enough.
use Rattle.std.proofs.Common.{◌≡◌, ◌<◌, ◌≤◌, ◌+◌, ◌==◌, ◌∷◌, [], ℕ, suc, Bool, List, Option, Some, None, true, false, is_some, filter, slice_get, refl, sym, ap, ◌∙◌, subst, arith, ◌⊎◌, inl, inr}
use Rattle.std.proofs.lemmas.Bool.{eqb-true, cases_lt, or_cases, false≢true}
use Rattle.tta_list.proofs.Lists.{some_within}
use Rattle.tta_lower.specs.Cited.{Step, Load, Take, Store, When, End, Proc, Program, step_at}
use Rattle.tta_program.specs.declared.step.Step.TheVariants.{Copy, Apply, Put, If, Goto, Invoke, Return, Halt}
use Rattle.tta_lower.specs.Liveness.{Block, Has, Begins, Homes, StepThere, Reached, First, Then, IsFlow, IsHomes, leads, is_plain}
use Rattle.tta_lower.specs.Lower.{spans_of, EndsBefore, InOrder}
use Rattle.tta_lower.specs.FlowFacts.{names_step, IsFirst, AtBegin, Named, AfterStep, StandsBefore, AreBlocks, AtEntry, AtStep, HomeLaw}

-- a step leads to one that it names, or to the next where it is plain or a branch or a call
names-or-next : (st : Step) (at to : ℕ) → leads st at to ≡ true → (names_step st to ≡ true) ⊎ (at + 1 ≡ to)
names-or-next (If rel a b target) at to goes = by (or_cases (target == to) (at + 1 == to) goes) where
  by : (target == to) ≡ true ⊎ (at + 1 == to) ≡ true → ((target == to) ≡ true) ⊎ (at + 1 ≡ to)
  by (inl e) = inl e
  by (inr e) = inr (eqb-true (at + 1) to e)
names-or-next (Goto target) at to goes = inl goes
names-or-next (Return s) at to goes = cc
names-or-next Halt at to goes = cc
names-or-next End at to goes = cc
names-or-next (Copy d s) at to goes = inr (eqb-true (at + 1) to goes)
names-or-next (Apply d op a b) at to goes = inr (eqb-true (at + 1) to goes)
names-or-next (Load d a) at to goes = inr (eqb-true (at + 1) to goes)
names-or-next (Take d) at to goes = inr (eqb-true (at + 1) to goes)
names-or-next (Store a v) at to goes = inr (eqb-true (at + 1) to goes)
names-or-next (Put v) at to goes = inr (eqb-true (at + 1) to goes)
names-or-next (When rel a b d s) at to goes = inr (eqb-true (at + 1) to goes)
names-or-next (Invoke d callee args) at to goes = inr (eqb-true (at + 1) to goes)

module _ (p : Program) (blocks : List Block) (are : AreBlocks p blocks) where
  record Owned (owner : ℕ) : Type 0 where
    proc : Proc
    is : slice_get p.procs owner ≡ Some proc

  -- the owner of a block is a procedure
  owned-by : (b : Block) → Has blocks b → Owned b.owner
  owned-by b has = by (slice_get p.procs b.owner) refl where
    by : (t : Option Proc) → slice_get p.procs b.owner ≡ t → Owned b.owner
    by None is = absurd (false≢true (sym (ap is_some is) ∙ some_within p.procs b.owner (are.owned b has)))
    by (Some q) is = record { proc = q; is = is }

  -- a step of a block is there
  step-there : (owner i : ℕ) (q : Proc) → slice_get p.procs owner ≡ Some q → Reached p owner i → StepThere p owner i
  step-there owner i q is reached = by (slice_get q.steps i) refl where
    by : (t : Option Step) → slice_get q.steps i ≡ t → StepThere p owner i
    by None at = absurd (false≢true (sym (ap is_some at) ∙ some_within q.steps i (are.there owner i reached q is)))
    by (Some st) at = record { st = st; there = (rw is refl) ∙ at }

  -- a step that a block's last one leads to begins a block
  begins-there : (owner to : ℕ) (q : Proc) → slice_get p.procs owner ≡ Some q → Reached p owner to → IsFirst p owner to → Begins blocks owner to
  begins-there owner to q is reached first =
      let h = are.covers owner to q is reached in
      let run = are.sound h.block h.has in
      elim (cases_lt (h.block).first to) as (λ c. Begins blocks owner to) [
        | inl lt ↦ absurd (run.only to lt h.high (subst (λ o. IsFirst p o to) (sym h.mine) first))
        | inr ge ↦ record { block = h.block; has = h.has; owned = h.mine; from = omega (arith, ge, h.low) }
      ]

  -- the blocks are what the simulation needs
  pub is-flow : IsFlow p blocks
  is-flow = record {
    rises = λ b has. (are.sound b has).within;
    plain = λ b has i lo hi.
        let o = owned-by b has in
        let run = are.sound b has in
        let s = step-there b.owner i o.proc o.is (run.reached i lo (omega (arith, hi))) in
        record { st = s.st; there = s.there; plain = plain-by b has i lo hi s.st s.there (is_plain s.st) refl };
    last = λ b has.
        let o = owned-by b has in
        let run = are.sound b has in
        step-there b.owner b.last o.proc o.is (run.reached b.last run.within (omega arith));
    entry = λ owner q is. begins-there owner 0 q is (First 0 refl) (AtBegin 0 refl);
    onward = λ b has st to there goes.
        let o = owned-by b has in
        let run = are.sound b has in
        let here = run.reached b.last run.within (omega arith) in
        let come = Then b.last to st here there goes in
        begins-there b.owner to o.proc o.is come (first-by b has st to there goes come (names-or-next st b.last to goes) here);
    reached = λ b has. (are.sound b has).reached;
  } where
    plain-by : (b : Block) → Has blocks b → (i : ℕ) → b.first ≤ i → i < b.last → (st : Step) → step_at p b.owner i ≡ Some st → (t : Bool) → is_plain st ≡ t → is_plain st ≡ true
    plain-by b has i lo hi st there true is = is
    plain-by b has i lo hi st there false is = absurd ((are.sound b has).only (i + 1) (omega (arith, lo)) (omega (arith, hi)) (AfterStep i (i + 1) st there is refl))

    first-by : (b : Block) → Has blocks b → (st : Step) (to : ℕ) → step_at p b.owner b.last ≡ Some st → leads st b.last to ≡ true → Reached p b.owner to
        → (names_step st to ≡ true) ⊎ (b.last + 1 ≡ to) → Reached p b.owner b.last → IsFirst p b.owner to
    first-by b has st to there goes come (inl named) here = Named b.last to st here there named
    first-by b has st to there goes come (inr next) here =
        subst (λ n. IsFirst p b.owner n) next ((are.sound b has).ends (subst (λ n. Reached p b.owner n) (sym next) come))

  -- ---- the order of blocks

  -- each of some blocks stands before those after it
  abbrev Rising : List Block → Type 0
  Rising bs = (j k : ℕ) (a b : Block) → j < k → slice_get bs j ≡ Some a → slice_get bs k ≡ Some b → StandsBefore a b

  -- a block ends before the others of its procedure begin
  ends-of : (owner : ℕ) (b : Block) → b.owner ≡ owner → (bs : List Block) → ((k : ℕ) (c : Block) → slice_get bs k ≡ Some c → StandsBefore b c)
      → EndsBefore b (filter (λ c. c.owner == owner) bs)
  ends-of owner b mine [] before = tt
  ends-of owner b mine (c ∷ bs) before = by (c.owner == owner) refl (ends-of owner b mine bs (λ k d is. before (suc k) d is)) where
    here : c.owner ≡ owner → StandsBefore b c → b.last < c.first
    here same (inl lt) = absurd (omega (arith, lt, same, mine))
    here same (inr both) = both.1

    by : (t : Bool) → (c.owner == owner) ≡ t → EndsBefore b (filter (λ c. c.owner == owner) bs) → EndsBefore b (filter (λ c. c.owner == owner) (c ∷ bs))
    by true is rest = rw is (here (eqb-true c.owner owner is) (before 0 c refl), rest)
    by false is rest = rw is rest

  -- blocks that rise stand in order
  in-order : (owner : ℕ) (bs : List Block) → Rising bs → InOrder (filter (λ c. c.owner == owner) bs)
  in-order owner [] rising = tt
  in-order owner (b ∷ bs) rising = by (b.owner == owner) refl (in-order owner bs (λ j k a c lt ja kc. rising (suc j) (suc k) a c (omega (arith, lt)) ja kc)) where
    by : (t : Bool) → (b.owner == owner) ≡ t → InOrder (filter (λ c. c.owner == owner) bs) → InOrder (filter (λ c. c.owner == owner) (b ∷ bs))
    by true is rest = rw is (ends-of owner b (eqb-true b.owner owner is) bs (λ k c kc. rising 0 (suc k) b c (omega arith) refl kc), rest)
    by false is rest = rw is rest

  -- the blocks of each procedure stand in order
  pub blocks-in-order : (owner : ℕ) → InOrder (spans_of blocks owner)
  blocks-in-order owner = in-order owner blocks are.rising

-- ---- homes

-- the homes are what the simulation needs
pub is-homes : (p : Program) (home : Homes) → HomeLaw p home → IsHomes p home
is-homes p home law = record {
  apart = λ owner at x y k reached tx ty hx hy.
      let ix = law.holds owner x (at + 1) (AtStep at (at + 1) refl reached tx) in
      let iy = law.holds owner y (at + 1) (AtStep at (at + 1) refl reached ty) in
      law.apart owner x y (at + 1) k ix.0 ix.1 iy.0 iy.1 hx hy;
  entry = λ owner x y k lx ly hx hy.
      let ix = law.holds owner x 0 (AtEntry 0 refl lx) in
      let iy = law.holds owner y 0 (AtEntry 0 refl ly) in
      law.apart owner x y 0 k ix.0 ix.1 iy.0 iy.1 hx hy;
  saved = law.kept;
}
