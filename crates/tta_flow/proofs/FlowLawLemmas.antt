-- The laws of the blocks of a program.
use Rattle.std.proofs.Common.{◌≡◌, ℕ, ◌+◌, ◌<◌, ◌≤◌, Bool, true, false, List, Option, Some, None, refl, sym, ◌∙◌, ap, subst, arith, ◌⊎◌, inl, inr}
use Rattle.std.specs.Prelude.{◌&&◌, ◌||◌, ◌==◌, slice_get, is_some}
use Rattle.std.specs.Option.{option_map_or}
use Rattle.std.proofs.lemmas.Bool.{eq-eqb}
use Rattle.std.proofs.lemmas.Option.{slice_get_within}
use Rattle.tta_list.proofs.Lists.{some_within}
use Rattle.tta_list.proofs.Tests.{some_same}
use Rattle.tta_flow.specs.Cited.{Step, If, Goto, Proc, Program}
use Rattle.tta_flow.specs.declared.flow.Block.{Block}
use Rattle.tta_flow.specs.Steps.{falls_through, target, cuts, cuts_at, follows, leads, branches}
use Rattle.tta_flow.specs.Paths.{Reached, Begin, Onward}
use Rattle.tta_flow.specs.Blocks.{IsFirst, Named, After, IsBlock, Holds, IsFlow, StandsBefore}
use Rattle.tta_flow.specs.Laws.{BeginsWith, FlowLaws}
use Rattle.tta_flow.proofs.BlockLemmas.{leads_cases}
use Rattle.tta_flow.proofs.RunLemmas.{two}

-- a branch ends its block
branch_cuts : (steps : List Step) (i j : ℕ) → branches steps i j ≡ true → cuts_at steps i ≡ true
branch_cuts steps i j e = by (slice_get steps i) e where
  one : (s : Step) → option_map_or (λ t. t == j) (target s) false ≡ true → cuts s ≡ true
  one (If rel a b to) e = refl
  one (Goto to) e = refl
  one s e = absurd cc

  by : (o : Option Step) → option_map_or (λ s. option_map_or (λ t. t == j) (target s) false) o false ≡ true → option_map_or cuts o false ≡ true
  by None e = absurd cc
  by (Some s) e = one s e

-- a step that falls on leads to the next
falls_leads : (steps : List Step) (i : ℕ) → option_map_or falls_through (slice_get steps i) false ≡ true → leads steps i (i + 1) ≡ true
falls_leads steps i e = by (slice_get steps i) e where
  by : (o : Option Step) → option_map_or falls_through o false ≡ true → option_map_or (λ s. follows s i (i + 1)) o false ≡ true
  by None e = absurd cc
  by (Some s) e =
      ap (λ b. (b && i + 1 == i + 1) || option_map_or (λ to. to == i + 1) (target s) false) e
      ∙ ap (λ b. b || option_map_or (λ to. to == i + 1) (target s) false) (eq-eqb (i + 1) (i + 1) refl)

module _ (p : Program) (blocks : List Block) (h : IsFlow p blocks) where
  -- a block as one of its procedure
  block_of : (k : ℕ) (b : Block) (q : Proc) → slice_get blocks k ≡ Some b → slice_get p.procs b.owner ≡ Some q → IsBlock q.steps b.first b.last
  block_of k b q is there =
      let r = h.sound k b is in
      subst (λ (s : Proc). IsBlock s.steps b.first b.last) (some_same (sym r.is ∙ there)) r.block

  within : (k : ℕ) (b : Block) → slice_get blocks k ≡ Some b → b.first ≤ b.last
  within k b is = (h.sound k b is).block.within

  -- of two blocks with a step in common none stands before the other
  apart : (j k i : ℕ) (a b : Block) → slice_get blocks j ≡ Some a → slice_get blocks k ≡ Some b → a.owner ≡ b.owner → a.first ≤ i → i ≤ a.last
      → b.first ≤ i → i ≤ b.last → j < k → ⊥
  apart j k i a b ia ib same la ha lb hb less = by (h.rising j k a b less ia ib) where
    by : StandsBefore a b → ⊥
    by (inl o) = absurd (omega arith)
    by (inr o) = let l = o.1 in absurd (omega arith)

  once : (owner i : ℕ) (a b : Holds blocks owner i) → a.at ≡ b.at
  once owner i a b = by (two a.at b.at) where
    by : (a.at < b.at) ⊎ ((a.at ≡ b.at) ⊎ (b.at < a.at)) → a.at ≡ b.at
    by (inl l) = absurd (apart a.at b.at i a.block b.block a.is b.is (a.mine ∙ sym b.mine) a.low a.high b.low b.high l)
    by (inr (inl e)) = e
    by (inr (inr g)) = absurd (apart b.at a.at i b.block a.block b.is a.is (b.mine ∙ sym a.mine) b.low b.high a.low a.high g)

  -- a step with which a block begins, and to which a path leads, is the first of its block
  begins : (owner i : ℕ) (q : Proc) → slice_get p.procs owner ≡ Some q → Reached q.steps i → IsFirst q.steps i → BeginsWith blocks owner i
  begins owner i q there r f =
      let c = h.covers owner i q there r in
      let b = block_of c.at c.block q c.is (ap (slice_get p.procs) c.mine ∙ there) in
      record { at = c.at; block = c.block; is = c.is; mine = c.mine; first = by c b (two c.block.first i) }
    where
      by : (c : Holds blocks owner i) → IsBlock q.steps c.block.first c.block.last
          → (c.block.first < i) ⊎ ((c.block.first ≡ i) ⊎ (i < c.block.first)) → c.block.first ≡ i
      by c b (inl l) = absurd (b.only i l c.high f)
      by c b (inr (inl e)) = e
      by c b (inr (inr g)) = let low = c.low in absurd (omega arith)

  entry : (owner : ℕ) (q : Proc) → slice_get p.procs owner ≡ Some q → BeginsWith blocks owner 0
  entry owner q there =
      let c = h.covers owner 0 q there Begin in
      record { at = c.at; block = c.block; is = c.is; mine = c.mine; first = let low = c.low in omega arith }

  next : (k : ℕ) (b : Block) (q : Proc) (j : ℕ) → slice_get blocks k ≡ Some b → slice_get p.procs b.owner ≡ Some q
      → leads q.steps b.last j ≡ true → BeginsWith blocks b.owner j
  next k b q j is there e =
      let own = block_of k b q is there in
      let last = own.reached b.last own.within (omega arith) in
      let r = Onward b.last j last e in
      begins b.owner j q there r (elim (leads_cases q.steps b.last j e) [
        | inl f ↦ subst (λ (n : ℕ). IsFirst q.steps n) (sym f.1) (own.ends (subst (λ (n : ℕ). Reached q.steps n) f.1 r))
        | inr t ↦ Named b.last j last t
      ])

  falls_on : (k : ℕ) (b : Block) (q : Proc) → slice_get blocks k ≡ Some b → slice_get p.procs b.owner ≡ Some q
      → option_map_or falls_through (slice_get q.steps b.last) false ≡ true
      → (c : Block) × ((slice_get blocks (k + 1) ≡ Some c) × ((c.owner ≡ b.owner) × (c.first ≡ b.last + 1)))
  falls_on k b q is there e =
      let n = next k b q (b.last + 1) is there (falls_leads q.steps b.last e) in
      let at = place n.at n.block n.is n.mine n.first in
      (n.block, (ap (slice_get blocks) (sym at) ∙ n.is, (n.mine, n.first)))
    where
      place : (m : ℕ) (c : Block) → slice_get blocks m ≡ Some c → c.owner ≡ b.owner → c.first ≡ b.last + 1 → m ≡ k + 1
      place m c ic mine first = by (two m (k + 1)) where
        before : (i j : ℕ) (x y : Block) → slice_get blocks i ≡ Some x → slice_get blocks j ≡ Some y → x.owner ≡ y.owner → i < j → x.last < y.first
        before i j x y ix iy same less = two_ways (h.rising i j x y less ix iy) where
          two_ways : StandsBefore x y → x.last < y.first
          two_ways (inl o) = absurd (omega arith)
          two_ways (inr o) = o.1

        -- a block between the two would have no step
        between : (d : Block) → slice_get blocks (k + 1) ≡ Some d → k + 1 < m → ⊥
        between d id less = owners (h.rising k (k + 1) b d (omega arith) is id) (h.rising (k + 1) m d c less id ic) where
          owners : StandsBefore b d → StandsBefore d c → ⊥
          owners (inl o) (inl u) = absurd (omega arith)
          owners (inl o) (inr u) = let s = u.0 in absurd (omega arith)
          owners (inr o) (inl u) = let s = o.0 in absurd (omega arith)
          owners (inr o) (inr u) = let l = o.1 in let g = u.1 in let w = within (k + 1) d id in absurd (omega arith)

        there_is : (o : Option Block) → slice_get blocks (k + 1) ≡ o → k + 1 < m → ⊥
        there_is None f less =
            let w = slice_get_within blocks m c ic in
            let t = some_within blocks (k + 1) (omega arith) in no (sym (ap is_some f) ∙ t) where
              no : false ≡ true → ⊥
              no g = cc
        there_is (Some d) f less = between d f less

        by : (m < k + 1) ⊎ ((m ≡ k + 1) ⊎ (k + 1 < m)) → m ≡ k + 1
        by (inl l) = earlier (two m k) where
          earlier : (m < k) ⊎ ((m ≡ k) ⊎ (k < m)) → m ≡ k + 1
          earlier (inl less) =
              let x = before m k c b ic is mine less in let w = within m c ic in let v = within k b is in absurd (omega arith)
          earlier (inr (inl s)) =
              let same : c ≡ b = some_same (sym ic ∙ ap (slice_get blocks) s ∙ is) in
              let f = ap (λ (x : Block). x.first) same in let w = within k b is in absurd (omega arith)
          earlier (inr (inr g)) = absurd (omega arith)
        by (inr (inl s)) = s
        by (inr (inr g)) = absurd (there_is (slice_get blocks (k + 1)) refl g)

  inside : (k : ℕ) (b : Block) (q : Proc) (i : ℕ) → slice_get blocks k ≡ Some b → slice_get p.procs b.owner ≡ Some q
      → b.first ≤ i → i < b.last → (cuts_at q.steps i ≡ false) × ((j : ℕ) → leads q.steps i j ≡ true → j ≡ i + 1)
  inside k b q i is there low high = (
    uncut (cuts_at q.steps i) refl,
    λ j e. elim (leads_cases q.steps i j e) [
      | inl f ↦ f.1
      | inr t ↦ absurd (cut (branch_cuts q.steps i j t))
    ],
  )
    where
      cut : cuts_at q.steps i ≡ true → ⊥
      cut e = (block_of k b q is there).only (i + 1) (omega arith) (omega arith) (After i e)

      uncut : (t : Bool) → cuts_at q.steps i ≡ t → cuts_at q.steps i ≡ false
      uncut true e = absurd (cut e)
      uncut false e = e

  pub flow_laws_hold : FlowLaws p blocks
  flow_laws_hold = record { once = once; entry = entry; next = next; falls_through = falls_on; inside = inside }
