-- A program that only outputs constants and halts becomes one block.
use Rattle.std.proofs.Common.{◌≡◌, ◌≢◌, ◌<◌, ◌≤◌, ◌+◌, ◌-◌, ◌==◌, ◌++◌, ◌∷◌, [], ℕ, zero, suc, Bool, List, Some, true, false, length, map, drop, filter, get_or, slice_get, refl, sym, ap, ◌∙◌, subst, arith, ◌⊎◌, inl, inr, append-nil}
use Rattle.std.specs.List.{list_any}
use Rattle.std.proofs.lemmas.Bool.{eq-eqb, eqb-true, cases_lt, cases_order, and_parts, false≢true, false_from_ne_true}
use Rattle.std.proofs.lemmas.List.{drop_all, drop_more}
use Rattle.tta_lower.specs.Cited.{Var, Step, End, Proc, DataLine, step_at, only_constants, puts, alone, one_block}
use Rattle.tta_program.specs.declared.operand.Src.TheVariants.{Word}
use Rattle.tta_program.specs.declared.step.Step.TheVariants.{Put, Halt}
use Rattle.tta_lir.specs.declared.code.RSrc.TheVariants as rsrc
use Rattle.tta_lir.specs.declared.code.RStep.TheVariants as rstep
use Rattle.tta_lower.specs.Liveness.{LoweringInput, Block, Has, Homes, Reached, First, Then, LiveBefore, Reads, Leads, LiveAfter, After, reads, leads, is_plain}
use Rattle.tta_lower.specs.Layout.{steps_for, code_from}
use Rattle.tta_lower.specs.Lower.{numbers, is_home_of, homes_of, lowered, Answers}
use Rattle.tta_lower.specs.FlowFacts.{names_step, IsFirst, AtBegin, Named, AfterStep, IsRun, AreBlocks}
use Rattle.tta_lower.proofs.Exits.{code_from-more}
use Rattle.tta_lower.proofs.Staying.{any-there}
use Rattle.tta_list.proofs.Tests.{some_same}

-- the step at which such a run ends
ends-there : (steps : List Step) → only_constants steps ≡ true → (slice_get steps (length (puts steps)) ≡ Some Halt) ⊎ (slice_get steps (length (puts steps)) ≡ Some End)
ends-there [] only = cc
ends-there (Put (Word w) ∷ steps) only = ends-there steps only
ends-there (Put (Var x) ∷ steps) only = cc
ends-there (Halt ∷ steps) only = inl refl
ends-there (End ∷ steps) only = inr refl
ends-there (s ∷ steps) only = cc

-- an output before the end is there
puts-there : (steps : List Step) (i : ℕ) → i < length (puts steps) → slice_get steps i ≡ Some (Put (Word (get_or (puts steps) i 0)))
puts-there [] i lt = absurd (omega (arith, lt))
puts-there (Put (Word w) ∷ steps) zero lt = refl
puts-there (Put (Word w) ∷ steps) (suc i) lt = puts-there steps i (omega (arith, lt))
puts-there (Put (Var x) ∷ steps) i lt = absurd (omega (arith, lt))
puts-there (s ∷ steps) i lt = absurd (omega (arith, lt))

module _ (q : Proc) (init : List DataLine) (only : only_constants q.steps ≡ true) where
  -- where the run ends
  abbrev last : ℕ
  last = length (puts q.steps)

  -- the step at a place before the end
  put-at : (i : ℕ) → i < last → step_at (alone q init) 0 i ≡ Some (Put (Word (get_or (puts q.steps) i 0)))
  put-at i lt = puts-there q.steps i lt

  -- what the last step is
  data IsLast (st : Step) : Type 0 where
    IsHalt : st ≡ Halt → IsLast st
    IsEnd : st ≡ End → IsLast st

  -- the last step is Halt or End
  last-is : (st : Step) → step_at (alone q init) 0 last ≡ Some st → IsLast st
  last-is st there = by (ends-there q.steps only) where
    by : (slice_get q.steps (length (puts q.steps)) ≡ Some Halt) ⊎ (slice_get q.steps (length (puts q.steps)) ≡ Some End) → IsLast st
    by (inl e) = IsHalt (some_same (sym there ∙ e))
    by (inr e) = IsEnd (some_same (sym there ∙ e))

  -- the last step leads nowhere
  stops : (st : Step) (at to : ℕ) → IsLast st → leads st at to ≡ true → ⊥
  stops st at to (IsHalt e) goes = false≢true (sym (ap (λ s. leads s at to) e) ∙ goes)
  stops st at to (IsEnd e) goes = false≢true (sym (ap (λ s. leads s at to) e) ∙ goes)

  -- paths stay before the end
  within : (i : ℕ) → Reached (alone q init) 0 i → i ≤ last
  within i (First at is) = omega (arith, is)
  within i (Then from at st before there goes) = by (cases_order from last) (within from before) where
    by : (from ≡ last) ⊎ ((from < last) ⊎ (last < from)) → from ≤ last → at ≤ last
    by (inl e) le = absurd (stops st from at (last-is st (ap (step_at (alone q init) 0) (sym e) ∙ there)) goes)
    by (inr (inl lt)) le =
        let is : st ≡ Put (Word (get_or (puts q.steps) from 0)) = some_same (sym there ∙ put-at from lt) in
        let next : (from + 1 == at) ≡ true = sym (ap (λ s. leads s from at) is) ∙ goes in
        omega (arith, eqb-true (from + 1) at next, lt)
    by (inr (inr gt)) le = absurd (omega (arith, le, gt))

  -- a step before the end leads to the next
  comes : (i : ℕ) → i ≤ last → Reached (alone q init) 0 i
  comes zero le = First 0 refl
  comes (suc i) le =
      Then i (suc i) (Put (Word (get_or (puts q.steps) i 0))) (comes i (omega (arith, le))) (put-at i (omega (arith, le))) (next i) where
        next : (i : ℕ) → (i + 1 == suc i) ≡ true
        next i = eq-eqb (i + 1) (suc i) (omega arith)

  -- no block begins after the first step
  first-alone : (j : ℕ) → IsFirst (alone q init) 0 j → j ≤ last → j ≡ 0
  first-alone j (AtBegin at is) le = is
  first-alone j (Named from to st before there named) le = absurd (by (cases_order from last) (within from before)) where
    by : (from ≡ last) ⊎ ((from < last) ⊎ (last < from)) → from ≤ last → ⊥
    by (inl e) le = none (last-is st (ap (step_at (alone q init) 0) (sym e) ∙ there)) where
      none : IsLast st → ⊥
      none (IsHalt h) = false≢true (sym (ap (λ s. names_step s to) h) ∙ named)
      none (IsEnd h) = false≢true (sym (ap (λ s. names_step s to) h) ∙ named)
    by (inr (inl lt)) le = false≢true (sym (ap (λ s. names_step s to) (some_same (sym there ∙ put-at from lt))) ∙ named)
    by (inr (inr gt)) le = omega (arith, le, gt)
  first-alone j (AfterStep i at st there cuts is) le =
      absurd (false≢true (sym cuts ∙ ap is_plain (some_same (sym there ∙ put-at i (omega (arith, is, le))))))

  -- ---- the one block

  module _ (blocks : List Block) (are : AreBlocks (alone q init) blocks) where
    the-block : (b : Block) → Has blocks b → b ≡ record { owner = 0; first = 0; last = last }
    the-block b has =
        let owner : b.owner ≡ 0 = omega (arith, are.owned b has) in
        let run : IsRun (alone q init) 0 b.first b.last = subst (λ o. IsRun (alone q init) o b.first b.last) owner (are.sound b has) in
        let high = within b.last (run.reached b.last run.within (omega arith)) in
        let first : b.first ≡ 0 = first-alone b.first run.begins (omega (arith, high, run.within)) in
        let end : b.last ≡ last = by b run high (cases_lt b.last last) in
        ap (λ o. record { owner = o; first = b.first; last = b.last }) owner ∙ ap (λ f. record { owner = 0; first = f; last = b.last }) first ∙ ap (λ l. record { owner = 0; first = 0; last = l }) end where
          by : (b : Block) → IsRun (alone q init) 0 b.first b.last → b.last ≤ last → (b.last < last) ⊎ (last ≤ b.last) → b.last ≡ last
          by b run high (inl lt) =
              let zero_first = first-alone (b.last + 1) (run.ends (comes (b.last + 1) (omega (arith, lt)))) (omega (arith, lt)) in
              absurd (omega (arith, zero_first))
          by b run high (inr ge) = omega (arith, high, ge)

    pub one-span : blocks ≡ record { owner = 0; first = 0; last = last } ∷ []
    one-span = by blocks refl where
      some : (l : List Block) → blocks ≡ l → l ≢ []
      some l is none =
          let h = are.covers 0 0 q refl (First 0 refl) in
          no-entry h.has.0 h.block (ap (λ x. slice_get x h.has.0) (sym (is ∙ none)) ∙ h.has.1) where
            no-entry : (k : ℕ) (b : Block) → slice_get [] k ≡ Some b → ⊥
            no-entry k b e = cc

      by : (l : List Block) → blocks ≡ l → blocks ≡ record { owner = 0; first = 0; last = last } ∷ []
      by [] is = absurd (some [] is refl)
      by (b ∷ []) is = is ∙ ap (λ x. x ∷ []) (the-block b (0, ap (λ l. slice_get l 0) is))
      by (b ∷ c ∷ cs) is =
          let before = are.rising 0 1 b c (omega arith) (ap (λ l. slice_get l 0) is) (ap (λ l. slice_get l 1) is) in
          let is_b = the-block b (0, ap (λ l. slice_get l 0) is) in
          let is_c = the-block c (1, ap (λ l. slice_get l 1) is) in
          absurd (apart (ap (λ x. x.owner) is_b) (ap (λ x. x.owner) is_c) (ap (λ x. x.first) is_c) before) where
            apart : b.owner ≡ 0 → c.owner ≡ 0 → c.first ≡ 0 → (b.owner < c.owner) ⊎ ((b.owner ≡ c.owner) × (b.last < c.first)) → ⊥
            apart ob oc fc (inl lt) = omega (arith, ob, oc, lt)
            apart ob oc fc (inr both) = omega (arith, fc, both.1)

    -- ---- nothing is live

    not-live : (x i : ℕ) → LiveBefore (alone q init) 0 x i → i ≤ last → ⊥
    not-live x i (Reads at st there read) le = by (cases_order at last) where
      by : (at ≡ last) ⊎ ((at < last) ⊎ (last < at)) → ⊥
      by (inl e) = none (last-is st (ap (step_at (alone q init) 0) (sym e) ∙ there)) where
        none : IsLast st → ⊥
        none (IsHalt h) = false≢true (sym (ap (λ s. reads s x) h) ∙ read)
        none (IsEnd h) = false≢true (sym (ap (λ s. reads s x) h) ∙ read)
      by (inr (inl lt)) = false≢true (sym (ap (λ s. reads s x) (some_same (sym there ∙ put-at at lt))) ∙ read)
      by (inr (inr gt)) = omega (arith, le, gt)
    not-live x i (Leads at to st there other goes live) le =
        not-live x to live (within to (Then at to st (comes at le) there goes))

  -- what the steps become
  puts-code : (home : Homes) (n i : ℕ) → i + n ≡ last → code_from (alone q init) home 0 i n ≡ map (λ w. rstep.Put (rsrc.Word w)) (drop i (puts q.steps))
  puts-code home zero i e = ap (map (λ w. rstep.Put (rsrc.Word w))) (sym (drop_all i (puts q.steps) (omega (arith, e))))
  puts-code home (suc n) i e =
      let there = put-at i (omega (arith, e)) in
      let rest = puts-code home n (i + 1) (omega (arith, e)) in
      let more = drop_more (puts q.steps) i 0 (omega (arith, e)) in
      rw (there, more) (ap (λ l. rstep.Put (rsrc.Word (get_or (puts q.steps) i 0)) ∷ l) rest)

  -- ---- the code

  -- none passes
  filter-none : (t : ℕ → Bool) (xs : List ℕ) → ((x : ℕ) → t x ≡ true → ⊥) → filter t xs ≡ []
  filter-none t [] none = refl
  filter-none t (x ∷ xs) none = rw (false_from_ne_true (t x) (none x)) (filter-none t xs none)

  -- the block
  abbrev span : Block
  span = record { owner = 0; first = 0; last = last }

  module _ (known : LoweringInput) (homes : ℕ) (are : AreBlocks (alone q init) known.blocks) (answers : Answers (alone q init) known homes) where
    -- the same with other blocks
    abbrev over : List Block → LoweringInput
    over blocks = record { blocks = blocks; home = known.home; first = known.first; after = known.after }

    no-entry : list_any (known.first 0) (numbers 0 q.vars) ≡ false
    no-entry = false_from_ne_true (list_any (known.first 0) (numbers 0 q.vars)) (λ any.
        let a = any-there (known.first 0) (numbers 0 q.vars) any in
        not-live known.blocks are a.0 0 (answers.first_only 0 a.0 a.2) (omega arith))

    has-span : Has known.blocks span
    has-span = (0, ap (λ l. slice_get l 0) (one-span known.blocks are))

    none-after : (x : ℕ) → known.after 0 last x ≡ true → ⊥
    none-after x alive = by (answers.after_only span has-span x alive) where
      by : LiveAfter (alone q init) 0 x last → ⊥
      by (After to st there goes live) = stops st last to (last-is st there) goes

    none-stay : homes_of (alone q init) (over (span ∷ [])) homes 0 (known.after 0 last) ≡ []
    none-stay = filter-none (λ k. list_any (is_home_of (alone q init) (over (span ∷ [])) homes 0 (known.after 0 last) k) (numbers 0 q.vars)) (numbers 0 homes)
        (λ k any.
        let a = any-there (is_home_of (alone q init) (over (span ∷ [])) homes 0 (known.after 0 last) k) (numbers 0 q.vars) any in
        none-after a.0 (and_parts (known.after 0 last a.0) _ a.2).0)

    row : (st : Step) → step_at (alone q init) 0 last ≡ Some st → steps_for (alone q init) known.home 0 st ≡ [] → code_from (alone q init) known.home 0 0 (last + 1 - 0) ≡ map (λ w. rstep.Put (rsrc.Word w)) (puts q.steps)
    row st there nothing =
        let e : last + 1 - 0 ≡ suc last = omega arith in
        let l : 0 + last ≡ last = omega arith in
        ap (code_from (alone q init) known.home 0 0) e
        ∙ code_from-more (alone q init) known.home 0 0 last st (ap (step_at (alone q init) 0) l ∙ there)
        ∙ ap (λ x. code_from (alone q init) known.home 0 0 last ++ (x ++ [])) nothing
        ∙ append-nil (code_from (alone q init) known.home 0 0 last)
        ∙ puts-code known.home last 0 (omega arith)

    by-end : (slice_get q.steps (length (puts q.steps)) ≡ Some Halt) ⊎ (slice_get q.steps (length (puts q.steps)) ≡ Some End)
        → lowered (alone q init) (over (span ∷ [])) homes ≡ record { blocks = one_block (puts q.steps) ∷ [] }
    by-end (inl halt) = rw (no-entry, row Halt halt refl, halt, none-stay) refl
    by-end (inr end) = rw (no-entry, row End end refl, end, none-stay) refl

    -- the code is the one block
    pub one-block : lowered (alone q init) known homes ≡ record { blocks = one_block (puts q.steps) ∷ [] }
    one-block = ap (λ l. lowered (alone q init) (over l) homes) (one-span known.blocks are) ∙ by-end (ends-there q.steps only)
