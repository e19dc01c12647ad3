-- A part stands in one place alone: at its number.
use Rattle.std.proofs.Common.{◌≡◌, ◌<◌, ◌≤◌, ◌+◌, ◌-◌, ◌==◌, not, ◌++◌, ◌∷◌, [], ℕ, zero, suc, Bool, List, Option, Some, None, true, false, length, filter, slice_get, refl, sym, ap, ap₂, ◌∙◌, subst, arith, ◌⊎◌, inl, inr, length-append}
use Rattle.std.specs.Prelude.{if◌then◌else◌}
use Rattle.std.specs.List.{flat_map}
use Rattle.std.proofs.lemmas.Bool.{eq-eqb, ne_eqb, eqb-true, cases_lt, lt-ltb, le-ltb, false≢true, not-true}
use Rattle.tta_list.proofs.Lists.{slice_get-back, slice_get-front}
use Rattle.tta_lower.specs.Cited.{Step, Program, step_at}
use Rattle.tta_program.specs.declared.step.Step.TheVariants.{Invoke}
use Rattle.tta_lower.specs.Liveness.{Block}
use Rattle.tta_lower.specs.Lower.{numbers, code_order, spans_of, Entry, Steps, return_after, span_parts, entry_parts, has_entry, proc_parts, parts, procs_before, spans_before, entry_number, number_of, EndsBefore, InOrder}
use Rattle.tta_lower.specs.Members.{In, Rises}
use Rattle.tta_lower.specs.Tables.{StandOnce}
use Rattle.tta_lower.proofs.Lists.{filter-in}
use Rattle.tta_lower.proofs.Staying.{rising-filter}

-- where a value of a flat list comes from
record Cut {A B : Type 0} (f : A → List B) (xs : List A) (k : ℕ) (y : B) : Type 0 where
  prefix : List A
  from : A
  back : List A
  split : xs ≡ prefix ++ from ∷ back
  at : ℕ
  place : k ≡ length (flat_map f prefix) + at
  there : slice_get (f from) at ≡ Some y

-- a value of a flat list has its place in one of them
cut-of : {A B : Type 0} (f : A → List B) (xs : List A) (k : ℕ) (y : B) → slice_get (flat_map f xs) k ≡ Some y → Cut f xs k y
cut-of f [] k y is = cc
cut-of {A = A} {B = B} f (x ∷ xs) k y is = by (cases_lt k (length (f x))) (λ j e. cut-of f xs j y e) where
  by : (k < length (f x)) ⊎ (length (f x) ≤ k) → ((j : ℕ) → slice_get (flat_map f xs) j ≡ Some y → Cut f xs j y) → Cut f (x ∷ xs) k y
  by (inl lt) more = record {
    prefix = [];
    from = x;
    back = xs;
    split = refl;
    at = k;
    place = omega arith;
    there = sym (slice_get-front (f x) (flat_map f xs) k lt) ∙ is;
  }
  by (inr ge) more =
      let e : length (f x) + (k - length (f x)) ≡ k = omega (arith, ge) in
      let rest = more (k - length (f x)) (sym (slice_get-back (f x) (flat_map f xs) (k - length (f x))) ∙ ap (slice_get (f x ++ flat_map f xs)) e ∙ is) in
      record {
        prefix = x ∷ rest.prefix;
        from = rest.from;
        back = rest.back;
        split = ap (λ l. x ∷ l) rest.split;
        at = rest.at;
        place = sym e ∙ ap (λ n. length (f x) + n) rest.place ∙ omega (arith, length-append (f x) (flat_map f rest.prefix));
        there = rest.there;
      }

-- what stands after a step is no block of steps
return-none : (b c : Block) (o : Option Step) (i : ℕ) → slice_get (return_after c o) i ≡ Some (Steps b) → ⊥
return-none b c (Some (Invoke (Some d) callee args)) zero is = cc
return-none b c (Some (Invoke (Some d) callee args)) (suc i) is = cc
return-none b c (Some (Invoke None callee args)) i is = cc
return-none b c o i is = cc

-- a block of steps is the first part of its block
steps-at : (p : Program) (b c : Block) (i : ℕ) → slice_get (span_parts p c) i ≡ Some (Steps b) → (i ≡ 0) × (c ≡ b)
steps-at p b c zero is = (refl, same is) where
  same : {x y : Block} → Some (Steps x) ≡ Some (Steps y) → x ≡ y
  same e = cc
steps-at p b c (suc i) is = absurd (return-none b c (step_at p c.owner c.last) i is)

-- what a block becomes is no entry
return-no-entry : (a : ℕ) (c : Block) (o : Option Step) (i : ℕ) → slice_get (return_after c o) i ≡ Some (Entry a) → ⊥
return-no-entry a c (Some (Invoke (Some d) callee args)) zero is = cc
return-no-entry a c (Some (Invoke (Some d) callee args)) (suc i) is = cc
return-no-entry a c (Some (Invoke None callee args)) i is = cc
return-no-entry a c o i is = cc

-- a part of a block is no entry
span-no-entry : (p : Program) (a : ℕ) (c : Block) (i : ℕ) → slice_get (span_parts p c) i ≡ Some (Entry a) → ⊥
span-no-entry p a c zero is = cc
span-no-entry p a c (suc i) is = return-no-entry a c (step_at p c.owner c.last) i is

-- ---- the split that the number counts

-- a number that rises stands once
rises-split : (prefix : List ℕ) (o : ℕ) (back : List ℕ) → Rises (prefix ++ o ∷ back) → In o prefix → ⊥
rises-split [] o back rises is = is
rises-split (x ∷ prefix) o back rises (inl e) =
    let lt = rises.0 o (in-end prefix) in
    omega (arith, lt, e) where
      in-end : (prefix : List ℕ) → In o (prefix ++ o ∷ back)
      in-end [] = inl refl
      in-end (y ∷ prefix) = inr (in-end prefix)
rises-split (x ∷ prefix) o back rises (inr more) = rises-split prefix o back rises.1 more

module _ (p : Program) (blocks : List Block) (live_first : (owner x : ℕ) → Bool) where
  before-is : (prefix : List ℕ) (o : ℕ) (back : List ℕ) → (In o prefix → ⊥) → procs_before p blocks live_first o (prefix ++ o ∷ back) ≡ prefix
  before-is [] o back none = rw (eq-eqb o o refl) refl
  before-is (x ∷ prefix) o back none = rw (ne_eqb x o (λ e. none (inl (sym e)))) (ap (λ l. x ∷ l) (before-is prefix o back (λ is. none (inr is))))

  -- main stands first, and the others rise
  order-once : (prefix : List ℕ) (o : ℕ) (back : List ℕ) → code_order p ≡ prefix ++ o ∷ back → In o prefix → ⊥
  order-once [] o back split is = is
  order-once (x ∷ prefix) o back split is =
      let main : p.main ≡ x = head-same split in
      let rest : filter (λ k. not (k == p.main)) (numbers 0 (length p.procs)) ≡ prefix ++ o ∷ back = tail-same split in
      let other : not (o == p.main) ≡ true = (filter-in (λ k. not (k == p.main)) (numbers 0 (length p.procs)) o (subst (λ l. In o l) (sym rest) (in-end prefix))).1 in
      by is main other rest where
        head-same : {a b : ℕ} {ks js : List ℕ} → a ∷ ks ≡ b ∷ js → a ≡ b
        head-same e = cc

        tail-same : {a b : ℕ} {ks js : List ℕ} → a ∷ ks ≡ b ∷ js → ks ≡ js
        tail-same e = cc

        in-end : (prefix : List ℕ) → In o (prefix ++ o ∷ back)
        in-end [] = inl refl
        in-end (y ∷ prefix) = inr (in-end prefix)

        by : In o (x ∷ prefix) → p.main ≡ x → not (o == p.main) ≡ true → filter (λ k. not (k == p.main)) (numbers 0 (length p.procs)) ≡ prefix ++ o ∷ back → ⊥
        by (inl e) main other rest = false≢true (sym (not-true (o == p.main) other) ∙ eq-eqb o p.main (e ∙ sym main))
        by (inr more) main other rest = rises-split prefix o back (subst Rises rest (rising-filter (λ k. not (k == p.main)) 0 (length p.procs))) more

  -- the blocks before one
  spans-is : (prefix : List Block) (b : Block) (back : List Block) → b.first ≤ b.last → InOrder (prefix ++ b ∷ back) → spans_before p blocks live_first b.first (prefix ++ b ∷ back) ≡ prefix
  spans-is [] b back rises order = rw (le-ltb b.last b.first rises) refl
  spans-is (c ∷ prefix) b back rises order =
      rw (lt-ltb c.last b.first (ends prefix order.0)) (ap (λ l. c ∷ l) (spans-is prefix b back rises order.1)) where
        ends : (prefix : List Block) → EndsBefore c (prefix ++ b ∷ back) → c.last < b.first
        ends [] h = h.0
        ends (d ∷ prefix) h = ends prefix h.1

  -- a block's steps stand at the block's number alone
  pub steps-once : ((owner : ℕ) → InOrder (spans_of blocks owner)) → (k : ℕ) (b : Block) → b.first ≤ b.last → slice_get (parts p blocks live_first) k ≡ Some (Steps b)
      → k ≡ number_of p blocks live_first b.owner b.first
  steps-once order k b rises is = by (cases_lt outer.at (length (entry_parts p blocks live_first outer.from))) where
    outer : Cut (proc_parts p blocks live_first) (code_order p) k (Steps b)
    outer = cut-of (proc_parts p blocks live_first) (code_order p) k (Steps b) is

    no-entry : (t : Bool) (o i : ℕ) → slice_get (if t then Entry o ∷ [] else []) i ≡ Some (Steps b) → ⊥
    no-entry true o zero e = cc
    no-entry true o (suc i) e = cc
    no-entry false o i e = cc

    inner : (j : ℕ) → outer.at ≡ length (entry_parts p blocks live_first outer.from) + j → Cut (span_parts p) (spans_of blocks outer.from) j (Steps b)
        → k ≡ number_of p blocks live_first b.owner b.first
    inner j at c =
        let first = steps-at p b c.from c.at c.there in
        let split : spans_of blocks outer.from ≡ c.prefix ++ b ∷ c.back = c.split ∙ ap (λ x. c.prefix ++ x ∷ c.back) first.1 in
        let mine : b.owner ≡ outer.from = eqb-true b.owner outer.from (filter-in (λ x. x.owner == outer.from) blocks b (subst (λ l. In b l) (sym split) (in-end c.prefix c.back))).1 in
        let spans : spans_before p blocks live_first b.first (spans_of blocks outer.from) ≡ c.prefix =
        ap (spans_before p blocks live_first b.first) split ∙ spans-is c.prefix b c.back rises (subst InOrder split (order outer.from)) in
        let procs : procs_before p blocks live_first outer.from (code_order p) ≡ outer.prefix =
        ap (procs_before p blocks live_first outer.from) outer.split ∙ before-is outer.prefix outer.from outer.back (order-once outer.prefix outer.from outer.back outer.split) in
        let entry = ap (λ l. length (flat_map (proc_parts p blocks live_first) l)) procs in
        let inside = ap (λ l. length (flat_map (span_parts p) l)) spans in
        let owner = ap (λ o. number_of p blocks live_first o b.first) mine in
        omega (arith, outer.place, at, c.place, first.0, entry, inside, owner) where
          in-end : (prefix back : List Block) → In b (prefix ++ b ∷ back)
          in-end [] back = inl refl
          in-end (y ∷ prefix) back = inr (in-end prefix back)

    by : (outer.at < length (entry_parts p blocks live_first outer.from)) ⊎ (length (entry_parts p blocks live_first outer.from) ≤ outer.at) → k ≡ number_of p blocks live_first b.owner b.first
    by (inl lt) =
        absurd (no-entry (has_entry p blocks live_first outer.from) outer.from outer.at
        (sym (slice_get-front (entry_parts p blocks live_first outer.from) (flat_map (span_parts p) (spans_of blocks outer.from)) outer.at lt) ∙ outer.there))
    by (inr ge) =
        let entries = entry_parts p blocks live_first outer.from in
        let e : length entries + (outer.at - length entries) ≡ outer.at = omega (arith, ge) in
        inner (outer.at - length entries) (sym e)
        (cut-of (span_parts p) (spans_of blocks outer.from) (outer.at - length entries) (Steps b)
        (sym (slice_get-back entries (flat_map (span_parts p) (spans_of blocks outer.from)) (outer.at - length entries))
        ∙ ap (slice_get (proc_parts p blocks live_first outer.from)) e ∙ outer.there))

  -- an entry stands at its procedure's number alone
  pub entry-once : (k o : ℕ) → slice_get (parts p blocks live_first) k ≡ Some (Entry o) → k ≡ entry_number p blocks live_first o
  entry-once k o is = by (cases_lt outer.at (length (entry_parts p blocks live_first outer.from))) where
    outer : Cut (proc_parts p blocks live_first) (code_order p) k (Entry o)
    outer = cut-of (proc_parts p blocks live_first) (code_order p) k (Entry o) is

    entry-at : (t : Bool) (a i : ℕ) → slice_get (if t then Entry a ∷ [] else []) i ≡ Some (Entry o) → (i ≡ 0) × (a ≡ o)
    entry-at true a zero e = (refl, cc)
    entry-at true a (suc i) e = cc
    entry-at false a i e = cc

    by : (outer.at < length (entry_parts p blocks live_first outer.from)) ⊎ (length (entry_parts p blocks live_first outer.from) ≤ outer.at) → k ≡ entry_number p blocks live_first o
    by (inl lt) =
        let entries = entry_parts p blocks live_first outer.from in
        let here = entry-at (has_entry p blocks live_first outer.from) outer.from outer.at
        (sym (slice_get-front entries (flat_map (span_parts p) (spans_of blocks outer.from)) outer.at lt) ∙ outer.there) in
        let procs : procs_before p blocks live_first outer.from (code_order p) ≡ outer.prefix =
        ap (procs_before p blocks live_first outer.from) outer.split ∙ before-is outer.prefix outer.from outer.back (order-once outer.prefix outer.from outer.back outer.split) in
        let entry = ap (λ l. length (flat_map (proc_parts p blocks live_first) l)) procs in
        let owner = ap (λ a. entry_number p blocks live_first a) here.1 in
        omega (arith, outer.place, here.0, entry, owner)
    by (inr ge) =
        let entries = entry_parts p blocks live_first outer.from in
        let e : length entries + (outer.at - length entries) ≡ outer.at = omega (arith, ge) in
        let c = cut-of (span_parts p) (spans_of blocks outer.from) (outer.at - length entries) (Entry o)
        (sym (slice_get-back entries (flat_map (span_parts p) (spans_of blocks outer.from)) (outer.at - length entries))
        ∙ ap (slice_get (proc_parts p blocks live_first outer.from)) e ∙ outer.there) in
        absurd (span-no-entry p o c.from c.at c.there)

  -- so blocks of steps and entries stand once
  pub stand-once : ((owner : ℕ) → InOrder (spans_of blocks owner)) → ((k : ℕ) (b : Block) → slice_get (parts p blocks live_first) k ≡ Some (Steps b) → b.first ≤ b.last)
      → StandOnce (parts p blocks live_first)
  stand-once order rises = record {
    steps = λ j k b c here there owner first.
        steps-once order j b (rises j b here) here
        ∙ ap₂ (λ o i. number_of p blocks live_first o i) owner first
        ∙ sym (steps-once order k c (rises k c there) there);
    entries = λ j k o here there. entry-once j o here ∙ sym (entry-once k o there);
  }
