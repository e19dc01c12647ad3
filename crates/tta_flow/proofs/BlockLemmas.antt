-- The blocks of a procedure are the runs of the steps that were reached; the blocks of a program.
use Rattle.std.proofs.Common.{◌≡◌, ℕ, zero, suc, ◌+◌, ◌<◌, ◌≤◌, Bool, true, false, List, [], ◌∷◌, ◌++◌, length, get_or, Option, Some, None, refl, sym, ◌∙◌, ap, subst, arith, ◌⊎◌, inl, inr}
use Rattle.std.specs.Prelude.{◌&&◌, ◌==◌, slice_get}
use Rattle.std.specs.Option.{option_map_or}
use Rattle.std.proofs.lemmas.Option.{slice_get_within, slice_get_read}
use Rattle.std.proofs.lemmas.Bool.{eqb-true, or_cases, ltb-true}
use Rattle.tta_list.proofs.Tests.{and_left, and_right, some_same}
use Rattle.tta_list.proofs.Lists.{list_all_one, all_one, slice_get-longer, slice_get-back}
use Rattle.tta_flow.specs.Cited.{Step, If, Goto, End, Proc, Program, is_step, is_src, ends_once, IsProc, IsProgram}
use Rattle.tta_flow.specs.declared.flow.Block.{Block}
use Rattle.tta_flow.specs.Steps.{falls_through, target, follows, leads, branches}
use Rattle.tta_flow.specs.Paths.{Reached, Begin, Onward, IsClosed}
use Rattle.tta_flow.specs.Blocks.{IsFirst, AtBegin, Named, IsBlock, AreBlocks, Holds, IsBlockOf, IsFlow, StandsBefore}
use Rattle.tta_flow.specs.Runs.{AreEntered, IsRun, AreRuns}
use Rattle.tta_flow.proofs.RunLemmas.{runs_apart, open_at, run_from}

-- ---- the steps of a procedure

not_empty : (steps : List Step) → ends_once steps ≡ true → 0 < length steps
not_empty [] ends = absurd cc
not_empty (s ∷ steps) ends = omega arith

-- the last step does not fall on
falls_within : (steps : List Step) (i : ℕ) → ends_once steps ≡ true → option_map_or falls_through (slice_get steps i) false ≡ true → i + 1 < length steps
falls_within [] i ends e = absurd cc
falls_within (End ∷ []) zero ends e = absurd cc
falls_within (End ∷ []) (suc i) ends e = absurd cc
falls_within (End ∷ t ∷ steps) i ends e = absurd cc
falls_within (s ∷ steps) zero ends e = let n = not_empty steps ends in omega arith
falls_within (s ∷ steps) (suc i) ends e = let n = falls_within steps i ends e in omega arith

target_within : (p : Program) (q : Proc) (s : Step) (k : ℕ) → is_step p q s ≡ true → option_map_or (λ to. to == k) (target s) false ≡ true
    → k < length q.steps
target_within p q (If rel a b to) k ok e =
    let same = eqb-true to k e in
    let below = ltb-true to (length q.steps) (and_right (is_src q.vars a && is_src q.vars b) _ ok) in
    omega arith
target_within p q (Goto to) k ok e =
    let same = eqb-true to k e in
    let below = ltb-true to (length q.steps) ok in
    omega arith
target_within p q s k ok e = absurd cc

-- a step is followed by the next one where it falls on, or by the one that it names
pub leads_cases : (steps : List Step) (i j : ℕ) → leads steps i j ≡ true
    → ((option_map_or falls_through (slice_get steps i) false ≡ true) × (j ≡ i + 1)) ⊎ (branches steps i j ≡ true)
leads_cases steps i j e = by (slice_get steps i) e where
  by : (o : Option Step) → option_map_or (λ s. follows s i j) o false ≡ true
      → ((option_map_or falls_through o false ≡ true) × (j ≡ i + 1)) ⊎ (option_map_or (λ s. option_map_or (λ t. t == j) (target s) false) o false ≡ true)
  by None e = absurd cc
  by (Some s) e = elim (or_cases (falls_through s && i + 1 == j) _ e) [
    | inl f ↦ inl (and_left (falls_through s) _ f, sym (eqb-true (i + 1) j (and_right (falls_through s) _ f)))
    | inr t ↦ inr t
  ]

pub closed_of : (p : Program) (q : Proc) → IsProc p q → IsClosed q.steps
closed_of p q h = record {
  some = not_empty q.steps h.ends;
  within = λ i j e. elim (leads_cases q.steps i j e) [
    | inl f ↦ let w = falls_within q.steps i h.ends f.0 in let n = f.1 in omega arith
    | inr t ↦ named i j (slice_get q.steps i) refl t
  ];
} where
  named : (i j : ℕ) (o : Option Step) → slice_get q.steps i ≡ o
      → option_map_or (λ s. option_map_or (λ t. t == j) (target s) false) o false ≡ true → j < length q.steps
  named i j None is t = absurd cc
  named i j (Some s) is t = target_within p q s j (list_all_one (is_step p q) q.steps i s h.steps is) t

-- ---- runs and blocks

module _ (steps : List Step) (closed : IsClosed steps) (seen first : ℕ → Bool)
    (seen_sound : (k : ℕ) → seen k ≡ true → Reached steps k) (seen_whole : (k : ℕ) → Reached steps k → seen k ≡ true)
    (first_sound : (k : ℕ) → k < length steps → first k ≡ true → IsFirst steps k)
    (first_whole : (k : ℕ) → k < length steps → IsFirst steps k → first k ≡ true) where
  pub reached_within : (k : ℕ) → Reached steps k → k < length steps
  reached_within _ Begin = closed.some
  reached_within _ (Onward i j r e) = closed.within i j e

  no : {A : Type 0} → (b : Bool) → b ≡ true → b ≡ false → A
  no b t f = absurd cc

  pub entered : AreEntered seen first
  entered i s f = by i s f (seen_sound i s) where
    by : (i : ℕ) → seen i ≡ true → first i ≡ false → Reached steps i → (k : ℕ) × ((i ≡ k + 1) × (seen k ≡ true))
    by _ s f Begin = no (first 0) (first_whole 0 closed.some AtBegin) f
    by _ s f (Onward k i r e) = elim (leads_cases steps k i e) [
      | inl n ↦ (k, (n.1, seen_whole k r))
      | inr t ↦ no (first i) (first_whole i (closed.within k i e) (Named k i r t)) f
    ]

  block_run : (a b : ℕ) → IsBlock steps a b → IsRun seen first a b
  block_run a b h = record {
    within = h.within;
    reached = λ i low high. seen_whole i (h.reached i low high);
    begins = first_whole a (reached_within a (h.reached a (omega arith) h.within)) h.begins;
    only = λ i low high. by i low high (first i) refl;
    ends = λ s. let r = seen_sound (b + 1) s in first_whole (b + 1) (reached_within (b + 1) r) (h.ends r);
  } where
    by : (i : ℕ) → a < i → i ≤ b → (t : Bool) → first i ≡ t → first i ≡ false
    by i low high true e = absurd (h.only i low high (first_sound i (reached_within i (h.reached i (omega arith) high)) e))
    by i low high false e = e

  run_block : (a b : ℕ) → IsRun seen first a b → IsBlock steps a b
  run_block a b h = record {
    within = h.within;
    reached = λ i low high. seen_sound i (h.reached i low high);
    begins = first_sound a (reached_within a (seen_sound a (h.reached a (omega arith) h.within))) h.begins;
    only = λ i low high f. no (first i) (first_whole i (reached_within i (seen_sound i (h.reached i (omega arith) high))) f) (h.only i low high);
    ends = λ r. first_sound (b + 1) (reached_within (b + 1) r) (h.ends (seen_whole (b + 1) r));
  }

  pub blocks_are : (owner : ℕ) (blocks : List Block) → AreRuns owner seen first (length steps) blocks → AreBlocks owner steps blocks
  blocks_are owner blocks h = record {
    sound = λ k b e. let s = h.sound k b e in (s.0, run_block b.first b.last s.1);
    whole = λ from to r. h.whole from to (reached_within to (r.reached to r.within (omega arith))) (block_run from to r);
    rising = λ j k a b less e f.
        runs_apart seen first a.first a.last b.first b.last (h.sound j a e).1 (h.sound k b f).1 (h.rising j k a b less e f);
    covers = λ i r.
        let small = reached_within i r in
        let o = open_at seen first entered (i + 1) i (omega arith) (seen_whole i r) in
        let t = run_from seen first (length steps) o.0 i (λ k far. unseen k (omega arith)) o.1 in
        let w = h.whole o.0 t.0 (reached_within t.0 (seen_sound t.0 (t.1.1.reached t.0 t.1.1.within (omega arith)))) t.1.1 in
        record { at = w.0; block = record { owner = owner; first = o.0; last = t.0 }; is = w.1; mine = refl; low = o.1.within; high = t.1.0 };
  } where
    unseen : (k : ℕ) → length steps ≤ k → seen k ≡ false
    unseen k far = by (seen k) refl where
      by : (b : Bool) → seen k ≡ b → seen k ≡ false
      by true e = let w = reached_within k (seen_sound k e) in absurd (omega arith)
      by false e = e

-- ---- the blocks of the procedures below a number

pub record IsFlowTo (p : Program) (n : ℕ) (blocks : List Block) : Type 0 where
  pub sound : (k : ℕ) (b : Block) → slice_get blocks k ≡ Some b → (b.owner < n) × IsBlockOf p b
  pub whole : (b : Block) → b.owner < n → IsBlockOf p b → (k : ℕ) × (slice_get blocks k ≡ Some b)
  pub rising : (j k : ℕ) (a b : Block) → j < k → slice_get blocks j ≡ Some a → slice_get blocks k ≡ Some b → StandsBefore a b
  pub covers : (owner i : ℕ) (q : Proc) → owner < n → slice_get p.procs owner ≡ Some q → Reached q.steps i → Holds blocks owner i

pub flow_none : (p : Program) → IsFlowTo p 0 []
flow_none p = record {
  sound = λ k b e. absurd cc;
  whole = λ b small r. absurd (omega arith);
  rising = λ j k a b less e f. absurd cc;
  covers = λ owner i r small e f. absurd (omega arith);
}

-- a block of two lists is one of the first or of the second
either : (xs ys : List Block) (k : ℕ) (b : Block) → slice_get (xs ++ ys) k ≡ Some b
    → (slice_get xs k ≡ Some b) ⊎ ((j : ℕ) × ((k ≡ length xs + j) × (slice_get ys j ≡ Some b)))
either [] ys k b e = inr (k, (omega arith, e))
either (x ∷ xs) ys zero b e = inl e
either (x ∷ xs) ys (suc k) b e = elim (either xs ys k b e) [
  | inl f ↦ inl f
  | inr f ↦ let at = f.1.0 in inr (f.0, (omega arith, f.1.1))
]

pub flow_more : (p : Program) (n : ℕ) (q : Proc) (blocks more : List Block) → slice_get p.procs n ≡ Some q → IsFlowTo p n blocks
    → AreBlocks n q.steps more → IsFlowTo p (n + 1) (blocks ++ more)
flow_more p n q blocks more is h m = record {
  sound = λ k b e. sound b (either blocks more k b e);
  whole = λ b small r. whole b r (last b small);
  rising = λ j k a b less e f. rising j k a b less (either blocks more j a e) (either blocks more k b f);
  covers = λ owner i r small e reach. covers owner i r e reach (last_owner owner small);
} where
  last_owner : (owner : ℕ) → owner < n + 1 → (owner < n) ⊎ (owner ≡ n)
  last_owner owner small = grind arith

  covers : (owner i : ℕ) (r : Proc) → slice_get p.procs owner ≡ Some r → Reached r.steps i → (owner < n) ⊎ (owner ≡ n) → Holds (blocks ++ more) owner i
  covers owner i r e reach (inl less) =
      let w = h.covers owner i r less e reach in
      record { at = w.at; block = w.block; is = slice_get-longer blocks more w.at w.block w.is; mine = w.mine; low = w.low; high = w.high }
  covers owner i r e reach (inr s) =
      let same : r ≡ q = some_same (sym e ∙ ap (slice_get p.procs) s ∙ is) in
      let w = m.covers i (subst (λ (x : Proc). Reached x.steps i) same reach) in
      record { at = length blocks + w.at; block = w.block; is = slice_get-back blocks more w.at ∙ w.is; mine = w.mine ∙ sym s; low = w.low; high = w.high }

  mine : (b : Block) (j : ℕ) → slice_get more j ≡ Some b → (b.owner ≡ n) × IsBlockOf p b
  mine b j e =
      let s = m.sound j b e in
      (s.0, record { proc = q; is = ap (slice_get p.procs) s.0 ∙ is; block = s.1 })

  sound : (b : Block) {k : ℕ} → (slice_get blocks k ≡ Some b) ⊎ ((j : ℕ) × ((k ≡ length blocks + j) × (slice_get more j ≡ Some b)))
      → (b.owner < n + 1) × IsBlockOf p b
  sound b {k = k} (inl e) = let s = h.sound k b e in let l = s.0 in (omega arith, s.1)
  sound b (inr e) = let s = mine b e.0 e.1.1 in let l = s.0 in (omega arith, s.1)

  last : (b : Block) → b.owner < n + 1 → (b.owner < n) ⊎ (b.owner ≡ n)
  last b small = grind arith

  whole : (b : Block) → IsBlockOf p b → (b.owner < n) ⊎ (b.owner ≡ n) → (k : ℕ) × (slice_get (blocks ++ more) k ≡ Some b)
  whole b r (inl l) = let w = h.whole b l r in (w.0, slice_get-longer blocks more w.0 b w.1)
  whole b r (inr e) =
      let same : r.proc ≡ q = some_same (sym r.is ∙ ap (slice_get p.procs) e ∙ is) in
      let w = m.whole b.first b.last (subst (λ (x : Proc). IsBlock x.steps b.first b.last) same r.block) in (
        length blocks + w.0,
        slice_get-back blocks more w.0 ∙ w.1
            ∙ ap (λ (o : ℕ). Some (record { owner = o; first = b.first; last = b.last })) (sym e),
      )

  rising : (j k : ℕ) (a b : Block) → j < k
      → (slice_get blocks j ≡ Some a) ⊎ ((i : ℕ) × ((j ≡ length blocks + i) × (slice_get more i ≡ Some a)))
      → (slice_get blocks k ≡ Some b) ⊎ ((i : ℕ) × ((k ≡ length blocks + i) × (slice_get more i ≡ Some b)))
      → StandsBefore a b
  rising j k a b less (inl e) (inl f) = h.rising j k a b less e f
  rising j k a b less (inl e) (inr f) =
      let s = h.sound j a e in let t = mine b f.0 f.1.1 in let x = s.0 in let y = t.0 in inl (omega arith)
  rising j k a b less (inr e) (inl f) = let w = slice_get_within blocks k b f in let at = e.1.0 in absurd (omega arith)
  rising j k a b less (inr e) (inr f) =
      let s = mine a e.0 e.1.1 in let t = mine b f.0 f.1.1 in
      let before : e.0 < f.0 = (let x = e.1.0 in let y = f.1.0 in omega arith) in
      inr (s.0 ∙ sym t.0, m.rising e.0 f.0 a b before e.1.1 f.1.1)

pub flow_all : (p : Program) (n : ℕ) (blocks : List Block) → length p.procs ≤ n → IsFlowTo p n blocks → IsFlow p blocks
flow_all p n blocks all h = record {
  sound = λ k b e. (h.sound k b e).1;
  whole = λ b r. let w = slice_get_within p.procs b.owner r.proc r.is in h.whole b (omega arith) r;
  rising = h.rising;
  covers = λ owner i q is reach. let w = slice_get_within p.procs owner q is in h.covers owner i q (omega arith) is reach;
}

-- a procedure of a program
pub proc_of : (p : Program) (k : ℕ) (q : Proc) → IsProgram p → k < length p.procs → q ≡ get_or p.procs k q → IsProc p q
proc_of p k q h below is = all_one (IsProc p) p.procs k q h.procs (slice_get_read p.procs (length p.procs) k q refl below is)
