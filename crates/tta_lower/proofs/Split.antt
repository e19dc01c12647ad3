-- The blocks of each procedure, and the parts that they become.
use Rattle.std.proofs.Common.{◌≡◌, ◌≢◌, ◌⊎◌, inl, inr, ◌<◌, ◌≤◌, ◌+◌, ◌-◌, ◌==◌, not, ◌++◌, ◌∷◌, [], ℕ, zero, suc, Bool, true, false, List, Some, length, drop, filter, get_or, slice_get, slice_set, refl, sym, ap, ◌∙◌, subst, arith, append_assoc, append-nil, Vec, Global}
use Rattle.std.specs.Prelude.{if◌then◌else◌}
use Rattle.std.specs.List.{flat_map}
use Rattle.std.proofs.lemmas.Bool.{eq-eqb, ne_eqb, cases_eq}
use Rattle.std.proofs.lemmas.List.{drop_more, drop_all, length-set}
use Rattle.std.proofs.lemmas.Option.{slice_get-get_or}
use Rattle.tta_lower.specs.Cited.{Proc, Program}
use Rattle.tta_flow.specs.declared.flow.Block.{Block}
use Rattle.tta_lower.specs.Liveness.{Has}
use Rattle.tta_lower.specs.Lower.{Part, numbers, spans_of, entry_parts, span_parts, proc_parts, parts}
use Rattle.tta_lower.specs.Tables.{row_of, Added, IsSplit}
use Rattle.tta_lower.specs.Laid.{IsSpan}
use Rattle.tta_lower.proofs.Counted.{numbers-more}
use Rattle.tta_lower.proofs.Lists.{In, in-has, has-in, filter-in}

-- one value more before those that pass
filter-by : {A : Type 0} (g : A → Bool) (b : Bool) (x : A) (xs : List A) → g x ≡ b → filter g (x ∷ xs) ≡ (if b then x ∷ [] else []) ++ filter g xs
filter-by g true x xs is = rw is refl
filter-by g false x xs is = rw is refl

-- ---- tables of rows

-- a table with an empty row more
pub row-none : {A : Type 0} (table : List (Vec A Global)) (v : Vec A Global) → v.items ≡ [] → ((o : ℕ) → row_of table o ≡ []) → (o : ℕ) → row_of (table ++ v ∷ []) o ≡ []
row-none [] v is none zero = is
row-none [] v is none (suc o) = refl
row-none (w ∷ table) v is none zero = none 0
row-none (w ∷ table) v is none (suc o) = row-none table v is (λ k. none (suc k)) o

-- the row at a place that is there
pub row-at : {A : Type 0} (table : List (Vec A Global)) (o : ℕ) (v : Vec A Global) → slice_get table o ≡ Some v → row_of table o ≡ v.items
row-at table o v is = rw is refl

-- the row that is read
pub row-read : {A : Type 0} (table : List (Vec A Global)) (o : ℕ) (v : Vec A Global) (row : List A) → o < length table → v ≡ get_or table o v → row ≡ v.items → row ≡ row_of table o
row-read table o v row lt is same = same ∙ sym (row-at table o v (slice_get-get_or table o v lt ∙ ap Some (sym is)))

-- the row that was set
row-set-same : {A : Type 0} (table : List (Vec A Global)) (o : ℕ) (w : Vec A Global) → o < length table → row_of (slice_set table o w) o ≡ w.items
row-set-same [] o w lt = absurd (omega (arith, lt))
row-set-same (v ∷ table) zero w lt = refl
row-set-same (v ∷ table) (suc o) w lt = row-set-same table o w (omega (arith, lt))

-- a row that was not set
row-set-other : {A : Type 0} (table : List (Vec A Global)) (i k : ℕ) (w : Vec A Global) → i ≢ k → row_of (slice_set table i w) k ≡ row_of table k
row-set-other [] i k w ne = refl
row-set-other (v ∷ table) zero zero w ne = absurd (ne refl)
row-set-other (v ∷ table) zero (suc k) w ne = refl
row-set-other (v ∷ table) (suc i) zero w ne = refl
row-set-other (v ∷ table) (suc i) (suc k) w ne = row-set-other table i k w (λ e. ne (ap suc e))

-- ---- blocks that are put to their procedures

-- a block that was put to its procedure
pub added-one : (b : Block) (table made : List (Vec Block Global)) (was now : Vec Block Global) → b.owner < length table → was ≡ get_or table b.owner was
    → now.items ≡ was.items ++ b ∷ [] → made ≡ slice_set table b.owner now → Added b table made
added-one b table made was now below read grown set = record {
  size = ap length set ∙ length-set table b.owner now;
  rows = λ o lt. ap (λ t. row_of t o) set ∙ by o (cases_eq b.owner o);
} where
  here : row_of table b.owner ≡ was.items
  here = row-at table b.owner was (slice_get-get_or table b.owner was below ∙ ap Some (sym read))

  by : (o : ℕ) → (b.owner ≡ o) ⊎ (b.owner ≢ o) → row_of (slice_set table b.owner now) o ≡ row_of table o ++ (if b.owner == o then b ∷ [] else [])
  by o (inl e) =
      ap (row_of (slice_set table b.owner now)) (sym e) ∙ row-set-same table b.owner now below ∙ grown
      ∙ ap (λ l. l ++ b ∷ []) (sym here) ∙ ap (λ k. row_of table k ++ b ∷ []) e ∙ rw (eq-eqb b.owner o e) refl
  by o (inr ne) = row-set-other table b.owner o now ne ∙ rw (ne_eqb b.owner o ne) (sym (append-nil (row_of table o)))

-- some blocks are still to be put
pub record IsSplitTo (procs : ℕ) (blocks : List Block) (i : ℕ) (table : List (Vec Block Global)) : Type 0 where
  pub size : length table ≡ procs
  pub rows : (o : ℕ) → o < procs → row_of table o ++ spans_of (drop i blocks) o ≡ spans_of blocks o

-- no block was put yet
pub split-none : (procs : ℕ) (blocks : List Block) (table : List (Vec Block Global)) → IsSplit procs [] table → IsSplitTo procs blocks 0 table
split-none procs blocks table is = record {
  size = is.size;
  rows = λ o lt. ap (λ l. l ++ spans_of blocks o) (is.rows o lt);
}

-- one block more was put
pub split-more : (procs : ℕ) (blocks : List Block) (i : ℕ) (table made : List (Vec Block Global)) (b : Block) → i < length blocks → b ≡ get_or blocks i b
    → Added b table made → IsSplitTo procs blocks i table → IsSplitTo procs blocks (i + 1) made
split-more procs blocks i table made b lt is added to = record {
  size = added.size ∙ to.size;
  rows = λ o small.
      let cut : drop i blocks ≡ b ∷ drop (i + 1) blocks = drop_more blocks i b lt ∙ ap (λ x. x ∷ drop (i + 1) blocks) (sym is) in
      let here : o < length table = omega (arith, small, to.size) in
      let rest = spans_of (drop (i + 1) blocks) o in
      ap (λ l. l ++ rest) (added.rows o here)
      ∙ append_assoc (row_of table o) (if b.owner == o then b ∷ [] else []) rest
      ∙ ap (λ l. row_of table o ++ l) (sym (ap (λ l. spans_of l o) cut ∙ filter-by (λ c. c.owner == o) (b.owner == o) b (drop (i + 1) blocks) refl))
      ∙ to.rows o small;
}

-- all blocks were put
pub split-all : (procs : ℕ) (blocks : List Block) (i : ℕ) (table : List (Vec Block Global)) → length blocks ≤ i → IsSplitTo procs blocks i table → IsSplit procs blocks table
split-all procs blocks i table past to = record {
  size = to.size;
  rows = λ o lt.
      sym (append-nil (row_of table o))
      ∙ ap (λ l. row_of table o ++ spans_of l o) (sym (drop_all i blocks past))
      ∙ to.rows o lt;
}

-- the steps of the blocks of a procedure are there
pub row-spans : (p : Program) (procs : ℕ) (all : List Block) (table : List (Vec Block Global)) (o : ℕ) (row : List Block) → ((b : Block) → Has all b → IsSpan p b) → IsSplit procs all table
    → o < procs → row ≡ row_of table o → (b : Block) → Has row b → IsSpan p b
row-spans p procs all table o row are is lt same b has =
    let there : In b (spans_of all o) = subst (λ l. In b l) (same ∙ is.rows o lt) (has-in row has.0 b has.1) in
    are b (in-has all b (filter-in (λ c. c.owner == o) all b there).0)

-- ---- the parts of the other procedures

module _ (p : Program) (blocks : List Block) (live_first : (owner x : ℕ) → Bool) where
  -- the parts of the procedures from one on, but main
  abbrev pub others_from : ℕ → List Part
  others_from o = flat_map (proc_parts p blocks live_first) (filter (λ k. not (k == p.main)) (numbers o (length p.procs - o)))

  -- one procedure before the others, but main
  by-main : (t : Bool) (o : ℕ) (rest : List ℕ) → flat_map (proc_parts p blocks live_first) ((if not t then o ∷ [] else []) ++ rest)
      ≡ (if t then [] else proc_parts p blocks live_first o) ++ flat_map (proc_parts p blocks live_first) rest
  by-main true o rest = refl
  by-main false o rest = refl

  -- the parts of one procedure more
  pub others-more : (o : ℕ) (row : List Block) (made into : List Part) → o < length p.procs → row ≡ spans_of blocks o
      → made ≡ into ++ (if o == p.main then [] else entry_parts p [] live_first o ++ flat_map (span_parts p) row)
      → made ++ others_from (o + 1) ≡ into ++ others_from o
  others-more o row made into lt same is =
      let rest = filter (λ k. not (k == p.main)) (numbers (o + 1) (length p.procs - (o + 1))) in
      let one = if o == p.main then [] else proc_parts p blocks live_first o in
      ap (λ l. l ++ others_from (o + 1)) (is ∙ ap (λ l. into ++ (if o == p.main then [] else entry_parts p [] live_first o ++ flat_map (span_parts p) l)) same)
      ∙ append_assoc into one (others_from (o + 1))
      ∙ ap (λ l. into ++ l) (sym (
      ap (λ l. flat_map (proc_parts p blocks live_first) (filter (λ k. not (k == p.main)) l)) (numbers-more o (length p.procs) lt)
      ∙ ap (flat_map (proc_parts p blocks live_first)) (filter-by (λ k. not (k == p.main)) (not (o == p.main)) o (numbers (o + 1) (length p.procs - (o + 1))) refl)
      ∙ by-main (o == p.main) o rest))

  -- no procedure is left
  pub others-none : (o : ℕ) (into all : List Part) → length p.procs ≤ o → into ++ others_from o ≡ all → into ≡ all
  others-none o into all past is =
      let none : length p.procs - o ≡ 0 = omega (arith, past) in
      sym (append-nil into)
      ∙ ap (λ n. into ++ flat_map (proc_parts p blocks live_first) (filter (λ k. not (k == p.main)) (numbers o n))) (sym none) ∙ is

  -- main's parts come first
  pub main-first : (main : ℕ) (row : List Block) (made start : List Part) → main ≡ p.main → start ≡ [] → row ≡ spans_of blocks main
      → made ≡ start ++ (entry_parts p [] live_first main ++ flat_map (span_parts p) row) → made ++ others_from 0 ≡ parts p blocks live_first
  main-first main row made start e none same is =
      let z : length p.procs - 0 ≡ length p.procs = omega arith in
      ap (λ l. l ++ others_from 0) (
      is
      ∙ ap (λ s. s ++ (entry_parts p [] live_first main ++ flat_map (span_parts p) row)) none
      ∙ ap (λ l. entry_parts p [] live_first main ++ flat_map (span_parts p) l) same
      ∙ ap (λ o. entry_parts p [] live_first o ++ flat_map (span_parts p) (spans_of blocks o)) e)
      ∙ rw z refl

-- ---- rows of numbers

-- the first procedures have their rows
pub record HasRoomTo (p : Program) (count : ℕ) (rows : List (Vec ℕ Global)) : Type 0 where
  pub size : length rows ≡ count
  pub each : (o : ℕ) (q : Proc) → o < count → slice_get p.procs o ≡ Some q → length (row_of rows o) ≡ length q.steps
