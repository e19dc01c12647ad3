-- Lemmas of what is written down of steps.
use Rattle.std.proofs.Common.{◌≡◌, ◌<◌, ◌+◌, ◌++◌, ℕ, suc, Bool, List, [], ◌∷◌, Some, true, false, length, get_or, take, refl, sym, ap, ◌∙◌, subst, arith, ◌⊎◌, inl, inr}
use Rattle.std.specs.Prelude.{◌&&◌, if◌then◌else◌, nat_lt, slice_get, slice_index_or}
use Rattle.std.proofs.lemmas.Bool.{cases_lt}
use Rattle.std.proofs.lemmas.Option.{slice_get_read, slice_get_within}
use Rattle.std.proofs.lemmas.List.{length-append}
use Rattle.std.proofs.Math.ListN.{get_or-append}
use Rattle.std.proofs.Math.Seq.{get_or-append_seam, take-suc}
use Rattle.tta_ifconv.specs.Cited.{AllPairs, Step, If, Goto, Proc, Program, IsProgram, IsProc, is_step, is_src}
use Rattle.tta_list.proofs.Lists.{slice_get-back, slice_get-longer, list_all_one, all_one, all_from as all_from_each}
use Rattle.tta_list.proofs.Tests.{and_right}
use Rattle.tta_ifconv.specs.Triangles.{is_target, is_dropped, place}
use Rattle.tta_ifconv.specs.Tables.{AreKept, AreConverted, AreLines, names_within, AreClosed}
use Rattle.tta_ifconv.specs.Converted.{IsConverted, Converted}
use Rattle.tta_ifconv.proofs.Places.{place_next, place_same}

-- a mark for each step, which says whether one of the first steps names it
pub record AreMarked (steps : List Step) (at : ℕ) (marks : List Bool) : Type 0 where
  pub count : length marks ≡ length steps
  pub each : (k : ℕ) → k < length steps → slice_index_or marks k false ≡ is_target (take at steps) k

-- the numbers of the first steps, and the next number
pub record ArePlaced (steps : List Step) (at : ℕ) (places : List ℕ) (number : ℕ) : Type 0 where
  pub count : length places ≡ at
  pub each : (k : ℕ) → k < at → slice_index_or places k 0 ≡ place steps k
  pub next : number ≡ place steps at

-- a place before the next is before this one, or is this one
below_next : (i at : ℕ) → i < at + 1 → (i < at) ⊎ (i ≡ at)
below_next i at less = elim (cases_lt i at) [ inl l ↦ inl l | inr past ↦ inr (omega arith) ]

-- one more number
pub placed_more : (steps : List Step) (at : ℕ) (places new : List ℕ) (number next : ℕ) → ArePlaced steps at places number → new ≡ places ++ number ∷ []
    → next ≡ (if is_dropped steps at then number else suc number) → ArePlaced steps (at + 1) new next
placed_more steps at places new number next h pushed is = record {
  count = ap length pushed ∙ length-append places (number ∷ []) ∙ (let c = h.count in omega arith);
  each = λ k less. ap (λ l. get_or l k 0) pushed ∙ elim (below_next k at less) [
    | inl before ↦ get_or-append places (number ∷ []) 0 k (let c = h.count in omega arith) ∙ h.each k before
    | inr here ↦ ap (λ j. get_or (places ++ number ∷ []) j 0) (let c = h.count in let e : k ≡ length places = omega arith in e) ∙ get_or-append_seam places number [] 0 ∙ h.next ∙ ap (place steps) (sym here)
  ];
  next = is ∙ by (is_dropped steps at) refl;
} where
  by : (b : Bool) → is_dropped steps at ≡ b → (if b then number else suc number) ≡ place steps (at + 1)
  by true drops = h.next ∙ sym (place_same steps at drops)
  by false stays = let e = place_next steps at stays in let n = h.next in omega arith

-- ---- kept items

pub kept_none : {A B : Type 0} (steps : List Step) (made : ℕ → A → B) (items : List A) → AreKept steps made items 0 []
kept_none steps made items = record { count = refl; each = λ i item less there stays. absurd (omega arith) }

-- the item of a step that stays
pub kept_more : {A B : Type 0} (steps : List Step) (made : ℕ → A → B) (items : List A) (at : ℕ) (new more : List B) (one : B) → AreKept steps made items at new
    → is_dropped steps at ≡ false → more ≡ new ++ one ∷ [] → ((item : A) → slice_get items at ≡ Some item → one ≡ made at item) → AreKept steps made items (at + 1) more
kept_more {A} {B} steps made items at new more one h stays pushed is = record {
  count = ap length pushed ∙ length-append new (one ∷ []) ∙ (let c = h.count in let e = place_next steps at stays in omega arith);
  each = λ i item less there keeps. ap (λ l. slice_get l (place steps i)) pushed ∙ each i item there keeps (below_next i at less);
} where
  each : (i : ℕ) (item : A) → slice_get items i ≡ Some item → is_dropped steps i ≡ false → (i < at) ⊎ (i ≡ at) → slice_get (new ++ one ∷ []) (place steps i) ≡ Some (made i item)
  each i item there keeps (inl before) = slice_get-longer new (one ∷ []) (place steps i) (made i item) (h.each i item before there keeps)
  each i item there keeps (inr here) =
      let number : place steps i ≡ length new + 0 = ap (place steps) here ∙ sym h.count ∙ (let e : length new ≡ length new + 0 = omega arith in e) in
      ap (slice_get (new ++ one ∷ [])) number ∙ slice_get-back new (one ∷ []) 0
      ∙ ap Some (is item (sym (ap (slice_get items) here) ∙ there) ∙ ap (λ k. made k item) (sym here))

-- a copy of a triangle has none
pub kept_same : {A B : Type 0} (steps : List Step) (made : ℕ → A → B) (items : List A) (at : ℕ) (new : List B) → AreKept steps made items at new
    → is_dropped steps at ≡ true → AreKept steps made items (at + 1) new
kept_same {A} {B} steps made items at new h drops = record {
  count = h.count ∙ sym (place_same steps at drops);
  each = λ i item less there keeps. each i item there keeps (below_next i at less);
} where
  each : (i : ℕ) (item : A) → slice_get items i ≡ Some item → is_dropped steps i ≡ false → (i < at) ⊎ (i ≡ at) → slice_get new (place steps i) ≡ Some (made i item)
  each i item there keeps (inl before) = h.each i item before there keeps
  each i item there keeps (inr here) = absurd (let e = sym (ap (is_dropped steps) here) ∙ keeps in cc)

-- steps and lines that are kept are those of a converted procedure
pub converted_by : (a : Proc) (steps : List Step) (lines : List ℕ) → length a.lines ≡ length a.steps → AreConverted a.steps (length a.steps) steps → AreLines a.steps a.lines (length a.steps) lines
    → IsConverted a (record { params = a.params; vars = a.vars; steps = steps; lines = lines })
converted_by a steps lines count s l = record {
  params = refl;
  vars = refl;
  count = s.count;
  steps = λ i step there stays. s.each i step (slice_get_within a.steps i step there) there stays;
  line_count = l.count ∙ sym s.count;
  lines = λ i line there stays. l.each i line (let w = slice_get_within a.lines i line there in omega arith) there stays;
}

-- ---- procedures

-- steps of a program name steps that there are
names_closed : (p : Program) (q : Proc) (step : Step) → is_step p q step ≡ true → names_within (length q.steps) step ≡ true
names_closed p q (If rel a b to) ok = and_right (is_src q.vars a && is_src q.vars b) (nat_lt to (length q.steps)) ok
names_closed p q (Goto to) ok = ok
names_closed p q step ok = refl

pub proc_closed : (p : Program) (q : Proc) → IsProc p q → AreClosed q.steps
proc_closed p q r = all_from_each (names_within (length q.steps)) q.steps (λ k step there. names_closed p q step (list_all_one (is_step p q) q.steps k step r.steps there))

-- one pair more
pub pairs_push : (xs ys : List Proc) (x y : Proc) → AllPairs IsConverted xs ys → IsConverted x y → AllPairs IsConverted (xs ++ x ∷ []) (ys ++ y ∷ [])
pairs_push [] [] x y pairs one = (one, tt)
pairs_push [] (b ∷ bs) x y pairs one = absurd pairs
pairs_push (a ∷ xs) [] x y pairs one = absurd pairs
pairs_push (a ∷ xs) (b ∷ ys) x y pairs one = (pairs.0, pairs_push xs ys x y pairs.1 one)

-- a procedure that is read from a program
pub closed_there : (p : Program) (procs : List Proc) (k : ℕ) (q : Proc) → IsProgram p → procs ≡ p.procs → k < length procs → q ≡ get_or procs k q → AreClosed q.steps
closed_there p procs k q rules same below is =
    let there = ap (λ l. slice_get l k) (sym same) ∙ slice_get_read procs (length procs) k q refl below is in
    proc_closed p q (all_one (IsProc p) p.procs k q rules.procs there)

-- one procedure more
pub procs_more : (procs old new more : List Proc) (k : ℕ) (x y : Proc) → AllPairs IsConverted (take k old) new → procs ≡ old → k < length procs → x ≡ get_or procs k x → IsConverted x y → more ≡ new ++ y ∷ []
    → AllPairs IsConverted (take (k + 1) old) more
procs_more procs old new more k x y pairs same below is one pushed =
    let count : k < length old = subst (λ l. k < length l) same below in
    let front : take (k + 1) old ≡ take k old ++ x ∷ [] =
    ap (λ j. take j old) (let e : k + 1 ≡ suc k = omega arith in e) ∙ take-suc old k x count
    ∙ ap (λ z. take k old ++ z ∷ []) (ap (λ l. get_or l k x) (sym same) ∙ sym is) in
    subst (λ l. AllPairs IsConverted l more) (sym front) (subst (λ l. AllPairs IsConverted (take k old ++ x ∷ []) l) (sym pushed) (pairs_push (take k old) new x y pairs one))

-- a program by its parts
pub converted_whole : (inside p : Program) (procs : List Proc) → inside ≡ p → AllPairs IsConverted p.procs procs → Converted inside (record { procs = procs; main = inside.main; init = inside.init })
converted_whole inside p procs view pairs = record { procs = subst (λ (x : Program). AllPairs IsConverted x.procs procs) (sym view) pairs; main = refl; init = refl }
