-- How the calls that are kept change with a call and its end.
use Rattle.std.proofs.Common.{◌≡◌, ◌≢◌, ◌<◌, ◌≤◌, ℕ, zero, suc, true, false, eqb, inl, inr, List, [], ◌∷◌, ◌++◌, length, map, reverse, get_or, set, refl, ap, sym, ◌∙◌, subst, arith}
use Rattle.std.specs.Prelude.{◌||◌}
use Rattle.std.specs.List.{AllByRecursion, IsDistinct, list_any}
use Rattle.std.proofs.lemmas.List.{get_or-set_same, get_or-set_other, length-map, length-reverse, reverse-append}
use Rattle.std.proofs.lemmas.Map.Keys.{IsDistinct-cons, IsDistinct-head, IsDistinct-tail}
use Rattle.std.proofs.lemmas.Map.Steps.{length-le_from_distinct_below}
use Rattle.std.proofs.lemmas.Bool.Decides.{eqb_tells}
use Rattle.tta_tacrun.specs.Calls.{IsFresh, frame_of, calls_of, kept_procs, AreKept}
use Rattle.tta_tacrun.specs.declared.entry.Entry.{Entry}

-- ---- lists

pub reverse_push : {A : Type 0} (xs : List A) (x : A) → reverse (xs ++ x ∷ []) ≡ x ∷ reverse xs
reverse_push xs x = reverse-append xs (x ∷ [])

-- the length of an element, where the lengths are a list
pub length_at : (vs : List (List ℕ)) (i : ℕ) → get_or (map length vs) i 0 ≡ length (get_or vs i [])
length_at [] i = refl
length_at (v ∷ vs) zero = refl
length_at (v ∷ vs) (suc i) = length_at vs i

-- an element gives way to one as long
pub lengths_set : (vs : List (List ℕ)) (i : ℕ) (w : List ℕ) → length w ≡ length (get_or vs i []) → map length (set vs i w) ≡ map length vs
lengths_set [] i w same = refl
lengths_set (v ∷ vs) zero w same = ap (λ n. n ∷ map length vs) same
lengths_set (v ∷ vs) (suc i) w same = ap (λ ns. length v ∷ ns) (lengths_set vs i w same)

-- ---- frames

-- other variables change none of these frames
pub frames_apart : (vs : List (List ℕ)) (i : ℕ) (w : List ℕ) (es : List Entry)
    → AllByRecursion (λ proc. eqb i proc ≡ false) (map (λ e. e.proc) es)
    → map (frame_of (set vs i w)) es ≡ map (frame_of vs) es
frames_apart vs i w [] apart = refl
frames_apart vs i w (e ∷ es) apart =
    let other : e.proc ≢ i = elim (eqb_tells i e.proc) [ inl same ↦ cc (same.0, apart.0) | inr different ↦ λ same. different.1 (sym same) ] in
    rw (get_or-set_other vs i e.proc w [] other, frames_apart vs i w es apart.1) refl

-- ---- what is kept

below_all : (n : ℕ) (xs : List ℕ) (q : ℕ) → AllByRecursion (λ x. x < n) xs → list_any (eqb q) xs ≡ true → q < n
below_all n [] q within among = cc
below_all n (x ∷ xs) q within among =
    elim (eqb q x) as (λ b. eqb q x ≡ b → (b || list_any (eqb q) xs) ≡ true → q < n) [
      | true ↦ λ same any. elim (eqb_tells q x) [ inl equal ↦ rw equal.1 within.0 | inr different ↦ cc (different.0, same) ]
      | false ↦ λ other any. below_all n xs q within.1 any
    ] refl among

-- there is room for one more caller
pub has_room : (vs : List (List ℕ)) (top : Entry) (callers : List Entry) (capacity : ℕ)
    → AreKept vs top callers capacity → length callers < capacity
has_room vs top callers capacity kept =
    let few = length-le_from_distinct_below (kept_procs top callers) (length vs) kept.distinct (λ q among. below_all (length vs) (kept_procs top callers) q kept.within among) in
    let all : length (kept_procs top callers) ≡ suc (length callers) = ap suc (length-map (reverse callers) (λ e. e.proc) ∙ length-reverse callers) in
    omega (arith, few, all, kept.room)

-- ---- a write of variables, a call and its end

all_below : (n m : ℕ) (xs : List ℕ) → n ≤ m → AllByRecursion (λ x. x < n) xs → AllByRecursion (λ x. x < m) xs
all_below n m [] up within = within
all_below n m (x ∷ xs) up within = (omega (arith, within.0), all_below n m xs up within.1)

pub kept_enter : (vs new_vs : List (List ℕ)) (top new : Entry) (callers more : List Entry) (capacity new_capacity : ℕ)
    → length new_vs ≡ length vs → more ≡ callers ++ top ∷ [] → new_capacity ≡ capacity
    → new.proc < length vs → AllByRecursion (λ proc. eqb new.proc proc ≡ false) (kept_procs top callers)
    → AreKept vs top callers capacity → AreKept new_vs new more new_capacity
kept_enter vs new_vs top new callers more capacity new_capacity same_size pushed same_capacity there fresh kept =
    let procs : kept_procs new more ≡ new.proc ∷ kept_procs top callers =
    ap (λ es. new.proc ∷ map (λ e. e.proc) es) (ap reverse pushed ∙ reverse_push callers top) in
    let up : length vs ≤ length new_vs = omega (arith, same_size) in
    let within = all_below (length vs) (length new_vs) (new.proc ∷ kept_procs top callers) up (there, kept.within) in
    record {
      distinct = rw procs (IsDistinct-cons eqb new.proc (kept_procs top callers) fresh kept.distinct);
      within = subst (λ ps. AllByRecursion (λ proc. proc < length new_vs) ps) (sym procs) within;
      room = omega (arith, kept.room, same_size, same_capacity);
    }

pub kept_leave : (vs : List (List ℕ)) (top caller : Entry) (callers fewer : List Entry) (capacity new_capacity : ℕ)
    → callers ≡ fewer ++ caller ∷ [] → new_capacity ≡ capacity
    → AreKept vs top callers capacity → AreKept vs caller fewer new_capacity
kept_leave vs top caller callers fewer capacity new_capacity popped same_capacity kept =
    let procs : kept_procs top callers ≡ top.proc ∷ kept_procs caller fewer =
    ap (λ es. top.proc ∷ map (λ e. e.proc) es) (ap reverse popped ∙ reverse_push fewer caller) in
    let distinct = rw procs at kept.distinct in
    let within = subst (λ ps. AllByRecursion (λ proc. proc < length vs) ps) procs kept.within in
    record {
      distinct = IsDistinct-tail eqb top.proc (kept_procs caller fewer) distinct;
      within = within.1;
      room = omega (arith, kept.room, same_capacity);
    }

-- the call that a run begins with
pub kept_first : (vs : List (List ℕ)) (first : Entry) (callers : List Entry) (capacity : ℕ)
    → callers ≡ [] → first.proc < length vs → length vs ≤ capacity → AreKept vs first callers capacity
unfolding IsDistinct
kept_first vs first callers capacity none there room =
    rw none (let kept : AreKept vs first [] capacity = record { distinct = (tt, tt); within = (there, tt); room = room } in kept)

-- ---- the calls

-- the innermost call goes on with other variables
pub calls_set : (vs : List (List ℕ)) (top : Entry) (callers : List Entry) (capacity at : ℕ) (vars : List ℕ)
    → AreKept vs top callers capacity → length vars ≡ length (get_or vs top.proc [])
    → calls_of (set vs top.proc vars) (record { proc = top.proc; at = at }) callers
    ≡ record { sizes = map length vs; top = record { proc = top.proc; at = at; vars = vars }; below = map (frame_of vs) (reverse callers) }
calls_set vs top callers capacity at vars kept same =
    let apart = IsDistinct-head eqb top.proc (map (λ e. e.proc) (reverse callers)) kept.distinct in
    rw (lengths_set vs top.proc vars same, get_or-set_same vs top.proc vars [] kept.within.0, frames_apart vs top.proc vars (reverse callers) apart) refl

-- a procedure that is not under way is called
pub calls_enter : (vs : List (List ℕ)) (top : Entry) (callers : List Entry) (callee : ℕ) (vars : List ℕ)
    → callee < length vs → AllByRecursion (λ proc. eqb callee proc ≡ false) (kept_procs top callers)
    → length vars ≡ length (get_or vs callee [])
    → calls_of (set vs callee vars) (record { proc = callee; at = 0 }) (callers ++ top ∷ [])
    ≡ record {
      sizes = map length vs;
      top = record { proc = callee; at = 0; vars = vars };
      below = frame_of vs top ∷ map (frame_of vs) (reverse callers);
    }
calls_enter vs top callers callee vars there fresh same =
    rw (reverse_push callers top, lengths_set vs callee vars same, get_or-set_same vs callee vars [] there) (
    ap
    (λ frames. record { sizes = map length vs; top = record { proc = callee; at = 0; vars = vars }; below = frames })
    (frames_apart vs callee vars (top ∷ reverse callers) fresh))

-- the procedures that are under way, as they are kept
pub kept_procs_of : (vs : List (List ℕ)) (es : List Entry) → map (λ f. f.proc) (map (frame_of vs) es) ≡ map (λ e. e.proc) es
kept_procs_of vs [] = refl
kept_procs_of vs (e ∷ es) = ap (λ ps. e.proc ∷ ps) (kept_procs_of vs es)

pub kept_fresh : (vs : List (List ℕ)) (top : Entry) (callers : List Entry) (callee : ℕ)
    → IsFresh callee (calls_of vs top callers) → AllByRecursion (λ proc. eqb callee proc ≡ false) (kept_procs top callers)
kept_fresh vs top callers callee fresh =
    subst (λ ps. AllByRecursion (λ proc. eqb callee proc ≡ false) ps) (kept_procs_of vs (top ∷ reverse callers)) fresh
