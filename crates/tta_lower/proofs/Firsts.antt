-- Frames that are laid one after the other.
use Rattle.std.proofs.Common.{◌≡◌, ◌<◌, ◌≤◌, ◌+◌, ◌*◌, ◌^◌, ◌==◌, ◌++◌, ◌∷◌, [], ℕ, zero, suc, Bool, true, false, List, Option, Some, None, is_some, length, slice_get, slice_index, slice_index_or, subst, refl, sym, ap, ◌∙◌, arith, inl, inr}
use Rattle.std.specs.Prelude.{if◌then◌else◌}
use Rattle.std.proofs.lemmas.Bool.{eqb-true, cases_eq}
use Rattle.std.proofs.lemmas.List.{length_push, get_or_append_left, get_or_at}
use Rattle.std.proofs.lemmas.Option.{slice_get-get_or}
use Rattle.tta_list.proofs.Lists.{all_one, some_within}
use Rattle.tta_lower.specs.Cited.{Proc, Program, IsProgram, IsProc, frame_need}
use Rattle.tta_lower.specs.Layout.{vars_of, params_of, own, base, slots_before}
use Rattle.tta_lower.specs.Tables.{AreFirsts}
use Rattle.tta_lower.specs.Laid.{AreLaid}
use Rattle.tta_lower.proofs.Shutting.{main_among, all-slots, main-there}
use Rattle.tta_lower.proofs.Callers.{vars-are}
use Rattle.tta_program.proofs.Mains.{main-below}

-- ---- the need

-- main is one procedure at most
main-passed : (p : Program) (from : ℕ) (qs : List Proc) → p.main < from → main_among p from qs ≡ 0
main-passed p from [] lt = refl
main-passed p from (q ∷ qs) lt = by (from == p.main) refl (main-passed p (from + 1) qs (omega (arith, lt))) where
  by : (b : Bool) → (from == p.main) ≡ b → main_among p (from + 1) qs ≡ 0 → (if b then 2 else 0) + main_among p (from + 1) qs ≡ 0
  by true is rest = let same = eqb-true from p.main is in absurd (omega (arith, same, lt))
  by false is rest = omega (arith, rest)

-- main counts at most once
main-most : (p : Program) (from : ℕ) (qs : List Proc) → main_among p from qs ≤ 2
main-most p from [] = omega arith
main-most p from (q ∷ qs) = by (from == p.main) refl (main-most p (from + 1) qs) where
  by : (b : Bool) → (from == p.main) ≡ b → main_among p (from + 1) qs ≤ 2 → (if b then 2 else 0) + main_among p (from + 1) qs ≤ 2
  by true is rest =
      let same = eqb-true from p.main is in
      let none = main-passed p (from + 1) qs (omega (arith, same)) in
      omega (arith, none)
  by false is rest = omega (arith, rest)

-- the slots of all procedures are the need
pub base-end : (p : Program) → p.main < length p.procs → base p (length p.procs) ≡ frame_need p
unfolding base
base-end p main =
    let last : base p (length p.procs) ≡ slots_before p 0 (length p.procs) p.procs = refl in
    let all = all-slots p 0 p.procs in
    let two = main-there p 0 p.main p.procs main (omega arith) in
    let most = main-most p 0 p.procs in
    omega (arith, last, all, two, most, main)

-- ---- one frame more

-- the slots of one procedure more
before-more : (p : Program) (from k : ℕ) (q : Proc) (qs : List Proc) → slice_get qs k ≡ Some q
    → slots_before p from (suc k) qs ≡ slots_before p from k qs + own p (from + k) + q.vars
before-more p from k q [] is = cc
before-more p from zero q (t ∷ ts) is =
    let same : t ≡ q = cc in
    let vars : t.vars ≡ q.vars = ap (λ x. x.vars) same in
    let zero_more : own p (from + 0) ≡ own p from = ap (own p) (omega arith) in
    let none : slots_before p (from + 1) 0 ts ≡ 0 = refl in
    omega (arith, vars, zero_more, none)
before-more p from (suc k) q (t ∷ ts) is =
    let later = before-more p (from + 1) k q ts is in
    let same : own p (from + 1 + k) ≡ own p (from + suc k) = ap (own p) (omega arith) in
    omega (arith, later, same)

-- the first slot of the next procedure
pub base-more : (p : Program) (o : ℕ) (q : Proc) → slice_get p.procs o ≡ Some q → base p (o + 1) ≡ base p o + own p o + q.vars
unfolding base
base-more p o q is =
    let h = before-more p 0 o q p.procs is in
    let up : o + 1 ≡ suc o = omega arith in
    let one : slots_before p 0 (o + 1) p.procs ≡ slots_before p 0 (suc o) p.procs = ap (λ k. slots_before p 0 k p.procs) up in
    let first : base p o ≡ slots_before p 0 o p.procs = refl in
    let second : base p (o + 1) ≡ slots_before p 0 (o + 1) p.procs = refl in
    let same : own p (0 + o) ≡ own p o = ap (own p) (omega arith) in
    omega (arith, h, first, second, same, one)

-- a procedure has at most two slots of its own
own-few : (p : Program) (o : ℕ) → own p o ≤ 2
own-few p o = by (o == p.main) where
  by : (b : Bool) → (if b then 0 else 2) ≤ 2
  by true = omega arith
  by false = omega arith

-- a procedure that is there
record ProcThere (p : Program) (o : ℕ) : Type 0 where
  pub proc : Proc
  pub is : slice_get p.procs o ≡ Some proc

-- a procedure below their number is there
proc-there : (p : Program) (o : ℕ) → o < length p.procs → ProcThere p o
proc-there p o lt = by (slice_get p.procs o) refl (some_within p.procs o lt) where
  by : (q : Option Proc) → slice_get p.procs o ≡ q → is_some q ≡ true → ProcThere p o
  by None is some = cc
  by (Some q) is some = record { proc = q; is = is }

-- each frame has at most 4,098 slots
pub base-few : (p : Program) (o : ℕ) → IsProgram p → o ≤ length p.procs → base p o ≤ 4098 * o
unfolding base
base-few p zero sound le =
    let none : slots_before p 0 0 p.procs ≡ 0 = refl in
    omega (arith, none)
base-few p (suc o) sound le =
    let here = proc-there p o (omega (arith, le)) in
    let more = base-more p o here.proc here.is in
    let before = base-few p o sound (omega (arith, le)) in
    let vars = (all_one (IsProc p) p.procs o here.proc sound.procs here.is).vars in
    let two = own-few p o in
    let up : suc o ≡ o + 1 = omega arith in
    let e : base p (suc o) ≡ base p (o + 1) = ap (base p) up in
    omega (arith, more, before, vars, two, e)

-- a frame ends below 2^32
pub frame-few : (p : Program) (o : ℕ) (q : Proc) → IsProgram p → slice_get p.procs o ≡ Some q → o < length p.procs → base p o + own p o + q.vars < 2 ^ 32
frame-few p o q sound is lt =
    let before = base-few p o sound (omega (arith, lt)) in
    let lines = sound.lines in
    let vars = (all_one (IsProc p) p.procs o q sound.procs is).vars in
    let two = own-few p o in
    omega (arith, before, lines, vars, two, lt)

-- ---- a row of first slots that grows

-- no frame is laid
pub laid-none : (p : Program) (firsts : List ℕ) (next : ℕ) → firsts ≡ [] → next ≡ 0 → AreLaid p firsts next 0
unfolding base
laid-none p firsts next none is = record {
  size = ap length none;
  free = is;
  are = λ o lt. absurd (omega (arith, lt));
}

-- one frame more is laid
pub laid-more : (p : Program) (firsts made : List ℕ) (next after o : ℕ) (q : Proc) → AreLaid p firsts next o → slice_get p.procs o ≡ Some q
    → made ≡ firsts ++ (next + own p o) ∷ [] → after ≡ next + own p o + q.vars → AreLaid p made after (o + 1)
laid-more p firsts made next after o q laid is grown on = record {
  size = ap length grown ∙ length_push firsts (next + own p o) ∙ omega (arith, laid.size);
  free = omega (arith, on, laid.free, base-more p o q is);
  are = λ k lt. elim (cases_eq k o) as (λ c. slice_index made k ≡ base p k + own p k) [
    | inl e ↦ ap (λ l. slice_index l k) grown ∙ get_or_at firsts (next + own p o) [] 0 k (omega (arith, e, laid.size)) ∙ last k e
    | inr ne ↦ ap (λ l. slice_index l k) grown ∙ get_or_append_left firsts ((next + own p o) ∷ []) 0 k (below k ne lt) ∙ laid.are k (under k ne lt)
  ];
} where
  last : (k : ℕ) → k ≡ o → next + own p o ≡ base p k + own p k
  last k e = ap (λ n. n + own p o) laid.free ∙ ap (λ j. base p j + own p j) (sym e)

  under : (k : ℕ) → (k ≡ o → ⊥) → k < o + 1 → k < o
  under k ne lt = grind arith

  below : (k : ℕ) → (k ≡ o → ⊥) → k < o + 1 → k < length firsts
  below k ne lt = let u = under k ne lt in omega (arith, u, laid.size)

-- all frames are laid
pub are-firsts : (p : Program) (firsts : List ℕ) (next : ℕ) → IsProgram p → AreLaid p firsts next (length p.procs) → AreFirsts p firsts
are-firsts p firsts next sound laid = record {
  size = laid.size;
  are = laid.are;
  room = λ o lt. let here = proc-there p o lt in rw (vars-are p o here.proc here.is) (frame-few p o here.proc sound here.is lt);
}

-- ---- what code sees of a program

-- the procedures that code sees are those of the program
pub record Seen (p : Program) (procs : List Proc) : Type 0 where
  pub sound : IsProgram p
  pub same : procs ≡ p.procs

-- what code sees of a program
pub seen : (x p : Program) (procs : List Proc) → x ≡ p → IsProgram x → procs ≡ x.procs → Seen p procs
seen x p procs is sound same = record { sound = subst IsProgram is sound; same = same ∙ ap (λ y. y.procs) is }

-- a procedure that code reads
pub proc-at : (p : Program) (procs : List Proc) (o : ℕ) (q : Proc) → Seen p procs → o < length procs → q ≡ slice_index_or procs o q
    → slice_get p.procs o ≡ Some q
proc-at p procs o q s lt is = ap (λ l. slice_get l o) (sym s.same) ∙ slice_get-get_or procs o q lt ∙ ap Some (sym is)

-- the next frame has room in a number
pub lay-room : (p : Program) (procs : List Proc) (firsts : List ℕ) (next o : ℕ) (q : Proc) → Seen p procs → AreLaid p firsts next o → o < length procs
    → q ≡ slice_index_or procs o q → next + own p o + q.vars < 2 ^ 32
lay-room p procs firsts next o q s laid lt is =
    let size : length procs ≡ length p.procs = ap length s.same in
    let few = frame-few p o q s.sound (proc-at p procs o q s lt is) (omega (arith, lt, size)) in
    omega (arith, few, laid.free)

-- all frames are laid, and the next slot is the need
pub lay-end : (p : Program) (procs : List Proc) (firsts : List ℕ) (next o : ℕ) → Seen p procs → AreLaid p firsts next o → o ≡ length procs
    → AreFirsts p firsts × (next ≡ frame_need p)
lay-end p procs firsts next o s laid end =
    let size : o ≡ length p.procs = end ∙ ap length s.same in
    let all : AreLaid p firsts next (length p.procs) = subst (λ k. AreLaid p firsts next k) size laid in
    (are-firsts p firsts next s.sound all, all.free ∙ base-end p (main-below p s.sound))

-- the parameters of a procedure that is there
pub params_at : (p : Program) (owner : ℕ) (q : Proc) → slice_get p.procs owner ≡ Some q → q.params ≡ params_of p owner
params_at p owner q is = rw is refl

-- the variables of a procedure that is there
pub vars_at : (p : Program) (owner : ℕ) (q : Proc) → slice_get p.procs owner ≡ Some q → q.vars ≡ vars_of p owner
vars_at p owner q is = rw is refl
