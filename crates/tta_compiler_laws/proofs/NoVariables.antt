-- A program of constants has no interval of any variable, so its homes are the same for any number of home registers.
use Rattle.std.proofs.Common.{◌≡◌, ◌<◌, ◌⊎◌, inl, inr, ℕ, zero, suc, Bool, true, false, List, [], ◌∷◌, Some, refl, sym, ap, ◌∙◌, arith, slice_get}
use Rattle.tta_compiler_laws.specs.Cited.{Var, Step, End, Proc, DataLine, only_constants, alone, reads_at, assigns_at, LiveBefore, ReadHere, ReadLater, Interval, Home, Slot, Homes, Counts, IsParam, IsLiveAtEntry, IsRead, IsAssigned, IsLiveBefore, IsLiveAfter, AreTaken, scan, count_of, home_of, SlotsAsScanned, AreAllottedOf}
use Rattle.tta_program.specs.declared.operand.Src.TheVariants.{Word}
use Rattle.tta_program.specs.declared.step.Step.TheVariants.{Put, Halt}
use Rattle.tta_alloc.specs.declared.home.Home.TheVariants.{Reg}

none_read : (steps : List Step) → only_constants steps ≡ true → (i x : ℕ) → reads_at steps i x ≡ false
none_read (Put (Word w) ∷ steps) only zero x = refl
none_read (Put (Word w) ∷ steps) only (suc i) x = none_read steps only i x
none_read (Halt ∷ steps) only zero x = refl
none_read (Halt ∷ steps) only (suc i) x = none_read steps only i x
none_read (End ∷ []) only zero x = refl
none_read (End ∷ []) only (suc i) x = refl
none_read (Put (Var y) ∷ steps) only i x = absurd cc
none_read (End ∷ s ∷ steps) only i x = absurd cc
none_read [] only i x = absurd cc
none_read (s ∷ steps) only i x = absurd cc

none_assigned : (steps : List Step) → only_constants steps ≡ true → (i x : ℕ) → assigns_at steps i x ≡ false
none_assigned (Put (Word w) ∷ steps) only zero x = refl
none_assigned (Put (Word w) ∷ steps) only (suc i) x = none_assigned steps only i x
none_assigned (Halt ∷ steps) only zero x = refl
none_assigned (Halt ∷ steps) only (suc i) x = none_assigned steps only i x
none_assigned (End ∷ []) only zero x = refl
none_assigned (End ∷ []) only (suc i) x = refl
none_assigned (Put (Var y) ∷ steps) only i x = absurd cc
none_assigned (End ∷ s ∷ steps) only i x = absurd cc
none_assigned [] only i x = absurd cc
none_assigned (s ∷ steps) only i x = absurd cc

not_both : (b : Bool) → b ≡ false → b ≡ true → ⊥
not_both b no_ yes_ = cc

-- no variable is live
none_live : (steps : List Step) → only_constants steps ≡ true → (x at : ℕ) → LiveBefore steps x at → ⊥
none_live steps only x _ (ReadHere i e) = not_both (reads_at steps i x) (none_read steps only i x) e
none_live steps only x _ (ReadLater i j free e l) = none_live steps only x j l

-- no position counts
none_counts : (q : Proc) → q.params ≡ 0 → only_constants q.steps ≡ true → (x at : ℕ) → Counts q x at → ⊥
none_counts q params only x _ (IsParam lt) = omega (arith, lt, params)
none_counts q params only x _ (IsLiveAtEntry l) = none_live q.steps only x 0 l
none_counts q params only x _ (IsRead i r e) = not_both (reads_at q.steps i x) (none_read q.steps only i x) e
none_counts q params only x _ (IsAssigned i r e) = not_both (assigns_at q.steps i x) (none_assigned q.steps only i x) e
none_counts q params only x _ (IsLiveBefore i r l) = none_live q.steps only x i l
none_counts q params only x _ (IsLiveAfter i r l) = none_live q.steps only x l.next l.live

none_taken : (q : Proc) → q.params ≡ 0 → only_constants q.steps ≡ true → (taken : List Interval) → AreTaken q taken → taken ≡ []
none_taken q params only [] are = refl
none_taken q params only (iv ∷ taken) are = absurd (none_counts q params only iv.var iv.start (are.sound 0 iv refl).interval.first)

-- homes without home registers are homes with any number of them
any_homes : (q : Proc) → q.params ≡ 0 → only_constants q.steps ≡ true → (answer : List Home) (homes : ℕ) → AreAllottedOf q 0 answer → AreAllottedOf q homes answer
any_homes q params only answer homes is = record {
  each = is.each;
  law = record {
    apart = λ x y a b c d at sx sy other i j la ha lc hc e. none_counts q params only x a i.first;
    slots = λ x a b small i free e. absurd (none_counts q params only x a i.first);
    meet = λ x y at sx sy other cx cy e. none_counts q params only x at cx;
    kept = is.law.kept;
    range = λ x home e. range (is.law.range x home e);
  };
  first = is.first;
  scanned = record {
    taken = is.scanned.taken;
    are = is.scanned.are;
    is = is.scanned.is ∙ ap (scan 0 q.vars) none ∙ sym (ap (scan homes q.vars) none);
  };
  slots = is.slots;
} where
  none : is.scanned.taken ≡ []
  none = none_taken q params only is.scanned.taken is.scanned.are

  range : {x : ℕ} {home : Home} → (home ≡ Slot x) ⊎ ((k : ℕ) × ((k < 0) × (home ≡ Reg k))) → (home ≡ Slot x) ⊎ ((k : ℕ) × ((k < homes) × (home ≡ Reg k)))
  range (inl s) = inl s
  range (inr k) = let l = k.1.0 in absurd (omega arith)

-- so the homes are right for any number of home registers
allotted_alone : (q : Proc) (init : List DataLine) → q.params ≡ 0 → only_constants q.steps ≡ true → (h : Homes) (homes : ℕ) → SlotsAsScanned (alone q init) 0 h
    → SlotsAsScanned (alone q init) homes (record h { count = homes })
unfolding count_of home_of
allotted_alone q init params only h homes is = record {
  count = refl;
  allotted = λ owner r e. of owner r e (is.allotted owner r e);
} where
  of : (owner : ℕ) (r : Proc) → slice_get (q ∷ []) owner ≡ Some r
      → (answer : List Home) × (AreAllottedOf r 0 answer × ((x : ℕ) → x < r.vars → slice_get answer x ≡ Some (home_of h owner x)))
      → (answer : List Home) × (AreAllottedOf r homes answer × ((x : ℕ) → x < r.vars → slice_get answer x ≡ Some (home_of (record h { count = homes }) owner x)))
  of zero r e s =
      let same : q ≡ r = cc in
      let still : r.params ≡ 0 = ap (λ (p : Proc). p.params) (sym same) ∙ params in
      let puts : only_constants r.steps ≡ true = ap (λ (p : Proc). only_constants p.steps) (sym same) ∙ only in
      (s.0, (any_homes r still puts s.0 homes s.1.0, s.1.1))
  of (suc owner) r e s = absurd cc

pub any_allotted : (q : Proc) (init : List DataLine) → q.params ≡ 0 → only_constants q.steps ≡ true → (h : Homes) (homes : ℕ) → SlotsAsScanned (alone q init) 0 h
    → (k : Homes) × SlotsAsScanned (alone q init) homes k
any_allotted q init params only h homes is = (record h { count = homes }, allotted_alone q init params only h homes is)
