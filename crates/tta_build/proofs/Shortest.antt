-- The shortest of some placements, list by list, and the lists whose placements were chosen.
use Rattle.std.proofs.Common.{◌≡◌, ◌<◌, ◌≤◌, ◌⊎◌, inl, inr, ℕ, zero, suc, Bool, true, false, List, [], ◌∷◌, ◌++◌, Some, refl, sym, ap, subst, arith, length, slice_get}
use Rattle.std.specs.Prelude.{if◌then◌else◌, nat_lt}
use Rattle.std.proofs.lemmas.Bool.Decides.{nat_tests}
use Rattle.std.proofs.lemmas.Option.{slice_get_within}
use Rattle.tta_build.specs.Cited.{Machine, BlockList, Placed, Respects, IsFirstFit, HasRoom, AreStandIns, optimised, HasForms, AreFirstFits, AreRoomy}
use Rattle.tta_list.proofs.Lists.{slice_get-push, slice_get-longer, element, item_behind as last_there, length_more as push_length}
use Rattle.tta_build.specs.Candidates.{IsCandidate, IsShortest, IsChosen, AreChosen}
use Rattle.tta_build.specs.declared.best_candidate.Chosen.{Chosen}
use Rattle.tta_build.specs.declared.trail.Derivation.{Derivation}
use Rattle.tta_build.specs.Derivation.{IsTrail, last_of}
use Rattle.tta_build.specs.Placing.{IsFitOf, IsBest}
use Rattle.tta_build.proofs.Trails.{trail_candidate, candidates_more}
use Rattle.tta_build.proofs.Placements.{SoFar}

-- a list with its placement
pub record IsPlacedBy (m : Machine) (l : BlockList) (p : Placed) : Type 0 where
  pub first : IsFirstFit m l.items p
  pub respects : Respects m l.items p
  pub room : HasRoom m l.items p

-- ---- one list more

-- a relation of lists to placements, with one more of both
pub both_more : (R : BlockList → Placed → Type 0) (lists : List BlockList) (ps : List Placed) (b : BlockList) (p : Placed) → length ps ≡ length lists → SoFar R lists ps
    → R b p → SoFar R (lists ++ b ∷ []) (ps ++ p ∷ [])
both_more R lists ps b p same so r k c q at is = by (slice_get-push lists b k c at) (slice_get-push ps p k q is) where
  by : (slice_get lists k ≡ Some c) ⊎ ((k ≡ length lists) × (b ≡ c)) → (slice_get ps k ≡ Some q) ⊎ ((k ≡ length ps) × (p ≡ q)) → R c q
  by (inl e) (inl f) = so k c q e f
  by (inl e) (inr f) = let l = slice_get_within lists k c e in let n = f.0 in absurd (omega arith)
  by (inr e) (inl f) = let l = slice_get_within ps k q f in let n = e.0 in absurd (omega arith)
  by (inr e) (inr f) = subst (λ (x : Placed). R c x) f.1 (subst (λ (x : BlockList). R x p) e.1 r)

fits_more : (m : Machine) (lists : List BlockList) (ps : List Placed) (b : BlockList) (p : Placed) → AreFirstFits m lists ps → IsPlacedBy m b p
    → AreFirstFits m (lists ++ b ∷ []) (ps ++ p ∷ [])
fits_more m lists ps b p are is = record {
  count = let a = push_length ps p in let d = push_length lists b in let c = are.count in omega arith;
  first = both_more (λ l q. IsFirstFit m l.items q) lists ps b p are.count are.first is.first;
}

roomy_more : (m : Machine) (lists : List BlockList) (ps : List Placed) (b : BlockList) (p : Placed) → AreRoomy m lists ps → IsPlacedBy m b p
    → AreRoomy m (lists ++ b ∷ []) (ps ++ p ∷ [])
roomy_more m lists ps b p are is = record {
  respected = record {
    count = let a = push_length ps p in let d = push_length lists b in let c = are.respected.count in omega arith;
    respects = both_more (λ l q. Respects m l.items q) lists ps b p are.respected.count are.respected.respects is.respects;
  };
  room = both_more (λ l q. HasRoom m l.items q) lists ps b p are.respected.count are.room is.room;
}

-- the placement of one list is the shortest
pub shortest_one : (m : Machine) (b : BlockList) (p : Placed) → IsPlacedBy m b p → IsShortest m (b ∷ []) p
shortest_one m b p is = record {
  fits = p ∷ [];
  first = fits_more m [] [] b p (record { count = refl; first = λ k c q e f. absurd cc }) is;
  roomy = roomy_more m [] [] b p (record { respected = record { count = refl; respects = λ k c q e f. absurd cc }; room = λ k c q e f. absurd cc }) is;
  at = 0;
  there = refl;
  before = λ k q low e. absurd (omega (arith, low));
  least = λ k q e. least k q e;
} where
  least : (k : ℕ) (q : Placed) → slice_get (p ∷ []) k ≡ Some q → p.length ≤ q.length
  least zero q e = let same : p ≡ q = cc in let long = ap (λ (x : Placed). x.length) same in omega (arith, long)
  least (suc k) q e = absurd cc

-- with a list more the shorter of two is the shortest, and the one before on a tie
pub shortest_more : (m : Machine) (lists : List BlockList) (b : BlockList) (p q r : Placed) → IsShortest m lists p → IsPlacedBy m b q
    → r ≡ (if nat_lt q.length p.length then q else p) → IsShortest m (lists ++ b ∷ []) r
shortest_more m lists b p q r s is same = by (nat_lt q.length p.length) refl same where
  first : AreFirstFits m (lists ++ b ∷ []) (s.fits ++ q ∷ [])
  first = fits_more m lists s.fits b q s.first is

  roomy : AreRoomy m (lists ++ b ∷ []) (s.fits ++ q ∷ [])
  roomy = roomy_more m lists s.fits b q s.roomy is

  shorter : q.length < p.length → IsShortest m (lists ++ b ∷ []) q
  shorter less = record {
    fits = s.fits ++ q ∷ [];
    first = first;
    roomy = roomy;
    at = length s.fits;
    there = last_there s.fits q;
    before = λ k x low e. old k x (slice_get-push s.fits q k x e) low;
    least = λ k x e. all k x (slice_get-push s.fits q k x e);
  } where
    old : (k : ℕ) (x : Placed) → (slice_get s.fits k ≡ Some x) ⊎ ((k ≡ length s.fits) × (q ≡ x)) → k < length s.fits → q.length < x.length
    old k x (inl e) low = let l = s.least k x e in omega arith
    old k x (inr e) low = let n = e.0 in absurd (omega arith)

    all : (k : ℕ) (x : Placed) → (slice_get s.fits k ≡ Some x) ⊎ ((k ≡ length s.fits) × (q ≡ x)) → q.length ≤ x.length
    all k x (inl e) = let l = s.least k x e in omega arith
    all k x (inr e) = let long = ap (λ (y : Placed). y.length) e.1 in omega arith

  stays : p.length ≤ q.length → IsShortest m (lists ++ b ∷ []) p
  stays more = record {
    fits = s.fits ++ q ∷ [];
    first = first;
    roomy = roomy;
    at = s.at;
    there = slice_get-longer s.fits (q ∷ []) s.at p s.there;
    before = λ k x low e. old k x (slice_get-push s.fits q k x e) low;
    least = λ k x e. all k x (slice_get-push s.fits q k x e);
  } where
    old : (k : ℕ) (x : Placed) → (slice_get s.fits k ≡ Some x) ⊎ ((k ≡ length s.fits) × (q ≡ x)) → k < s.at → p.length < x.length
    old k x (inl e) low = s.before k x low e
    old k x (inr e) low = let n = e.0 in let l = slice_get_within s.fits s.at p s.there in absurd (omega arith)

    all : (k : ℕ) (x : Placed) → (slice_get s.fits k ≡ Some x) ⊎ ((k ≡ length s.fits) × (q ≡ x)) → p.length ≤ x.length
    all k x (inl e) = s.least k x e
    all k x (inr e) = let long = ap (λ (y : Placed). y.length) e.1 in omega arith

  by : (c : Bool) → nat_lt q.length p.length ≡ c → r ≡ (if c then q else p) → IsShortest m (lists ++ b ∷ []) r
  by true e this = let less : q.length < p.length = grind (arith, nat_tests) in subst (λ (x : Placed). IsShortest m (lists ++ b ∷ []) x) (sym this) (shorter less)
  by false e this = let more : p.length ≤ q.length = grind (arith, nat_tests) in subst (λ (x : Placed). IsShortest m (lists ++ b ∷ []) x) (sym this) (stays more)

-- ---- with the trails

-- the placement is a first fit of the list to which the trail leads that is kept
fit_of : (m : Machine) (t : Derivation) (r : Chosen) → IsFitOf m t r → IsFirstFit m (last_of r.trail).items r.placed
fit_of m t r is = subst (λ (x : Derivation). IsFirstFit m (last_of x).items r.placed) (sym is.is) is.first

-- that list is placed so
placed_by : (m : Machine) (t : Derivation) (r : Chosen) → IsFitOf m t r → IsPlacedBy m (last_of t) r.placed
placed_by m t r is = record { first = is.first; respects = is.respects; room = is.room }

-- of a block's list after the passes alone the placement is the best
pub best_one : (m : Machine) (b : BlockList) (t : Derivation) (r : Chosen) → IsTrail m b t → last_of t ≡ optimised m b → IsFitOf m t r → IsBest m b r
best_one m b t r trail plain is = record {
  chosen = record {
    lists = last_of t ∷ [];
    candidates = record { first = ap Some plain; each = one };
    shortest = shortest_one m (last_of t) r.placed (placed_by m t r is);
  };
  trail = subst (IsTrail m b) (sym is.is) trail;
  fit = fit_of m t r is;
} where
  one : (k : ℕ) (l : BlockList) → slice_get (last_of t ∷ []) k ≡ Some l → IsCandidate m b l
  one zero l e = let same : last_of t ≡ l = cc in subst (IsCandidate m b) same (trail_candidate m b t trail)
  one (suc k) l e = absurd cc

-- with a trail more the shorter of two placements is the best, and the one before on a tie
pub best_more : (m : Machine) (b : BlockList) (t : Derivation) (p q r : Chosen) → IsBest m b p → IsTrail m b t → IsFitOf m t q
    → r ≡ (if nat_lt q.placed.length p.placed.length then q else p) → IsBest m b r
best_more m b t p q r best trail is same = by (nat_lt q.placed.length p.placed.length) refl same where
  chosen : (x : Placed) → x ≡ (if nat_lt q.placed.length p.placed.length then q.placed else p.placed) → IsChosen m b x
  chosen x e = record {
    lists = best.chosen.lists ++ last_of t ∷ [];
    candidates = candidates_more m b best.chosen.lists (last_of t) (trail_candidate m b t trail) best.chosen.candidates;
    shortest = shortest_more m best.chosen.lists (last_of t) p.placed q.placed x best.chosen.shortest (placed_by m t q is) e;
  }

  newer : nat_lt q.placed.length p.placed.length ≡ true → IsBest m b q
  newer e = record {
    chosen = chosen q.placed (sym (ap (λ (c : Bool). if c then q.placed else p.placed) e));
    trail = subst (IsTrail m b) (sym is.is) trail;
    fit = fit_of m t q is;
  }

  stays : nat_lt q.placed.length p.placed.length ≡ false → IsBest m b p
  stays e = record {
    chosen = chosen p.placed (sym (ap (λ (c : Bool). if c then q.placed else p.placed) e));
    trail = best.trail;
    fit = best.fit;
  }

  by : (c : Bool) → nat_lt q.placed.length p.placed.length ≡ c → r ≡ (if c then q else p) → IsBest m b r
  by true e this = subst (IsBest m b) (sym this) (newer e)
  by false e this = subst (IsBest m b) (sym this) (stays e)

-- a shorter placement of a trail is the best
pub best_shorter : (m : Machine) (b : BlockList) (t : Derivation) (p q : Chosen) → IsBest m b p → IsTrail m b t → IsFitOf m t q
    → nat_lt q.placed.length p.placed.length ≡ true → IsBest m b q
best_shorter m b t p q best trail is less = best_more m b t p q q best trail is (sym (ap (λ (c : Bool). if c then q else p) less))

-- ---- the lists whose placements were chosen

-- a candidate of a block with its placement
pub record HasList (m : Machine) (b : BlockList) (p : Placed) : Type 0 where
  pub list : BlockList
  pub is : IsCandidate m b list
  pub placed : IsPlacedBy m list p

has_list : (m : Machine) (b : BlockList) (p : Placed) → IsChosen m b p → HasList m b p
has_list m b p c =
    let s = c.shortest in
    let low = slice_get_within s.fits s.at p s.there in
    let count = s.first.count in
    let l = element c.lists s.at (omega arith) in record {
      list = l.0;
      is = c.candidates.each s.at l.0 l.1;
      placed = record {
        first = s.first.first s.at l.0 p l.1 s.there;
        respects = s.roomy.respected.respects s.at l.0 p l.1 s.there;
        room = s.roomy.room s.at l.0 p l.1 s.there;
      };
    }

-- lists that may be placed for those of blocks, in all forms, with their placements
pub record HaveLists (m : Machine) (blocks : List BlockList) (ps : List Placed) : Type 0 where
  pub lists : List BlockList
  pub stand : AreStandIns m blocks lists
  pub forms : (k : ℕ) (l : BlockList) → slice_get lists k ≡ Some l → HasForms m l
  pub first : AreFirstFits m lists ps
  pub roomy : AreRoomy m lists ps

-- so far a relation holds where it holds of the first of both and of the rest
pub one_first : (R : BlockList → Placed → Type 0) (lists : List BlockList) (ps : List Placed) (b : BlockList) (p : Placed) → R b p → SoFar R lists ps
    → SoFar R (b ∷ lists) (p ∷ ps)
one_first R lists ps b p r so zero c q e f =
    let same : b ≡ c = cc in
    let this : p ≡ q = cc in
    subst (λ (x : Placed). R c x) this (subst (λ (x : BlockList). R x p) same r)
one_first R lists ps b p r so (suc k) c q e f = so k c q e f

pub have_lists : (m : Machine) (blocks : List BlockList) (ps : List Placed) → AreChosen m blocks ps → HaveLists m blocks ps
have_lists m [] [] c = record {
  lists = [];
  stand = tt;
  forms = λ k l e. absurd cc;
  first = record { count = refl; first = λ k b p e f. absurd cc };
  roomy = record { respected = record { count = refl; respects = λ k b p e f. absurd cc }; room = λ k b p e f. absurd cc };
}
have_lists m [] (p ∷ ps) c = let n = c.count in absurd (omega arith)
have_lists m (b ∷ blocks) [] c = let n = c.count in absurd (omega arith)
have_lists m (b ∷ blocks) (p ∷ ps) c = on (has_list m b p (c.each 0 b p refl refl)) (have_lists m blocks ps rest) where
  rest : AreChosen m blocks ps
  rest = record { count = let n = c.count in omega arith; each = λ k x q e f. c.each (suc k) x q e f }

  on : HasList m b p → HaveLists m blocks ps → HaveLists m (b ∷ blocks) (p ∷ ps)
  on h r = record {
    lists = h.list ∷ r.lists;
    stand = (h.is.stands, r.stand);
    forms = forms;
    first = record {
      count = ap suc r.first.count;
      first = one_first (λ l q. IsFirstFit m l.items q) r.lists ps h.list p h.placed.first r.first.first;
    };
    roomy = record {
      respected = record {
        count = ap suc r.first.count;
        respects = one_first (λ l q. Respects m l.items q) r.lists ps h.list p h.placed.respects r.roomy.respected.respects;
      };
      room = one_first (λ l q. HasRoom m l.items q) r.lists ps h.list p h.placed.room r.roomy.room;
    };
  } where
    forms : (k : ℕ) (l : BlockList) → slice_get (h.list ∷ r.lists) k ≡ Some l → HasForms m l
    forms zero l e = let same : h.list ≡ l = cc in subst (λ (x : BlockList). HasForms m x) same h.is.forms
    forms (suc k) l e = r.forms k l e
