-- Placements of lists in a row, and the code that is linked from them.
use Rattle.std.proofs.Common.{◌≡◌, ◌+◌, ℕ, zero, suc, ◌++◌, List, [], ◌∷◌, Some, ap, subst, ◌∙◌, length, slice_get}
use Rattle.std.specs.Prelude.{◌<◌, ◌^◌, IfOk, IfErr, Result, Ok, Err}
use Rattle.tta_build.specs.Cited.{Machine, Code, IsLegalCode, BlockList, Placed, IsLinked, total_length, AreFirstFits, AreRoomy}
use Rattle.tta_build.specs.declared.error.BuildError.{BuildError}
use Rattle.tta_build.specs.declared.error.BuildError.TheVariants.{CodeFull, NoMemory}
use Rattle.tta_build.specs.Parts.{IsLinkCause}
use Rattle.tta_list.proofs.Lists.{length_more as push_length}

-- so far the lists have placements for which a relation holds
abbrev pub SoFar : (BlockList → Placed → Type 0) → List BlockList → List Placed → Type 0
SoFar R lists ps = (k : ℕ) (b : BlockList) (p : Placed) → slice_get lists k ≡ Some b → slice_get ps k ≡ Some p → R b p

-- the same with one placement more
pub one_more : (R : BlockList → Placed → Type 0) (lists : List BlockList) (ps : List Placed) (b : BlockList) (p : Placed) → SoFar R lists ps → slice_get lists (length ps) ≡ Some b
    → R b p → SoFar R lists (ps ++ p ∷ [])
one_more R lists [] b p so here r zero c q at is =
    let same : b ≡ c = cc in
    let this : p ≡ q = cc in
    subst (λ (x : Placed). R c x) this (subst (λ (x : BlockList). R x p) same r)
one_more R lists [] b p so here r (suc k) c q at is = absurd cc
one_more R [] (x ∷ ps) b p so here r k c q at is = absurd cc
one_more R (l ∷ lists) (x ∷ ps) b p so here r zero c q at is = so zero c q at is
one_more R (l ∷ lists) (x ∷ ps) b p so here r (suc k) c q at is =
    one_more R lists ps b p (λ j d s e f. so (suc j) d s e f) here r k c q at is

-- one placement more
pub more_count : {A : Type 0} (xs ys : List A) (x : A) (n : ℕ) → ys ≡ xs ++ x ∷ [] → length xs ≡ n → length ys ≡ n + 1
more_count xs ys x n e l = ap length e ∙ push_length xs x ∙ ap (λ (k : ℕ). k + 1) l

-- ---- the code of lists

-- code is that of some lists: legal, and linked from first fits of the lists, which have room
pub record IsCodeOf (m : Machine) (lists : List BlockList) (code : Code) : Type 0 where
  pub placements : List Placed
  pub first : AreFirstFits m lists placements
  pub roomy : AreRoomy m lists placements
  pub linked : IsLinked m code placements
  pub legal : IsLegalCode m code

-- the code of some lists is too long: first fits of the lists, which have room, take these many words, and the machine has
-- fewer addresses
pub record IsTooLong (m : Machine) (lists : List BlockList) (words have : ℕ) : Type 0 where
  pub placements : List Placed
  pub first : AreFirstFits m lists placements
  pub roomy : AreRoomy m lists placements
  pub length : words ≡ total_length placements
  pub addresses : have ≡ 2 ^ m.control.address
  pub more : have < words

-- why lists have no code: it is too long; being out of memory needs no cause
abbrev pub IsListsCause : Machine → List BlockList → BuildError → Type 0
IsListsCause m lists (CodeFull words have) = IsTooLong m lists words have
IsListsCause m lists NoMemory = Unit {0}
IsListsCause m lists e = ⊥

-- what is linked from first fits of lists is the code of the lists
pub is_code : (m : Machine) (lists : List BlockList) (ps qs : List Placed) (r : Result Code BuildError) → AreFirstFits m lists ps → AreRoomy m lists ps → qs ≡ ps
    → IfOk r (λ code. IsLinked m code qs) → IfOk r (λ code. IsLegalCode m code) → IfOk r (λ code. IsCodeOf m lists code)
is_code m lists ps qs (Ok code) fit are same linked legal =
    record { placements = ps; first = fit; roomy = are; linked = subst (λ (l : List Placed). IsLinked m code l) same linked; legal = legal }
is_code m lists ps qs (Err e) fit are same linked legal = tt

-- and why they were not linked is why the lists have none
pub is_cause : (m : Machine) (lists : List BlockList) (ps qs : List Placed) (r : Result Code BuildError) → AreFirstFits m lists ps → AreRoomy m lists ps → qs ≡ ps
    → IfErr r (λ e. IsLinkCause m qs e) → IfErr r (λ e. IsListsCause m lists e)
is_cause m lists ps qs (Ok code) fit are same cause = tt
is_cause m lists ps qs (Err (CodeFull words have)) fit are same cause =
    record { placements = ps; first = fit; roomy = are; length = cause.0 ∙ ap total_length same; addresses = cause.1; more = cause.2 }
is_cause m lists ps qs (Err NoMemory) fit are same cause = tt
is_cause m lists ps qs (Err e) fit are same cause = absurd cause
