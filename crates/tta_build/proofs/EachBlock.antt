-- The blocks of a program so far, each with its trail and its placement.
use Rattle.std.proofs.Common.{◌≡◌, ℕ, ◌+◌, List, [], ◌∷◌, ◌++◌, Some, sym, ap, subst, ◌∙◌, length, slice_get}
use Rattle.std.proofs.lemmas.List.{length-map, map-append}
use Rattle.tta_build.specs.Cited.{Machine, BlockList, Placed, IsFirstFit}
use Rattle.tta_build.specs.declared.best_candidate.Chosen.{Chosen}
use Rattle.tta_build.specs.declared.trail.Derivation.{Derivation}
use Rattle.tta_build.specs.Candidates.{IsChosen}
use Rattle.tta_build.specs.Derivation.{IsTrail, last_of, lasts_of}
use Rattle.tta_build.specs.Placing.{IsBest}
use Rattle.tta_build.proofs.Along.{Along, along_more}
use Rattle.tta_build.proofs.Placements.{SoFar, one_more, more_count}
use Rattle.tta_build.proofs.Shortest.{both_more}

-- so far the blocks have trails and placements
pub record AreSoFar (m : Machine) (lists : List BlockList) (ts : List Derivation) (ps : List Placed) (n : ℕ) : Type 0 where
  pub trails : length ts ≡ n
  pub placed : length ps ≡ n
  pub each : Along (IsTrail m) lists ts
  pub first : SoFar (λ l p. IsFirstFit m l.items p) (lasts_of ts) ps
  pub chosen : SoFar (IsChosen m) lists ps

-- a relation of the lists to which trails lead, with one trail more
last_more : (R : BlockList → Placed → Type 0) (ts : List Derivation) (ps : List Placed) (t : Derivation) (p : Placed) → length ts ≡ length ps → SoFar R (lasts_of ts) ps
    → R (last_of t) p → SoFar R (lasts_of (ts ++ t ∷ [])) (ps ++ p ∷ [])
last_more R ts ps t p same so r =
    subst (λ (ls : List BlockList). SoFar R ls (ps ++ p ∷ [])) (sym (map-append last_of ts (t ∷ [])))
    (both_more R (lasts_of ts) ps (last_of t) p (sym same ∙ sym (length-map ts last_of)) so r)

-- so they have with one block more
pub block_more : (m : Machine) (lists : List BlockList) (ts us : List Derivation) (ps qs : List Placed) (n : ℕ) (b : BlockList) (r : Chosen)
    → AreSoFar m lists ts ps n → slice_get lists n ≡ Some b → IsBest m b r → us ≡ ts ++ r.trail ∷ [] → qs ≡ ps ++ r.placed ∷ []
    → AreSoFar m lists us qs (n + 1)
block_more m lists ts us ps qs n b r so here is e f =
    let t = r.trail in
    let p = r.placed in
    let same : length ts ≡ length ps = so.trails ∙ sym so.placed in record {
      trails = more_count ts us t n e so.trails;
      placed = more_count ps qs p n f so.placed;
      each = rw e (along_more (IsTrail m) lists ts b t so.each (ap (slice_get lists) so.trails ∙ here) is.trail);
      first = rw (e, f) (last_more (λ l q. IsFirstFit m l.items q) ts ps t p same so.first is.fit);
      chosen = rw f (one_more (IsChosen m) lists ps b p so.chosen (ap (slice_get lists) so.placed ∙ here) is.chosen);
    }
