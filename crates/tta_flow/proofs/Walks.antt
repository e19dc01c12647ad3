-- A depth-first walk keeps to the places of steps, and ends.
use Rattle.std.proofs.Common.{◌≡◌, ℕ, ◌+◌, ◌*◌, ◌<◌, ◌≤◌, false, List, [], ◌∷◌, ◌++◌, length, sym, ◌∙◌, ap, subst, arith, length-append}
use Rattle.std.proofs.lemmas.List.Elements.{All-push}
use Rattle.tta_flow.specs.declared.order.Walk.{Walk}
use Rattle.tta_flow.specs.Bits.{has}
use Rattle.tta_flow.specs.Order.{ArePlaces, IsWalk, IsNew, ahead, Comes, GoesOn}
use Rattle.tta_flow.proofs.Searches.{count_le, count_one}

-- a step more is in a list of places
more_places : (places place : ℕ) (old new : List ℕ) → new ≡ old ++ place ∷ [] → place < places → ArePlaces places old → ArePlaces places new
more_places places place old new is there h =
    subst (λ (l : List ℕ). ArePlaces places l) (sym is) (All-push (λ k. k < places) old place h there)

longer : (place : ℕ) (old new : List ℕ) → new ≡ old ++ place ∷ [] → length new ≡ length old + 1
longer place old new is = ap length is ∙ length-append old (place ∷ [])

-- ---- a step is come to

module _ (places place : ℕ) (old new : Walk) (h : IsWalk places old) (there : place < places) (c : Comes place old new) where
  pub comes_walk : IsWalk places new
  comes_walk = record {
    room = let r = h.room in let s = c.room in omega arith;
    path = more_places places place old.path.items new.path.items c.path there h.path;
    left = subst (λ (l : List ℕ). ArePlaces places l) (sym c.left) h.left;
  }

  pub comes_ahead : has old.seen place ≡ false → ahead places new + 1 ≤ ahead places old
  comes_ahead unseen =
      let few = count_le (has new.seen) places in
      let more = count_one (has old.seen) (has new.seen) place places there unseen c.seen in
      let long = longer place old.path.items new.path.items c.path in
      omega arith

-- ---- the walk goes on from a step, or leaves it

pub goes_on : (places at next : ℕ) (old mid new : Walk) → IsWalk places old → at < places → IsNew places old next → mid.seen ≡ old.seen
    → mid.path.items ≡ old.path.items ++ at ∷ [] → mid.left.items ≡ old.left.items → Comes next mid new → GoesOn places old new
goes_on places at next old mid new h there n seen path left c = record {
  walk = comes_walk places next mid new again n.there c;
  ahead =
      let less = comes_ahead places next mid new again n.there c (ap (λ s. has s next) seen ∙ n.unseen) in
      let more = longer_ahead in
      omega arith;
} where
  again : IsWalk places mid
  again = record {
    room = subst (λ s. places ≤ 64 * length s.words.items) (sym seen) h.room;
    path = more_places places at old.path.items mid.path.items path there h.path;
    left = subst (λ (l : List ℕ). ArePlaces places l) (sym left) h.left;
  }

  longer_ahead : ahead places mid ≡ ahead places old + 1
  longer_ahead = let long = longer at old.path.items mid.path.items path in rw seen (omega arith)
