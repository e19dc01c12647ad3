-- What stays from block to block.
use Rattle.std.proofs.Common.{◌≡◌, ℕ, Bool, true, false, List, [], ◌∷◌, Some, refl, ap, subst, arith, ◌∙◌, map}
use Rattle.std.specs.Prelude.{if◌then◌else◌, ◌==◌, ◌||◌, filter}
use Rattle.std.specs.List.{list_any}
use Rattle.std.proofs.lemmas.Bool.Decides.{nat_tests}
use Rattle.tta_select.specs.Cited.{Machine, KeptRa, Written, kept, same_place, Choice, Held, lives, restart, RBlock, State, found, stay, unset}
use Rattle.tta_arch.specs.Effects.{Place}
use Rattle.tta_moves.specs.Meaning.{Exit, Next}
use Rattle.tta_moves.proofs.Places.{either}
use Rattle.tta_select.specs.Select.{home_pair}
use Rattle.tta_select.specs.Ground.{home_place}
use Rattle.tta_select.specs.Relation.{Matches}
use Rattle.tta_arch.proofs.Places.{same_is}
use Rattle.tta_list.proofs.Tests.{false_true as clash}

-- whether a home register is among those that stay
abbrev pub stays_in : List ℕ → ℕ → Bool
stays_in live k = list_any (λ j. j == k) live

-- a register that is set after a block was set before, and stays
pub found_stay : (live : List ℕ) (es : List (ℕ × ℕ)) (k w : ℕ) → found k (stay live es) ≡ Some w → (stays_in live k ≡ true) × (found k es ≡ Some w)
found_stay live [] k w e = absurd cc
found_stay live (x ∷ es) k w e = either (stays_in live x.0) (λ a. kept_one (found_stay live es k w) a (rw a at e)) (λ a. gone (found_stay live es k w) a (rw a at e)) where
  Ih : Type 0
  Ih = found k (stay live es) ≡ Some w → (stays_in live k ≡ true) × (found k es ≡ Some w)

  kept_one : Ih → stays_in live x.0 ≡ true → found k (x ∷ stay live es) ≡ Some w → (stays_in live k ≡ true) × (found k (x ∷ es) ≡ Some w)
  kept_one behind a e = either (x.0 == k)
      (λ t. let same : x.0 ≡ k = grind (arith, nat_tests) in (subst (λ k. stays_in live k ≡ true) same a, rw t (rw t at e)))
      (λ t. let ih = behind (rw t at e) in (ih.0, rw t (ih.1)))

  gone : Ih → stays_in live x.0 ≡ false → found k (stay live es) ≡ Some w → (stays_in live k ≡ true) × (found k (x ∷ es) ≡ Some w)
  gone behind a e =
      let ih = behind e in
      either (x.0 == k)
      (λ t. let same : x.0 ≡ k = grind (arith, nat_tests) in let b : stays_in live k ≡ false = subst (λ k. stays_in live k ≡ false) same a in let c : stays_in live k ≡ true = ih.0 in absurd (clash _ c b))
      (λ t. (ih.0, rw t (ih.1)))

-- a place that lives keeps its word
pub kept_lives : (live : List (ℕ × ℕ)) (ws : Written) (p : Place) → lives live p ≡ true → kept (filter (λ w. lives live w.0) ws) p ≡ kept ws p
kept_lives live [] p there = refl
kept_lives live (w ∷ ws) p there = either (lives live w.0) (λ a. rw a (ap (λ q. if same_place w.0 p then Some w.1 else q) (kept_lives live ws p there))) (λ a. rw a (dropped (kept_lives live ws p there) a)) where
  dropped : kept (filter (λ w. lives live w.0) ws) p ≡ kept ws p → lives live w.0 ≡ false → kept (filter (λ w. lives live w.0) ws) p ≡ (if same_place w.0 p then Some w.1 else kept ws p)
  dropped ih a = either (same_place w.0 p)
      (λ t. let same : w.0 ≡ p = same_is w.0 p t in absurd (clash _ there (subst (λ q. lives live q ≡ false) same a)))
      (λ t. rw t ih)

module _ (m : Machine) (c : Choice) (addr : List ℕ) where
  -- a home register that stays lives
  lives_home : (live : List ℕ) (k : ℕ) → stays_in live k ≡ true → lives (map (home_pair m c) live) (home_place m c k) ≡ true
  lives_home [] k e = absurd cc
  lives_home (j ∷ live) k e = either (j == k)
      (λ t. let same : j ≡ k = grind (arith, nat_tests) in here same)
      (λ t. let ih = lives_home live k (rw t at e) in behind _ _ ih) where
        behind : (a b : Bool) → b ≡ true → (a || b) ≡ true
        behind true b e = refl
        behind false b e = e

        self : (n : ℕ) → (n == n) ≡ true
        self n = grind (arith, nat_tests)

        here : j ≡ k → lives (map (home_pair m c) (j ∷ live)) (home_place m c k) ≡ true
        here same = subst (λ i. lives (map (home_pair m c) (j ∷ live)) (home_place m c i) ≡ true) same
            (let a = self (home_pair m c j).0 in let b = self (home_pair m c j).1 in rw (a, b) refl)

  -- after a block the states match again
  pub restarts : (x : Exit) (b : RBlock) (s : State) (h : Held) → Matches m c addr x s h → Matches m c addr Next (unset b s) (restart (map (home_pair m c) b.live_out) h)
  restarts x b s h a = record {
    memory = a.memory;
    rest = a.rest;
    output = a.output;
    exits = refl;
    homes = λ k w low is. let f = found_stay b.live_out s.regs k w is in
        kept_lives (map (home_pair m c) b.live_out) h.written (home_place m c k) (lives_home b.live_out k f.0) ∙ a.homes k w low f.1;
    size = a.size;
    slots = a.slots;
    back = λ k is. kept_lives (map (home_pair m c) b.live_out) h.written KeptRa refl ∙ a.back k is;
  }
