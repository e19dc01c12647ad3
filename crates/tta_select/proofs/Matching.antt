-- Changes of the states that keep them matched.
use Rattle.std.proofs.Common.{◌≡◌, ◌<◌, ℕ, Bool, true, false, List, ◌∷◌, Some, refl, sym, ap, subst, arith, ◌∙◌, length, slice_index, slice_set, get_or-set_same, get_or-set_other, length-set}
use Rattle.std.specs.Prelude.{if◌then◌else◌, ◌==◌}
use Rattle.std.proofs.lemmas.Bool.Decides.{nat_tests}
use Rattle.tta_select.specs.Cited.{Machine, KeptReg, KeptRa, kept, same_place, width_of, Choice, Held, State, Kept, found, puts_at}
use Rattle.tta_arch.specs.Effects.{Place}
use Rattle.tta_moves.specs.Meaning.{Exit}
use Rattle.tta_moves.proofs.Places.{either, same_self, kept_there, kept_elsewhere}
use Rattle.tta_lir.specs.declared.code.Place.TheVariants.{Reg}
use Rattle.tta_select.specs.Select.{home_pair}
use Rattle.tta_select.specs.Ground.{IsGround, home_place}
use Rattle.tta_select.specs.Relation.{slot_word, Matches}
use Rattle.tta_select.proofs.Moves.{wrote, is_free, Calm}

module _ (m : Machine) (c : Choice) (addr : List ℕ) (g : IsGround m c) where
  -- a way keeps the states matched
  pub match_calm : (x : Exit) (s : State) (h k : Held) → Matches m c addr x s h → Calm c.hub true h k → Matches m c addr x s k
  match_calm x s h k a calm = record {
    memory = calm.memory ∙ a.memory;
    rest = calm.rest ∙ a.rest;
    output = calm.output ∙ a.output;
    exits = calm.exit ∙ a.exits;
    homes = λ j w low is. calm.same (home_place m c j) (g.free 0 j (omega arith) low) ∙ a.homes j w low is;
    size = ap length calm.frame ∙ a.size;
    slots = λ f low. ap (λ frame. slice_index frame f) calm.frame ∙ a.slots f low;
    back = λ b is. calm.same KeptRa refl ∙ a.back b is;
  }

  -- a word in a place that is neither a home register nor the return address
  pub match_aside : (x : Exit) (s : State) (h : Held) (p : Place) (w : ℕ) → Matches m c addr x s h
      → ((k : ℕ) → k < length c.homes → same_place p (home_place m c k) ≡ false) → same_place p KeptRa ≡ false → Matches m c addr x s (wrote h p w)
  match_aside x s h p w a away other = record {
    memory = a.memory;
    rest = a.rest;
    output = a.output;
    exits = a.exits;
    homes = λ j v low is. kept_elsewhere (p, w) h.written (home_place m c j) (away j low) ∙ a.homes j v low is;
    size = a.size;
    slots = a.slots;
    back = λ b is. kept_elsewhere (p, w) h.written KeptRa other ∙ a.back b is;
  }

  -- a word in a home register
  pub match_home : (x : Exit) (s : State) (h : Held) (k w : ℕ) → k < length c.homes → Matches m c addr x s h
      → Matches m c addr x (puts_at s (Reg k) w) (wrote h (home_place m c k) w)
  match_home x s h k w low a = record {
    memory = a.memory;
    rest = a.rest;
    output = a.output;
    exits = a.exits;
    homes = λ j v there is. either (k == j) (λ e. same j v e is) (λ e. kept_elsewhere (home_place m c k, w) h.written (home_place m c j) (g.apart k j low there e) ∙ a.homes j v there (rw e at is));
    size = a.size;
    slots = a.slots;
    back = a.back;
  } where
    same : (j v : ℕ) → (k == j) ≡ true → (if k == j then Some w else found j s.regs) ≡ Some v → kept ((home_place m c k, w) ∷ h.written) (home_place m c j) ≡ Some v
    same j v e is =
        let eq : k ≡ j = grind (arith, nat_tests) in
        let t : Some w ≡ Some v = rw e at is in
        subst (λ i. kept ((home_place m c k, w) ∷ h.written) (home_place m c i) ≡ Some v) eq (kept_there (home_place m c k, w) h.written (home_place m c k) (same_self (home_place m c k)) ∙ t)

  -- the word that a home register has already
  pub match_again : (x : Exit) (s : State) (h : Held) (k w : ℕ) → k < length c.homes → found k s.regs ≡ Some w → Matches m c addr x s h
      → Matches m c addr x s (wrote h (home_place m c k) w)
  match_again x s h k w low has a = record {
    memory = a.memory;
    rest = a.rest;
    output = a.output;
    exits = a.exits;
    homes = λ j v there is. either (k == j) (λ e. same j v e is) (λ e. kept_elsewhere (home_place m c k, w) h.written (home_place m c j) (g.apart k j low there e) ∙ a.homes j v there is);
    size = a.size;
    slots = a.slots;
    back = a.back;
  } where
    same : (j v : ℕ) → (k == j) ≡ true → found j s.regs ≡ Some v → kept ((home_place m c k, w) ∷ h.written) (home_place m c j) ≡ Some v
    same j v e is =
        let eq : k ≡ j = grind (arith, nat_tests) in
        let t : Some w ≡ Some v = sym has ∙ ap (λ i. found i s.regs) eq ∙ is in
        subst (λ i. kept ((home_place m c k, w) ∷ h.written) (home_place m c i) ≡ Some v) eq (kept_there (home_place m c k, w) h.written (home_place m c k) (same_self (home_place m c k)) ∙ t)

  -- a word in a slot
  pub match_slot : (x : Exit) (s : State) (h : Held) (f w : ℕ) (e : Kept) → f < m.frame_words → w ≡ slot_word addr (Some e) → Matches m c addr x s h
      → Matches m c addr x (record s { frame = (f, e) ∷ s.frame }) (record h { frame = slice_set h.frame f w })
  match_slot x s h f w e low is a = record {
    memory = a.memory;
    rest = a.rest;
    output = a.output;
    exits = a.exits;
    homes = a.homes;
    size = length-set h.frame f w ∙ a.size;
    slots = λ j there. either (f == j) (λ t. same j t) (λ t. other j there t);
    back = a.back;
  } where
    inside : f < length h.frame
    inside = subst (λ n. f < n) (sym a.size) low

    same : (j : ℕ) → (f == j) ≡ true → slice_index (slice_set h.frame f w) j ≡ slot_word addr (if f == j then Some e else found j s.frame)
    same j t =
        let eq : f ≡ j = grind (arith, nat_tests) in
        rw t (subst (λ i. slice_index (slice_set h.frame f w) i ≡ slot_word addr (Some e)) eq (get_or-set_same h.frame f w 0 inside ∙ is))

    other : (j : ℕ) → j < m.frame_words → (f == j) ≡ false → slice_index (slice_set h.frame f w) j ≡ slot_word addr (if f == j then Some e else found j s.frame)
    other j there t =
        let ne : j ≡ f → ⊥ = grind (arith, nat_tests) in
        rw t (get_or-set_other h.frame f j w 0 ne ∙ a.slots j there)

  -- the word that a slot has already
  pub match_slot_again : (x : Exit) (s : State) (h : Held) (f w : ℕ) → f < m.frame_words → w ≡ slot_word addr (found f s.frame) → Matches m c addr x s h
      → Matches m c addr x s (record h { frame = slice_set h.frame f w })
  match_slot_again x s h f w low is a = record {
    memory = a.memory;
    rest = a.rest;
    output = a.output;
    exits = a.exits;
    homes = a.homes;
    size = length-set h.frame f w ∙ a.size;
    slots = λ j there. either (f == j) (λ t. same j t) (λ t. other j there t);
    back = a.back;
  } where
    inside : f < length h.frame
    inside = subst (λ n. f < n) (sym a.size) low

    same : (j : ℕ) → (f == j) ≡ true → slice_index (slice_set h.frame f w) j ≡ slot_word addr (found j s.frame)
    same j t =
        let eq : f ≡ j = grind (arith, nat_tests) in
        subst (λ i. slice_index (slice_set h.frame f w) i ≡ slot_word addr (found i s.frame)) eq (get_or-set_same h.frame f w 0 inside ∙ is)

    other : (j : ℕ) → j < m.frame_words → (f == j) ≡ false → slice_index (slice_set h.frame f w) j ≡ slot_word addr (found j s.frame)
    other j there t =
        let ne : j ≡ f → ⊥ = grind (arith, nat_tests) in
        get_or-set_other h.frame f j w 0 ne ∙ a.slots j there

  -- a register of a file of another width is no home register
  pub guard_apart : (k : ℕ) → k < length c.homes → same_place (KeptReg c.guard_file c.guard_index) (home_place m c k) ≡ false
  guard_apart k low = either (same_place (KeptReg c.guard_file c.guard_index) (home_place m c k)) (λ e. absurd (no e)) (λ e. e) where
    no : same_place (KeptReg c.guard_file c.guard_index) (home_place m c k) ≡ true → ⊥
    no e =
        let file : c.guard_file ≡ (home_pair m c k).0 = grind (arith, nat_tests) in
        let t : (width_of m c.guard_file == 1) ≡ false = subst (λ f. (width_of m f == 1) ≡ false) (sym file) (g.homes k low) in
        let b : true ≡ false = sym g.guard ∙ t in
        cc

  pub guard_not_free : (loads : Bool) → is_free c.hub loads (KeptReg c.guard_file c.guard_index) ≡ false
  guard_not_free loads = either (is_free c.hub loads (KeptReg c.guard_file c.guard_index)) (λ e. absurd (no e)) (λ e. e) where
    no : same_place (KeptReg c.hub 0) (KeptReg c.guard_file c.guard_index) ≡ true → ⊥
    no e =
        let file : c.hub ≡ c.guard_file = grind (arith, nat_tests) in
        let t : (width_of m c.guard_file == 1) ≡ false = subst (λ f. (width_of m f == 1) ≡ false) file g.hub in
        let b : true ≡ false = sym g.guard ∙ t in
        cc
