-- Whole runs: the lists that are selected have the meaning of their register code.
use Rattle.std.proofs.Common.{◌≡◌, ◌<◌, ◌≤◌, ◌+◌, ℕ, zero, suc, Bool, true, false, List, [], ◌∷◌, Some, None, refl, sym, ap, subst, arith, ◌∙◌, length, map, drop, is_some}
use Rattle.std.specs.Prelude.{nat_lt}
use Rattle.std.specs.List.{list_all}
use Rattle.std.proofs.lemmas.Bool.{and_parts}
use Rattle.std.proofs.lemmas.Bool.Decides.{nat_tests}
use Rattle.std.proofs.lemmas.List.{drop-map, drop_all as nothing_behind, length-map, length-replicate, get_or-replicate}
use Rattle.tta_select.specs.Cited.{Units, Op, Ldf, Stf, Machine, Choice, offered, Outcome, Running, Halted, Waiting, Held, Run, next_leg, go_list, begin, lrun, Rir, State, goes_on, walk, leg, start, rrun, lost, StandsOver}
use Rattle.tta_list.specs.Legs as legs
use Rattle.tta_moves.proofs.Places.{either}
use Rattle.tta_select.specs.Select.{list_of, selected}
use Rattle.tta_select.specs.Ground.{IsGround, IsServed}
use Rattle.tta_select.specs.Needs.{fits_block}
use Rattle.tta_select.specs.Keeps.{as_legs, IsFit, KeepsMeaning}
use Rattle.tta_select.proofs.Exits.{Rises}
use Rattle.tta_select.proofs.Blocks.{Alike, walks}

all_behind : {A : Type 0} (p : A → Bool) (n : ℕ) (xs : List A) → list_all p xs ≡ true → list_all p (drop n xs) ≡ true
all_behind p zero xs all = all
all_behind p (suc n) [] all = all
all_behind p (suc n) (x ∷ xs) all = all_behind p n xs (and_parts (p x) (list_all p xs) all).1

module _ (u : Units) (m : Machine) (c : Choice) (addr : List ℕ) (g : IsGround m c) (loads : IsServed m c Ldf) (store : IsServed m c Stf) (over : StandsOver u m) (up : Rises addr)
    (serve : (op : Op) → is_some (offered m c.usable op) ≡ true → IsServed m c op) (r : Rir) (fit : list_all (fits_block u m c (length r.blocks)) r.blocks ≡ true) where
  -- a leg that goes on
  leg_runs : (s : State) → s.outcome ≡ Running → s.sound ≡ true → leg u r s ≡ walk u (drop s.at r.blocks) s
  unfolding leg
  leg_runs s runs sound = rw (runs, sound) refl

  leg_stays : (s : State) → goes_on s ≡ false → leg u r s ≡ s
  unfolding leg
  leg_stays s e = rw e refl

  -- where the next leg is sound, it begins at a block
  at_block : (s : State) → s.outcome ≡ Running → s.sound ≡ true → (leg u r s).sound ≡ true → s.at < length r.blocks
  at_block s runs sound next = either (nat_lt s.at (length r.blocks)) (λ e. grind (arith, nat_tests)) (λ e. absurd (no e)) where
    no : nat_lt s.at (length r.blocks) ≡ false → ⊥
    no e =
        let past : length r.blocks ≤ s.at = grind (arith, nat_tests) in
        let gone = nothing_behind s.at r.blocks past in
        let t : (lost s).sound ≡ true = subst (λ bs. (walk u bs s).sound ≡ true) gone (subst (λ t. t.sound ≡ true) (leg_runs s runs sound) next) in
        let f : false ≡ true = t in
        cc

  -- one leg
  one_leg : (s : State) (x : Run Held) → Alike u m c addr g loads store over up serve s x → s.sound ≡ true → (leg u r s).sound ≡ true
      → ((leg u r s).outcome ≡ Running → suc (leg u r s).at < length addr) → Alike u m c addr g loads store over up serve (leg u r s) (next_leg (go_list u m addr) (selected m c u r) x)
  one_leg s x a sound next low = on s.outcome refl where
    stay : (o : legs.Outcome) → x.outcome ≡ o → (o ≡ legs.Running → ⊥) → next_leg (go_list u m addr) (selected m c u r) x ≡ x
    stay legs.Running e never = absurd (never refl)
    stay legs.Halted e never = rw e refl
    stay legs.Waiting e never = rw e refl
    stay legs.Undefined e never = rw e refl

    over_then : goes_on s ≡ false → (as_legs s.outcome ≡ legs.Running → ⊥) → Alike u m c addr g loads store over up serve (leg u r s) (next_leg (go_list u m addr) (selected m c u r) x)
    over_then e never =
        subst (λ t. Alike u m c addr g loads store over up serve t (next_leg (go_list u m addr) (selected m c u r) x)) (sym (leg_stays s e))
        (subst (λ y. Alike u m c addr g loads store over up serve s y) (sym (stay (as_legs s.outcome) a.outcome never)) a)

    on : (o : Outcome) → s.outcome ≡ o → Alike u m c addr g loads store over up serve (leg u r s) (next_leg (go_list u m addr) (selected m c u r) x)
    on Halted e = over_then (rw (e, sound) refl) (λ f. halted (ap as_legs (sym e) ∙ f)) where
      halted : legs.Halted ≡ legs.Running → ⊥
      halted f = cc
    on Waiting e = over_then (rw (e, sound) refl) (λ f. waiting (ap as_legs (sym e) ∙ f)) where
      waiting : legs.Waiting ≡ legs.Running → ⊥
      waiting f = cc
    on Running e =
        let goes : x.outcome ≡ legs.Running = a.outcome ∙ ap as_legs e in
        let here = a.next e in
        let bs = drop s.at r.blocks in
        let w = walks u m c addr g loads store over up serve (length r.blocks) bs s.at s x.state refl e sound here.1 (all_behind (fits_block u m c (length r.blocks)) s.at r.blocks fit) in
        let eq = leg_runs s e sound in
        let alike = w (subst (λ t. t.sound ≡ true) eq next) (subst (λ t. t.outcome ≡ Running → suc t.at < length addr) eq low) in
        let lists = legs_run goes (here.0) in
        subst (λ t. Alike u m c addr g loads store over up serve t (next_leg (go_list u m addr) (selected m c u r) x)) (sym eq)
        (subst (λ y. Alike u m c addr g loads store over up serve (walk u bs s) y) (sym lists) alike) where
          legs_run : x.outcome ≡ legs.Running → x.block ≡ s.at
              → next_leg (go_list u m addr) (selected m c u r) x ≡ legs.leg (go_list u m addr) s.at (map (list_of m c u) (drop s.at r.blocks)) x.state
          legs_run goes here = rw goes (ap (λ k. legs.leg (go_list u m addr) k (drop k (selected m c u r)) x.state) here ∙ ap (λ ls. legs.leg (go_list u m addr) s.at ls x.state) (drop-map (list_of m c u) s.at r.blocks))

  -- the first leg
  begins : (memory input : List ℕ) → Alike u m c addr g loads store over up serve (start memory input) (record { block = 0; state = begin m memory input; outcome = legs.Running })
  begins memory input = record {
    outcome = refl;
    memory = refl;
    rest = refl;
    output = refl;
    next = λ runs. (
      refl,
      record {
        memory = refl;
        rest = refl;
        output = refl;
        exits = refl;
        homes = λ k w low is. none is;
        size = length-replicate m.frame_words 0;
        slots = λ f low. get_or-replicate m.frame_words f 0 0 low;
        back = λ b is. none is;
      },
    );
  } where
    none : {w : ℕ} {P : Type 0} → None ≡ Some w → P
    none e = absurd cc

  module _ (size : length addr ≡ length r.blocks + 1) (sound : (memory input : List ℕ) (n : ℕ) → (rrun u r memory input n).sound ≡ true) where
    runs_alike : (memory input : List ℕ) (n : ℕ) → Alike u m c addr g loads store over up serve (rrun u r memory input n) (lrun u m (selected m c u r) addr memory input n)
    runs_alike memory input zero = begins memory input
    runs_alike memory input (suc n) =
        one_leg (rrun u r memory input n) (lrun u m (selected m c u r) addr memory input n) (runs_alike memory input n) (sound memory input n) (sound memory input (suc n))
        (λ runs. let low = at_block (rrun u r memory input (suc n)) runs (sound memory input (suc n)) (sound memory input (suc (suc n))) in omega (arith, size, low))

-- the lists that are selected have the meaning of their register code
pub keeps_meaning : (u : Units) (m : Machine) (c : Choice) → IsGround m c → IsServed m c Ldf → IsServed m c Stf → StandsOver u m
    → ((op : Op) → is_some (offered m c.usable op) ≡ true → IsServed m c op) → (r : Rir) → IsFit u m c r → KeepsMeaning u m r (selected m c u r)
keeps_meaning u m c g loads store over serve r fit addr are memory input n =
    let size : length addr ≡ length r.blocks + 1 = are.size ∙ ap (λ k. k + 1) (length-map r.blocks (list_of m c u)) in
    let a = runs_alike u m c addr g loads store over are.rise serve r fit.blocks size fit.sound memory input n in
    record { outcome = a.outcome; memory = a.memory; rest = a.rest; output = a.output }
