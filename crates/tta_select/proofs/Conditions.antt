-- A condition goes to the guard register.
use Rattle.std.proofs.Common.{◌≡◌, ◌<◌, ℕ, zero, suc, Bool, true, false, List, [], ◌∷◌, Option, Some, None, refl, sym, ap, subst, arith, ◌∙◌, length, slice_get}
use Rattle.std.specs.Prelude.{if◌then◌else◌, ◌==◌, ◌%◌, not}
use Rattle.std.specs.Option.{option_map_or}
use Rattle.std.proofs.lemmas.Nat.{mod_below}
use Rattle.std.proofs.lemmas.Option.{slice_get_within}
use Rattle.tta_select.specs.Cited.{OpId, Units, named, Ldf, Stf, Machine, KeptReg, passes, Choice, Rel, Eq, Ne, Lt, Ge, Ltu, Geu, holds, is_odd, Item, Move, Held, test_name, RSrc, State, operand, StandsOver}
use Rattle.tta_moves.specs.Meaning.{Next}
use Rattle.tta_moves.proofs.Places.{same_self, kept_there}
use Rattle.tta_select.specs.Select.{call_of, test_op, is_inverted, shown_at, guard_at, carry, operate, condition, guard_of_rel}
use Rattle.tta_select.specs.Ground.{IsGround, IsServed}
use Rattle.tta_select.specs.Relation.{Matches, is_src_of}
use Rattle.tta_select.proofs.Goes.{Goes, chain, Guarded}
use Rattle.tta_select.proofs.Moves.{wrote, calm_loads, move_reg}
use Rattle.tta_select.proofs.Ways.{finish, way_carry}
use Rattle.tta_select.proofs.Matching.{match_calm, match_aside, guard_apart}
use Rattle.tta_select.proofs.Values.{does_of}
use Rattle.tta_select.proofs.Results.{operates}

-- ---- the sense of a guard

parity : (y : ℕ) → y < 2 → (not (y == 0) ≡ (y == 1)) × ((y == 0) ≡ not (y == 1))
parity zero low = (refl, refl)
parity (suc zero) low = (refl, refl)
parity (suc (suc n)) low = absurd (too_big n low) where
  too_big : (n : ℕ) → suc (suc n) < 2 → ⊥
  too_big n low = omega (arith, low)

-- the guard of a relation, by the low bit of the operation's value
sense : (i : Bool) (x : ℕ) (f k : ℕ) → passes (record { file = f; index = k; inverted = i }) (x % 2) ≡ (if i then not (x % 2 == 1) else x % 2 == 1)
sense true x f k = (parity (x % 2) (mod_below x 2 (omega arith))).1
sense false x f k = (parity (x % 2) (mod_below x 2 (omega arith))).0

odd_of : (u : Units) (rel : Rel) (v w : ℕ) → holds u rel v w ≡ (if is_inverted rel then not (is_odd u (test_name rel) v w) else is_odd u (test_name rel) v w)
odd_of u Eq v w = refl
odd_of u Ne v w = refl
odd_of u Lt v w = refl
odd_of u Ge v w = refl
odd_of u Ltu v w = refl
odd_of u Geu v w = refl

module _ (u : Units) (m : Machine) (c : Choice) (addr : List ℕ) (back : ℕ) (g : IsGround m c) (loads : IsServed m c Ldf) (store : IsServed m c Stf) (over : StandsOver u m) where
  -- the operation of a condition
  abbrev test_id : Rel → OpId
  test_id rel = record { 0 = option_map_or (λ id. id) (named u (test_name rel)) 65536 }

  -- where it is offered, the units have its name, and its low bit decides
  tells : (rel : Rel) (v w : ℕ) → IsServed m c (test_op u rel) → is_odd u (test_name rel) v w ≡ (u.value (test_id rel).0 v w % 2 == 1)
  tells rel v w served = on (named u (test_name rel)) (over.arities _ _ (does_of m c (test_op u rel)) (test_id rel) served.there refl) where
    on : (o : Option ℕ) → slice_get u.arities (option_map_or (λ id. id) o 65536) ≡ Some (does_of m c (test_op u rel)).arity
        → option_map_or (λ op. u.value op v w % 2 == 1) o false ≡ (u.value (option_map_or (λ id. id) o 65536) v w % 2 == 1)
    on (Some id) is = refl
    on None is =
        let low : 65536 < length u.arities = slice_get_within u.arities 65536 _ is in
        let same : length u.arities ≡ length u.names = u.paired in
        let few : length u.names < 65537 = u.few in
        absurd (omega (arith, low, same, few))

  -- the guard register says whether a condition holds
  pub record Tested (s : State) (h : Held) (items : List Item) (rel : Rel) (b : Bool) : Type 0 where
    pub mid : Held
    pub match : Matches m c addr Next s mid
    pub leads : Goes u m addr back h items mid
    pub guard : Guarded mid.written (Some (guard_of_rel m c u rel)) b

  pub tests : (s : State) (h : Held) (rel : Rel) (a b : RSrc) (v w : ℕ) → Matches m c addr Next s h → IsServed m c (test_op u rel)
      → operand s a ≡ Some v → is_src_of m c a ≡ true → operand s b ≡ Some w → is_src_of m c b ≡ true
      → Tested s h (condition m c u rel a b) rel (holds u rel v w)
  tests s h rel a b v w match served va ia vb ib =
      let f = call_of m c (test_op u rel) in
      let x = u.value (test_id rel).0 v w in
      let d = operates u m c addr back g store loads over s h (test_id rel) a b v w match served va ia vb ib in
      let y = way_carry u m c addr back g d.mid None (shown_at f) (guard_at m c) x d.match.exits d.there in
      let narrow = g.guard in
      record {
        mid = wrote y.mid (KeptReg c.guard_file c.guard_index) (x % 2);
        match = match_aside m c addr g Next s y.mid (KeptReg c.guard_file c.guard_index) (x % 2) (match_calm m c addr g Next s d.mid y.mid d.match (calm_loads c.hub false d.mid y.mid y.calm)) (guard_apart m c addr g) refl;
        leads = chain u m addr back (operate m c f a b) (carry m c None (shown_at f) (guard_at m c)) h d.mid _ d.leads
            (finish u m c addr back false d.mid _ None (guard_at m c) x y _
            (subst (λ (t : Bool). Goes u m addr back y.mid (Move None y.src (guard_at m c) ∷ []) (wrote y.mid (KeptReg c.guard_file c.guard_index) (if t then x % 2 else x))) narrow
            (move_reg u m addr back y.mid None y.src c.guard_file c.guard_index x (y.calm.exit ∙ d.match.exits) refl y.word)));
        guard = (x % 2, kept_there (KeptReg c.guard_file c.guard_index, x % 2) y.mid.written (KeptReg c.guard_file c.guard_index) (same_self (KeptReg c.guard_file c.guard_index)), sound);
      } where
        sound : passes (guard_of_rel m c u rel) (u.value (test_id rel).0 v w % 2) ≡ holds u rel v w
        sound =
            sense (is_inverted rel) (u.value (test_id rel).0 v w) c.guard_file c.guard_index
            ∙ ap (λ (t : Bool). if is_inverted rel then not t else t) (sym (tells rel v w served))
            ∙ sym (odd_of u rel v w)
