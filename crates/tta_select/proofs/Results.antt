-- Stores into slots, and results that go to their places.
use Rattle.std.proofs.Common.{◌≡◌, ◌<◌, ◌≤◌, ℕ, Bool, true, false, List, [], ◌∷◌, ◌++◌, Some, None, refl, sym, ap, subst, arith, ◌∙◌, length, slice_set}
use Rattle.std.specs.Prelude.{if◌then◌else◌, ◌==◌}
use Rattle.std.proofs.lemmas.Bool.{and_parts}
use Rattle.std.proofs.lemmas.Bool.Decides.{nat_tests}
use Rattle.tta_select.specs.Cited.{OpId, Units, Ldf, Stf, Set, Machine, is_from_to, KeptOperand, KeptPort, kept, same_place, Choice, Call, Item, Held, Frame, RSrc, State, Kept, Plain, found, operand, puts_at, StandsOver}
use Rattle.tta_arch.specs.Effects.{Place}
use Rattle.tta_moves.specs.declared.items.LongValue.TheVariants as long
use Rattle.tta_moves.specs.Meaning.{Exit, Next}
use Rattle.tta_moves.proofs.Places.{same_self, kept_there, kept_elsewhere}
use Rattle.tta_lir.specs.declared.code.Place.{Place as RPlace}
use Rattle.tta_lir.specs.declared.code.Place.TheVariants.{Reg}
use Rattle.tta_select.specs.Select.{call_of, operand_at, trigger_at, shown_at, home_at, carry, value, operate, address_slot, result}
use Rattle.tta_select.specs.Ground.{IsGround, IsServed, home_place}
use Rattle.tta_select.specs.Relation.{slot_word, Matches, is_place_of, is_src_of}
use Rattle.tta_select.proofs.Goes.{Goes, chain}
use Rattle.tta_select.proofs.Moves.{wrote, is_free, calm_loads, move_operand, move_wide}
use Rattle.tta_select.proofs.Ways.{Way, finish, way_constant, way_carry}
use Rattle.tta_select.proofs.Matching.{match_calm, match_aside, match_home, match_slot, match_slot_again}
use Rattle.tta_select.proofs.Values.{does_of, way_loads, way_value, triggers, two_words, places, operate_one, operate_two}

-- an arity is 1 or 2
small : (n : ℕ) → is_from_to 1 2 n ≡ true → (n == 2) ≡ false → (n == 1) ≡ true
small n t e = let a : 1 ≤ n = grind (arith, nat_tests) in let b : n ≤ 2 = grind (arith, nat_tests) in grind (arith, nat_tests)

module _ (u : Units) (m : Machine) (c : Choice) (addr : List ℕ) (back : ℕ) (g : IsGround m c) where
  -- items that lead to a state that matches
  pub record Landed (x : Exit) (s : State) (h : Held) (items : List Item) : Type 0 where
    pub end : Held
    pub match : Matches m c addr x s end
    pub leads : Goes u m addr back h items end

  pub landed_behind : (x : Exit) (s : State) (h k : Held) (xs ys : List Item) → Goes u m addr back h xs k → Landed x s k ys → Landed x s h (xs ++ ys)
  landed_behind x s h k xs ys a b = record { end = b.end; match = b.match; leads = chain u m addr back xs ys h k b.end a b.leads }

  module _ (store : IsServed m c Stf) where
    -- a store takes two words
    store_two : ((does_of m c Stf).arity == 2) ≡ true
    store_two = (and_parts _ _ store.fits).0

    -- ---- slots

    -- the address of a slot is in the operand port of the store
    pub record Addressed (s : State) (h : Held) (slot : ℕ) : Type 0 where
      pub mid : Held
      pub match : Matches m c addr Next s mid
      pub leads : Goes u m addr back h (address_slot m c slot) mid
      pub there : kept mid.written (KeptOperand (call_of m c Stf).unit) ≡ Some slot
      pub same : (p : Place) → is_free c.hub false p ≡ false → same_place (KeptOperand (call_of m c Stf).unit) p ≡ false → kept mid.written p ≡ kept h.written p

    pub addresses : (s : State) (h : Held) (slot : ℕ) → Matches m c addr Next s h → Addressed s h slot
    addresses s h slot match =
        let t = call_of m c Stf in
        let y = way_constant u m c addr back g h None (long.Word slot) (operand_at t) match.exits in
        let next : y.mid.exit ≡ Next = y.calm.exit ∙ match.exits in
        record {
          mid = wrote y.mid (KeptOperand t.unit) slot;
          match = match_aside m c addr g Next s y.mid (KeptOperand t.unit) slot (match_calm m c addr g Next s h y.mid match (calm_loads c.hub false h y.mid y.calm)) (λ k low. refl) refl;
          leads = finish u m c addr back false h (address_slot m c slot) None (operand_at t) slot y _ (move_operand u m addr back y.mid y.src t.unit slot next y.word);
          there = kept_there (KeptOperand t.unit, slot) y.mid.written (KeptOperand t.unit) (same_self (KeptOperand t.unit));
          same = λ p free other. kept_elsewhere (KeptOperand t.unit, slot) y.mid.written p other ∙ y.calm.same p free;
        }

    -- a word goes to the trigger of the store
    pub stores : (s : State) (h : Held) (items : List Item) (slot w : ℕ) (e : Kept) → Matches m c addr Next s h → kept h.written (KeptOperand (call_of m c Stf).unit) ≡ Some slot
        → slot < m.frame_words → w ≡ slot_word addr (Some e) → Way u m c addr back true h items None (trigger_at (call_of m c Stf)) w
        → Landed Next (record s { frame = (slot, e) ∷ s.frame }) h items
    stores s h items slot w e match has low is y =
        let t = call_of m c Stf in
        let d = triggers u m c addr back g s h Stf items slot w match store (λ k calm. two_words u m c addr back g k.written t.unit (does_of m c Stf) slot store_two (calm.same (KeptOperand t.unit) refl ∙ has)) y in
        record { end = record d.mid { frame = slice_set d.mid.frame slot w }; match = match_slot m c addr g Next s d.mid slot w e low is d.match; leads = d.leads }

    -- the word that the slot has already
    pub stores_again : (s : State) (h : Held) (items : List Item) (slot w : ℕ) → Matches m c addr Next s h → kept h.written (KeptOperand (call_of m c Stf).unit) ≡ Some slot
        → slot < m.frame_words → w ≡ slot_word addr (found slot s.frame) → Way u m c addr back true h items None (trigger_at (call_of m c Stf)) w
        → Landed Next s h items
    stores_again s h items slot w match has low is y =
        let t = call_of m c Stf in
        let d = triggers u m c addr back g s h Stf items slot w match store (λ k calm. two_words u m c addr back g k.written t.unit (does_of m c Stf) slot store_two (calm.same (KeptOperand t.unit) refl ∙ has)) y in
        record { end = record d.mid { frame = slice_set d.mid.frame slot w }; match = match_slot_again m c addr g Next s d.mid slot w low is d.match; leads = d.leads }

    -- ---- results

    -- a result goes to its place
    pub lands : (s : State) (h : Held) (f : Call) (d : RPlace) (w : ℕ) → Matches m c addr Next s h → kept h.written (KeptPort f.unit) ≡ Some w → is_place_of m c d ≡ true
        → Landed Next (puts_at s d w) h (result m c f d)
    lands s h f (Reg k) w match shown inside =
        let low : k < length c.homes = grind (arith, nat_tests) in
        let y = way_carry u m c addr back g h None (shown_at f) (home_at m c k) w match.exits shown in
        record {
          end = wrote y.mid (home_place m c k) w;
          match = match_home m c addr g Next s y.mid k w low (match_calm m c addr g Next s h y.mid match (calm_loads c.hub false h y.mid y.calm));
          leads = finish u m c addr back false h (result m c f (Reg k)) None (home_at m c k) w y _
              (move_wide u m addr back y.mid None y.src _ _ w (y.calm.exit ∙ match.exits) refl y.word (g.homes k low));
        }
    lands s h f (Frame slot) w match shown inside =
        let low : slot < m.frame_words = grind (arith, nat_tests) in
        let t = call_of m c Stf in
        let a = addresses s h slot match in
        let y = way_carry u m c addr back g a.mid None (shown_at f) (trigger_at t) w a.match.exits (a.same (KeptPort f.unit) refl refl ∙ shown) in
        landed_behind Next (puts_at s (Frame slot) w) h a.mid (address_slot m c slot) (carry m c None (shown_at f) (trigger_at t)) a.leads
        (stores s a.mid _ slot w (Plain w) a.match a.there low refl (way_loads u m c addr back g false a.mid _ None (trigger_at t) w y))

    -- ---- operations of the set of units

    module _ (loads : IsServed m c Ldf) (over : StandsOver u m) where
      -- the result of an operation is on its port
      pub record Shown (s : State) (h : Held) (items : List Item) (f : Call) (w : ℕ) : Type 0 where
        pub mid : Held
        pub match : Matches m c addr Next s mid
        pub leads : Goes u m addr back h items mid
        pub there : kept mid.written (KeptPort f.unit) ≡ Some w

      -- a word on a port
      pub shows : (s : State) (h : Held) (items : List Item) (f : Call) (mid : Held) (w : ℕ) → Matches m c addr Next s mid → Goes u m addr back h items (wrote mid (KeptPort f.unit) w) → Shown s h items f w
      shows s h items f mid w match leads = record {
        mid = wrote mid (KeptPort f.unit) w;
        match = match_aside m c addr g Next s mid (KeptPort f.unit) w match (λ k low. refl) refl;
        leads = leads;
        there = kept_there (KeptPort f.unit, w) mid.written (KeptPort f.unit) (same_self (KeptPort f.unit));
      }

      -- an operation of the set of units on two operands
      pub operates : (s : State) (h : Held) (id : OpId) (a b : RSrc) (v w : ℕ) → Matches m c addr Next s h → IsServed m c (Set id)
          → operand s a ≡ Some v → is_src_of m c a ≡ true → operand s b ≡ Some w → is_src_of m c b ≡ true
          → Shown s h (operate m c (call_of m c (Set id)) a b) (call_of m c (Set id)) (u.value id.0 v w)
      operates s h id a b v w match served va ia vb ib = on ((call_of m c (Set id)).does.arity == 2) refl where
        f : Call
        f = call_of m c (Set id)

        items : Bool → List Item
        items two = (if two then value m c None a (operand_at f) else []) ++ value m c None b (trigger_at f)

        one_or_two : (f.does.arity == 2) ≡ false → (f.does.arity == 1) ≡ true
        one_or_two e = let t : is_from_to 1 2 f.does.arity ≡ true = (and_parts _ _ served.fits).0 in small f.does.arity t e

        on : (two : Bool) → (f.does.arity == 2) ≡ two → Shown s h (items two) f (u.value id.0 v w)
        on true e =
            let p = places u m c addr back g s h f (value m c None a (operand_at f)) v match (way_value u m c addr back g s h None a (operand_at f) v loads match va ia) in
            let d = operate_two u m c addr back g s p.mid (Set id) b v w loads p.match served e p.there vb ib in
            shows s h (items true) f d.mid (u.value id.0 v w) d.match (chain u m addr back _ _ h p.mid _ p.leads d.leads)
        on false e =
            let one = one_or_two e in
            let d = operate_one u m c addr back g s h (Set id) b w loads match served one vb ib in
            let arity : f.does.arity ≡ 1 = grind (arith, nat_tests) in
            let same : u.value id.0 0 w ≡ u.value id.0 v w = sym (u.ignores id.0 v w (over.arities f.unit f.op (does_of m c (Set id)) id served.there refl ∙ ap Some arity)) in
            shows s h (items false) f d.mid (u.value id.0 v w) d.match (subst (λ x. Goes u m addr back h (items false) (wrote d.mid (KeptPort f.unit) x)) same d.leads)
