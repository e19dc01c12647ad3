-- A place gets a word or keeps its own, as a guard says.
use Rattle.std.proofs.Common.{◌≡◌, ◌<◌, ℕ, Bool, true, false, List, [], ◌∷◌, ◌++◌, Option, Some, None, refl, sym, subst, arith, ◌∙◌, length}
use Rattle.std.specs.Prelude.{if◌then◌else◌, ◌==◌, ◌&&◌}
use Rattle.std.proofs.lemmas.Bool.Decides.{nat_tests}
use Rattle.tta_select.specs.Cited.{Units, GuardRef, Ldf, Stf, Machine, KeptReg, KeptOperand, kept, same_place, width_of, Choice, Item, Held, Frame, RSrc, State, Kept, Plain, Return, found, plain, operand, puts_at}
use Rattle.tta_moves.specs.Meaning.{Next}
use Rattle.tta_moves.proofs.Places.{either, same_self, kept_there, kept_elsewhere}
use Rattle.tta_lir.specs.declared.code.Place.{Place as RPlace}
use Rattle.tta_lir.specs.declared.code.Place.TheVariants.{Reg}
use Rattle.tta_lir.specs.declared.code.RSrc.TheVariants as rsrc
use Rattle.tta_select.specs.Select.{call_of, trigger_at, hub_at, from_hub, home_at, from_home, value, address_slot, goes, merged, brings_old, choose, reaches}
use Rattle.tta_select.specs.Ground.{IsGround, IsServed, home_place}
use Rattle.tta_select.specs.Relation.{slot_word, Matches, is_place_of, is_src_of}
use Rattle.tta_select.proofs.Goes.{Goes, Guarded}
use Rattle.tta_select.proofs.Moves.{wrote, is_free, Calm, move_wide, move_idle}
use Rattle.tta_select.proofs.Ways.{Way, finish, at_once}
use Rattle.tta_select.proofs.Matching.{match_calm, match_aside, match_home, match_again, guard_not_free}
use Rattle.tta_select.proofs.Values.{way_loads, way_value}
use Rattle.tta_select.proofs.Results.{Landed, landed_behind, addresses, stores, stores_again}

-- the word that a slot has
pub plain_word : (addr : List ℕ) (e : Option Kept) (w : ℕ) → plain e ≡ Some w → w ≡ slot_word addr e
plain_word addr None w e = cc
plain_word addr (Some (Plain v)) w e = cc
plain_word addr (Some (Return b)) w e = absurd cc

module _ (u : Units) (m : Machine) (c : Choice) (addr : List ℕ) (back : ℕ) (g : IsGround m c) (loads : IsServed m c Ldf) (store : IsServed m c Stf) where
  -- a guard on the compiler's register
  abbrev pub on_guard : (inverted : Bool) → GuardRef
  on_guard inverted = record { file = c.guard_file; index = c.guard_index; inverted = inverted }

  pub guard_calm : (i b : Bool) (h k : Held) → Calm c.hub true h k → Guarded h.written (Some (on_guard i)) b → Guarded k.written (Some (on_guard i)) b
  guard_calm i b h k calm a = (a.0, calm.same (KeptReg c.guard_file c.guard_index) (guard_not_free m c addr g true) ∙ a.1, a.2)

  -- the hub's register 1 is none that passes, nor the guard register
  one_not_free : (loads : Bool) → is_free c.hub loads (KeptReg c.hub 1) ≡ false
  one_not_free loads = on (c.hub == c.hub) where
    on : (b : Bool) → (b && false) ≡ false
    on true = refl
    on false = refl

  one_no_guard : same_place (KeptReg c.hub 1) (KeptReg c.guard_file c.guard_index) ≡ false
  one_no_guard = either (same_place (KeptReg c.hub 1) (KeptReg c.guard_file c.guard_index)) (λ e. absurd (no e)) (λ e. e) where
    no : same_place (KeptReg c.hub 1) (KeptReg c.guard_file c.guard_index) ≡ true → ⊥
    no e =
        let file : c.hub ≡ c.guard_file = grind (arith, nat_tests) in
        let t : (width_of m c.guard_file == 1) ≡ false = subst (λ f. (width_of m f == 1) ≡ false) file g.hub in
        let b : true ≡ false = sym g.guard ∙ t in
        cc

  -- a word is in the hub's register 1, and the guard is as it was
  record Merged (s : State) (h : Held) (items : List Item) (i b : Bool) (x : ℕ) : Type 0 where
    pub mid : Held
    pub match : Matches m c addr Next s mid
    pub leads : Goes u m addr back h items mid
    pub guard : Guarded mid.written (Some (on_guard i)) b
    pub there : kept mid.written (KeptReg c.hub 1) ≡ Some x

  in_one : (s : State) (h : Held) (items : List Item) (guard : Option GuardRef) (i b : Bool) (x : ℕ) → Matches m c addr Next s h → Guarded h.written (Some (on_guard i)) b
      → (y : Way u m c addr back true h items guard (hub_at m c 1) x) → Guarded y.mid.written guard true → Merged s h items i b x
  in_one s h items guard i b x match has y active =
      let k = guard_calm i b h y.mid y.calm has in
      record {
        mid = wrote y.mid (KeptReg c.hub 1) x;
        match = match_aside m c addr g Next s y.mid (KeptReg c.hub 1) x (match_calm m c addr g Next s h y.mid match y.calm) (λ k low. g.free 1 k (omega arith) low) refl;
        leads = finish u m c addr back true h items guard (hub_at m c 1) x y _ (move_wide u m addr back y.mid guard y.src c.hub 1 x (y.calm.exit ∙ match.exits) active y.word g.hub);
        guard = (k.0, kept_elsewhere (KeptReg c.hub 1, x) y.mid.written (KeptReg c.guard_file c.guard_index) one_no_guard ∙ k.1, k.2);
        there = kept_there (KeptReg c.hub 1, x) y.mid.written (KeptReg c.hub 1) (same_self (KeptReg c.hub 1));
      }

  -- the old word
  way_old : (s : State) (h : Held) (d : RPlace) (old : ℕ) → Matches m c addr Next s h → operand s (rsrc.At d) ≡ Some old → is_place_of m c d ≡ true
      → Way u m c addr back true h (brings_old m c d) None (hub_at m c 1) old
  way_old s h (Reg k) old match is inside =
      let low : k < length c.homes = grind (arith, nat_tests) in
      way_loads u m c addr back g false h _ None (hub_at m c 1) old (at_once u m c addr back g h None (from_home m c k) (hub_at m c 1) old (match.homes k old low is))
  way_old s h (Frame f) old match is inside = way_value u m c addr back g s h None (rsrc.At (Frame f)) (hub_at m c 1) old loads match is inside

  -- then the new one, if the guard lets it
  merges : (i b : Bool) (s : State) (h : Held) (o : RSrc) (w old : ℕ) → Matches m c addr Next s h → Guarded h.written (Some (on_guard i)) b → kept h.written (KeptReg c.hub 1) ≡ Some old
      → operand s o ≡ Some w → is_src_of m c o ≡ true → Merged s h (value m c (Some (on_guard i)) o (hub_at m c 1)) i b (if b then w else old)
  merges i true s h o w old match has there is inside =
      let y = way_value u m c addr back g s h (Some (on_guard i)) o (hub_at m c 1) w loads match is inside in
      in_one s h _ (Some (on_guard i)) i true w match has y (guard_calm i true h y.mid y.calm has)
  merges i false s h o w old match has there is inside =
      let y = way_value u m c addr back g s h (Some (on_guard i)) o (hub_at m c 1) w loads match is inside in
      let k = guard_calm i false h y.mid y.calm has in
      record {
        mid = y.mid;
        match = match_calm m c addr g Next s h y.mid match y.calm;
        leads = finish u m c addr back true h _ (Some (on_guard i)) (hub_at m c 1) w y _ (move_idle u m addr back y.mid (Some (on_guard i)) y.src (hub_at m c 1) k);
        guard = k;
        there = y.calm.same (KeptReg c.hub 1) (one_not_free true) ∙ there;
      }

  -- and the word goes to the place
  settles : (b : Bool) (s : State) (h : Held) (d : RPlace) (w old : ℕ) → Matches m c addr Next s h → kept h.written (KeptReg c.hub 1) ≡ Some (if b then w else old)
      → operand s (rsrc.At d) ≡ Some old → is_place_of m c d ≡ true → Landed u m c addr back g Next (if b then puts_at s d w else s) h (merged m c d)
  settles b s h (Reg k) w old match there is inside =
      let low : k < length c.homes = grind (arith, nat_tests) in
      let x = if b then w else old in
      record {
        end = wrote h (home_place m c k) x;
        match = ends b low;
        leads = move_wide u m addr back h None (from_hub m c 1) _ _ x match.exits refl there (g.homes k low);
      } where
        ends : (b : Bool) → k < length c.homes → Matches m c addr Next (if b then puts_at s (Reg k) w else s) (wrote h (home_place m c k) (if b then w else old))
        ends true low = match_home m c addr g Next s h k w low match
        ends false low = match_again m c addr g Next s h k old low is match
  settles b s h (Frame f) w old match there is inside =
      let t = call_of m c Stf in
      let low : f < m.frame_words = grind (arith, nat_tests) in
      let a = addresses u m c addr back g store s h f match in
      let here = a.same (KeptReg c.hub 1) (one_not_free false) refl ∙ there in
      let x = if b then w else old in
      let y = way_loads u m c addr back g false a.mid _ None (trigger_at t) x (at_once u m c addr back g a.mid None (from_hub m c 1) (trigger_at t) x here) in
      landed_behind u m c addr back g Next (if b then puts_at s (Frame f) w else s) h a.mid (address_slot m c f) (goes (from_hub m c 1) (trigger_at t) ∷ []) a.leads (ends b a.mid low a.match a.there y) where
        ends : (b : Bool) (k : Held) → f < m.frame_words → Matches m c addr Next s k → kept k.written (KeptOperand (call_of m c Stf).unit) ≡ Some f
            → Way u m c addr back true k (goes (from_hub m c 1) (trigger_at (call_of m c Stf)) ∷ []) None (trigger_at (call_of m c Stf)) (if b then w else old)
            → Landed u m c addr back g Next (if b then puts_at s (Frame f) w else s) k (goes (from_hub m c 1) (trigger_at (call_of m c Stf)) ∷ [])
        ends true k low match has y = stores u m c addr back g store s k _ f w (Plain w) match has low refl y
        ends false k low match has y = stores_again u m c addr back g store s k _ f old match has low (plain_word addr (found f s.frame) old is) y

  -- at once, where there is a way with the guard
  at_home : (i b : Bool) (s : State) (h : Held) (o : RSrc) (k w : ℕ) → Matches m c addr Next s h → Guarded h.written (Some (on_guard i)) b
      → operand s o ≡ Some w → is_src_of m c o ≡ true → k < length c.homes → Landed u m c addr back g Next (if b then puts_at s (Reg k) w else s) h (value m c (Some (on_guard i)) o (home_at m c k))
  at_home i b s h o k w match has is inside low =
      let y = way_value u m c addr back g s h (Some (on_guard i)) o (home_at m c k) w loads match is inside in
      on b y (guard_calm i b h y.mid y.calm has) where
        on : (b : Bool) (y : Way u m c addr back true h (value m c (Some (on_guard i)) o (home_at m c k)) (Some (on_guard i)) (home_at m c k) w)
            → Guarded y.mid.written (Some (on_guard i)) b → Landed u m c addr back g Next (if b then puts_at s (Reg k) w else s) h (value m c (Some (on_guard i)) o (home_at m c k))
        on true y a = record {
          end = wrote y.mid (home_place m c k) w;
          match = match_home m c addr g Next s y.mid k w low (match_calm m c addr g Next s h y.mid match y.calm);
          leads = finish u m c addr back true h _ (Some (on_guard i)) (home_at m c k) w y _ (move_wide u m addr back y.mid (Some (on_guard i)) y.src _ _ w (y.calm.exit ∙ match.exits) a y.word (g.homes k low));
        }
        on false y a = record {
          end = y.mid;
          match = match_calm m c addr g Next s h y.mid match y.calm;
          leads = finish u m c addr back true h _ (Some (on_guard i)) (home_at m c k) w y _ (move_idle u m addr back y.mid (Some (on_guard i)) y.src (home_at m c k) a);
        }

  by_merge : (i b : Bool) (s : State) (h : Held) (o : RSrc) (d : RPlace) (w old : ℕ) → Matches m c addr Next s h → Guarded h.written (Some (on_guard i)) b
      → operand s o ≡ Some w → is_src_of m c o ≡ true → operand s (rsrc.At d) ≡ Some old → is_place_of m c d ≡ true
      → Landed u m c addr back g Next (if b then puts_at s d w else s) h (brings_old m c d ++ (value m c (Some (on_guard i)) o (hub_at m c 1) ++ merged m c d))
  by_merge i b s h o d w old match has is inside was place =
      let x = in_one s h (brings_old m c d) None i b old match has (way_old s h d old match was place) refl in
      let y = merges i b s x.mid o w old x.match x.guard x.there is inside in
      let z = settles b s y.mid d w old y.match y.there was place in
      landed_behind u m c addr back g Next _ h x.mid (brings_old m c d) (value m c (Some (on_guard i)) o (hub_at m c 1) ++ merged m c d) x.leads
      (landed_behind u m c addr back g Next _ x.mid y.mid (value m c (Some (on_guard i)) o (hub_at m c 1)) (merged m c d) y.leads z)

  pub chooses : (i b : Bool) (s : State) (h : Held) (o : RSrc) (d : RPlace) (w old : ℕ) → Matches m c addr Next s h → Guarded h.written (Some (on_guard i)) b
      → operand s o ≡ Some w → is_src_of m c o ≡ true → operand s (rsrc.At d) ≡ Some old → is_place_of m c d ≡ true
      → Landed u m c addr back g Next (if b then puts_at s d w else s) h (choose m c (on_guard i) o d)
  chooses i b s h o (Frame f) w old match has is inside was place = by_merge i b s h o (Frame f) w old match has is inside was place
  chooses i b s h o (Reg k) w old match has is inside was place = on (reaches m c (Some (on_guard i)) o (home_at m c k)) where
    on : (r : Bool) → Landed u m c addr back g Next (if b then puts_at s (Reg k) w else s) h
        (if r then value m c (Some (on_guard i)) o (home_at m c k) else brings_old m c (Reg k) ++ (value m c (Some (on_guard i)) o (hub_at m c 1) ++ merged m c (Reg k)))
    on true = let low : k < length c.homes = grind (arith, nat_tests) in at_home i b s h o k w match has is inside low
    on false = by_merge i b s h o (Reg k) w old match has is inside was place
