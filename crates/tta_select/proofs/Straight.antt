-- No way is a detour, wherever it stands.
use Rattle.std.proofs.Common.{◌≡◌, ◌<◌, ◌-◌, ◌^◌, ℕ, Bool, true, false, List, [], ◌∷◌, ◌++◌, Option, Some, None, refl, sym, ap, subst, arith, ◌∙◌, length, is_some, append_assoc}
use Rattle.std.specs.Prelude.{if◌then◌else◌, find, ◌==◌, ◌&&◌, ◌||◌, not}
use Rattle.std.specs.Option.{option_map_or}
use Rattle.std.specs.List.{list_all, list_any}
use Rattle.std.proofs.lemmas.Bool.{and_parts, or_right}
use Rattle.std.proofs.lemmas.Bool.Decides.{nat_tests}
use Rattle.tta_select.specs.Cited.{Units, GuardRef, Dest, Ldf, Stf, Machine, KeptReg, KeptImm, same_place, Choice, offered, ItemSource, Port, LongValue, Item, Move, Long, source_of_long, place_of_source, writes, joined, fills, none_after, is_port_source, is_passing, trail, is_detour, Frame, RSrc}
use Rattle.tta_arch.specs.declared.parts.Template.{Template as Field}
use Rattle.tta_arch.specs.declared.ends.Source.TheVariants as source
use Rattle.tta_arch.specs.declared.ends.Dest.TheVariants as dest
use Rattle.tta_arch.specs.Effects.{Place}
use Rattle.tta_moves.specs.declared.items.LongValue.TheVariants as long
use Rattle.tta_moves.proofs.Places.{same_self}
use Rattle.tta_lir.specs.declared.code.Place.{Place as RPlace}
use Rattle.tta_lir.specs.declared.code.Place.TheVariants.{Reg}
use Rattle.tta_lir.specs.declared.code.RSrc.TheVariants as rsrc
use Rattle.tta_select.specs.Select.{goes, filled, call_of, operand_at, trigger_at, shown_at, hub_at, from_hub, home_at, from_home, through_hub, constant, carry, value, address_slot, merged, brings_old}
use Rattle.tta_select.specs.Relation.{is_place_of, is_src_of}
use Rattle.tta_select.specs.Needs.{word_src}
use Rattle.tta_select.specs.Reaches.{guard_by, HasJoins}
use Rattle.tta_select.proofs.Everywhere.{IsCarried, IsWays, Merging, fetch_all, value_to, address_all, or_middle}
use Rattle.tta_select.proofs.Slotted.{Route, At_once, By_hub, By_long, By_long_hub, route}

-- ---- lists in a row

-- items that were passed, the newest first
abbrev pub onto : List Item → List Item → List Item
onto [] before = before
onto (x ∷ xs) before = onto xs (x ∷ before)

onto_row : (xs ys before : List Item) → onto (xs ++ ys) before ≡ onto ys (onto xs before)
onto_row [] ys before = refl
onto_row (x ∷ xs) ys before = onto_row xs ys (x ∷ before)

none_row : (bad : List Item → Item → Bool) (xs ys before : List Item) → none_after bad before xs ≡ true → none_after bad (onto xs before) ys ≡ true → none_after bad before (xs ++ ys) ≡ true
none_row bad [] ys before a b = b
none_row bad (x ∷ xs) ys before a b =
    let p = and_parts (not (bad before x)) (none_after bad (x ∷ before) xs) a in
    let first : not (bad before x) ≡ true = p.0 in
    rw first (none_row bad xs ys (x ∷ before) p.1 b)

-- a template that is not found is not joined
no_template : (m : Machine) (dst : Dest) (guard : Option GuardRef) (t : Field) (ts : List Field) → find (λ t. joined m (filled t) dst guard) ts ≡ None
    → list_any (fills t.imm t.reg) ts ≡ true → joined m (filled t) dst guard ≡ false
no_template m dst guard t [] e h = absurd cc
no_template m dst guard t (x ∷ ts) e h = on (joined m (filled x) dst guard) refl e (fills t.imm t.reg x) refl h (no_template m dst guard t ts) where
  same : fills t.imm t.reg x ≡ true → joined m (filled x) dst guard ≡ joined m (filled t) dst guard
  same f =
      let a : x.imm ≡ t.imm = grind (arith, nat_tests) in
      let b : x.reg ≡ t.reg = grind (arith, nat_tests) in
      ap (λ i. joined m (Port (source.Imm i x.reg)) dst guard) a ∙ ap (λ i. joined m (Port (source.Imm t.imm i)) dst guard) b

  on : (b : Bool) → joined m (filled x) dst guard ≡ b → (if b then Some x else find (λ t. joined m (filled t) dst guard) ts) ≡ None
      → (f : Bool) → fills t.imm t.reg x ≡ f → (f || list_any (fills t.imm t.reg) ts) ≡ true
      → (find (λ t. joined m (filled t) dst guard) ts ≡ None → list_any (fills t.imm t.reg) ts ≡ true → joined m (filled t) dst guard ≡ false)
      → joined m (filled t) dst guard ≡ false
  on true b e f fe h ih = absurd cc
  on false b e true fe h ih = sym (same fe) ∙ b
  on false b e false fe h ih = ih e h

module _ (m : Machine) (c : Choice) where
  hub : Option ℕ
  hub = Some c.hub

  -- ---- trails

  const_plain : (v : LongValue) → is_passing (Some c.hub) (source_of_long v) ≡ false
  const_plain (long.Word w) = refl
  const_plain (long.Address b) = refl

  hub_self : (i : ℕ) → same_place (KeptReg c.hub i) (KeptReg c.hub i) ≡ true
  hub_self i = same_self (KeptReg c.hub i)

  -- a trail that ends at a source
  ends_there : (src : ItemSource) (before : List Item) → is_passing (Some c.hub) src ≡ false
      → option_map_or (λ q. if is_passing (Some c.hub) src then trail m (Some c.hub) q before else []) (place_of_source src) [] ≡ []
  ends_there src before plain = on (place_of_source src) where
    on : (o : Option Place) → option_map_or (λ q. if is_passing (Some c.hub) src then trail m (Some c.hub) q before else []) o [] ≡ []
    on None = refl
    on (Some q) = rw plain refl

  trail_hub : (src : ItemSource) (before : List Item) → is_passing (Some c.hub) src ≡ false → trail m (Some c.hub) (KeptReg c.hub 0) (goes src (hub_at m c 0) ∷ before) ≡ src ∷ []
  trail_hub src before plain = let s = hub_self 0 in rw s (ap (λ xs. src ∷ xs) (ends_there src before plain))

  trail_long : (t : Field) (v : LongValue) (before : List Item) → trail m (Some c.hub) (KeptImm t.imm t.reg) (Long t.imm t.reg v ∷ before) ≡ source_of_long v ∷ []
  trail_long t v before = let s = same_self (KeptImm t.imm t.reg) in rw s (ap (λ xs. source_of_long v ∷ xs) (ends_there (source_of_long v) before (const_plain v)))

  trail_both : (t : Field) (v : LongValue) (before : List Item)
      → trail m (Some c.hub) (KeptReg c.hub 0) (goes (filled t) (hub_at m c 0) ∷ Long t.imm t.reg v ∷ before) ≡ filled t ∷ source_of_long v ∷ []
  trail_both t v before = let s = hub_self 0 in rw s (ap (λ xs. filled t ∷ xs) (trail_long t v before))

  -- ---- moves

  -- a source that words do not pass through
  plain_move : (guard : Option GuardRef) (src : ItemSource) (dst : Dest) (before : List Item) → is_passing (Some c.hub) src ≡ false → is_detour m (Some c.hub) before (Move guard src dst) ≡ false
  plain_move guard src dst before plain = rw plain refl

  -- whether a source on a trail is joined
  abbrev shorter : Option GuardRef → Dest → ItemSource → Bool
  shorter guard dst s = not (is_port_source s) && joined m s dst guard

  not_shorter : (guard : Option GuardRef) (dst : Dest) (s : ItemSource) → joined m s dst guard ≡ false → shorter guard dst s ≡ false
  not_shorter guard dst s e = on (not (is_port_source s)) where
    on : (b : Bool) → (b && joined m s dst guard) ≡ false
    on true = e
    on false = refl

  and_false : (b : Bool) (d : Bool) → d ≡ false → (b && d) ≡ false
  and_false true d e = e
  and_false false d e = refl

  -- from the hub's register 0, where nothing on the trail is joined
  hub_move : (guard : Option GuardRef) (dst : Dest) (before : List Item) (ss : List ItemSource) → trail m (Some c.hub) (KeptReg c.hub 0) before ≡ ss → list_any (shorter guard dst) ss ≡ false
      → is_detour m (Some c.hub) before (Move guard (from_hub m c 0) dst) ≡ false
  hub_move guard dst before ss is e = and_false (is_passing (Some c.hub) (from_hub m c 0)) _ (ap (λ ts. list_any (shorter guard dst) ts) is ∙ e)

  imm_move : (guard : Option GuardRef) (t : Field) (dst : Dest) (before : List Item) (ss : List ItemSource) → trail m (Some c.hub) (KeptImm t.imm t.reg) before ≡ ss → list_any (shorter guard dst) ss ≡ false
      → is_detour m (Some c.hub) before (Move guard (filled t) dst) ≡ false
  imm_move guard t dst before ss is e = ap (λ ts. list_any (shorter guard dst) ts) is ∙ e

  -- ---- ways

  abbrev pub Neat : List Item → Type 0
  Neat xs = (before : List Item) → none_after (is_detour m (Some c.hub)) before xs ≡ true

  pub neat_row : (xs ys : List Item) → Neat xs → Neat ys → Neat (xs ++ ys)
  neat_row xs ys a b before = none_row (is_detour m (Some c.hub)) xs ys before (a before) (b (onto xs before))

  neat_plain : (guard : Option GuardRef) (src : ItemSource) (dst : Dest) → is_passing (Some c.hub) src ≡ false → Neat (Move guard src dst ∷ [])
  neat_plain guard src dst plain before = let e = plain_move guard src dst before plain in rw e refl

  neat_hub : (guard : Option GuardRef) (src : ItemSource) (dst : Dest) → is_passing (Some c.hub) src ≡ false → joined m src dst guard ≡ false → Neat (through_hub m c guard src dst)
  neat_hub guard src dst plain away before =
      let first = plain_move None src (hub_at m c 0) before plain in
      let off = not_shorter guard dst src away in
      let none : list_any (shorter guard dst) (src ∷ []) ≡ false = rw off refl in
      let second = hub_move guard dst (goes src (hub_at m c 0) ∷ before) (src ∷ []) (trail_hub src before plain) none in
      rw (first, second) refl

  neat_route : (guard : Option GuardRef) (v : LongValue) (dst : Dest) (items : List Item) → Route m c guard v dst items → Neat items
  neat_route guard v dst items (At_once a is) = subst Neat (sym is) (neat_plain guard (source_of_long v) dst (const_plain v))
  neat_route guard v dst items (By_hub away d b is) = subst Neat (sym is) (neat_hub guard (source_of_long v) dst (const_plain v) away)
  neat_route guard v dst items (By_long t away f is) = subst Neat (sym is) (λ before.
      let off = not_shorter guard dst (source_of_long v) away in
      let none : list_any (shorter guard dst) (source_of_long v ∷ []) ≡ false = rw off refl in
      let second = imm_move guard t dst (Long t.imm t.reg v ∷ before) (source_of_long v ∷ []) (trail_long t v before) none in
      rw second refl)
  neat_route guard v dst items (By_long_hub t away d l f b is) = subst Neat (sym is) (λ before.
      let off = not_shorter guard dst (source_of_long v) away in
      let off_hub = not_shorter None (hub_at m c 0) (source_of_long v) d in
      let off_long = not_shorter guard dst (filled t) (no_template m dst guard t m.templates l f.there) in
      let none_hub : list_any (shorter None (hub_at m c 0)) (source_of_long v ∷ []) ≡ false = rw off_hub refl in
      let none : list_any (shorter guard dst) (filled t ∷ source_of_long v ∷ []) ≡ false = rw (off_long, off) refl in
      let second = imm_move None t (hub_at m c 0) (Long t.imm t.reg v ∷ before) (source_of_long v ∷ []) (trail_long t v before) none_hub in
      let third = hub_move guard dst (goes (filled t) (hub_at m c 0) ∷ Long t.imm t.reg v ∷ before) (filled t ∷ source_of_long v ∷ []) (trail_both t v before) none in
      rw (second, third) refl)

  neat_carry : (guard : Option GuardRef) (src : ItemSource) (dst : Dest) → IsCarried m c src → Neat (carry m c guard src dst)
  neat_carry guard src dst is = on (joined m src dst guard) refl where
    on : (a : Bool) → joined m src dst guard ≡ a → Neat (if a then Move guard src dst ∷ [] else through_hub m c guard src dst)
    on true a = neat_plain guard src dst (is.plain)
    on false a = neat_hub guard src dst (is.plain) a

  -- ---- the last move of a way

  record Ends (guard : Option GuardRef) (dst : Dest) (items : List Item) : Type 0 where
    pub front : List Item
    pub src : ItemSource
    pub is : items ≡ front ++ Move guard src dst ∷ []

  ends_route : (guard : Option GuardRef) (v : LongValue) (dst : Dest) (items : List Item) → Route m c guard v dst items → Ends guard dst items
  ends_route guard v dst items (At_once a is) = record { front = []; src = source_of_long v; is = is }
  ends_route guard v dst items (By_hub away d b is) = record { front = goes (source_of_long v) (hub_at m c 0) ∷ []; src = from_hub m c 0; is = is }
  ends_route guard v dst items (By_long t away f is) = record { front = Long t.imm t.reg v ∷ []; src = filled t; is = is }
  ends_route guard v dst items (By_long_hub t away d l f b is) = record { front = Long t.imm t.reg v ∷ goes (filled t) (hub_at m c 0) ∷ []; src = from_hub m c 0; is = is }

  ends_carry : (guard : Option GuardRef) (src : ItemSource) (dst : Dest) → Ends guard dst (carry m c guard src dst)
  ends_carry guard src dst = on (joined m src dst guard) where
    on : (a : Bool) → Ends guard dst (if a then Move guard src dst ∷ [] else through_hub m c guard src dst)
    on true = record { front = []; src = src; is = refl }
    on false = record { front = goes src (hub_at m c 0) ∷ []; src = from_hub m c 0; is = refl }

  ends_behind : (xs ys : List Item) (guard : Option GuardRef) (dst : Dest) → Ends guard dst ys → Ends guard dst (xs ++ ys)
  ends_behind xs ys guard dst y = record { front = xs ++ y.front; src = y.src; is = ap (λ zs. xs ++ zs) y.is ∙ sym (append_assoc xs y.front (Move guard y.src dst ∷ [])) }

  -- ---- what does not write the hub's register 1

  abbrev leaves_one : Item → Bool
  leaves_one x = not (writes m (KeptReg c.hub 1) x)

  trail_past : (xs before : List Item) → list_all leaves_one xs ≡ true → trail m (Some c.hub) (KeptReg c.hub 1) (onto xs before) ≡ trail m (Some c.hub) (KeptReg c.hub 1) before
  trail_past [] before a = refl
  trail_past (x ∷ xs) before a =
      let p = and_parts (leaves_one x) (list_all leaves_one xs) a in
      let off : writes m (KeptReg c.hub 1) x ≡ false = not_true _ p.0 in
      trail_past xs (x ∷ before) p.1 ∙ passes off where
        not_true : (b : Bool) → not b ≡ true → b ≡ false
        not_true true e = cc
        not_true false e = refl

        passes : writes m (KeptReg c.hub 1) x ≡ false → trail m (Some c.hub) (KeptReg c.hub 1) (x ∷ before) ≡ trail m (Some c.hub) (KeptReg c.hub 1) before
        passes off = rw off refl

  zero_one : same_place (KeptReg c.hub 0) (KeptReg c.hub 1) ≡ false
  zero_one = and_false (c.hub == c.hub) false refl

  route_leaves : (v : LongValue) (unit : ℕ) (items : List Item) → Route m c None v (dest.Operand unit) items → list_all leaves_one items ≡ true
  route_leaves v unit items (At_once a is) = subst (λ xs. list_all leaves_one xs ≡ true) (sym is) refl
  route_leaves v unit items (By_hub away d b is) = subst (λ xs. list_all leaves_one xs ≡ true) (sym is) (rw zero_one refl)
  route_leaves v unit items (By_long t away f is) = subst (λ xs. list_all leaves_one xs ≡ true) (sym is) refl
  route_leaves v unit items (By_long_hub t away d l f b is) = subst (λ xs. list_all leaves_one xs ≡ true) (sym is) (rw zero_one refl)

  -- the trail of the hub's register 1 ends at a guarded move into it
  trail_guarded : (g : GuardRef) (src : ItemSource) (before : List Item) → trail m (Some c.hub) (KeptReg c.hub 1) (Move (Some g) src (hub_at m c 1) ∷ before) ≡ []
  trail_guarded g src before = let s = hub_self 1 in rw s refl

  one_move : (dst : Dest) (before : List Item) → trail m (Some c.hub) (KeptReg c.hub 1) before ≡ [] → none_after (is_detour m (Some c.hub)) before (goes (from_hub m c 1) dst ∷ []) ≡ true
  one_move dst before is =
      let e : is_detour m (Some c.hub) before (goes (from_hub m c 1) dst) ≡ false = and_false (is_passing (Some c.hub) (from_hub m c 1)) _ (ap (λ ts. list_any (shorter None dst) ts) is) in
      rw e refl

  module _ (j : HasJoins m c) (address : 2 ^ m.control.address - 1 < 2 ^ 32) (blocks : ℕ) where
    pub neat_ways : IsWays m c blocks Neat
    neat_ways = record {
      none = λ before. refl;
      row = neat_row;
      const = λ guard v dst is has. neat_route guard v dst (constant m c guard v dst) (route m c j address blocks guard v dst is has);
      carried = λ guard src dst is has. neat_carry guard src dst is;
    }

    module _ (u : Units) (small : m.frame_words < 2 ^ 32) (loads : is_some (offered m c.usable Ldf) ≡ true) (store : is_some (offered m c.usable Stf) ≡ true) (storing : ((call_of m c Stf).does.arity == 2) ≡ true) where
      neat_old : (d : RPlace) → is_place_of m c d ≡ true → Neat (brings_old m c d)
      neat_old (Reg k) i = let low : k < length c.homes = grind (arith, nat_tests) in neat_plain None (from_home m c k) (hub_at m c 1) (j.plain_home k low)
      neat_old (Frame f) i =
          let low : f < m.frame_words = grind (arith, nat_tests) in
          fetch_all u m c j blocks small loads store storing Neat neat_ways None f (hub_at m c 1) low (or_right _ _ j.to_one)

      ends_value : (guard : Option GuardRef) (o : RSrc) (dst : Dest) → is_src_of m c o ≡ true → word_src o ≡ true → joined m (from_hub m c 0) dst guard ≡ true → Ends guard dst (value m c guard o dst)
      ends_value guard (rsrc.Word w) dst i word e = let low : w < 2 ^ 32 = grind (arith, nat_tests) in ends_route guard (long.Word w) dst _ (route m c j address blocks guard (long.Word w) dst low (or_middle _ _ _ e))
      ends_value guard (rsrc.At (Reg k)) dst i word e = ends_carry guard (from_home m c k) dst
      ends_value guard (rsrc.At (Frame f)) dst i word e = ends_behind (constant m c None (long.Word f) (trigger_at (call_of m c Ldf))) _ guard dst (ends_carry guard (shown_at (call_of m c Ldf)) dst)

      -- after a guarded move into the hub's register 1
      neat_merged : (d : RPlace) (g : GuardRef) (src : ItemSource) (before : List Item) → is_place_of m c d ≡ true → none_after (is_detour m (Some c.hub)) (Move (Some g) src (hub_at m c 1) ∷ before) (merged m c d) ≡ true
      neat_merged (Reg k) g src before i = one_move (home_at m c k) (Move (Some g) src (hub_at m c 1) ∷ before) (trail_guarded g src before)
      neat_merged (Frame f) g src before i =
          let low : f < m.frame_words = grind (arith, nat_tests) in
          let here : f < 2 ^ 32 = omega (arith, low, small) in
          let past = Move (Some g) src (hub_at m c 1) ∷ before in
          let away = route_leaves (long.Word f) (call_of m c Stf).unit (address_slot m c f) (route m c j address blocks None (long.Word f) (operand_at (call_of m c Stf)) here (or_middle _ _ _ (j.operand Stf store storing))) in
          none_row (is_detour m (Some c.hub)) (address_slot m c f) (goes (from_hub m c 1) (trigger_at (call_of m c Stf)) ∷ []) past
          (address_all u m c j blocks small loads store storing Neat neat_ways f low past)
          (one_move (trigger_at (call_of m c Stf)) (onto (address_slot m c f) past) (trail_past (address_slot m c f) past away ∙ trail_guarded g src before))

      pub neat_merging : Merging m c Neat
      neat_merging i s d inside word place =
          let g = guard_by c i in
          let items = value m c (Some g) s (hub_at m c 1) in
          let e = ends_value (Some g) s (hub_at m c 1) inside word (j.hub_if i) in
          neat_row (brings_old m c d) (items ++ merged m c d) (neat_old d place) (λ before.
          none_row (is_detour m (Some c.hub)) items (merged m c d) before
          (value_to u m c j blocks small loads store storing Neat neat_ways (Some g) s (hub_at m c 1) inside word (j.hub_if i) before)
          (subst (λ b. none_after (is_detour m (Some c.hub)) b (merged m c d) ≡ true)
          (sym (ap (λ xs. onto xs before) e.is ∙ onto_row e.front (Move (Some g) e.src (hub_at m c 1) ∷ []) before))
          (neat_merged d g e.src (onto e.front before) place)))
