-- A way changes nothing but what passes through, and its last move brings the word.
use Rattle.std.proofs.Common.{◌≡◌, ℕ, Bool, true, false, List, [], ◌∷◌, ◌++◌, Option, Some, None, refl, sym, subst}
use Rattle.std.specs.Prelude.{if◌then◌else◌, ◌&&◌, slice_index}
use Rattle.tta_select.specs.Cited.{Units, GuardRef, Dest, Machine, KeptReg, KeptImm, Choice, ItemSource, LongValue, Item, Move, Long, source_of_long, joined, Held, read_held, linked}
use Rattle.tta_arch.specs.declared.parts.Template.{Template as Field}
use Rattle.tta_moves.specs.declared.items.LongValue.TheVariants as long
use Rattle.tta_moves.specs.Meaning.{Next}
use Rattle.tta_moves.proofs.Places.{same_self, kept_there}
use Rattle.tta_select.specs.Select.{goes, filled, hub_at, from_hub, long_for, through_hub, long_hub, long_way, constant, carry}
use Rattle.tta_select.specs.Ground.{IsGround}
use Rattle.tta_select.proofs.Goes.{Goes, stays, chain}
use Rattle.tta_select.proofs.Moves.{wrote, is_free, Calm, calm_same, calm_then, calm_wrote, move_wide, move_long}

-- the word of a constant
abbrev pub word_of : (addr : List ℕ) → LongValue → ℕ
word_of addr (long.Word w) = w
word_of addr (long.Address block) = slice_index addr block

pub constant_reads : (addr : List ℕ) (v : LongValue) (h : Held) → read_held h.written (linked addr (source_of_long v)) ≡ Some (word_of addr v)
constant_reads addr (long.Word w) h = refl
constant_reads addr (long.Address block) h = refl

module _ (u : Units) (m : Machine) (c : Choice) (addr : List ℕ) (back : ℕ) where
  -- Items are a way of a word to a place: those before the last change only what passes through, and the last is a move to
  -- the place, with the guard, from where the word is then.
  pub record Way (loads : Bool) (h : Held) (items : List Item) (guard : Option GuardRef) (dst : Dest) (w : ℕ) : Type 0 where
    pub front : List Item
    pub src : ItemSource
    pub mid : Held
    pub is : items ≡ front ++ Move guard src dst ∷ []
    pub leads : Goes u m addr back h front mid
    pub calm : Calm c.hub loads h mid
    pub word : read_held mid.written (linked addr src) ≡ Some w

  pub finish : (loads : Bool) (h : Held) (items : List Item) (guard : Option GuardRef) (dst : Dest) (w : ℕ) (y : Way loads h items guard dst w) (k : Held)
      → Goes u m addr back y.mid (Move guard y.src dst ∷ []) k → Goes u m addr back h items k
  finish loads h items guard dst w y k last = subst (λ is. Goes u m addr back h is k) (sym y.is) (chain u m addr back y.front (Move guard y.src dst ∷ []) h y.mid k y.leads last)

  module _ (g : IsGround m c) where
    hub_free : (loads : Bool) → is_free c.hub loads (KeptReg c.hub 0) ≡ true
    hub_free loads = same_self (KeptReg c.hub 0)

    pub at_once : (h : Held) (guard : Option GuardRef) (src : ItemSource) (dst : Dest) (w : ℕ) → read_held h.written (linked addr src) ≡ Some w
        → Way false h (Move guard src dst ∷ []) guard dst w
    at_once h guard src dst w there =
        record { front = []; src = src; mid = h; is = refl; leads = stays u m addr back h; calm = calm_same c.hub false h; word = there }

    -- the word is in the hub's register 0
    in_hub : (h : Held) (w : ℕ) → read_held (wrote h (KeptReg c.hub 0) w).written (linked addr (from_hub m c 0)) ≡ Some w
    in_hub h w = kept_there (KeptReg c.hub 0, w) h.written (KeptReg c.hub 0) (same_self (KeptReg c.hub 0))

    to_hub : (h : Held) (src : ItemSource) (w : ℕ) → h.exit ≡ Next → read_held h.written (linked addr src) ≡ Some w
        → Goes u m addr back h (goes src (hub_at m c 0) ∷ []) (wrote h (KeptReg c.hub 0) w)
    to_hub h src w next there = move_wide u m addr back h None src c.hub 0 w next refl there g.hub

    by_hub : (h : Held) (guard : Option GuardRef) (src : ItemSource) (dst : Dest) (w : ℕ) → h.exit ≡ Next → read_held h.written (linked addr src) ≡ Some w
        → Way false h (through_hub m c guard src dst) guard dst w
    by_hub h guard src dst w next there = record {
      front = goes src (hub_at m c 0) ∷ [];
      src = from_hub m c 0;
      mid = wrote h (KeptReg c.hub 0) w;
      is = refl;
      leads = to_hub h src w next there;
      calm = calm_wrote c.hub false h (KeptReg c.hub 0) w (hub_free false);
      word = in_hub h w;
    }

    filled_reads : (h : Held) (t : Field) (w : ℕ) → read_held (wrote h (KeptImm t.imm t.reg) w).written (linked addr (filled t)) ≡ Some w
    filled_reads h t w = kept_there (KeptImm t.imm t.reg, w) h.written (KeptImm t.imm t.reg) (same_self (KeptImm t.imm t.reg))

    by_long_hub : (h : Held) (guard : Option GuardRef) (v : LongValue) (dst : Dest) (o : Option Field) → h.exit ≡ Next → Way false h (long_hub m c guard v dst o) guard dst (word_of addr v)
    by_long_hub h guard v dst None next = at_once h guard (source_of_long v) dst (word_of addr v) (constant_reads addr v h)
    by_long_hub h guard v dst (Some t) next =
        let w = word_of addr v in
        let k = wrote h (KeptImm t.imm t.reg) w in
        let y = by_hub k guard (filled t) dst w next (filled_reads h t w) in
        record {
          front = Long t.imm t.reg v ∷ goes (filled t) (hub_at m c 0) ∷ [];
          src = from_hub m c 0;
          mid = wrote k (KeptReg c.hub 0) w;
          is = refl;
          leads = chain u m addr back (Long t.imm t.reg v ∷ []) (goes (filled t) (hub_at m c 0) ∷ []) h k (wrote k (KeptReg c.hub 0) w)
              (move_long u m addr back h t.imm t.reg v w next (constant_reads addr v h)) (to_hub k (filled t) w next (filled_reads h t w));
          calm = calm_then c.hub false h k (wrote k (KeptReg c.hub 0) w) (calm_wrote c.hub false h (KeptImm t.imm t.reg) w refl) (calm_wrote c.hub false k (KeptReg c.hub 0) w (hub_free false));
          word = in_hub k w;
        }

    by_long : (h : Held) (guard : Option GuardRef) (v : LongValue) (dst : Dest) (o : Option Field) → h.exit ≡ Next → Way false h (long_way m c guard v dst o) guard dst (word_of addr v)
    by_long h guard v dst None next = by_long_hub h guard v dst (long_for m c (hub_at m c 0) None) next
    by_long h guard v dst (Some t) next =
        let w = word_of addr v in
        let k = wrote h (KeptImm t.imm t.reg) w in
        record {
          front = Long t.imm t.reg v ∷ [];
          src = filled t;
          mid = k;
          is = refl;
          leads = move_long u m addr back h t.imm t.reg v w next (constant_reads addr v h);
          calm = calm_wrote c.hub false h (KeptImm t.imm t.reg) w refl;
          word = filled_reads h t w;
        }

    -- the way of a constant
    pub way_constant : (h : Held) (guard : Option GuardRef) (v : LongValue) (dst : Dest) → h.exit ≡ Next → Way false h (constant m c guard v dst) guard dst (word_of addr v)
    way_constant h guard v dst next =
        on (joined m (source_of_long v) dst guard) (joined m (from_hub m c 0) dst guard && joined m (source_of_long v) (hub_at m c 0) None) where
          on : (a b : Bool) → Way false h (if a then Move guard (source_of_long v) dst ∷ [] else if b then through_hub m c guard (source_of_long v) dst else long_way m c guard v dst (long_for m c dst guard)) guard dst (word_of addr v)
          on true b = at_once h guard (source_of_long v) dst (word_of addr v) (constant_reads addr v h)
          on false true = by_hub h guard (source_of_long v) dst (word_of addr v) next (constant_reads addr v h)
          on false false = by_long h guard v dst (long_for m c dst guard) next

    -- the way of a word that is kept somewhere
    pub way_carry : (h : Held) (guard : Option GuardRef) (src : ItemSource) (dst : Dest) (w : ℕ) → h.exit ≡ Next → read_held h.written (linked addr src) ≡ Some w
        → Way false h (carry m c guard src dst) guard dst w
    way_carry h guard src dst w next there = on (joined m src dst guard) where
      on : (a : Bool) → Way false h (if a then Move guard src dst ∷ [] else through_hub m c guard src dst) guard dst w
      on true = at_once h guard src dst w there
      on false = by_hub h guard src dst w next there
