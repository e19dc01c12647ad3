-- The ways of operands, and operations that start.
use Rattle.std.proofs.Common.{◌≡◌, ◌<◌, ℕ, Bool, true, false, List, [], ◌∷◌, ◌++◌, Option, Some, None, refl, sym, ap, subst, arith, ◌∙◌, length, slice_index, append_assoc}
use Rattle.std.specs.Prelude.{if◌then◌else◌, ◌==◌}
use Rattle.std.proofs.lemmas.Bool.{and_parts}
use Rattle.std.proofs.lemmas.Bool.Decides.{nat_tests}
use Rattle.tta_select.specs.Cited.{Units, GuardRef, Dest, UnitOp, Op, Ldf, Machine, Trigger, KeptOperand, KeptPort, kept, operand_of, Choice, Call, Item, Move, Waits, Held, acts, waits_for, Frame, RSrc, State, Kept, Plain, Return, found, plain, operand}
use Rattle.tta_arch.specs.Effects.{Place}
use Rattle.tta_moves.specs.declared.items.LongValue.TheVariants as long
use Rattle.tta_moves.specs.Meaning.{Next}
use Rattle.tta_moves.proofs.Places.{same_self, kept_there}
use Rattle.tta_lir.specs.declared.code.Place.TheVariants.{Reg}
use Rattle.tta_lir.specs.declared.code.RSrc.TheVariants as rsrc
use Rattle.tta_select.specs.Select.{call_of, operand_at, trigger_at, shown_at, from_home, constant, carry, fetch, value}
use Rattle.tta_select.specs.Ground.{IsGround, IsServed}
use Rattle.tta_select.specs.Relation.{slot_word, Matches, is_src_of}
use Rattle.tta_select.proofs.Goes.{Goes, chain}
use Rattle.tta_select.proofs.Moves.{wrote, Calm, calm_then, calm_loads, calm_wrote, started, move_trigger, move_operand}
use Rattle.tta_select.proofs.Ways.{Way, finish, way_constant, way_carry}
use Rattle.tta_select.proofs.Matching.{match_calm, match_aside}
use Rattle.tta_list.proofs.Tests.{some_same}

-- the operation of a call
abbrev pub does_of : Machine → Choice → Op → UnitOp
does_of m c op = record (call_of m c op).does { op = op }

module _ (u : Units) (m : Machine) (c : Choice) (addr : List ℕ) (back : ℕ) (g : IsGround m c) where
  -- a way after other items
  pub behind : (loads : Bool) (h k : Held) (xs ys : List Item) (guard : Option GuardRef) (dst : Dest) (w : ℕ) → Goes u m addr back h xs k → Calm c.hub true h k
      → Way u m c addr back loads k ys guard dst w → Way u m c addr back true h (xs ++ ys) guard dst w
  behind loads h k xs ys guard dst w leads calm y = record {
    front = xs ++ y.front;
    src = y.src;
    mid = y.mid;
    is = ap (λ zs. xs ++ zs) y.is ∙ sym (append_assoc xs y.front (Move guard y.src dst ∷ []));
    leads = chain u m addr back xs y.front h k y.mid leads y.leads;
    calm = calm_then c.hub true h k y.mid calm (calm_loads c.hub loads k y.mid y.calm);
    word = y.word;
  }

  pub way_loads : (loads : Bool) (h : Held) (ys : List Item) (guard : Option GuardRef) (dst : Dest) (w : ℕ) → Way u m c addr back loads h ys guard dst w → Way u m c addr back true h ys guard dst w
  way_loads loads h ys guard dst w y = record { front = y.front; src = y.src; mid = y.mid; is = y.is; leads = y.leads; calm = calm_loads c.hub loads h y.mid y.calm; word = y.word }

  -- an operation of one word takes no operand
  pub one_word : (ws : List (Place × ℕ)) (unit : ℕ) (o : UnitOp) → (o.arity == 1) ≡ true → operand_of ws unit o ≡ Some 0
  one_word ws unit o e = let two : (o.arity == 2) ≡ false = grind (arith, nat_tests) in rw two refl

  -- the word of a slot
  pub way_fetch : (h : Held) (guard : Option GuardRef) (f : ℕ) (dst : Dest) → h.exit ≡ Next → IsServed m c Ldf → Way u m c addr back true h (fetch m c guard f dst) guard dst (slice_index h.frame f)
  way_fetch h guard f dst next served =
      let t = call_of m c Ldf in
      let o = does_of m c Ldf in
      let y = way_constant u m c addr back g h None (long.Word f) (trigger_at t) next in
      let w = slice_index y.mid.frame f in
      let k = wrote y.mid (KeptPort t.unit) w in
      let going : y.mid.exit ≡ Next = y.calm.exit ∙ next in
      let last = move_trigger u m addr back y.mid y.src t.unit t.op o 0 f going y.word served.there (one_word y.mid.written t.unit o (and_parts _ _ served.fits).0) in
      let leads = finish u m c addr back false h (constant m c None (long.Word f) (trigger_at t)) None (trigger_at t) f y k last in
      let calm = calm_then c.hub true h y.mid k (calm_loads c.hub false h y.mid y.calm) (calm_wrote c.hub true y.mid (KeptPort t.unit) w refl) in
      let z = way_carry u m c addr back g k guard (shown_at t) dst w going (kept_there (KeptPort t.unit, w) y.mid.written (KeptPort t.unit) (same_self (KeptPort t.unit))) in
      subst (λ frame. Way u m c addr back true h (fetch m c guard f dst) guard dst (slice_index frame f)) y.calm.frame
      (behind false h k (constant m c None (long.Word f) (trigger_at t)) (carry m c guard (shown_at t) dst) guard dst w leads calm z)

  -- the way of an operand
  pub way_value : (s : State) (h : Held) (guard : Option GuardRef) (o : RSrc) (dst : Dest) (w : ℕ) → IsServed m c Ldf → Matches m c addr Next s h → operand s o ≡ Some w → is_src_of m c o ≡ true
      → Way u m c addr back true h (value m c guard o dst) guard dst w
  way_value s h guard (rsrc.Word v) dst w served a is inside =
      let same : v ≡ w = some_same is in
      way_loads false h _ guard dst w (subst (λ x. Way u m c addr back false h (constant m c guard (long.Word v) dst) guard dst x) same (way_constant u m c addr back g h guard (long.Word v) dst a.exits))
  way_value s h guard (rsrc.At (Reg k)) dst w served a is inside =
      let low : k < length c.homes = grind (arith, nat_tests) in
      way_loads false h _ guard dst w (way_carry u m c addr back g h guard (from_home m c k) dst w a.exits (a.homes k w low is))
  way_value s h guard (rsrc.At (Frame f)) dst w served a is inside =
      let low : f < m.frame_words = grind (arith, nat_tests) in
      subst (λ x. Way u m c addr back true h (fetch m c guard f dst) guard dst x) (a.slots f low ∙ plain_word (found f s.frame) is) (way_fetch h guard f dst a.exits served) where
        plain_word : (e : Option Kept) → plain e ≡ Some w → slot_word addr e ≡ w
        plain_word None e = cc
        plain_word (Some (Plain v)) e = cc
        plain_word (Some (Return b)) e = absurd cc

  -- ---- operations

  -- an operation that starts from a matched state, with its operand and its word
  abbrev pub after : Held → Call → UnitOp → (a w : ℕ) → Held
  after h f o a w =
      let t = started u m addr back f.unit o a w in
      if waits_for h (t ∷ []) then record h { exit = Waits } else acts u m back h (Trigger f.unit f.op, w) (t ∷ [])

  pub record Operated (s : State) (h : Held) (items : List Item) (f : Call) (o : UnitOp) (a w : ℕ) : Type 0 where
    pub mid : Held
    pub match : Matches m c addr Next s mid
    pub leads : Goes u m addr back h items (after mid f o a w)

  -- a word goes to the trigger of an operation whose operand is there
  pub triggers : (s : State) (h : Held) (op : Op) (items : List Item) (a w : ℕ) → Matches m c addr Next s h → IsServed m c op
      → (let o = does_of m c op in let f = call_of m c op in (k : Held) → Calm c.hub true h k → operand_of k.written f.unit o ≡ Some a)
      → Way u m c addr back true h items None (trigger_at (call_of m c op)) w → Operated s h items (call_of m c op) (does_of m c op) a w
  triggers s h op items a w match served has y =
      let f = call_of m c op in
      let o = does_of m c op in
      record {
        mid = y.mid;
        match = match_calm m c addr g Next s h y.mid match y.calm;
        leads = finish u m c addr back true h items None (trigger_at f) w y (after y.mid f o a w)
            (move_trigger u m addr back y.mid y.src f.unit f.op o a w (y.calm.exit ∙ match.exits) y.word served.there (has y.mid y.calm));
      }

  -- the operation of one word
  pub operate_one : (s : State) (h : Held) (op : Op) (b : RSrc) (w : ℕ) → IsServed m c Ldf → Matches m c addr Next s h → IsServed m c op → ((does_of m c op).arity == 1) ≡ true
      → operand s b ≡ Some w → is_src_of m c b ≡ true → Operated s h (value m c None b (trigger_at (call_of m c op))) (call_of m c op) (does_of m c op) 0 w
  operate_one s h op b w loads match served one is inside =
      triggers s h op _ 0 w match served (λ k calm. one_word k.written (call_of m c op).unit (does_of m c op) one)
      (way_value s h None b (trigger_at (call_of m c op)) w loads match is inside)

  -- a word goes to the operand port of an operation
  pub record Placed (s : State) (h : Held) (items : List Item) (unit a : ℕ) : Type 0 where
    pub mid : Held
    pub match : Matches m c addr Next s mid
    pub leads : Goes u m addr back h items mid
    pub there : kept mid.written (KeptOperand unit) ≡ Some a

  pub places : (s : State) (h : Held) (f : Call) (items : List Item) (a : ℕ) → Matches m c addr Next s h → Way u m c addr back true h items None (operand_at f) a → Placed s h items f.unit a
  places s h f items a match y =
      let next : y.mid.exit ≡ Next = y.calm.exit ∙ match.exits in
      record {
        mid = wrote y.mid (KeptOperand f.unit) a;
        match = match_aside m c addr g Next s y.mid (KeptOperand f.unit) a (match_calm m c addr g Next s h y.mid match y.calm) (λ k low. refl) refl;
        leads = finish u m c addr back true h items None (operand_at f) a y _ (move_operand u m addr back y.mid y.src f.unit a next y.word);
        there = kept_there (KeptOperand f.unit, a) y.mid.written (KeptOperand f.unit) (same_self (KeptOperand f.unit));
      }

  pub two_words : (ws : List (Place × ℕ)) (unit : ℕ) (o : UnitOp) (a : ℕ) → (o.arity == 2) ≡ true → kept ws (KeptOperand unit) ≡ Some a → operand_of ws unit o ≡ Some a
  two_words ws unit o a two is = rw two is

  -- the operation of two words, with an operand that is there
  pub operate_two : (s : State) (h : Held) (op : Op) (b : RSrc) (a w : ℕ) → IsServed m c Ldf → Matches m c addr Next s h → IsServed m c op → ((does_of m c op).arity == 2) ≡ true
      → kept h.written (KeptOperand (call_of m c op).unit) ≡ Some a
      → operand s b ≡ Some w → is_src_of m c b ≡ true → Operated s h (value m c None b (trigger_at (call_of m c op))) (call_of m c op) (does_of m c op) a w
  operate_two s h op b a w loads match served two has is inside =
      triggers s h op _ a w match served (λ k calm. two_words k.written (call_of m c op).unit (does_of m c op) a two (calm.same (KeptOperand (call_of m c op).unit) refl ∙ has))
      (way_value s h None b (trigger_at (call_of m c op)) w loads match is inside)
