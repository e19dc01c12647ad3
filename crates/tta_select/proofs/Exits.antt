-- The items of an exit leave the block as the exit does.
use Rattle.std.proofs.Common.{◌≡◌, ◌<◌, ◌+◌, ℕ, zero, suc, Bool, true, false, List, [], ◌∷◌, ◌++◌, Option, Some, None, refl, ap, subst, arith, ◌∙◌, length, slice_index, is_some}
use Rattle.std.specs.Prelude.{◌==◌, not}
use Rattle.std.specs.Option.{unwrap_or}
use Rattle.std.proofs.lemmas.Bool.{and_parts}
use Rattle.std.proofs.lemmas.Bool.Decides.{nat_tests}
use Rattle.tta_select.specs.Cited.{Units, GuardRef, Ldf, Stf, Machine, Jumps, Calls, Halts, KeptRa, Choice, Rel, Outcome, Halted, holds, Item, Leaves, Held, ToBlock, ToHalt, block_at, leave_of, RSrc, State, Kept, Plain, Return, found, return_of, is_set, can_leave, falls_through, transfers, StandsOver}
use Rattle.tta_arch.specs.declared.ends.Dest.TheVariants as dest
use Rattle.tta_moves.specs.declared.items.LongValue.TheVariants as long
use Rattle.tta_moves.specs.Meaning.{Exit, Next}
use Rattle.tta_list.proofs.Tests.{some_same}
use Rattle.tta_lir.specs.declared.code.Exit.{Exit as RExit}
use Rattle.tta_lir.specs.declared.code.Exit.TheVariants as rexit
use Rattle.tta_lir.specs.Meaning.{value as word_of_operand}
use Rattle.tta_select.specs.Select.{guard_of_rel, constant, fetch, condition, test_op, is_inverted, items_of_exit}
use Rattle.tta_select.specs.Ground.{IsGround, IsServed}
use Rattle.tta_select.specs.Relation.{slot_word, Matches, is_src_of}
use Rattle.tta_select.specs.Needs.{op_of_exit, Served, is_exit_of}
use Rattle.tta_select.proofs.Goes.{stays, Guarded}
use Rattle.tta_select.proofs.Moves.{wrote, calm_loads, move_jump, move_call, move_halt, move_idle}
use Rattle.tta_select.proofs.Ways.{Way, finish, way_constant}
use Rattle.tta_select.proofs.Matching.{match_calm}
use Rattle.tta_select.proofs.Values.{way_fetch}
use Rattle.tta_select.proofs.Results.{Landed, landed_behind}
use Rattle.tta_select.proofs.Choosing.{guard_calm}
use Rattle.tta_select.proofs.Conditions.{Tested, tests}
use Rattle.tta_select.proofs.Steps.{has_word}

-- the words of blocks rise
abbrev pub Rises : List ℕ → Type 0
Rises addr = (j k : ℕ) → j < k → k < length addr → slice_index addr j < slice_index addr k

-- so each but the last is its own block's alone
pub block_of_word : (addr : List ℕ) → Rises addr → (k : ℕ) → suc k < length addr → block_at addr (slice_index addr k) ≡ Some k
block_of_word [] up k low = absurd (omega (arith, low))
block_of_word (a ∷ addr) up zero low =
    let same : (a == a) ≡ true = grind (arith, nat_tests) in
    let more : (length addr == 0) ≡ false = grind (arith, nat_tests) in
    rw (same, more) refl
block_of_word (a ∷ addr) up (suc k) low =
    let less : a < slice_index addr k = up 0 (suc k) (omega arith) (omega (arith, low)) in
    let other : (a == slice_index addr k) ≡ false = grind (arith, nat_tests) in
    let ih : block_at addr (slice_index addr k) ≡ Some k = block_of_word addr (λ i j lower inside. up (suc i) (suc j) (omega (arith, lower)) (omega (arith, inside))) k (omega (arith, low)) in
    rw (other, ih) refl

module _ (u : Units) (m : Machine) (c : Choice) (addr : List ℕ) (back : ℕ) (g : IsGround m c) (loads : IsServed m c Ldf) (store : IsServed m c Stf) (over : StandsOver u m) (up : Rises addr) where
  -- what the items of an exit come to: the next block; a transfer to a block; or the end
  pub data Left (s : State) (h : Held) (e : RExit) (items : List Item) : Type 0 where
    Falls : falls_through u s e ≡ true → Landed u m c addr back g Next s h items → Left s h e items
    Moves : (x : Exit) → falls_through u s e ≡ false → Landed u m c addr back g x (transfers s e) h items → (transfers s e).outcome ≡ s.outcome
        → (suc (transfers s e).at < length addr → leave_of addr x ≡ ToBlock (transfers s e).at) → Left s h e items
    Ends : (x : Exit) → falls_through u s e ≡ false → Landed u m c addr back g x (transfers s e) h items → (transfers s e).outcome ≡ Halted → leave_of addr x ≡ ToHalt → Left s h e items

  -- the same state elsewhere
  elsewhere : (x y : Exit) (s : State) (b : ℕ) (o : Outcome) (h : Held) → Matches m c addr x s h → Matches m c addr y (record s { at = b; outcome = o }) (record h { exit = y })
  elsewhere x y s b o h a = record { memory = a.memory; rest = a.rest; output = a.output; exits = refl; homes = a.homes; size = a.size; slots = a.slots; back = a.back }

  jump_leads : (to : ℕ) → suc to < length addr → leave_of addr (Leaves Jumps (slice_index addr to)) ≡ ToBlock to
  jump_leads to low = let e = block_of_word addr up to low in rw e refl

  call_leads : (to : ℕ) → suc to < length addr → leave_of addr (Leaves Calls (slice_index addr to)) ≡ ToBlock to
  call_leads to low = let e = block_of_word addr up to low in rw e refl

  -- a way into control
  jumps : (loads : Bool) (s : State) (h : Held) (items : List Item) (guard : Option GuardRef) (to : ℕ) → Matches m c addr Next s h
      → (y : Way u m c addr back loads h items guard dest.Jump (slice_index addr to)) → Guarded y.mid.written guard true
      → Landed u m c addr back g (Leaves Jumps (slice_index addr to)) (record s { at = to }) h items
  jumps loads s h items guard to match y active = record {
    end = record y.mid { exit = Leaves Jumps (slice_index addr to) };
    match = elsewhere Next (Leaves Jumps (slice_index addr to)) s to s.outcome y.mid (match_calm m c addr g Next s h y.mid match (calm_loads c.hub loads h y.mid y.calm));
    leads = finish u m c addr back loads h items guard dest.Jump (slice_index addr to) y _
        (move_jump u m addr back y.mid guard y.src (slice_index addr to) (y.calm.exit ∙ match.exits) active y.word);
  }

  call_exit : (s : State) (h : Held) (to : ℕ) → Matches m c addr Next s h → back ≡ slice_index addr (s.at + 1)
      → Landed u m c addr back g (Leaves Calls (slice_index addr to)) (transfers s (rexit.Invoke to)) h (items_of_exit m c u (rexit.Invoke to))
  call_exit s h to match here =
      let y = way_constant u m c addr back g h None (long.Address to) dest.Call match.exits in
      let a = match_calm m c addr g Next s h y.mid match (calm_loads c.hub false h y.mid y.calm) in
      record {
        end = record (wrote y.mid KeptRa back) { exit = Leaves Calls (slice_index addr to) };
        match = record {
          memory = a.memory;
          rest = a.rest;
          output = a.output;
          exits = refl;
          homes = a.homes;
          size = a.size;
          slots = a.slots;
          back = λ b is. ap Some (here ∙ ap (λ k. slice_index addr k) (some_same is));
        };
        leads = finish u m c addr back false h _ None dest.Call (slice_index addr to) y _ (move_call u m addr back y.mid y.src (slice_index addr to) (y.calm.exit ∙ match.exits) y.word);
      }

  if_exit : (s : State) (h : Held) (rel : Rel) (a b : RSrc) (to : ℕ) → Matches m c addr Next s h → is_set s a ≡ true → is_set s b ≡ true → is_src_of m c a ≡ true → is_src_of m c b ≡ true
      → IsServed m c (test_op u rel) → Left s h (rexit.If rel a b to) (items_of_exit m c u (rexit.If rel a b to))
  if_exit s h rel a b to match ra rb ia ib served =
      let t = tests u m c addr back g loads store over s h rel a b (word_of_operand s a) (word_of_operand s b) match served (has_word s a ra) ia (has_word s b rb) ib in
      on (holds u rel (word_of_operand s a) (word_of_operand s b)) refl t where
        gd : Option GuardRef
        gd = Some (guard_of_rel m c u rel)

        on : (x : Bool) → holds u rel (word_of_operand s a) (word_of_operand s b) ≡ x → Tested u m c addr back g loads store over s h (condition m c u rel a b) rel x
            → Left s h (rexit.If rel a b to) (condition m c u rel a b ++ constant m c gd (long.Address to) dest.Jump)
        on true e t =
            let y = way_constant u m c addr back g t.mid gd (long.Address to) dest.Jump t.match.exits in
            let k = guard_calm u m c addr back g loads store (is_inverted rel) true t.mid y.mid (calm_loads c.hub false t.mid y.mid y.calm) t.guard in
            Moves (Leaves Jumps (slice_index addr to)) (ap not e) (landed_behind u m c addr back g _ _ h t.mid (condition m c u rel a b) _ t.leads (jumps false s t.mid _ gd to t.match y k)) refl (jump_leads to)
        on false e t =
            let y = way_constant u m c addr back g t.mid gd (long.Address to) dest.Jump t.match.exits in
            let k = guard_calm u m c addr back g loads store (is_inverted rel) false t.mid y.mid (calm_loads c.hub false t.mid y.mid y.calm) t.guard in
            Falls (ap not e) (landed_behind u m c addr back g _ _ h t.mid (condition m c u rel a b) _ t.leads (record {
              end = y.mid;
              match = match_calm m c addr g Next s t.mid y.mid t.match (calm_loads c.hub false t.mid y.mid y.calm);
              leads = finish u m c addr back false t.mid _ gd dest.Jump (slice_index addr to) y _ (move_idle u m addr back y.mid gd y.src dest.Jump k);
            }))

  back_exit : (s : State) (h : Held) (slot : ℕ) → Matches m c addr Next s h → is_some (return_of (found slot s.frame)) ≡ true → slot < m.frame_words
      → Left s h (rexit.Back slot) (items_of_exit m c u (rexit.Back slot))
  back_exit s h slot match ready low =
      let to = unwrap_or (return_of (found slot s.frame)) 0 in
      let y = way_fetch u m c addr back g h None slot dest.Jump match.exits loads in
      let z = subst (λ w. Way u m c addr back true h (fetch m c None slot dest.Jump) None dest.Jump w) (match.slots slot low ∙ word_of_return (found slot s.frame) ready) y in
      Moves (Leaves Jumps (slice_index addr to)) refl (jumps true s h _ None to match z refl) refl (jump_leads to) where
        word_of_return : (e : Option Kept) → is_some (return_of e) ≡ true → slot_word addr e ≡ slice_index addr (unwrap_or (return_of e) 0)
        word_of_return None e = absurd cc
        word_of_return (Some (Plain w)) e = absurd cc
        word_of_return (Some (Return b)) e = refl

  -- each exit that reads nothing unset
  pub exits : (blocks : ℕ) (s : State) (h : Held) (e : RExit) → Matches m c addr Next s h → can_leave s e ≡ true → is_exit_of m c blocks e ≡ true → Served m c (op_of_exit u e)
      → back ≡ slice_index addr (s.at + 1) → Left s h e (items_of_exit m c u e)
  exits blocks s h rexit.Next match ready inside served here = Falls refl (record { end = h; match = match; leads = stays u m addr back h })
  exits blocks s h (rexit.Goto to) match ready inside served here =
      Moves (Leaves Jumps (slice_index addr to)) refl (jumps false s h _ None to match (way_constant u m c addr back g h None (long.Address to) dest.Jump match.exits) refl) refl (jump_leads to)
  exits blocks s h (rexit.If rel a b to) match ready inside served here =
      let r = and_parts (is_set s a) _ ready in
      let ia = and_parts (is_src_of m c a) _ inside in
      let ib = and_parts (is_src_of m c b) _ ia.1 in
      if_exit s h rel a b to match r.0 r.1 ia.0 ib.0 (served (test_op u rel) refl)
  exits blocks s h (rexit.Invoke to) match ready inside served here =
      Moves (Leaves Calls (slice_index addr to)) refl (call_exit s h to match here) refl (call_leads to)
  exits blocks s h (rexit.Back slot) match ready inside served here = let low : slot < m.frame_words = grind (arith, nat_tests) in back_exit s h slot match ready low
  exits blocks s h rexit.Halt match ready inside served here =
      let y = way_constant u m c addr back g h None (long.Word 0) dest.Halt match.exits in
      Ends (Leaves Halts 0) refl (record {
        end = record y.mid { exit = Leaves Halts 0 };
        match = elsewhere Next (Leaves Halts 0) s s.at Halted y.mid (match_calm m c addr g Next s h y.mid match (calm_loads c.hub false h y.mid y.calm));
        leads = finish u m c addr back false h _ None dest.Halt 0 y _ (move_halt u m addr back y.mid y.src 0 (y.calm.exit ∙ match.exits) y.word);
      }) refl refl
