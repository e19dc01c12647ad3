-- A block of code does in its cycles what its list does.
use Rattle.std.proofs.Common.{◌≡◌, ◌⊎◌, inl, inr, ℕ, suc, ◌+◌, ◌<◌, ◌≤◌, true, false, List, Option, Some, None, refl, sym, ap, subst, ◌∙◌, arith, length, take, map, replicate}
use Rattle.std.specs.Prelude.{is_some, option_map, slice_get}
use Rattle.std.proofs.lemmas.Bool.Decides.{nat_tests}
use Rattle.std.proofs.lemmas.List.{take-map}
use Rattle.std.proofs.lemmas.Option.{slice_get-get_or, get_or_from_slice_get, slice_get_within}
use Rattle.tta_list.proofs.Prefixes.{prefix_chain, prefix_same}
use Rattle.tta_sched_laws.specs.Cited.{iterate, Units, Machine, IsMachine, Effect, Place, KeptReg, KeptImm, KeptOperand, KeptRa, KeptPort, kept, Code, State, next, read_source, PlacedItem, Placed, BlockList, does_all, Next, is_waiting, Held, read_held, effect_of, do_items, target_of_item, At}
use Rattle.tta_code.specs.Cycle.{Running}
use Rattle.tta_moves.specs.Meaning.{Waits as Stopped}
use Rattle.tta_moves.specs.Bounds.{writes_by as item_writes}
use Rattle.tta_sched_laws.proofs.Total.{do_moves, has_meaning, waits_at, Timed}
use Rattle.tta_sched_laws.specs.Overlap.{IsPlaced, word_in, Covers, Holds, IsLeft, moment_of, space_by, ShowBy, DoneBy, FindsIts, IsInCycle, Ends, Stops, Overlaps, AreLegal, MeansWithMore}
use Rattle.tta_sched_laws.proofs.Cut.{IsCut, cut_exists}
use Rattle.tta_sched_laws.proofs.Steps.{is_kept}
use Rattle.tta_sched_laws.proofs.Touches.{ReadSame}
use Rattle.tta_sched_laws.proofs.Items.{nth, item_at, idle_item, timed, nth_timed, length_timed}
use Rattle.tta_sched_laws.proofs.Placing.{after, writes, shows, move_at, cycle_at, write_at, or_zero, some_is, Fits}
use Rattle.tta_sched_laws.proofs.Listed as listed
use Rattle.tta_sched_laws.proofs.Listed.{Run, touches, slot_shows}
use Rattle.tta_sched_laws.proofs.InCycle.{reads_same}
use Rattle.tta_sched_laws.proofs.InBlock.{now_at}
use Rattle.tta_sched_laws.proofs.Padded.{some_or_none, all_same, all_wait, all_runs, meaning_padded}
use Rattle.tta_sched_laws.proofs.Over.{output_stays}
use Rattle.tta_sched_laws.proofs.Block as block
use Rattle.tta_sched_laws.proofs.InBlock.{Matches}
use Rattle.tta_sched_laws.proofs.Block.{effects, InCycle}
use Rattle.tta_sched_laws.proofs.Placed.{items_of, effects_timed, effects_are, effects_take, stays_placed}
use Rattle.tta_sched_laws.proofs.Sides.{kept_word, matches_of, holds_left, left_is, count_left, waits_take, waits_before, waits_there}
use Rattle.tta_moves.proofs.Places.{either}

-- ---- a block

module _ (u : Units) (m : Machine) (rules : IsMachine m) (code : Code) (legal : AreLegal m code) (addr : List ℕ) (back : ℕ) (b : BlockList) (p : Placed) (s : State) (h : Held)
    (is : IsPlaced m code addr s.pc b p) (mean : MeansWithMore u m addr back b h) (opens : h.exit ≡ Next) (back_is : back ≡ s.pc + p.length) (runs : s.outcome ≡ Running) (holds : Holds s h) where
  abbrev es : List Effect
  es = map (effect_of addr) b.items

  abbrev placed : List Timed
  placed = timed addr p.items

  abbrev at : ℕ → State
  at c = iterate c (next u m code) s

  abbrev list : Held
  list = do_items u m addr back h b.items

  goes : is_waiting h.exit ≡ false
  goes = ap is_waiting opens

  es_are : effects placed ≡ es
  es_are = effects_are m rules code legal addr s.pc b p is

  total : has_meaning u m back h (effects placed) ≡ true
  total = subst (λ q. has_meaning u m back h q ≡ true) (sym es_are) (meaning_padded u m back es h (length es) goes (omega arith) (mean (replicate (length es) 0)))

  match : Matches s h
  match = matches_of s h runs holds

  abbrev run : Fits u m back placed h p.length → Run
  run f = block.run_of u m back code p.length placed s h (stays_placed m rules code legal addr s.pc b p is) total opens back_is holds.pending match f

  on_placed : (o : Option ℕ) → waits_at u m back h es ≡ o → waits_at u m back h (effects placed) ≡ o
  on_placed o e = subst (λ q. waits_at u m back h q ≡ o) (sym es_are) e

  -- the list after some of its items
  after_is : waits_at u m back h es ≡ None → (k : ℕ) → after u m back placed h k ≡ do_items u m addr back h (take k (items_of p.items))
  after_is never k =
      let same : effects (take k placed) ≡ map (effect_of addr) (take k (items_of p.items)) =
      effects_take k placed ∙ ap (take k) (effects_timed addr p.items) ∙ take-map (effect_of addr) k (items_of p.items) in
      let items : map (effect_of addr) (items_of p.items) ≡ es = ap (map (effect_of addr)) is.respects.order in
      let never' : waits_at u m back h (map (effect_of addr) (take k (items_of p.items))) ≡ None =
      subst (λ q. waits_at u m back h q ≡ None) (take-map (effect_of addr) k (items_of p.items))
      (waits_take u m back (map (effect_of addr) (items_of p.items)) h k (subst (λ q. waits_at u m back h q ≡ None) (sym items) never)) in
      ap (do_moves u m back h) same ∙ sym (all_same u m back (map (effect_of addr) (take k (items_of p.items))) h goes never')

  move_is : (j : ℕ) → move_at u m back placed h j ≡ effect_of addr (item_at p.items j).item
  move_is j = ap (λ (t : Timed). t.does) (nth_timed addr p.items j)

  cycle_is : (j : ℕ) → cycle_at u m back placed h j ≡ (item_at p.items j).cycle
  cycle_is j = ap (λ (t : Timed). t.cycle) (nth_timed addr p.items j)

  write_is : (x : Place) (j : ℕ) → write_at u m back placed h x j ≡ moment_of (At x) (item_writes m (item_at p.items j).item)
  write_is x j = ap (λ (e : Effect). moment_of (At x) (Rattle.tta_sched_laws.proofs.Total.writes_by m e)) (move_is j)

  -- the writes that show by a cycle
  cut_of : (x : Place) (c k : ℕ) → k ≤ length p.items → ShowBy m p.items (At x) c k → IsCut (writes u m back placed h x) (shows u m back placed h x) (length placed) c k
  cut_of x c k le show = record {
    before = λ j lt w.
        let a = show.before j (or_zero (write_at u m back placed h x j)) (item_at p.items j) (slice_get-get_or p.items j idle_item (omega arith)) lt (sym (write_is x j) ∙ some_is (write_at u m back placed h x j) w) in
        let e = cycle_is j in
        omega arith;
    later = λ j le lt w.
        let a = show.later j (or_zero (write_at u m back placed h x j)) (item_at p.items j) (slice_get-get_or p.items j idle_item (let e = length_timed addr p.items in omega arith)) le (sym (write_is x j) ∙ some_is (write_at u m back placed h x j) w) in
        let e = cycle_is j in
        omega arith;
  }

  -- the touches of a space that are done by a cycle
  done_of : (q c k : ℕ) (f : Fits u m back placed h p.length) → k ≤ length p.items → DoneBy m p.items q c k → IsCut (touches (run f) q) (slot_shows (run f)) (length placed) c k
  done_of q c k f le done = record {
    before = λ j lt w.
        let a = done.before j (item_at p.items j) (slice_get-get_or p.items j idle_item (omega arith)) lt (is_space j w) in
        let e = cycle_is j in
        omega arith;
    later = λ j le lt w.
        let a = done.later j (item_at p.items j) (slice_get-get_or p.items j idle_item (let l = length_timed addr p.items in omega arith)) le (is_space j w) in
        let e = cycle_is j in
        omega arith;
  } where
    is_space : (j : ℕ) → touches (run f) q j ≡ true → space_by m (target_of_item (item_at p.items j).item) ≡ q
    is_space j w = let g : space_by m (move_at u m back placed h j).target ≡ q = grind (arith, nat_tests) in sym (ap (λ (e : Effect). space_by m e.target) (move_is j)) ∙ g

  -- there are such items
  show_cut : (x : Place) (c k : ℕ) → IsCut (writes u m back placed h x) (shows u m back placed h x) (length placed) c k → ShowBy m p.items (At x) c k
  show_cut x c k cut = record {
    before = λ j a y e lt w. let r = there j a y e w in let g = cut.before j lt r.0 in let f = r.1 in omega arith;
    later = λ j a y e le w. let r = there j a y e w in let l = slice_get_within p.items j y e in let g = cut.later j le (let n = length_timed addr p.items in omega arith) r.0 in let f = r.1 in omega arith;
  } where
    there : (j a : ℕ) (y : PlacedItem) → slice_get p.items j ≡ Some y → moment_of (At x) (item_writes m y.item) ≡ Some a → (writes u m back placed h x j ≡ true) × (shows u m back placed h x j ≡ y.cycle + a)
    there j a y e w =
        let same : item_at p.items j ≡ y = get_or_from_slice_get p.items j y idle_item e in
        let is_a : write_at u m back placed h x j ≡ Some a = write_is x j ∙ ap (λ (q : PlacedItem). moment_of (At x) (item_writes m q.item)) same ∙ w in
        let at_y : cycle_at u m back placed h j ≡ y.cycle = cycle_is j ∙ ap (λ (q : PlacedItem). q.cycle) same in
        (ap is_some is_a, ap (λ (n : ℕ). n + or_zero (write_at u m back placed h x j)) at_y ∙ ap (λ (o : Option ℕ). y.cycle + or_zero o) is_a)

  done_cut : (q c k : ℕ) (f : Fits u m back placed h p.length) → IsCut (touches (run f) q) (slot_shows (run f)) (length placed) c k → DoneBy m p.items q c k
  done_cut q c k f cut = record {
    before = λ j y e lt w. let r = there j y e w in let g = cut.before j lt r.0 in let z = r.1 in omega arith;
    later = λ j y e le w. let r = there j y e w in let l = slice_get_within p.items j y e in let g = cut.later j le (let n = length_timed addr p.items in omega arith) r.0 in let z = r.1 in omega arith;
  } where
    there : (j : ℕ) (y : PlacedItem) → slice_get p.items j ≡ Some y → space_by m (target_of_item y.item) ≡ q → (touches (run f) q j ≡ true) × (cycle_at u m back placed h j ≡ y.cycle)
    there j y e w =
        let same : item_at p.items j ≡ y = get_or_from_slice_get p.items j y idle_item e in
        let is_q : space_by m (move_at u m back placed h j).target ≡ q = ap (λ (v : Effect). space_by m v.target) (move_is j ∙ ap (λ (z : PlacedItem). effect_of addr z.item) same) ∙ w in
        (grind (arith, nat_tests, is_q), cycle_is j ∙ ap (λ (z : PlacedItem). z.cycle) same)

  in_cycle : waits_at u m back h es ≡ None → (c : ℕ) → c < p.length → IsInCycle u m addr back p.items h c (at c)
  in_cycle never c lt =
      let now = block.block_in u m back code p.length placed s h (stays_placed m rules code legal addr s.pc b p is) total opens back_is holds.pending match (on_placed None never) c lt in
      let st = now.stands in
      record {
        runs = st.outcome;
        shown = λ x. let k = cut_exists {V = ℕ} ◌≡◌ (writes u m back placed h x) (shows u m back placed h x) (length placed) (λ i. 0) (listed.show_rises (run now.facts) x) (λ j lj w. refl) c in (k.0, (let l = length_timed addr p.items in let g = k.1 in omega arith), show_cut x c k.0 k.2);
        done = λ q pos. let k = cut_exists {V = ℕ} ◌≡◌ (touches (run now.facts) q) (slot_shows (run now.facts)) (length placed) (λ i. 0) (listed.space_rises (run now.facts) q pos) (λ j lj w. refl) c in (k.0, (let l = length_timed addr p.items in let g = k.1 in omega arith), done_cut q c k.0 now.facts k.2);
        places = λ x k le show. subst (λ (g : Held). Covers (word_in (at c) x) (kept g.written x)) (after_is never k) (shown now x k le show);
        memory = λ k le done. st.memory k (let l = length_timed addr p.items in omega arith) (done_of 1 c k now.facts le done) ∙ ap (λ (g : Held). g.memory) (after_is never k);
        frame = λ k le done. st.frame k (let l = length_timed addr p.items in omega arith) (done_of 2 c k now.facts le done) ∙ ap (λ (g : Held). g.frame) (after_is never k);
        rest = λ k le done. st.rest k (let l = length_timed addr p.items in omega arith) (done_of 3 c k now.facts le done) ∙ ap (λ (g : Held). g.rest) (after_is never k);
        output = λ k le done. st.output k (let l = length_timed addr p.items in omega arith) (done_of 3 c k now.facts le done) ∙ ap (λ (g : Held). g.output) (after_is never k);
        reads = λ j y e e'. finds now j y e e';
      } where
        shown : InCycle u m back code p.length placed s h (stays_placed m rules code legal addr s.pc b p is) total opens back_is holds.pending match c → (x : Place) (k : ℕ) → k ≤ length p.items → ShowBy m p.items (At x) c k
            → Covers (word_in (at c) x) (kept (after u m back placed h k).written x)
        shown now x k le show = either (is_kept x)
            (λ e. subst (λ o. Covers o (kept (after u m back placed h k).written x)) (sym (kept_word (at c) x e)) (now.stands.kept x e k (let l = length_timed addr p.items in omega arith) (cut_of x c k le show)))
            (λ e. port_case x e show) where
              port_case : (y : Place) → is_kept y ≡ false → ShowBy m p.items (At y) c k → Covers (word_in (at c) y) (kept (after u m back placed h k).written y)
              port_case (KeptPort q) e show' = now.stands.ports q k (let l = length_timed addr p.items in omega arith) (cut_of (KeptPort q) c k le show')
              port_case (KeptReg f i) e show' = absurd cc
              port_case (KeptImm f i) e show' = absurd cc
              port_case (KeptOperand q) e show' = absurd cc
              port_case KeptRa e show' = absurd cc

        finds : InCycle u m back code p.length placed s h (stays_placed m rules code legal addr s.pc b p is) total opens back_is holds.pending match c → (j : ℕ) (y : PlacedItem) → slice_get p.items j ≡ Some y → y.cycle ≡ c
            → FindsIts (read_source (at c)) (read_held (do_items u m addr back h (take j (items_of p.items))).written) (effect_of addr y.item)
        finds now j y e at_c =
            let len = slice_get_within p.items j y e in
            let same : item_at p.items j ≡ y = get_or_from_slice_get p.items j y idle_item e in
            let here : cycle_at u m back placed h j ≡ c = cycle_is j ∙ ap (λ (q : PlacedItem). q.cycle) same ∙ at_c in
            let r = reads_same (now_at (run now.facts) c (at c) lt now.stands) j (let l = length_timed addr p.items in omega arith) here in
            let r' : ReadSame (read_source (at c)) (read_held (do_items u m addr back h (take j (items_of p.items))).written) (effect_of addr y.item) =
            subst (λ (v : Effect). ReadSame (read_source (at c)) (read_held (do_items u m addr back h (take j (items_of p.items))).written) v) (move_is j ∙ ap (λ (q : PlacedItem). effect_of addr q.item) same)
            (subst (λ (g : Held). ReadSame (read_source (at c)) (read_held g.written) (move_at u m back placed h j)) (after_is never j) r) in
            record { guard = r'.0; source = r'.1 }

  -- ---- the two ends

  whole_is : waits_at u m back h es ≡ None → do_moves u m back h (effects placed) ≡ list
  whole_is never = ap (do_moves u m back h) es_are ∙ sym (all_same u m back es h goes never)

  ends_so : waits_at u m back h es ≡ None → Ends u m code addr back p h s list
  ends_so never =
      let end = block.block_ends u m back code p.length placed s h (stays_placed m rules code legal addr s.pc b p is) total opens back_is holds.pending match (on_placed None never) in
      let e = subst (λ (g : Held). block.Ends s p.length g (at p.length)) (whole_is never) end in
      let quiet : is_waiting list.exit ≡ false = subst (λ (g : Held). is_waiting g.exit ≡ false) (sym (all_same u m back es h goes never)) (all_runs u m back es h goes) in
      let out : (at p.length).output ≡ list.output = ap (λ (t : State). t.output) e.is ∙ (holds_left e.last list list.exit e.match).output in
      record {
        cycles = in_cycle never;
        output = λ c le. prefix_chain (at c).output (at p.length).output list.output (output_stays u m code s c p.length le) (prefix_same (at p.length).output list.output out);
        holds = subst (λ (t : State). Holds t list) (sym e.is) (holds_left e.last list list.exit e.match);
        count = ap (λ (t : State). t.cycle) e.is ∙ count_left e.last list.exit ∙ e.cycle;
        left = subst (IsLeft list.exit (s.pc + p.length)) (sym e.is) (left_is e.last list.exit (s.pc + p.length) e.match.outcome e.pc quiet);
      }

  -- where the list waits
  items_take : (k : ℕ) → map (effect_of addr) (take k (items_of p.items)) ≡ take k es
  items_take k = sym (take-map (effect_of addr) k (items_of p.items)) ∙ ap (take k) (ap (map (effect_of addr)) is.respects.order)

  before_wait : (k : ℕ) → waits_at u m back h es ≡ Some k → is_waiting (do_items u m addr back h (take k (items_of p.items))).exit ≡ false
  before_wait k w =
      let never = waits_before u m back es h k w in
      subst (λ q. is_waiting (does_all u m back h q).exit ≡ false) (sym (items_take k))
      (subst (λ (g : Held). is_waiting g.exit ≡ false) (sym (all_same u m back (take k es) h goes never)) (all_runs u m back (take k es) h goes))

  at_wait : (k : ℕ) → waits_at u m back h es ≡ Some k → is_waiting (do_items u m addr back h (take (suc k) (items_of p.items))).exit ≡ true
  at_wait k w =
      let there = waits_there u m back es h k w in
      subst (λ q. is_waiting (does_all u m back h q).exit ≡ true) (sym (items_take (suc k)))
      (ap (λ (g : Held). is_waiting g.exit) (all_wait u m back (take (suc k) es) h k goes there))

  stops_so : (k : ℕ) → waits_at u m back h es ≡ Some k → Stops u m code addr back p h s list
  stops_so k w =
      let w' = on_placed (Some k) w in
      let wait = block.block_waits u m back code p.length placed s h (stays_placed m rules code legal addr s.pc b p is) total opens back_is holds.pending match k w' in
      let same : after u m back placed h k ≡ do_moves u m back h (take k es) = ap (do_moves u m back h) (effects_take k placed ∙ ap (take k) es_are) in
      let end : list ≡ record (do_moves u m back h (take k es)) { exit = Stopped } = all_wait u m back es h k goes w in
      let count : length placed ≡ length p.items = length_timed addr p.items in
      record {
        item = k;
        before = before_wait k w;
        there = at_wait k w;
        cycle = (nth placed k).cycle;
        own = ap (option_map (λ (y : PlacedItem). y.cycle)) (slice_get-get_or p.items k idle_item (let l = (block.waits_first u m back placed h k w').within in omega arith)) ∙ ap Some (sym (cycle_is k));
        within = let l = wait.0 in omega arith;
        runs = λ c le. (block.block_waits_in u m back code p.length placed s h (stays_placed m rules code legal addr s.pc b p is) total opens back_is holds.pending match k w' c le).stands.outcome;
        waits = wait.1.outcome;
        output = wait.1.output ∙ ap (λ (g : Held). g.output) same ∙ sym (ap (λ (g : Held). g.output) end);
        rest = wait.1.rest ∙ ap (λ (g : Held). g.rest) same ∙ sym (ap (λ (g : Held). g.rest) end);
        same = λ c le. block.block_waits_more u m back code p.length placed s h (stays_placed m rules code legal addr s.pc b p is) total opens back_is holds.pending match k w' (length p.items) c le;
      }

  -- a block of code does in its cycles what its list does
  pub overlaps : Overlaps u m code addr back b p h s
  overlaps = on (some_or_none (waits_at u m back h es)) where
    on : ((k : ℕ) × (waits_at u m back h es ≡ Some k)) ⊎ (waits_at u m back h es ≡ None) → Overlaps u m code addr back b p h s
    on (inl w) = record {
      ends = λ e. let z : true ≡ false = sym (ap (λ (g : Held). is_waiting g.exit) (all_wait u m back es h w.0 goes w.1)) ∙ e in absurd cc;
      stops = λ e. stops_so w.0 w.1;
    }
    on (inr never) = record {
      ends = λ e. ends_so never;
      stops = λ e. let z : false ≡ true = sym (subst (λ (g : Held). is_waiting g.exit ≡ false) (sym (all_same u m back es h goes never)) (all_runs u m back es h goes)) ∙ e in absurd cc;
    }
