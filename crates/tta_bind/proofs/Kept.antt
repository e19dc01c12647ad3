-- Items on seats where they find what they find in their list do the same.
use Rattle.std.proofs.Common.{◌≡◌, ℕ, zero, suc, Bool, true, false, List, [], ◌∷◌, ◌++◌, Option, Some, None, refl, sym, ap, subst, arith, ◌∙◌}
use Rattle.std.specs.Prelude.{if◌then◌else◌, not, ◌==◌, ◌&&◌, ◌||◌, length, slice_get, option_map}
use Rattle.std.specs.Option.{option_map_or, option_to_list}
use Rattle.std.proofs.lemmas.Bool.{and_parts, or_left, or_right, not-true}
use Rattle.std.proofs.lemmas.Bool.Decides.{nat_tests}
use Rattle.tta_bind.specs.Cited.{Units, UnitOp, Machine, same_op, Target, Reg, Imm, Trigger, Control, Jumps, Calls, Halts, Effect, Place, KeptReg, KeptImm, KeptOperand, KeptRa, KeptPort, same_place, Written, kept, op_at, has_result, ItemSource, Address, Item, source_of, target_of_item, place_written, is_at, guard_place, writes, is_unguarded, is_waiting, Held, linked, effect_of, read_held, does, lacks, do_items, has_meaning, Alike, KeepsMeaning}
use Rattle.tta_arch.specs.declared.ends.Source.TheVariants as source
use Rattle.tta_arch.specs.Effects.{Operand}
use Rattle.tta_arch.proofs.Places.{same_is}
use Rattle.tta_moves.specs.declared.items.ItemSource.TheVariants.{Port}
use Rattle.tta_moves.proofs.Places.{either, kept_there}
use Rattle.tta_moves.proofs.Steps.{step_write, does_written, step_place, kept_other}
use Rattle.tta_moves.proofs.Waiting.{stuck_all}
use Rattle.tta_reorder.proofs.Listed.{state, next, past, ends, means_at, means_from}
use Rattle.tta_list.proofs.Tests.{some_same}
use Rattle.tta_bind.specs.declared.seats.Seat.{Seat}
use Rattle.tta_bind.specs.Seated.{seated_source, seated, all_seated, last_write, finds, does_same, reads_same, starts_same, had_same, can_have, AreSeats}
use Rattle.tta_bind.proofs.Items.{guard_seated, source_seated, target_seated, seated_length, At, seat_at, none_past}
use Rattle.tta_bind.proofs.Doing.{on_seat, put_on, same_op_is, StartsSame, SameStart, SameEnds, does_seated, lacks_seated, place_seated}
use Rattle.tta_bind.proofs.Writers.{is_plain, lives_plain, wrote_before, wrote_now, wrote_not, wrote_none, plain_found, apart, apart_too, spared}

-- ---- item by item

module _ (u : Units) (m : Machine) (addr : List ℕ) (back : ℕ) (items : List Item) (seats : List Seat) (are : AreSeats m items seats) (h : Held) where
  abbrev others : List Item
  others = all_seated seats items

  -- what there is after the first n items, and after the same on their seats
  abbrev old : ℕ → Held
  old n = state u m addr back h items n

  abbrev new : ℕ → Held
  new n = state u m addr back h others n

  -- all is the same but what was written; and that is the same in places that find the same
  pub record Stands (n : ℕ) : Type 0 where
    pub all : new n ≡ record (old n) { written = (new n).written }
    pub places : is_waiting (old n).exit ≡ false → (p q : Place) → finds m items others n p q ≡ true → kept (new n).written q ≡ kept (old n).written p

  first : Stands 0
  unfolding last_write
  first = record { all = refl; places = λ runs p q e. let same : p ≡ q = same_is p q e in ap (λ (z : Place). kept h.written z) (sym same) }

  -- ---- one item more

  module _ (n : ℕ) (x : Item) (s : Seat) (is : slice_get items n ≡ Some x) (there : slice_get seats n ≡ Some s) (other : slice_get others n ≡ Some (seated s x)) (st : Stands n) (runs : is_waiting (old n).exit ≡ false) where
    abbrev e : Effect
    e = effect_of addr x

    abbrev f : Effect
    f = effect_of addr (seated s x)

    abbrev vs : Written
    vs = (old n).written

    abbrev ws : Written
    ws = (new n).written

    have : can_have m items others n s x ≡ true
    have = are.each n x s is there

    has_two : ((reads_same m items others n s (source_of x) && starts_same m items others n s (target_of_item x)) ≡ true) × ((is_unguarded x || had_same m items others n s (target_of_item x)) ≡ true)
    has_two = and_parts (reads_same m items others n s (source_of x) && starts_same m items others n s (target_of_item x)) (is_unguarded x || had_same m items others n s (target_of_item x)) have

    has_first : (reads_same m items others n s (source_of x) ≡ true) × (starts_same m items others n s (target_of_item x) ≡ true)
    has_first = and_parts (reads_same m items others n s (source_of x)) (starts_same m items others n s (target_of_item x)) has_two.0

    plain_kept : (p : Place) → is_plain p ≡ true → kept ws p ≡ kept vs p
    plain_kept p pl = st.places runs p p (plain_found m seats items are.size n p pl)

    source_kept : (src : ItemSource) → reads_same m items others n s src ≡ true → read_held ws (linked addr (seated_source s src)) ≡ read_held vs (linked addr src)
    source_kept (Port (source.Reg file index)) e = plain_kept (KeptReg file index) refl
    source_kept (Port (source.Imm unit index)) e = plain_kept (KeptImm unit index) refl
    source_kept (Port (source.Shown unit)) e = st.places runs (KeptPort unit) (KeptPort s.read) e
    source_kept (Port source.Ra) e = plain_kept KeptRa refl
    source_kept (Port (source.Value word)) e = refl
    source_kept (Address block) e = refl

    start_kept : (unit op : ℕ) → starts_same m items others n s (Trigger unit op) ≡ true → SameStart m s vs ws unit op
    start_kept unit op e = on (op_at m unit op) refl (op_at m s.unit s.op) refl e where
      on : (o : Option UnitOp) → op_at m unit op ≡ o → (q : Option UnitOp) → op_at m s.unit s.op ≡ q
          → (does_same o q && option_map_or (λ o. not (o.arity == 2) || finds m items others n (KeptOperand unit) (KeptOperand s.unit)) o true) ≡ true → SameStart m s vs ws unit op
      on None a (Some q) b e = absurd cc
      on None a None b e = absurd cc
      on (Some o) a None b e = absurd cc
      on (Some o) a (Some q) b e =
          let two = and_parts (does_same (Some o) (Some q)) (not (o.arity == 2) || finds m items others n (KeptOperand unit) (KeptOperand s.unit)) e in
          let one = and_parts (same_op o.op q.op) (o.arity == q.arity) two.0 in
          let arity : o.arity ≡ q.arity = grind (arith, nat_tests) in
          record {
            one = o;
            other = q;
            there = a;
            there_too = b;
            does = sym (same_op_is o.op q.op one.0);
            operand = ap (λ (k : ℕ). if k == 2 then kept ws (KeptOperand s.unit) else Some 0) (sym arity) ∙ either (o.arity == 2)
                (λ two_words. let found : finds m items others n (KeptOperand unit) (KeptOperand s.unit) ≡ true = rw two_words at two.1 in rw two_words (st.places runs (KeptOperand unit) (KeptOperand s.unit) found))
                (λ one_word. rw one_word refl);
          }

    starts_kept : (t : Target) → starts_same m items others n s t ≡ true → StartsSame m s vs ws t
    starts_kept (Reg file index) e = tt
    starts_kept (Imm unit index) e = tt
    starts_kept (Operand unit) e = tt
    starts_kept (Trigger unit op) e = start_kept unit op e
    starts_kept (Control kind) e = tt

    same : SameEnds u m back (old n) ws s e f
    same = record {
      guard = guard_seated s x;
      target = target_seated s x;
      guarded = λ g at. plain_kept (guard_place g) refl;
      source = ap (λ (src : ItemSource). read_held ws (linked addr src)) (source_seated s x) ∙ source_kept (source_of x) has_first.0;
      starts = starts_kept (target_of_item x) has_first.1;
    }

    -- what is written
    abbrev word : Option (Place × ℕ)
    word = step_write u m back (old n) e

    abbrev top : Written
    top = option_to_list (put_on s word) ++ ws

    old_next : old (suc n) ≡ does u m back (old n) e
    old_next = next u m addr back h items n x is

    new_next : new (suc n) ≡ record (does u m back (old n) e) { written = top }
    new_next =
        next u m addr back h others n (seated s x) other
        ∙ ap (λ (k : Held). does u m back k f) st.all
        ∙ does_seated u m back (old n) ws s e f runs same

    new_all : new (suc n) ≡ record (old (suc n)) { written = (new (suc n)).written }
    new_all =
        new_next
        ∙ ap (λ (k : Held). record k { written = top }) (sym old_next)
        ∙ ap (λ (w : Written). record (old (suc n)) { written = w }) (sym (ap (λ (k : Held). k.written) new_next))

    -- a place that both write
    both : lacks m (old n) e ≡ false → is_waiting (does u m back (old n) e).exit ≡ false → (p q : Place) → writes m p x ≡ true → writes m q (seated s x) ≡ true
        → kept top q ≡ kept (option_to_list word ++ vs) p
    both fine after p q wp wq = on word refl where
      q_at : is_at q (option_map (on_seat s) (place_written m (target_of_item x))) ≡ true
      q_at = ap (λ (o : Option Place). is_at q o) (sym (place_seated m s vs ws (target_of_item x) (starts_kept (target_of_item x) has_first.1)))
          ∙ ap (λ (t : Target). is_at q (place_written m t)) (sym (target_seated s x)) ∙ wq

      on : (o : Option (Place × ℕ)) → step_write u m back (old n) e ≡ o → kept (option_to_list (put_on s o) ++ ws) q ≡ kept (option_to_list o ++ vs) p
      on (Some w) at =
          let place = step_place u m back (old n) e w at in
          let here : same_place w.0 p ≡ true = rw place at wp in
          let here_too : same_place (on_seat s w.0) q ≡ true = rw place at q_at in
          kept_there (on_seat s w.0, w.1) ws q here_too ∙ sym (kept_there w vs p here)
      on None at = had (target_of_item x) p q wp q_at had_it where
        guarded : is_unguarded x ≡ false
        guarded = spared u m back (old n) e p runs after fine at wp

        had_it : had_same m items others n s (target_of_item x) ≡ true
        had_it = let two = has_two.1 in rw guarded at two

        ends : (r z p q : Place) → same_place r p ≡ true → same_place z q ≡ true → finds m items others n r z ≡ true → kept ws q ≡ kept vs p
        ends r z p q a b c =
            let i : r ≡ p = same_is r p a in
            let j : z ≡ q = same_is z q b in
            subst (λ (k : Place). kept ws k ≡ kept vs p) j (subst (λ (k : Place). kept ws z ≡ kept vs k) i (st.places runs r z c))

        lone : (r : Place) → is_plain r ≡ true → (p q : Place) → same_place r p ≡ true → same_place r q ≡ true → kept ws q ≡ kept vs p
        lone r pl p q a b = ends r r p q a b (plain_found m seats items are.size n r pl)

        had : (t : Target) (p q : Place) → is_at p (place_written m t) ≡ true → is_at q (option_map (on_seat s) (place_written m t)) ≡ true → had_same m items others n s t ≡ true → kept ws q ≡ kept vs p
        had (Reg file index) p q a b c = lone (KeptReg file index) refl p q a b
        had (Imm unit index) p q a b c = lone (KeptImm unit index) refl p q a b
        had (Operand unit) p q a b c = ends (KeptOperand unit) (KeptOperand s.unit) p q a b c
        had (Control Jumps) p q a b c = absurd cc
        had (Control Calls) p q a b c = lone KeptRa refl p q a b
        had (Control Halts) p q a b c = absurd cc
        had (Trigger unit op) p q a b c = ports (op_at m unit op) a b where
          ports : (o : Option UnitOp) → is_at p (option_map_or (λ o. if has_result o.op then Some (KeptPort unit) else None) o None) ≡ true
              → is_at q (option_map (on_seat s) (option_map_or (λ o. if has_result o.op then Some (KeptPort unit) else None) o None)) ≡ true → kept ws q ≡ kept vs p
          ports None a b = absurd cc
          ports (Some o) a b = either (has_result o.op)
              (λ has. ends (KeptPort unit) (KeptPort s.unit) p q (rw has at a) (rw has at b) c)
              (λ no. let nowhere = rw no at a in absurd cc)

    -- places that find the same after it
    new_places : lacks m (old n) e ≡ false → is_waiting (old (suc n)).exit ≡ false → (p q : Place) → finds m items others (suc n) p q ≡ true
        → kept (new (suc n)).written q ≡ kept (old (suc n)).written p
    new_places fine runs_on p q found = either (writes m p x) by_first not_first where
      after : is_waiting (does u m back (old n) e).exit ≡ false
      after = subst (λ (k : Held). is_waiting k.exit ≡ false) old_next runs_on

      new_is : kept (new (suc n)).written q ≡ kept top q
      new_is = ap (λ (k : Held). kept k.written q) new_next

      old_is : kept (old (suc n)).written p ≡ kept (option_to_list word ++ vs) p
      old_is = ap (λ (k : Held). kept k.written p) old_next ∙ ap (λ (w : Written). kept w p) (does_written u m back (old n) e)

      not_now : (z : Place) (list : List Item) → last_write m z list n ≡ Some n → ⊥
      not_now z list at = let less = wrote_before m z list n n at in omega (arith, less)

      by_first : writes m p x ≡ true → kept (new (suc n)).written q ≡ kept (old (suc n)).written p
      by_first wp = either (writes m q (seated s x))
          (λ wq. new_is ∙ both fine after p q wp wq ∙ sym old_is)
          (λ away. absurd (apart n p q (last_write m q others n) (not_now q others)
          (rw (wrote_now m p items n x is wp, wrote_not m q others n (seated s x) other away) at found)))

      not_first : writes m p x ≡ false → kept (new (suc n)).written q ≡ kept (old (suc n)).written p
      not_first np = either (writes m q (seated s x))
          (λ wq. absurd (apart_too n p q (last_write m p items n) (not_now p items)
          (rw (wrote_not m p items n x is np, wrote_now m q others n (seated s x) other wq) at found)))
          (λ away.
          let before : finds m items others n p q ≡ true = rw (wrote_not m p items n x is np, wrote_not m q others n (seated s x) other away) at found in
          ap (λ (k : Held). kept k.written q) (next u m addr back h others n (seated s x) other)
          ∙ kept_other u m back (new n) f q away
          ∙ st.places runs p q before
          ∙ sym (kept_other u m back (old n) e p np)
          ∙ sym (ap (λ (k : Held). kept k.written p) old_next))

    lacks_alike : lacks m (new n) f ≡ lacks m (old n) e
    lacks_alike = ap (λ (k : Held). lacks m k f) st.all ∙ lacks_seated u m back (old n) ws s e f same

  -- ---- the list

  module _ (ok : has_meaning u m addr back h items ≡ true) where
    advance : (n : ℕ) → Stands n → Stands (suc n)
    advance n st = on (slice_get items n) refl where
      on : (o : Option Item) → slice_get items n ≡ o → Stands (suc n)
      on None is = record {
        all =
            past u m addr back h others n (none_past seats items n is) ∙ st.all
            ∙ ap (λ (k : Held). record k { written = (new n).written }) (sym (past u m addr back h items n is))
            ∙ ap (λ (k : Held). record (old (suc n)) { written = k.written }) (sym (past u m addr back h others n (none_past seats items n is)));
        places = λ runs p q found.
            let runs_now : is_waiting (old n).exit ≡ false = subst (λ (k : Held). is_waiting k.exit ≡ false) (past u m addr back h items n is) runs in
            let before : finds m items others n p q ≡ true = rw (wrote_none m p items n is, wrote_none m q others n (none_past seats items n is)) at found in
            ap (λ (k : Held). kept k.written q) (past u m addr back h others n (none_past seats items n is)) ∙ st.places runs_now p q before
            ∙ sym (ap (λ (k : Held). kept k.written p) (past u m addr back h items n is));
      }
      on (Some x) is =
          let a = seat_at seats items n x are.size is in
          either (is_waiting (old n).exit) (waits x a is) (λ runs. record {
            all = new_all n x a.seat is a.there a.other st runs;
            places = λ runs_on. new_places n x a.seat is a.there a.other st runs (fine x is runs) runs_on;
          }) where
            fine : (x : Item) → slice_get items n ≡ Some x → is_waiting (old n).exit ≡ false → lacks m (old n) (effect_of addr x) ≡ false
            fine x is runs = let t = means_at u m addr back h items n x ok is in let away : not (lacks m (old n) (effect_of addr x)) ≡ true = rw runs at t in not-true (lacks m (old n) (effect_of addr x)) away

            waits : (x : Item) → At seats items n x → slice_get items n ≡ Some x → is_waiting (old n).exit ≡ true → Stands (suc n)
            waits x a is w =
                let still : old (suc n) ≡ old n = next u m addr back h items n x is ∙ stuck_all u m back (old n) (effect_of addr x ∷ []) w in
                let waits_too : is_waiting (new n).exit ≡ true = ap (λ (k : Held). is_waiting k.exit) st.all ∙ w in
                let still_too : new (suc n) ≡ new n = next u m addr back h others n (seated a.seat x) a.other ∙ stuck_all u m back (new n) (effect_of addr (seated a.seat x) ∷ []) waits_too in
                record {
                  all = still_too ∙ st.all ∙ ap (λ (k : Held). record k { written = (new n).written }) (sym still) ∙ ap (λ (k : Held). record (old (suc n)) { written = k.written }) (sym still_too);
                  places = λ runs p q found. let no_truth : true ≡ false = sym w ∙ sym (ap (λ (k : Held). is_waiting k.exit) still) ∙ runs in absurd cc;
                }

    stands : (n : ℕ) → Stands n
    stands zero = first
    stands (suc n) = advance n (stands n)

    meant : (n : ℕ) (y : Item) → slice_get others n ≡ Some y → (is_waiting (new n).exit || not (lacks m (new n) (effect_of addr y))) ≡ true
    meant n y at = on (slice_get items n) refl where
      on : (o : Option Item) → slice_get items n ≡ o → (is_waiting (new n).exit || not (lacks m (new n) (effect_of addr y))) ≡ true
      on None is = let none : None ≡ Some y = sym (none_past seats items n is) ∙ at in absurd cc
      on (Some x) is =
          let a = seat_at seats items n x are.size is in
          let st = stands n in
          let y_is : seated a.seat x ≡ y = some_same (sym a.other ∙ at) in
          let ok_there = means_at u m addr back h items n x ok is in
          let same_wait : is_waiting (new n).exit ≡ is_waiting (old n).exit = ap (λ (k : Held). is_waiting k.exit) st.all in
          either (is_waiting (old n).exit)
          (λ w. or_left (is_waiting (new n).exit) _ (same_wait ∙ w))
          (λ runs.
          let alike = lacks_alike n x a.seat is a.there a.other st runs in
          let fine : not (lacks m (old n) (effect_of addr x)) ≡ true = rw runs at ok_there in
          or_right (is_waiting (new n).exit) _ (subst (λ (z : Item). not (lacks m (new n) (effect_of addr z)) ≡ true) y_is (ap (λ (b : Bool). not b) alike ∙ fine)))

    kept_end : (live : List (ℕ × ℕ)) → Alike live (do_items u m addr back h items) (do_items u m addr back h others)
    kept_end live =
        let st = stands (length items) in
        let size : length others ≡ length items = seated_length seats items are.size in
        let end : new (length items) ≡ do_items u m addr back h others = ap new (sym size) ∙ ends u m addr back h others in
        subst (λ (k : Held). Alike live k (do_items u m addr back h others)) (ends u m addr back h items) (subst (λ (k : Held). Alike live (old (length items)) k) end (record {
          memory = ap (λ (k : Held). k.memory) st.all;
          frame = ap (λ (k : Held). k.frame) st.all;
          rest = ap (λ (k : Held). k.rest) st.all;
          output = ap (λ (k : Held). k.output) st.all;
          exit = ap (λ (k : Held). k.exit) st.all;
          registers = λ runs p l. st.places runs p p (plain_found m seats items are.size (length items) p (lives_plain live p l));
        }))

pub seats_keep : (m : Machine) (live : List (ℕ × ℕ)) (items : List Item) (seats : List Seat) → AreSeats m items seats → KeepsMeaning m live items (all_seated seats items)
seats_keep m live items seats are = record {
  meaning = λ u addr back h ok. means_from u m addr back h (all_seated seats items) (meant u m addr back items seats are h ok);
  end = λ u addr back h ok. kept_end u m addr back items seats are h ok live;
}
