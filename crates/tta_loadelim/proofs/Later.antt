-- What is known after one item more.
use Rattle.std.proofs.Common.{◌≡◌, ◌≢◌, ℕ, ◌<◌, true, false, List, [], ◌∷◌, ◌++◌, length, Option, Some, None, refl, sym, ap, subst, arith, ◌∙◌, get_or-set_same, get_or-set_other}
use Rattle.std.specs.Prelude.{◌==◌, not, map, filter, slice_index, slice_set, option_and_then}
use Rattle.std.specs.Option.{option_map_or, option_to_list}
use Rattle.std.proofs.lemmas.Bool.{and_parts, not-true}
use Rattle.std.proofs.lemmas.Bool.Decides.{nat_tests}
use Rattle.tta_loadelim.specs.Cited.{Units, Source, Machine, Target, Reg, Imm, Trigger, Control, Effect, Place, KeptReg, Written, kept, width_of, ItemSource, Port, Item, guard_of, source_of, target_of_item, place_of, place_written, is_at, is_waiting, Held, linked, effect_of, read_held, does, lacks, sure_source, same_end, starts, stores_frame}
use Rattle.tta_arch.specs.declared.ends.Source.TheVariants as source
use Rattle.tta_arch.specs.Effects.{Operand}
use Rattle.tta_moves.proofs.Places.{either, same_self}
use Rattle.tta_moves.proofs.Steps.{does_written}
use Rattle.tta_optim.proofs.Copies.{is_whole, Copies, read_other, sure_word, sure_write}
use Rattle.tta_loadelim.specs.declared.facts.Fact.{Fact}
use Rattle.tta_loadelim.specs.AvailableSlots.{fact, unit_of, port_of, loaded, stored, may_store, spoils, register_in, by_load, twin, by_twin, by_store, by_copy, stays, known}
use Rattle.tta_loadelim.proofs.Holding.{Holds, Hold, hold_both, hold_kept, hold_copied, end_is}
use Rattle.tta_loadelim.proofs.Opened.{load_keeps, frame_away, load_shows, store_puts}
use Rattle.tta_loadelim.proofs.Seen.{port_is, sure_seen, Loads, loads_is, Stores, stores_is, operand_whole, store_writes_none, then_false, none_at, twin_has}

-- ---- one item more

module _ (u : Units) (m : Machine) (addr : List ℕ) (back : ℕ) (before : List Item) (x : Item) (h : Held) where
  abbrev pub e : Effect
  e = effect_of addr x

  abbrev pub k : Held
  k = does u m back h e

  pub record Before : Type 0 where
    pub holds : Hold h (known m before)
    pub copies : Copies m addr before h.written
    pub runs : is_waiting h.exit ≡ false
    pub fine : lacks m h e ≡ false
    pub frame : length h.frame ≡ m.frame_words

  after_load : Before → Hold k (by_load m x)
  after_load b = on (loaded m x) refl where
    unit_by : (slot : ℕ) → Loads m x slot → (o : Option ℕ) → unit_of (target_of_item x) ≡ o → Hold k (option_map_or (λ unit. fact slot (source.Shown unit) ∷ []) o [])
    unit_by slot l None is = tt
    unit_by slot l (Some unit) is = (
      load_shows u m back h e slot unit b.runs l.unguarded (ap (λ (s : ItemSource). read_held h.written (linked addr s)) l.word) l.load is
          ∙ ap (λ (fr : List ℕ). Some (slice_index fr slot)) (sym (frame_away u m back h e (load_keeps m (target_of_item x) l.load))),
      tt,
    )

    on : (o : Option ℕ) → loaded m x ≡ o → Hold k (option_map_or (λ slot. option_map_or (λ unit. fact slot (source.Shown unit) ∷ []) (unit_of (target_of_item x)) []) o [])
    on None is = tt
    on (Some slot) is = unit_by slot (loads_is m x slot is) (unit_of (target_of_item x)) refl

  -- what a store into a known slot leaves
  frame_after : Before → (slot : ℕ) → Stores m before x slot → (w : ℕ) → read_held h.written e.src ≡ Some w → k.frame ≡ slice_set h.frame slot w
  frame_after b slot s w is =
      store_puts u m back h e slot w s.place b.runs s.unguarded is s.store s.at
      (b.copies.same s.place (Port (source.Value slot)) (operand_whole m (target_of_item x) s.place s.at) s.word)

  after_store : Before → Hold k (by_store m before x)
  after_store b = on (stored m before x) refl where
    port_by : (slot : ℕ) → Stores m before x slot → (o : Option Source) → option_and_then port_of (sure_source x) ≡ o → Hold k (option_map_or (λ src. fact slot src ∷ []) o [])
    port_by slot s None is = tt
    port_by slot s (Some src) is =
        let seen = sure_seen x port_of src is in
        let from : linked addr (source_of x) ≡ src = ap (linked addr) (seen.2 ∙ port_is seen.0 src seen.3) in
        let word = sure_word m h e s.unguarded b.fine in
        let away : option_map_or (λ q. is_at q (place_written m (target_of_item x))) (place_of src) false ≡ false = rw (store_writes_none m (target_of_item x) s.store) (none_at (place_of src)) in
        let lt : slot < length h.frame = subst (λ n. slot < n) (sym b.frame) s.within in
        let there : slice_index (slice_set h.frame slot word.0) slot ≡ word.0 = get_or-set_same h.frame slot word.0 0 lt in (
          read_other u m back h e src away ∙ ap (read_held h.written) (sym from) ∙ word.1
              ∙ ap (λ n. Some n) (sym there) ∙ ap (λ (fr : List ℕ). Some (slice_index fr slot)) (sym (frame_after b slot s word.0 word.1)),
          tt,
        )

    on : (o : Option ℕ) → stored m before x ≡ o → Hold k (option_map_or (λ slot. option_map_or (λ src. fact slot src ∷ []) (option_and_then port_of (sure_source x)) []) o [])
    on None is = tt
    on (Some slot) is = port_by slot (stores_is m before x slot is) (option_and_then port_of (sure_source x)) refl

  after_twin : Before → Hold k (by_twin m before x)
  after_twin b = on (stored m before x) refl where
    reg_by : (slot : ℕ) (src : Source) → stored m before x ≡ Some slot → option_and_then port_of (sure_source x) ≡ Some src → (o : Option Source) → twin m before src ≡ o
        → Hold k (option_map_or (λ reg. fact slot reg ∷ []) o [])
    reg_by slot src is from None t = tt
    reg_by slot src is from (Some reg) t =
        let none : place_written m (target_of_item x) ≡ None = store_writes_none m (target_of_item x) (stores_is m before x slot is).store in
        let away : (o : Option Place) → option_map_or (λ q. is_at q (place_written m (target_of_item x))) o false ≡ false = λ o. rw none (none_at o) in
        let holds : Hold k (fact slot src ∷ []) = rw (is, from) at (after_store b) in (
          read_other u m back h e reg (away (place_of reg)) ∙ twin_has m addr before h.written b.copies src reg t ∙ sym (read_other u m back h e src (away (place_of src))) ∙ holds.0,
          tt,
        )

    port_by : (slot : ℕ) → stored m before x ≡ Some slot → (o : Option Source) → option_and_then port_of (sure_source x) ≡ o
        → Hold k (option_map_or (λ src. option_map_or (λ reg. fact slot reg ∷ []) (twin m before src) []) o [])
    port_by slot is None from = tt
    port_by slot is (Some src) from = reg_by slot src is from (twin m before src) refl

    on : (o : Option ℕ) → stored m before x ≡ o
        → Hold k (option_map_or (λ slot. option_map_or (λ src. option_map_or (λ reg. fact slot reg ∷ []) (twin m before src) []) (option_and_then port_of (sure_source x)) []) o [])
    on None is = tt
    on (Some slot) is = port_by slot is (option_and_then port_of (sure_source x)) refl

  after_copy : Before → Hold k (by_copy m (known m before) x)
  after_copy b = on (option_and_then port_of (sure_source x)) refl where
    move : (src : Source) → guard_of x ≡ None → linked addr (source_of x) ≡ src → (file index : ℕ) → target_of_item x ≡ Reg file index → (width_of m file == 1) ≡ false
        → (f : Fact) → same_end f.from src ≡ true → Holds h f → Holds k (fact f.slot (source.Reg file index))
    move src unguarded from file index at wide f same holds =
        let word = sure_word m h e unguarded b.fine in
        let whole : is_whole m (KeptReg file index) ≡ true = rw wide refl in
        let here : is_at (KeptReg file index) (place_written m (target_of_item x)) ≡ true = rw at (same_self (KeptReg file index)) in
        let wrote = sure_write u m back h e (KeptReg file index) word.0 b.runs unguarded word.1 whole here in
        let now : k.written ≡ (KeptReg file index, word.0) ∷ h.written = does_written u m back h e ∙ ap (λ (o : Option (Place × ℕ)). option_to_list o ++ h.written) wrote in
        let away : starts m stores_frame (target_of_item x) ≡ false = rw at refl in
        let read : read_held k.written (source.Reg file index) ≡ Some word.0 = ap (λ (ws : Written). kept ws (KeptReg file index)) now ∙ top word.0 in
        read ∙ sym word.1 ∙ ap (read_held h.written) (from ∙ sym (end_is f.from src same)) ∙ holds ∙ ap (λ (fr : List ℕ). Some (slice_index fr f.slot)) (sym (frame_away u m back h e away)) where
          top : (w : ℕ) → kept ((KeptReg file index, w) ∷ h.written) (KeptReg file index) ≡ Some w
          top w = rw (same_self (KeptReg file index)) refl

    target_by : (src : Source) → guard_of x ≡ None → linked addr (source_of x) ≡ src → (t : Target) → target_of_item x ≡ t
        → Hold k (option_map_or (λ reg. map (λ f. fact f.slot reg) (filter (λ f. same_end f.from src) (known m before))) (register_in m t) [])
    target_by src unguarded from (Imm f i) at = tt
    target_by src unguarded from (Operand unit) at = tt
    target_by src unguarded from (Trigger unit op) at = tt
    target_by src unguarded from (Control kind) at = tt
    target_by src unguarded from (Reg file index) at = either (width_of m file == 1)
        (λ narrow. rw narrow tt)
        (λ wide. rw wide (hold_copied h k src (source.Reg file index) (known m before) (move src unguarded from file index at wide) b.holds))

    on : (o : Option Source) → option_and_then port_of (sure_source x) ≡ o
        → Hold k (option_map_or (λ src. option_map_or (λ reg. map (λ f. fact f.slot reg) (filter (λ f. same_end f.from src) (known m before))) (register_in m (target_of_item x)) []) o [])
    on None is = tt
    on (Some src) is =
        let seen = sure_seen x port_of src is in
        target_by src seen.1 (ap (linked addr) (seen.2 ∙ port_is seen.0 src seen.3)) (target_of_item x) refl

  -- a slot that the item does not store into
  slot_stays : Before → (slot : ℕ) → may_store m before x slot ≡ false → slice_index k.frame slot ≡ slice_index h.frame slot
  slot_stays b slot none = either (starts m stores_frame (target_of_item x))
      (λ store. by store (stored m before x) refl (then_false _ _ store none))
      (λ away. ap (λ (fr : List ℕ). slice_index fr slot) (frame_away u m back h e away)) where
        by : starts m stores_frame (target_of_item x) ≡ true → (o : Option ℕ) → stored m before x ≡ o → option_map_or (λ v. v == slot) o true ≡ false → slice_index k.frame slot ≡ slice_index h.frame slot
        by store None is none = absurd cc
        by store (Some v) is none =
            let s = stores_is m before x v is in
            let word = sure_word m h e s.unguarded b.fine in
            let other : slot ≢ v = λ same. let yes_same : (v == slot) ≡ true = grind (arith, nat_tests, same) in absurd cc in
            ap (λ (fr : List ℕ). slice_index fr slot) (frame_after b v s word.0 word.1) ∙ get_or-set_other h.frame v slot word.0 0 other

  after_others : Before → Hold k (filter (stays m before x) (known m before))
  after_others b = hold_kept h k (stays m before x) (known m before) (λ f keep holds.
      let two = and_parts (not (spoils m x f.from)) (not (may_store m before x f.slot)) keep in
      read_other u m back h e f.from (not-true (spoils m x f.from) two.0) ∙ holds ∙ ap (λ n. Some n) (sym (slot_stays b f.slot (not-true (may_store m before x f.slot) two.1)))) b.holds

  pub known_later : Before → Hold k (known m (x ∷ before))
  known_later b =
      hold_both k (by_load m x) _ (after_load b)
      (hold_both k (by_twin m before x) _ (after_twin b)
      (hold_both k (by_store m before x) _ (after_store b)
      (hold_both k (by_copy m (known m before) x) (filter (stays m before x) (known m before)) (after_copy b) (after_others b))))
