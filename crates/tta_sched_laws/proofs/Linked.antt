-- The words of a block do what its items do in each cycle.
use Rattle.std.proofs.Common.{◌≡◌, ◌≢◌, ◌⊎◌, inl, inr, ℕ, zero, suc, ◌+◌, Bool, true, false, List, [], ◌∷◌, Option, Some, None, refl, sym, ap, subst, ◌∙◌, arith, length, map}
use Rattle.std.specs.Prelude.{slice_get, ◌&&◌, ◌==◌, if◌then◌else◌, option_map, IsTrue}
use Rattle.std.specs.Option.{option_map_or}
use Rattle.std.specs.List.{list_all, range_with_len, AllByRecursion}
use Rattle.std.proofs.lemmas.Bool.{cases_lt, and_parts}
use Rattle.std.proofs.lemmas.Bool.Decides.{nat_tests}
use Rattle.std.proofs.lemmas.Option.{slice_get-map}
use Rattle.tta_list.proofs.Lists.{list_all_one, all_one}
use Rattle.tta_arch.specs.declared.ends.Source.TheVariants as source
use Rattle.tta_arch.specs.declared.parts.Template.{Template as Field}
use Rattle.tta_sched_laws.specs.Cited.{Machine, can_move, IsMachine, are_different, Effect, long_effect, Long, Instruction, Code, moves_of, long_effects, effects_of, is_legal, Item, LongValue, Slot, Bus, Template, PlacedItem, Placed, linked, effect_of, source_of_long, in_cycle, carried, carries, clash, fills, fits_cycle, slots_of, taken_of, move_on, long_word, long_on, instruction_of, HoldsBlock}
use Rattle.tta_arch.specs.Effects.{first_some as pick}
use Rattle.tta_code.specs.declared.code.Move.{Move}
use Rattle.tta_code.specs.Cycle.{effect_of as move_effect}
use Rattle.tta_moves.specs.declared.items.Item.TheVariants as item
use Rattle.tta_moves.specs.declared.items.LongValue.TheVariants as long
use Rattle.tta_moves.proofs.Buses.{joins_below}
use Rattle.tta_sched_laws.proofs.Total.{Timed}
use Rattle.tta_sched_laws.proofs.Pick.{Has, has_filter_map, filter_map_has}
use Rattle.tta_sched_laws.proofs.Found.{has_append, has_front, has_back, has_map, map_has, has_filter, filter_has, pick_has, different_at, pick_alone, range_has}
use Rattle.tta_sched_laws.proofs.Items.{time, timed}
use Rattle.tta_sched_laws.proofs.Placing.{Carries}
use Rattle.tta_sched_laws.proofs.Once.{once_is}

-- ---- one item

-- an item on a bus is the move there
move_is : (addr : List ℕ) (bus : ℕ) (s : Slot) (i : Item) (v : Move) → move_on addr bus s i ≡ Some v → move_effect v ≡ effect_of addr i
move_is addr bus (Bus b) (item.Move guard src dst) v e = on (b == bus) e where
  on : (c : Bool) → (if c then Some (record { guard = guard; src = linked addr src; dst = dst }) else None) ≡ Some v → move_effect v ≡ effect_of addr (item.Move guard src dst)
  on true e = let same : record { guard = guard; src = linked addr src; dst = dst } ≡ v = cc in ap move_effect (sym same)
  on false e = absurd cc
move_is addr bus (Bus b) (item.Long q r value) v e = absurd cc
move_is addr bus (Template t) i v e = absurd cc

word_linked : (addr : List ℕ) (value : LongValue) → source.Value (long_word addr value) ≡ linked addr (source_of_long value)
word_linked addr (long.Word w) = refl
word_linked addr (long.Address b) = refl

-- an item on a template is its long immediate
long_is : (m : Machine) (addr : List ℕ) (s : Slot) (i : Item) (l : Long) (e : Effect) → carries m s i ≡ true → long_on addr s i ≡ Some l → Has (long_effects m (Some l)) e → e ≡ effect_of addr i
long_is m addr (Template t) (item.Long q r value) l e c g h =
    let same : record { template = t; value = long_word addr value } ≡ l = cc in
    on (slice_get m.templates t) c (subst (λ k. Has (long_effects m (Some k)) e) (sym same) h) where
      on : (o : Option Field) → option_map_or (fills q r) o false ≡ true → Has (option_map_or (λ f. long_effect f.imm f.reg (long_word addr value) ∷ []) o []) e → e ≡ effect_of addr (item.Long q r value)
      on None c h = absurd cc
      on (Some f) c (zero, h) =
          let p = and_parts (f.imm == q) (f.reg == r) c in
          let a : f.imm ≡ q = let z = p.0 in grind (arith, nat_tests) in
          let b : f.reg ≡ r = let z = p.1 in grind (arith, nat_tests) in
          let is : long_effect f.imm f.reg (long_word addr value) ≡ e = cc in
          sym is ∙ rw (a, b, word_linked addr value) refl
      on (Some f) c (suc k, h) = absurd cc
long_is m addr (Template t) (item.Move guard src dst) l e c g h = absurd cc
long_is m addr (Bus b) i l e c g h = absurd cc

-- ---- the items of a cycle

module _ (m : Machine) (rules : IsMachine m) (addr : List ℕ) (xs : List PlacedItem)
    (each : list_all (λ (x : PlacedItem). carries m x.slot x.item) xs ≡ true) (different : are_different clash (map (λ (x : PlacedItem). x.slot) xs) ≡ true) where
  abbrev i : Instruction
  i = instruction_of m addr xs

  -- every effect is that of an item
  pub effect_item : (e : Effect) → Has (effects_of m i) e → (x : PlacedItem) × Has xs x × (e ≡ effect_of addr x.item)
  effect_item e h = elim (has_append (map move_effect (moves_of i)) (long_effects m i.long) e h) [
    | inl q ↦
        let v = has_map move_effect (moves_of i) e q in
        let o = has_filter_map (λ (o : Option Move). o) i.moves v.0 v.1 in
        let b = has_map (λ (bus : ℕ). pick (λ (x : PlacedItem). move_on addr bus x.slot x.item) xs) (range_with_len 0 (length m.buses)) o.0 o.1 in
        let x = pick_has (λ (x : PlacedItem). move_on addr b.0 x.slot x.item) xs v.0 (b.2 ∙ o.2) in
        (x.0, x.1, sym v.2 ∙ move_is addr b.0 x.0.slot x.0.item v.0 x.2)
    | inr q ↦ on i.long refl q
  ] where
    on : (l : Option Long) → i.long ≡ l → Has (long_effects m l) e → (x : PlacedItem) × Has xs x × (e ≡ effect_of addr x.item)
    on None g q = absurd cc
    on (Some l) g q =
        let x = pick_has (λ (x : PlacedItem). long_on addr x.slot x.item) xs l g in
        let c = list_all_one (λ (x : PlacedItem). carries m x.slot x.item) xs x.1.0 x.0 each x.1.1 in
        (x.0, x.1, long_is m addr x.0.slot x.0.item l e c x.2 q)

  -- two items of the cycle have slots that do not clash
  no_clash : (j k : ℕ) (x y : PlacedItem) → slice_get xs j ≡ Some x → slice_get xs k ≡ Some y → j ≢ k → (clash x.slot y.slot ≡ false) ⊎ (clash y.slot x.slot ≡ false)
  no_clash j k x y a b ne =
      let sx : slice_get (map (λ (z : PlacedItem). z.slot) xs) j ≡ Some x.slot = slice_get-map (λ (z : PlacedItem). z.slot) xs j ∙ ap (option_map (λ (z : PlacedItem). z.slot)) a in
      let sy : slice_get (map (λ (z : PlacedItem). z.slot) xs) k ≡ Some y.slot = slice_get-map (λ (z : PlacedItem). z.slot) xs k ∙ ap (option_map (λ (z : PlacedItem). z.slot)) b in
      elim (cases_lt j k) [
        | inl lt ↦ inl (different_at clash (map (λ (z : PlacedItem). z.slot) xs) j k x.slot y.slot lt sx sy different)
        | inr le ↦ elim (cases_lt k j) [
          | inl lt ↦ inr (different_at clash (map (λ (z : PlacedItem). z.slot) xs) k j y.slot x.slot lt sy sx different)
          | inr le' ↦ absurd (ne (omega arith))
        ]
      ]

  other_bus : (b : ℕ) (s : Slot) (j : Item) → (clash s (Bus b) ≡ false) ⊎ (clash (Bus b) s ≡ false) → move_on addr b s j ≡ None
  other_bus b (Bus a) (item.Move guard src dst) (inl c) = let g : (a == b) ≡ false = c in rw g refl
  other_bus b (Bus a) (item.Move guard src dst) (inr c) = let h : (b == a) ≡ false = c in let g : (a == b) ≡ false = grind (arith, nat_tests) in rw g refl
  other_bus b (Bus a) (item.Long q r value) c = refl
  other_bus b (Template t) j c = refl

  other_template : (t : ℕ) (s : Slot) (j : Item) → (clash s (Template t) ≡ false) ⊎ (clash (Template t) s ≡ false) → long_on addr s j ≡ None
  other_template t (Bus a) j c = refl
  other_template t (Template q) j (inl c) = absurd cc
  other_template t (Template q) j (inr c) = absurd cc

  -- every item's effect is there
  pub item_effect : (k : ℕ) (x : PlacedItem) → slice_get xs k ≡ Some x → Has (effects_of m i) (effect_of addr x.item)
  item_effect k x at = on x.slot x.item refl refl where
    on : (s : Slot) (j : Item) → x.slot ≡ s → x.item ≡ j → Has (effects_of m i) (effect_of addr x.item)
    on (Bus b) (item.Move guard src dst) es ej =
        let c : carries m (Bus b) (item.Move guard src dst) ≡ true = subst (λ s. carries m s (item.Move guard src dst) ≡ true) es (subst (λ j. carries m x.slot j ≡ true) ej (list_all_one (λ (y : PlacedItem). carries m y.slot y.item) xs k x each at)) in
        let below = joins_below m rules b (carried m src) dst guard c in
        let v : Move = record { guard = guard; src = linked addr src; dst = dst } in
        let own : move_on addr b x.slot x.item ≡ Some v = rw (es, ej, let self : (b == b) ≡ true = grind (arith, nat_tests) in self) refl in
        let alone = pick_alone (λ (y : PlacedItem). move_on addr b y.slot y.item) xs k x at (λ n y p ne. other_bus b y.slot y.item (subst (λ s. (clash y.slot s ≡ false) ⊎ (clash s y.slot ≡ false)) es (no_clash n k y x p at ne))) in
        let bus : Has (range_with_len 0 (length m.buses)) b = (b, range_has 0 (length m.buses) b below ∙ ap Some (omega arith)) in
        let slot : Has i.moves (Some v) = subst (Has i.moves) (alone ∙ own) (map_has (λ (q : ℕ). pick (λ (y : PlacedItem). move_on addr q y.slot y.item) xs) (range_with_len 0 (length m.buses)) b bus) in
        let move : Has (moves_of i) v = filter_map_has (λ (o : Option Move). o) i.moves (Some v) v slot refl in
        rw ej (has_front (map move_effect (moves_of i)) (long_effects m i.long) (move_effect v) (map_has move_effect (moves_of i) v move))
    on (Bus b) (item.Long q r value) es ej = let c : carries m (Bus b) (item.Long q r value) ≡ true = subst (λ s. carries m s (item.Long q r value) ≡ true) es (subst (λ j. carries m x.slot j ≡ true) ej (list_all_one (λ (y : PlacedItem). carries m y.slot y.item) xs k x each at)) in absurd cc
    on (Template t) (item.Move guard src dst) es ej = let c : carries m (Template t) (item.Move guard src dst) ≡ true = subst (λ s. carries m s (item.Move guard src dst) ≡ true) es (subst (λ j. carries m x.slot j ≡ true) ej (list_all_one (λ (y : PlacedItem). carries m y.slot y.item) xs k x each at)) in absurd cc
    on (Template t) (item.Long q r value) es ej =
        let c : carries m (Template t) (item.Long q r value) ≡ true = subst (λ s. carries m s (item.Long q r value) ≡ true) es (subst (λ j. carries m x.slot j ≡ true) ej (list_all_one (λ (y : PlacedItem). carries m y.slot y.item) xs k x each at)) in
        let l : Long = record { template = t; value = long_word addr value } in
        let own : long_on addr x.slot x.item ≡ Some l = rw (es, ej) refl in
        let alone : i.long ≡ long_on addr x.slot x.item = pick_alone (λ (y : PlacedItem). long_on addr y.slot y.item) xs k x at (λ n y p ne. other_template t y.slot y.item (subst (λ s. (clash y.slot s ≡ false) ⊎ (clash s y.slot ≡ false)) es (no_clash n k y x p at ne))) in
        has_back (map move_effect (moves_of i)) (long_effects m i.long) (effect_of addr x.item)
        (subst (λ o. Has (long_effects m o) (effect_of addr x.item)) (sym (alone ∙ own)) (there (slice_get m.templates t) c)) where
          there : (o : Option Field) → option_map_or (fills q r) o false ≡ true → Has (option_map_or (λ f. long_effect f.imm f.reg (long_word addr value) ∷ []) o []) (effect_of addr x.item)
          there None c = absurd cc
          there (Some f) c =
              let p = and_parts (f.imm == q) (f.reg == r) c in
              let a : f.imm ≡ q = let z = p.0 in grind (arith, nat_tests) in
              let b : f.reg ≡ r = let z = p.1 in grind (arith, nat_tests) in
              (0, rw (ej, a, b, word_linked addr value) refl)

-- ---- a block

true_is : (b : Bool) → IsTrue b → b ≡ true
true_is true t = refl
true_is false t = cc

pub fits_parts : (m : Machine) (xs : List PlacedItem) → fits_cycle m xs ≡ true
    → (list_all (λ (x : PlacedItem). carries m x.slot x.item) xs ≡ true) × (are_different clash (map (λ (x : PlacedItem). x.slot) xs) ≡ true)
unfolding fits_cycle
fits_parts m xs e =
    let a = and_parts (list_all (λ (x : PlacedItem). carries m x.slot x.item) xs && are_different clash (map (λ (x : PlacedItem). x.slot) xs)) (can_move m (taken_of m xs) (slots_of m xs)) e in
    and_parts (list_all (λ (x : PlacedItem). carries m x.slot x.item) xs) (are_different clash (map (λ (x : PlacedItem). x.slot) xs)) a.0

same_time : (a b : Effect) (c d : ℕ) → a ≡ b → c ≡ d → ◌≡◌ {A = Timed} (record { does = a; cycle = c }) (record { does = b; cycle = d })
same_time a b c d e f = rw (e, f) refl

-- the words of a block, as the linker makes them, carry its placed items
pub carries_block : (m : Machine) → IsMachine m → (code : Code) → AllByRecursion (λ (i : Instruction). IsTrue (is_legal m i)) code.words → (addr : List ℕ) (base : ℕ) (p : Placed)
    → ((c : ℕ) → fits_cycle m (in_cycle c p.items) ≡ true) → HoldsBlock m code addr base p → Carries m code base p.length (timed addr p.items)
carries_block m rules code legal addr base p fits holds = record {
  word = λ c lt. instruction_of m addr (in_cycle c p.items);
  stands = holds;
  only = λ c lt e h.
      let f = fits_parts m (in_cycle c p.items) (fits c) in
      let x = effect_item m rules addr (in_cycle c p.items) f.0 f.1 e h in
      let y = has_filter (λ (q : PlacedItem). q.cycle == c) p.items x.0 x.1 in
      let at : x.0.cycle ≡ c = let z = y.1 in grind (arith, nat_tests) in
      let is : time addr x.0 ≡ record { does = e; cycle = c } = same_time (effect_of addr x.0.item) e x.0.cycle c (sym x.2) at in
      subst (Has (timed addr p.items)) is (map_has (time addr) p.items x.0 y.0);
  once = λ c lt a b e. once_is m (instruction_of m addr (in_cycle c p.items))
      (true_is (is_legal m (instruction_of m addr (in_cycle c p.items))) (all_one (λ (i : Instruction). IsTrue (is_legal m i)) code.words (base + c) (instruction_of m addr (in_cycle c p.items)) legal (holds c lt))) a b e;
  all = λ c lt e h.
      let f = fits_parts m (in_cycle c p.items) (fits c) in
      let x = has_map (time addr) p.items (record { does = e; cycle = c }) h in
      let does : effect_of addr x.0.item ≡ e = ap (λ (t : Timed). t.does) x.2 in
      let at : x.0.cycle ≡ c = ap (λ (t : Timed). t.cycle) x.2 in
      let here : (x.0.cycle == c) ≡ true = grind (arith, nat_tests) in
      let y = filter_has (λ (q : PlacedItem). q.cycle == c) p.items x.0 x.1 here in
      subst (Has (effects_of m (instruction_of m addr (in_cycle c p.items)))) does (item_effect m rules addr (in_cycle c p.items) f.0 f.1 y.0 x.0 y.1);
}
