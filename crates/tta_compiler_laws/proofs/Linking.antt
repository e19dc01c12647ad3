-- Placements of a program's lists can be linked, and their code agrees with the program.
use Rattle.std.proofs.Common.{◌≡◌, ◌<◌, ◌≤◌, ℕ, zero, suc, Bool, true, List, [], ◌∷◌, Option, Some, None, refl, sym, ap, subst, ◌∙◌, arith, length, map, slice_get, get_or}
use Rattle.std.specs.Prelude.{◌&&◌, nat_lt, nat_le}
use Rattle.std.specs.List.{list_all}
use Rattle.std.proofs.lemmas.Bool.{and_parts}
use Rattle.std.proofs.lemmas.Bool.Decides.{nat_tests}
use Rattle.std.proofs.lemmas.List.{length-map}
use Rattle.std.proofs.lemmas.Option.{slice_get_within, slice_get-get_or}
use Rattle.tta_compiler_laws.specs.Cited.{Units, Machine, Choice, Program, BlockList, Item, Move, Long, Port, Address, PlacedItem, Placed, source_of, is_list, has_slot, control_is_last, Respects, Part, LoweringInput, parts, block_of, is_closed, ArePlaced, is_within, IsBlock, AreBlocks, IsKnown}
use Rattle.tta_moves.specs.declared.items.LongValue.TheVariants as long
use Rattle.tta_sched_laws.proofs.Items.{idle_item, timed, nth_timed, length_timed}
use Rattle.tta_sched_laws.proofs.Total.{Timed}
use Rattle.tta_sched_laws.proofs.Bounds.{Keeps, bounds_keep}
use Rattle.tta_compiler_laws.specs.Compiler.{IsPair, AreStandIns, raw}
use Rattle.tta_compiler_laws.specs.Planned.{IsListOf, ArePlanned}
use Rattle.tta_compiler_laws.specs.Linking.{AreRespected, ListsLink, ListsAgree}
use Rattle.tta_compiler_laws.proofs.Composed.{law, stand_for, lists_mean, data_words}
use Rattle.tta_sched_laws.proofs.Built.{built_agrees}
use Rattle.tta_compiler_laws.proofs.Planning.{lists_planned}

-- ---- one block

within_is : (blocks : ℕ) (x : Item) → is_closed blocks (source_of x) ≡ true → is_within blocks x ≡ true
within_is blocks (Move guard (Port src) dst) e = refl
within_is blocks (Move guard (Address b) dst) e = e
within_is blocks (Long unit index (long.Word w)) e = refl
within_is blocks (Long unit index (long.Address b)) e = e

all_within : (blocks : ℕ) (xs : List PlacedItem) → list_all (λ y. is_closed blocks (source_of y)) (map (λ (x : PlacedItem). x.item) xs) ≡ true → list_all (λ (x : PlacedItem). is_within blocks x.item) xs ≡ true
all_within blocks [] e = refl
all_within blocks (x ∷ xs) e =
    let s = and_parts (is_closed blocks (source_of x.item)) (list_all (λ y. is_closed blocks (source_of y)) (map (λ (x : PlacedItem). x.item) xs)) e in
    rw (within_is blocks x.item s.0, all_within blocks xs s.1) refl

all_at : {A : Type 0} (t : A → Bool) (xs : List A) (d : A) → ((k : ℕ) → k < length xs → t (get_or xs k d) ≡ true) → list_all t xs ≡ true
all_at t [] d each = refl
all_at t (x ∷ xs) d each = rw (each 0 (omega arith), all_at t xs d (λ k lt. each (suc k) (omega (arith, lt)))) refl

module _ (m : Machine) (b : BlockList) (p : Placed) (closed : control_is_last b.items ≡ true) (r : Respects m b.items p) where
  keeps : Keeps m (timed [] p.items) p.length
  keeps = subst (Keeps m (timed [] p.items)) (sym r.long)
      (bounds_keep m [] p.items r.bounds (subst (λ (q : List Item). control_is_last q ≡ true) (sym r.order) closed))

  in_cycles : (k : ℕ) → k < length p.items → nat_lt (get_or p.items k idle_item).cycle p.length ≡ true
  in_cycles k lt =
      let n = length_timed [] p.items in
      let w = keeps.within k (omega (arith, n, lt)) in
      let e = ap (λ (t : Timed). t.cycle) (nth_timed [] p.items k) in
      let z : (get_or p.items k idle_item).cycle < p.length = omega (arith, w, e) in
      grind (arith, nat_tests)

  pub is_block : (blocks : ℕ) → list_all (λ y. is_closed blocks (source_of y)) b.items ≡ true → IsBlock m blocks p
  is_block blocks all = record {
    long = let s = keeps.some in omega (arith, s);
    cycles = all_at (λ (x : PlacedItem). nat_lt x.cycle p.length) p.items idle_item in_cycles;
    fits = r.cycles;
    addresses = all_within blocks p.items (subst (λ (q : List Item). list_all (λ y. is_closed blocks (source_of y)) q ≡ true) (sym r.order) all);
  }

control_last : (m : Machine) (items : List Item) → is_list m items ≡ true → control_is_last items ≡ true
control_last m items e = (and_parts (nat_le (length items) 16777216 && list_all (has_slot m) items) (control_is_last items) e).1

-- ---- all blocks

module _ (u : Units) (m : Machine) (c : Choice) (p : Program) (known : LoweringInput)
    (pair : IsPair u m c p) (is_known : IsKnown p (length c.homes) known) (lists : List BlockList)
    (stand : AreStandIns m (raw u m c p known) lists) where
  plan : ArePlanned u m c p known lists
  plan = lists_planned u m c p known lists pair is_known stand

  -- the part that a list stands for
  record Stands (k : ℕ) : Type 0 where
    part : Part
    is : slice_get (parts p known.blocks known.first) k ≡ Some part

  stands : (k : ℕ) (b : BlockList) → slice_get lists k ≡ Some b → Stands k
  stands k b e = on (slice_get (parts p known.blocks known.first) k) refl where
    less : k < length (parts p known.blocks known.first)
    less = let n = plan.count in let w = slice_get_within lists k b e in omega (arith, n, w)

    on : (o : Option Part) → slice_get (parts p known.blocks known.first) k ≡ o → Stands k
    on (Some x) f = record { part = x; is = f }
    on None f = absurd (none (parts p known.blocks known.first) k less f) where
      none : {A : Type 0} (xs : List A) (k : ℕ) → k < length xs → slice_get xs k ≡ None → ⊥
      none [] k lt e = omega (arith, lt)
      none (x ∷ xs) zero lt e = cc
      none (x ∷ xs) (suc k) lt e = none xs k (omega (arith, lt)) e

  list_at : (k : ℕ) (b : BlockList) (e : slice_get lists k ≡ Some b)
      → IsListOf u m c p known (stands k b e).part b
  list_at k b e = plan.each k (stands k b e).part b (stands k b e).is e

  module _ (ps : List Placed) (are : AreRespected m lists ps) where
    placed : ArePlaced m lists ps
    placed = record { count = are.count; closed = λ k b e. control_last m b.items (list_at k b e).list; respects = are.respects }

    few : length ps ≤ 16777216
    few =
        let n = are.count in
        let q = plan.count in
        let f = ((law u m c p known pair is_known).closed pair.room).few in
        let l = length-map (parts p known.blocks known.first) (block_of p known (length c.homes)) in
        let z : length (parts p known.blocks known.first) ≤ 16777216 = subst (λ (t : ℕ). t ≤ 16777216) l f in
        omega (arith, n, q, z)

    some_list : (k : ℕ) (q : Placed) → slice_get ps k ≡ Some q → (b : BlockList) × (slice_get lists k ≡ Some b)
    some_list k q e =
        let n = are.count in
        let w = slice_get_within ps k q e in
        let d : BlockList = record { items = []; live_out = [] } in
        (get_or lists k d, slice_get-get_or lists k d (omega (arith, n, w)))

    linkable : AreBlocks m ps
    linkable = record {
      few = few;
      each = λ k q e.
          let s = some_list k q e in
          let l = list_at k s.0 s.1 in
          let n : length (parts p known.blocks known.first) ≡ length ps = let a = are.count in let b = plan.count in sym b ∙ sym a in
          is_block m s.0 q (control_last m (s.0).items l.list) (are.respects k s.0 q s.1 e) (length ps)
          (subst (λ (t : ℕ). list_all (λ y. is_closed t (source_of y)) (s.0).items ≡ true) n l.addresses);
    }

pub lists_link : ListsLink
lists_link u m c p known lists ps pair is_known stand are = linkable u m c p known pair is_known lists stand ps are

pub lists_agree : ListsAgree
lists_agree u m c p known lists ps whole pair is_known stand are linked legal laid =
    built_agrees u m pair.machine p whole lists ps (record {
      legal = legal;
      placed = placed u m c p known pair is_known lists stand ps are;
      linked = linked;
      means = lists_mean u m c p known lists pair is_known (stand_for m (raw u m c p known) lists stand);
      laid = laid;
      words = data_words p.init pair.program.init;
    })
