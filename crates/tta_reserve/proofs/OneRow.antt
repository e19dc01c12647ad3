-- A row with one item more keeps what the items take with that item.
use Rattle.std.proofs.Common.{◌≡◌, inl, inr, ℕ, ◌+◌, ◌<◌, true, List, [], ◌∷◌, ◌++◌, Option, None, refl, sym, ap, subst, ◌∙◌, arith, length, cond}
use Rattle.std.specs.Prelude.{slice_index, count_by, not, ◌||◌, ◌==◌, is_none, is_some}
use Rattle.std.proofs.Math.Bool.{or-false, or-true}
use Rattle.std.proofs.lemmas.Bool.{and_parts, cases_eq, eq-eqb, ne_eqb}
use Rattle.tta_reserve.specs.Cited.{Source, Dest, GuardRef, Machine, IsMachine, has_bit, is_source_on, is_dest_on, Ends, ends_of, reads_file, reads_imm, writes_file, first_some, ItemSource, LongValue, Item, Slot, Bus, Template, PlacedItem, carried, carries, fits_cycle, taken_of, ends_on}
use Rattle.tta_arch.specs.declared.ends.Source.TheVariants as source
use Rattle.tta_arch.specs.declared.ends.Dest.TheVariants as dest
use Rattle.tta_moves.specs.declared.items.Item.TheVariants as item
use Rattle.tta_moves.proofs.Buses.{joins_below}
use Rattle.tta_reserve.specs.declared.row.Row.{Row}
use Rattle.tta_reserve.specs.Taken.{is_template, buses_of, imm_reads}
use Rattle.tta_reserve.specs.Booked.{IsRow}
use Rattle.tta_reserve.specs.Adding.{with_move, with_template, with_item}
use Rattle.tta_reserve.proofs.Lists.{any_here, any_not_here}
use Rattle.tta_reserve.proofs.Slots.{count_most}
use Rattle.tta_reserve.proofs.Pushed.{fits_parts, carried_there, move_on, others_stay, moves_here, taken_push, counts_push, long_on, same_moves, same_slots, takes_buses}
use Rattle.tta_reserve.proofs.MoveFits.{is_nothing}
use Rattle.tta_reserve.proofs.MoveOnly.{fits_only_there, source_on, dest_on}
use Rattle.tta_reserve.proofs.LongFits.{long_fits_only_there}
use Rattle.tta_reserve.proofs.Counts.{with_bit_at, with_move_is, reads_at, reads_long, writes_at, writes_long, imms_at}
use Rattle.tta_arch.proofs.Ports.{source_file as read_file_there, source_imm as read_imm_there, dest_file as written_file_there}

row_long : (m : Machine) (xs : List PlacedItem) (t c unit index : ℕ) (value : LongValue) (r : Row) → IsRow m xs r
    → fits_cycle m (xs ++ long_on t c unit index value ∷ []) ≡ true → IsRow m (xs ++ long_on t c unit index value ∷ []) (with_template (buses_of m.templates t) r)
row_long m xs t c unit index value r row fits =
    let fill = long_fits_only_there m xs t c unit index value (fits_parts m (xs ++ long_on t c unit index value ∷ []) fits) in
    let slots = same_slots m xs t c unit index value in
    record {
      moves = λ bus. row.moves bus ∙ ap is_some (sym (same_moves m xs t c unit index value bus));
      taken = sym (takes_buses m xs t c unit index value fill.none);
      template = sym (any_here (λ (y : PlacedItem). is_template y.slot) xs (long_on t c unit index value) refl);
      imms = λ u. row.imms u ∙ ap (λ l. not (count_by (λ (v : Ends). reads_imm u v.src) (ends_of l) == 0)) (sym slots);
      reads = λ file. row.reads file ∙ ap (λ l. count_by (λ (v : Ends). reads_file file v.src) (ends_of l)) (sym slots);
      writes = λ file. row.writes file ∙ ap (λ l. count_by (λ (v : Ends). writes_file file v.dst) (ends_of l)) (sym slots);
      eight_reads = row.eight_reads;
      eight_writes = row.eight_writes;
    }

row_move : (m : Machine) → IsMachine m → (xs : List PlacedItem) (bus c : ℕ) (g : Option GuardRef) (s : ItemSource) (d : Dest) (r : Row) → IsRow m xs r
    → fits_cycle m (xs ++ move_on bus c g s d ∷ []) ≡ true → IsRow m (xs ++ move_on bus c g s d ∷ []) (with_move bus s d r)
row_move m rules xs bus c g s d r row fits =
    let ys : List PlacedItem = xs ++ move_on bus c g s d ∷ [] in
    let leave = fits_only_there m rules xs bus c g s d (fits_parts m ys fits) in
    let lt = joins_below m rules bus (carried m s) d g leave.join in
    let few = rules.limits.buses in
    let none = is_nothing (first_some (ends_on m bus) xs) (and_parts (is_none (first_some (ends_on m bus) xs)) (not (has_bit (taken_of m xs) bus)) leave.free).0 in
    let counts = counts_push m xs bus c g s d lt none in
    let from = source_on m bus (carried m s) d g leave.join in
    let into = dest_on m bus (carried m s) d g leave.join in
    subst (IsRow m ys) (sym (with_move_is m bus s d r)) (record {
      moves = λ k. with_bit_at 16 r.moves bus k (omega arith) ∙ ap (λ b. b || bus == k) (row.moves k) ∙ at_bus k none;
      taken = row.taken ∙ sym (taken_push m xs bus c g s d);
      template = row.template ∙ sym (any_not_here (λ (y : PlacedItem). is_template y.slot) xs (move_on bus c g s d) refl);
      imms = λ u. imms_at (carried m s) r.imms (imm_reads m xs) row.imms (unit_small (carried m s) from) u ∙ ap (λ n. not (n == 0)) (sym (counts (λ w. reads_imm u w.src)));
      reads = λ f. reads_at (carried m s) r.reads row.eight_reads (read_small (carried m s) from) f ∙ ap (λ n. n + cond (reads_file f (carried m s)) 1 0) (row.reads f) ∙ sym (counts (λ w. reads_file f w.src));
      writes = λ f. writes_at d r.writes row.eight_writes (write_small d into) f ∙ ap (λ n. n + cond (writes_file f d) 1 0) (row.writes f) ∙ sym (counts (λ w. writes_file f w.dst));
      eight_reads = reads_long (carried m s) r.reads row.eight_reads;
      eight_writes = writes_long d r.writes row.eight_writes;
    }) where
      at_bus : (k : ℕ) → first_some (ends_on m bus) xs ≡ None
          → (is_some (first_some (ends_on m k) xs) || bus == k) ≡ is_some (first_some (ends_on m k) (xs ++ move_on bus c g s d ∷ []))
      at_bus k none = elim (cases_eq bus k) [
        | inl same ↦ ap (λ t. is_some (first_some (ends_on m k) xs) || t) (eq-eqb bus k same) ∙ or-true (is_some (first_some (ends_on m k) xs))
            ∙ sym (subst (λ j. is_some (first_some (ends_on m j) (xs ++ move_on bus c g s d ∷ [])) ≡ true) same (ap is_some (moves_here m xs bus c g s d none)))
        | inr other ↦ ap (λ t. is_some (first_some (ends_on m k) xs) || t) (ne_eqb bus k other) ∙ or-false (is_some (first_some (ends_on m k) xs))
            ∙ ap is_some (sym (others_stay m xs bus c k g s d (λ e. other (sym e))))
      ]

      unit_small : (q : Source) → is_source_on m bus q ≡ true → (u i : ℕ) → q ≡ source.Imm u i → u < 8
      unit_small q on u i e = let lt = read_imm_there m bus u i (ap (is_source_on m bus) (sym e) ∙ on) in let few = rules.limits.imms in omega arith

      read_small : (q : Source) → is_source_on m bus q ≡ true → (f i : ℕ) → q ≡ source.Reg f i → (f < 8) × (slice_index r.reads f < 255)
      read_small q on f i e =
          let lt = read_file_there m bus f i (ap (is_source_on m bus) (sym e) ∙ on) in
          let few = rules.limits.files in
          let most = count_most (λ (w : Ends). reads_file f w.src) (λ k. first_some (ends_on m k) xs) 0 (length m.buses) in
          let buses = rules.limits.buses in
          let same = row.reads f in
          (omega arith, omega arith)

      write_small : (q : Dest) → is_dest_on m bus q ≡ true → (f i : ℕ) → q ≡ dest.Reg f i → (f < 8) × (slice_index r.writes f < 255)
      write_small q on f i e =
          let lt = written_file_there m bus f i (ap (is_dest_on m bus) (sym e) ∙ on) in
          let few = rules.limits.files in
          let most = count_most (λ (w : Ends). writes_file f w.dst) (λ k. first_some (ends_on m k) xs) 0 (length m.buses) in
          let buses = rules.limits.buses in
          let same = row.writes f in
          (omega arith, omega arith)

-- a row with an item more that its slot carries
pub row_item : (m : Machine) → IsMachine m → (xs : List PlacedItem) (x : PlacedItem) (r : Row) → IsRow m xs r → fits_cycle m (xs ++ x ∷ []) ≡ true
    → IsRow m (xs ++ x ∷ []) (with_item m.templates x.item x.slot r)
row_item m rules xs x r row fits = on x.slot x.item (carried_there m xs x fits) fits where
  on : (s : Slot) (i : Item) → carries m s i ≡ true → fits_cycle m (xs ++ record { item = i; cycle = x.cycle; slot = s } ∷ []) ≡ true
      → IsRow m (xs ++ record { item = i; cycle = x.cycle; slot = s } ∷ []) (with_item m.templates i s r)
  on (Bus bus) (item.Move guard src dst) c fits = row_move m rules xs bus x.cycle guard src dst r row fits
  on (Bus bus) (item.Long unit index value) c fits = absurd cc
  on (Template t) (item.Move guard src dst) c fits = absurd cc
  on (Template t) (item.Long unit index value) c fits = row_long m xs t x.cycle unit index value r row fits
