-- Where a move is carried out beside the items of a cycle, its bus joins its ends and was free, and its ends had room.
use Rattle.std.proofs.Common.{◌≡◌, ℕ, zero, suc, ◌+◌, ◌<◌, Bool, true, false, List, [], ◌∷◌, ◌++◌, Option, Some, None, refl, sym, ap, ◌∙◌, arith, length, map, cond}
use Rattle.std.specs.Prelude.{slice_get, not, ◌&&◌, ◌||◌, ◌==◌, nat_le, nat_lt, is_none, is_some, option_and_then}
use Rattle.std.specs.Option.{option_map_or}
use Rattle.std.specs.List.{list_any}
use Rattle.std.proofs.lemmas.List.{map_push}
use Rattle.std.proofs.lemmas.Bool.{and_parts}
use Rattle.std.proofs.lemmas.Bool.Decides.{nat_tests}
use Rattle.tta_reserve.specs.Cited.{GuardRef, Source, Dest, Machine, IsMachine, are_different, joins, has_bit, has_socket, is_source_on, is_dest_on, has_guard, Ends, has_writes, all_below, reads_file, reads_imm, writes_file, first_some, ItemSource, Bus, PlacedItem, carries, clash, slots_of, taken_of, ends_on}
use Rattle.tta_arch.specs.declared.ends.Source.TheVariants as source
use Rattle.tta_arch.specs.declared.ends.Dest.TheVariants as dest
use Rattle.tta_moves.proofs.Buses.{joins_below}
use Rattle.tta_reserve.specs.Taken.{file_reads, imm_reads, file_writes}
use Rattle.tta_reserve.proofs.Lists.{all_last, different_last}
use Rattle.tta_reserve.proofs.Slots.{slot_test, below_one}
use Rattle.tta_reserve.proofs.Pushed.{Fits, move_on, ends_from, moves_here, no_move, slot_at, taken_push, counts_push}
use Rattle.tta_reserve.proofs.MoveFits.{Leave, may_read, may_write}
use Rattle.tta_list.proofs.Tests.{eq_same as self_is}
use Rattle.tta_arch.proofs.Ports.{source_file as read_file_there, source_imm as read_imm_there, dest_file as written_file_there}

-- ---- parts of the machine

within_some : {A : Type 0} (xs : List A) (k : ℕ) → is_some (slice_get xs k) ≡ true → k < length xs
within_some [] k h = absurd cc
within_some (x ∷ xs) zero h = omega arith
within_some (x ∷ xs) (suc k) h = let ih = within_some xs k h in omega arith

part_there : {A : Type 0} (m : Machine) (input : Bool) (bus : ℕ) (o : Option A) (k : A → Option ℕ) → has_socket m input (option_and_then k o) bus ≡ true → is_some o ≡ true
part_there m input bus None k h = absurd cc
part_there m input bus (Some f) k h = refl

-- the file or immediate unit of an end that a bus has

-- the ends of a move that a bus joins are on it
pub source_on : (m : Machine) (bus : ℕ) (s : Source) (d : Dest) (g : Option GuardRef) → joins m bus s d g ≡ true → is_source_on m bus s ≡ true
source_on m bus s d g h = (and_parts (is_source_on m bus s) (is_dest_on m bus d) (and_parts (is_source_on m bus s && is_dest_on m bus d) (has_guard m bus g) h).0).0

pub dest_on : (m : Machine) (bus : ℕ) (s : Source) (d : Dest) (g : Option GuardRef) → joins m bus s d g ≡ true → is_dest_on m bus d ≡ true
dest_on m bus s d g h = (and_parts (is_source_on m bus s) (is_dest_on m bus d) (and_parts (is_source_on m bus s && is_dest_on m bus d) (has_guard m bus g) h).0).1

-- ---- counts

-- a count that is one more is within its bound
one_less : (n k most : ℕ) → n ≡ k + 1 → nat_le n most ≡ true → nat_lt k most ≡ true
one_less n k most e h = grind (arith, nat_tests)

one_none : (n k : ℕ) → n ≡ k + 1 → nat_le n 1 ≡ true → (k == 0) ≡ true
one_none n k e h = grind (arith, nat_tests)

read_left : (m : Machine) (xs ys : List PlacedItem) (bus : ℕ) (s : Source) → is_source_on m bus s ≡ true
    → ((f : ℕ) → file_reads m ys f ≡ file_reads m xs f + cond (reads_file f s) 1 0)
    → ((u : ℕ) → imm_reads m ys u ≡ imm_reads m xs u + cond (reads_imm u s) 1 0)
    → all_below (λ f. nat_le (file_reads m ys f) (option_map_or (λ q. q.read) (slice_get m.files f) 0)) (length m.files) ≡ true
    → all_below (λ u. nat_le (imm_reads m ys u) 1) (length m.imms) ≡ true
    → may_read m xs s ≡ true
read_left m xs ys bus (source.Reg f i) on files imms all more =
    one_less (file_reads m ys f) (file_reads m xs f) (option_map_or (λ q. q.read) (slice_get m.files f) 0)
    (files f ∙ ap (λ t. file_reads m xs f + cond t 1 0) (self_is f)) (below_one _ (length m.files) f all (read_file_there m bus f i on))
read_left m xs ys bus (source.Imm u i) on files imms all more =
    one_none (imm_reads m ys u) (imm_reads m xs u)
    (imms u ∙ ap (λ t. imm_reads m xs u + cond t 1 0) (self_is u)) (below_one _ (length m.imms) u more (read_imm_there m bus u i on))
read_left m xs ys bus (source.Shown u) on files imms all more = refl
read_left m xs ys bus source.Ra on files imms all more = refl
read_left m xs ys bus (source.Value w) on files imms all more = refl

write_left : (m : Machine) (xs ys : List PlacedItem) (bus : ℕ) (d : Dest) → is_dest_on m bus d ≡ true
    → ((f : ℕ) → file_writes m ys f ≡ file_writes m xs f + cond (writes_file f d) 1 0)
    → has_writes m (slots_of m ys) ≡ true → may_write m xs d ≡ true
write_left m xs ys bus (dest.Reg f i) on files all =
    one_less (file_writes m ys f) (file_writes m xs f) (option_map_or (λ q. q.write) (slice_get m.files f) 0)
    (files f ∙ ap (λ t. file_writes m xs f + cond t 1 0) (self_is f)) (below_one _ (length m.files) f all (written_file_there m bus f i on))
write_left m xs ys bus (dest.Operand u) on files all = refl
write_left m xs ys bus (dest.Trigger u o) on files all = refl
write_left m xs ys bus dest.Jump on files all = refl
write_left m xs ys bus dest.Call on files all = refl
write_left m xs ys bus dest.Halt on files all = refl

-- ---- the cycle

pub fits_only_there : (m : Machine) → IsMachine m → (xs : List PlacedItem) (bus c : ℕ) (g : Option GuardRef) (s : ItemSource) (d : Dest)
    → Fits m (xs ++ move_on bus c g s d ∷ []) → Leave m xs bus (ends_from m g s d)
fits_only_there m rules xs bus c g s d fits =
    let x : PlacedItem = move_on bus c g s d in
    let v : Ends = ends_from m g s d in
    let ys : List PlacedItem = xs ++ x ∷ [] in
    let join : joins m bus v.src v.dst v.guard ≡ true = all_last (λ (y : PlacedItem). carries m y.slot y.item) xs x fits.carry in
    let lt = joins_below m rules bus v.src v.dst v.guard join in
    let apart : list_any (λ t. clash t (Bus bus)) (map (λ (y : PlacedItem). y.slot) xs) ≡ false
    = different_last clash (map (λ (y : PlacedItem). y.slot) xs) (Bus bus) (ap (are_different clash) (sym (map_push (λ (y : PlacedItem). y.slot) xs x)) ∙ fits.different) in
    let none : first_some (ends_on m bus) xs ≡ None = no_move m bus xs apart in
    let here : first_some (ends_on m bus) ys ≡ Some v = moves_here m xs bus c g s d none in
    let there : slice_get (slots_of m ys) bus ≡ Some (Some v) = slot_at m ys bus lt ∙ ap Some here in
    let untaken : not (has_bit (taken_of m ys) bus) ≡ true = slot_test (λ k o. is_none o || not (has_bit (taken_of m ys) k)) (slots_of m ys) 0 bus bus (Some v) (omega arith) fits.moves.keeps there in
    let counts = counts_push m xs bus c g s d lt none in
    let reads = and_parts (all_below (λ f. nat_le (file_reads m ys f) (option_map_or (λ q. q.read) (slice_get m.files f) 0)) (length m.files))
    (all_below (λ u. nat_le (imm_reads m ys u) 1) (length m.imms)) fits.moves.reads in
    record {
      join = join;
      free = rw (none, ap (λ n. not (has_bit n bus)) (sym (taken_push m xs bus c g s d)) ∙ untaken) refl;
      read = read_left m xs ys bus v.src (source_on m bus v.src v.dst v.guard join) (λ f. counts (λ w. reads_file f w.src)) (λ u. counts (λ w. reads_imm u w.src)) reads.0 reads.1;
      write = write_left m xs ys bus v.dst (dest_on m bus v.src v.dst v.guard join) (λ f. counts (λ w. writes_file f w.dst)) fits.moves.writes;
    }
