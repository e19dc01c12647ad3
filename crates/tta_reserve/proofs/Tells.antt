-- An item fits beside the items of a cycle exactly where their row takes it.
use Rattle.std.proofs.Common.{◌≡◌, inl, inr, ℕ, ◌^◌, ◌<◌, Bool, true, false, List, [], ◌∷◌, ◌++◌, Option, Some, None, refl, sym, ap, ◌∙◌, arith, length}
use Rattle.std.specs.Prelude.{slice_get, not, ◌&&◌, ◌||◌, ◌==◌, nat_lt, is_none, is_some, bit_and, ◌%◌}
use Rattle.std.specs.Int.{w16, trailing_zeros}
use Rattle.std.specs.Option.{option_map_or}
use Rattle.std.proofs.Math.Bool.{not-not}
use Rattle.std.proofs.lemmas.Bool.{and_parts, and_from, and_right, cases_lt, eq-eqb, eqb-true, not-true, not_from_false}
use Rattle.std.proofs.lemmas.Nat.{and_le_r}
use Rattle.tta_list.proofs.Lists.{all_one}
use Rattle.tta_arch.specs.declared.parts.Template.{Template as Field}
use Rattle.tta_reserve.specs.Cited.{GuardRef, Source, Dest, Machine, IsMachine, IsBusSet, joins, has_bit, Ends, keeps_taken, first_some, ItemSource, LongValue, PlacedItem, carried, fills, fits_cycle, slots_of, taken_of, ends_on}
use Rattle.tta_arch.specs.declared.ends.Source.TheVariants as source
use Rattle.tta_arch.specs.declared.ends.Dest.TheVariants as dest
use Rattle.tta_arch.proofs.Widths.{no_high, pow_le}
use Rattle.tta_arch.proofs.SetLemmas.{has_bit-and, has_bit-empty, trailing-has}
use Rattle.tta_moves.specs.declared.items.Item.TheVariants as item
use Rattle.tta_reserve.specs.declared.row.Row.{Row}
use Rattle.tta_reserve.specs.Taken.{imm_reads, is_apart}
use Rattle.tta_reserve.specs.Booked.{IsRow}
use Rattle.tta_reserve.specs.Leaving.{is_open, row_reads, row_writes, row_takes, fills_beside, row_fills}
use Rattle.tta_reserve.proofs.Slots.{slot_test, slots_from}
use Rattle.tta_reserve.proofs.Pushed.{fits_parts, fits_from, move_on, long_on, slot_at}
use Rattle.tta_reserve.proofs.MoveFits.{may_read, may_write, is_free, fits_one_more}
use Rattle.tta_reserve.proofs.MoveOnly.{fits_only_there}
use Rattle.tta_reserve.proofs.LongFits.{long_fits_one_more, long_fits_only_there}
use Rattle.tta_list.proofs.Tests.{same_bool as both}

none_some : (o : Option Ends) → is_none o ≡ not (is_some o)
none_some None = refl
none_some (Some v) = refl

-- ---- a move

reads_is : (m : Machine) (xs : List PlacedItem) (r : Row) → IsRow m xs r → (s : Source) → may_read m xs s ≡ row_reads m r s
reads_is m xs r row (source.Reg f i) = ap (λ n. nat_lt n (option_map_or (λ q. q.read) (slice_get m.files f) 0)) (sym (row.reads f))
reads_is m xs r row (source.Imm u i) = sym (not-not (imm_reads m xs u == 0)) ∙ ap not (sym (row.imms u))
reads_is m xs r row (source.Shown u) = refl
reads_is m xs r row source.Ra = refl
reads_is m xs r row (source.Value w) = refl

writes_is : (m : Machine) (xs : List PlacedItem) (r : Row) → IsRow m xs r → (d : Dest) → may_write m xs d ≡ row_writes m r d
writes_is m xs r row (dest.Reg f i) = ap (λ n. nat_lt n (option_map_or (λ q. q.write) (slice_get m.files f) 0)) (sym (row.writes f))
writes_is m xs r row (dest.Operand u) = refl
writes_is m xs r row (dest.Trigger u o) = refl
writes_is m xs r row dest.Jump = refl
writes_is m xs r row dest.Call = refl
writes_is m xs r row dest.Halt = refl

open_is : (m : Machine) (xs : List PlacedItem) (r : Row) → IsRow m xs r → (bus : ℕ) → is_free m xs bus ≡ is_open r bus
open_is m xs r row bus =
    ap (λ b. b && not (has_bit (taken_of m xs) bus)) (none_some (first_some (ends_on m bus) xs) ∙ ap not (sym (row.moves bus)))
    ∙ ap (λ n. not (has_bit r.moves bus) && not (has_bit n bus)) (sym row.taken)

-- what a row takes, part by part
pub record Takes (m : Machine) (r : Row) (bus : ℕ) (s : Source) (d : Dest) (g : Option GuardRef) : Type 0 where
  pub join : joins m bus s d g ≡ true
  pub free : is_open r bus ≡ true
  pub read : row_reads m r s ≡ true
  pub write : row_writes m r d ≡ true

pub takes_parts : (m : Machine) (r : Row) (bus : ℕ) (s : Source) (d : Dest) (g : Option GuardRef) → row_takes m r bus s d g ≡ true → Takes m r bus s d g
takes_parts m r bus s d g h =
    let p = and_parts (joins m bus s d g && is_open r bus && row_reads m r s) (row_writes m r d) h in
    let q = and_parts (joins m bus s d g && is_open r bus) (row_reads m r s) p.0 in
    let t = and_parts (joins m bus s d g) (is_open r bus) q.0 in
    record { join = t.0; free = t.1; read = q.1; write = p.1 }

takes_from : (m : Machine) (r : Row) (bus : ℕ) (s : Source) (d : Dest) (g : Option GuardRef) → Takes m r bus s d g → row_takes m r bus s d g ≡ true
takes_from m r bus s d g t =
    and_from (joins m bus s d g && is_open r bus && row_reads m r s) (row_writes m r d)
    (and_from (joins m bus s d g && is_open r bus) (row_reads m r s) (and_from (joins m bus s d g) (is_open r bus) t.join t.free) t.read) t.write

pub row_tells_of_moves : (m : Machine) → IsMachine m → (xs : List PlacedItem) (bus c : ℕ) (g : Option GuardRef) (s : ItemSource) (d : Dest) (r : Row) → IsRow m xs r
    → fits_cycle m xs ≡ true → is_apart (item.Move g s d) xs ≡ true
    → fits_cycle m (xs ++ move_on bus c g s d ∷ []) ≡ row_takes m r bus (carried m s) d g
row_tells_of_moves m rules xs bus c g s d r row fits apart =
    both (fits_cycle m (xs ++ move_on bus c g s d ∷ [])) (row_takes m r bus (carried m s) d g) there here where
      there : fits_cycle m (xs ++ move_on bus c g s d ∷ []) ≡ true → row_takes m r bus (carried m s) d g ≡ true
      there h =
          let all = fits_only_there m rules xs bus c g s d (fits_parts m (xs ++ move_on bus c g s d ∷ []) h) in
          takes_from m r bus (carried m s) d g (record {
            join = all.join;
            free = sym (open_is m xs r row bus) ∙ all.free;
            read = sym (reads_is m xs r row (carried m s)) ∙ all.read;
            write = sym (writes_is m xs r row d) ∙ all.write;
          })

      here : row_takes m r bus (carried m s) d g ≡ true → fits_cycle m (xs ++ move_on bus c g s d ∷ []) ≡ true
      here h =
          let t = takes_parts m r bus (carried m s) d g h in
          fits_from m (xs ++ move_on bus c g s d ∷ []) (fits_one_more m rules xs bus c g s d (fits_parts m xs fits) apart (record {
            join = t.join;
            free = open_is m xs r row bus ∙ t.free;
            read = reads_is m xs r row (carried m s) ∙ t.read;
            write = writes_is m xs r row d ∙ t.write;
          }))

-- ---- a long immediate

no_common : (a b : Bool) → (a && b) ≡ false → (not a || not b) ≡ true
no_common true true h = absurd cc
no_common true false h = refl
no_common false b h = refl

-- a set of less than sixteen buses that has none is empty
empty_set : (buses : ℕ) → buses < 2 ^ 16 → ((k : ℕ) → has_bit buses k ≡ false) → buses ≡ 0
empty_set buses small none = elim (cases_lt 0 buses) [
  | inl some ↦ let e = trailing-has buses some small in let n = none (trailing_zeros w16 buses) in absurd cc
  | inr empty ↦ omega arith
]

-- a template's buses have no move exactly where the row's moves and they have no bus in common
keeps_is : (m : Machine) → IsMachine m → (xs : List PlacedItem) (r : Row) → IsRow m xs r → (t : ℕ) (q : Field) → slice_get m.templates t ≡ Some q
    → keeps_taken q.buses (slots_of m xs) ≡ (bit_and r.moves q.buses == 0)
keeps_is m rules xs r row t q at = both (keeps_taken q.buses (slots_of m xs)) (bit_and r.moves q.buses == 0) there here where
  buses : IsBusSet (length m.buses) q.buses
  buses = all_one (λ (p : Field). IsBusSet (length m.buses) p.buses) m.templates t q rules.template_buses at

  one : (k : ℕ) → keeps_taken q.buses (slots_of m xs) ≡ true → has_bit (bit_and r.moves q.buses) k ≡ false
  one k h = elim (cases_lt k (length m.buses)) [
    | inl below ↦
        let test = slot_test (λ bus o. is_none o || not (has_bit q.buses bus)) (slots_of m xs) 0 k k (first_some (ends_on m k) xs) (omega arith) h (slot_at m xs k below) in
        has_bit-and r.moves q.buses k ∙ ap (λ b. b && has_bit q.buses k) (row.moves k) ∙ by (first_some (ends_on m k) xs) (has_bit q.buses k) test
    | inr past ↦
        let none : has_bit q.buses k ≡ false = ap (λ n. n % 2 == 1) (no_high q.buses (length m.buses) k buses.1 past) in
        has_bit-and r.moves q.buses k ∙ and_right (has_bit r.moves k) (has_bit q.buses k) none
  ] where
    by : (o : Option Ends) (b : Bool) → (is_none o || not b) ≡ true → (is_some o && b) ≡ false
    by None b h = refl
    by (Some v) b h = not-true b h

  there : keeps_taken q.buses (slots_of m xs) ≡ true → (bit_and r.moves q.buses == 0) ≡ true
  there h =
      let most = and_le_r r.moves q.buses in
      let few = rules.limits.buses in
      let pow = pow_le (length m.buses) 16 few in
      let small = buses.1 in
      eq-eqb (bit_and r.moves q.buses) 0 (empty_set (bit_and r.moves q.buses) (omega arith) (λ k. one k h))

  here : (bit_and r.moves q.buses == 0) ≡ true → keeps_taken q.buses (slots_of m xs) ≡ true
  here h =
      let zero : bit_and r.moves q.buses ≡ 0 = eqb-true (bit_and r.moves q.buses) 0 h in
      slots_from (λ bus o. is_none o || not (has_bit q.buses bus)) (λ bus. first_some (ends_on m bus) xs)
      (λ k. ap (λ b. b || not (has_bit q.buses k)) (none_some (first_some (ends_on m k) xs) ∙ ap not (sym (row.moves k)))
      ∙ no_common (has_bit r.moves k) (has_bit q.buses k) (sym (has_bit-and r.moves q.buses k) ∙ ap (λ n. has_bit n k) zero ∙ has_bit-empty k)) 0 (length m.buses)

-- what a row fills, part by part
record Filled (m : Machine) (r : Row) (t unit index : ℕ) : Type 0 where
  none : r.template ≡ false
  field : Field
  at : slice_get m.templates t ≡ Some field
  fill : fills unit index field ≡ true
  apart : (bit_and r.moves field.buses == 0) ≡ true

filled_parts : (m : Machine) (r : Row) (t unit index : ℕ) → row_fills m.templates r t unit index ≡ true → Filled m r t unit index
filled_parts m r t unit index h = on (slice_get m.templates t) refl (and_parts (not r.template) _ h) where
  on : (o : Option Field) → slice_get m.templates t ≡ o
      → (not r.template ≡ true) × (option_map_or (fills_beside r unit index) o false ≡ true) → Filled m r t unit index
  on None at p = let no = p.1 in absurd cc
  on (Some q) at p =
      let two = and_parts (fills unit index q) (bit_and r.moves q.buses == 0) p.1 in
      record { none = not-true r.template p.0; field = q; at = at; fill = two.0; apart = two.1 }

pub row_tells_of_longs : (m : Machine) → IsMachine m → (xs : List PlacedItem) (t c unit index : ℕ) (value : LongValue) (r : Row) → IsRow m xs r
    → fits_cycle m xs ≡ true → fits_cycle m (xs ++ long_on t c unit index value ∷ []) ≡ row_fills m.templates r t unit index
row_tells_of_longs m rules xs t c unit index value r row fits =
    both (fits_cycle m (xs ++ long_on t c unit index value ∷ [])) (row_fills m.templates r t unit index) there here where
      there : fits_cycle m (xs ++ long_on t c unit index value ∷ []) ≡ true → row_fills m.templates r t unit index ≡ true
      there h =
          let fill = long_fits_only_there m xs t c unit index value (fits_parts m (xs ++ long_on t c unit index value ∷ []) h) in
          and_from (not r.template) _ (not_from_false r.template (row.template ∙ fill.none)) (on (slice_get m.templates t) refl fill.carry fill.keeps) where
            on : (o : Option Field) → slice_get m.templates t ≡ o → option_map_or (fills unit index) o false ≡ true
                → keeps_taken (option_map_or (λ q. q.buses) o 0) (slots_of m xs) ≡ true → option_map_or (fills_beside r unit index) o false ≡ true
            on None at carry keeps = carry
            on (Some q) at carry keeps = and_from (fills unit index q) (bit_and r.moves q.buses == 0) carry (sym (keeps_is m rules xs r row t q at) ∙ keeps)

      here : row_fills m.templates r t unit index ≡ true → fits_cycle m (xs ++ long_on t c unit index value ∷ []) ≡ true
      here h =
          let f = filled_parts m r t unit index h in
          fits_from m (xs ++ long_on t c unit index value ∷ []) (long_fits_one_more m xs t c unit index value (fits_parts m xs fits) (record {
            carry = ap (λ o. option_map_or (fills unit index) o false) f.at ∙ f.fill;
            none = sym row.template ∙ f.none;
            keeps = ap (λ o. keeps_taken (option_map_or (λ q. q.buses) o 0) (slots_of m xs)) f.at ∙ keeps_is m rules xs r row t f.field f.at ∙ f.apart;
          }))
