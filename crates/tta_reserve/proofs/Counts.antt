-- The counts and sets of a row with one more.
use Rattle.std.proofs.Common.{◌≡◌, inl, inr, ℕ, ◌+◌, ◌<◌, ◌^◌, Bool, true, false, List, refl, sym, ap, subst, ◌∙◌, arith, length, set, cond}
use Rattle.std.specs.Prelude.{slice_index, not, ◌&&◌, ◌||◌, ◌==◌, nat_lt, if◌then◌else◌}
use Rattle.std.proofs.Math.Bool.{or-false, or-true}
use Rattle.std.proofs.lemmas.Bool.{cases_eq, eq-eqb, ne_eqb, lt-ltb}
use Rattle.std.proofs.lemmas.Bool.Decides.{nat_tests}
use Rattle.std.proofs.lemmas.List.{length-set, get_or-set_same, get_or-set_other}
use Rattle.tta_reserve.specs.Cited.{Source, Dest, Machine, has_bit, reads_file, reads_imm, writes_file, ItemSource, Port, Address, carried}
use Rattle.tta_arch.specs.declared.ends.Source.TheVariants as source
use Rattle.tta_arch.specs.declared.ends.Dest.TheVariants as dest
use Rattle.tta_arch.proofs.SetLemmas.{has_bit-or, has_bit-one}
use Rattle.tta_reserve.specs.declared.row.Row.{Row}
use Rattle.tta_reserve.specs.Adding.{one_more, with_bit, with_source, with_item_source, with_dest, with_move}

-- ---- one count, one bit

plus_none : (n : ℕ) → n ≡ n + 0
plus_none n = omega arith

one_more_at : (l : List ℕ) (at k : ℕ) → length l ≡ 8 → at < 8 → slice_index l at < 255 → slice_index (one_more l at) k ≡ slice_index l k + cond (at == k) 1 0
one_more_at l at k long lt less = rw (lt-ltb at 8 lt, lt-ltb (slice_index l at) 255 less) (elim (cases_eq at k) [
  | inl same ↦
      let here : slice_index (set l at (slice_index l at + 1)) k ≡ slice_index l k + 1
      = subst (λ j. slice_index (set l at (slice_index l at + 1)) j ≡ slice_index l j + 1) same (get_or-set_same l at (slice_index l at + 1) 0 (omega arith)) in
      here ∙ ap (λ t. slice_index l k + cond t 1 0) (sym (eq-eqb at k same))
  | inr other ↦ get_or-set_other l at k (slice_index l at + 1) 0 (λ e. other (sym e)) ∙ plus_none (slice_index l k) ∙ ap (λ t. slice_index l k + cond t 1 0) (sym (ne_eqb at k other))
])

one_more_long : (l : List ℕ) (at : ℕ) → length l ≡ 8 → length (one_more l at) ≡ 8
one_more_long l at long = on (nat_lt at 8 && nat_lt (slice_index l at) 255) where
  on : (t : Bool) → length (if t then set l at (slice_index l at + 1) else l) ≡ 8
  on true = length-set l at (slice_index l at + 1) ∙ long
  on false = long

pub with_bit_at : (most s at k : ℕ) → at < most → has_bit (with_bit most s at) k ≡ (has_bit s k || at == k)
with_bit_at most s at k lt = rw (lt-ltb at most lt) (has_bit-or s (2 ^ at) k ∙ ap (λ b. has_bit s k || b) (has_bit-one at k))

-- ---- a move more

-- what a read and a write make of the counts
abbrev pub reads_with : Source → List ℕ → List ℕ
reads_with (source.Reg file index) l = one_more l file
reads_with s l = l

abbrev pub imms_with : Source → ℕ → ℕ
imms_with (source.Imm unit index) n = with_bit 8 n unit
imms_with s n = n

abbrev pub writes_with : Dest → List ℕ → List ℕ
writes_with (dest.Reg file index) l = one_more l file
writes_with d l = l

with_source_is : (s : Source) (r : Row) → with_source s r ≡ record r { reads = reads_with s r.reads; imms = imms_with s r.imms }
with_source_is (source.Reg f i) r = refl
with_source_is (source.Imm u i) r = refl
with_source_is (source.Shown u) r = refl
with_source_is source.Ra r = refl
with_source_is (source.Value w) r = refl

with_item_source_is : (m : Machine) (s : ItemSource) (r : Row) → with_item_source s r ≡ record r { reads = reads_with (carried m s) r.reads; imms = imms_with (carried m s) r.imms }
with_item_source_is m (Port s) r = with_source_is s r
with_item_source_is m (Address b) r = refl

with_dest_is : (d : Dest) (r : Row) → with_dest d r ≡ record r { writes = writes_with d r.writes }
with_dest_is (dest.Reg f i) r = refl
with_dest_is (dest.Operand u) r = refl
with_dest_is (dest.Trigger u o) r = refl
with_dest_is dest.Jump r = refl
with_dest_is dest.Call r = refl
with_dest_is dest.Halt r = refl

pub with_move_is : (m : Machine) (bus : ℕ) (s : ItemSource) (d : Dest) (r : Row) → with_move bus s d r
    ≡ record { moves = with_bit 16 r.moves bus; taken = r.taken; template = r.template; imms = imms_with (carried m s) r.imms; reads = reads_with (carried m s) r.reads; writes = writes_with d r.writes }
with_move_is m bus s d r = ap (with_dest d) (with_item_source_is m s (record r { moves = with_bit 16 r.moves bus })) ∙ with_dest_is d _

pub reads_at : (s : Source) (l : List ℕ) → length l ≡ 8 → ((f i : ℕ) → s ≡ source.Reg f i → (f < 8) × (slice_index l f < 255)) → (k : ℕ) → slice_index (reads_with s l) k ≡ slice_index l k + cond (reads_file k s) 1 0
reads_at (source.Reg f i) l long room k = let two = room f i refl in one_more_at l f k long two.0 two.1
reads_at (source.Imm u i) l long room k = plus_none (slice_index l k)
reads_at (source.Shown u) l long room k = plus_none (slice_index l k)
reads_at source.Ra l long room k = plus_none (slice_index l k)
reads_at (source.Value w) l long room k = plus_none (slice_index l k)

pub reads_long : (s : Source) (l : List ℕ) → length l ≡ 8 → length (reads_with s l) ≡ 8
reads_long (source.Reg f i) l long = one_more_long l f long
reads_long (source.Imm u i) l long = long
reads_long (source.Shown u) l long = long
reads_long source.Ra l long = long
reads_long (source.Value w) l long = long

pub writes_at : (d : Dest) (l : List ℕ) → length l ≡ 8 → ((f i : ℕ) → d ≡ dest.Reg f i → (f < 8) × (slice_index l f < 255)) → (k : ℕ) → slice_index (writes_with d l) k ≡ slice_index l k + cond (writes_file k d) 1 0
writes_at (dest.Reg f i) l long room k = let two = room f i refl in one_more_at l f k long two.0 two.1
writes_at (dest.Operand u) l long room k = plus_none (slice_index l k)
writes_at (dest.Trigger u o) l long room k = plus_none (slice_index l k)
writes_at dest.Jump l long room k = plus_none (slice_index l k)
writes_at dest.Call l long room k = plus_none (slice_index l k)
writes_at dest.Halt l long room k = plus_none (slice_index l k)

pub writes_long : (d : Dest) (l : List ℕ) → length l ≡ 8 → length (writes_with d l) ≡ 8
writes_long (dest.Reg f i) l long = one_more_long l f long
writes_long (dest.Operand u) l long = long
writes_long (dest.Trigger u o) l long = long
writes_long dest.Jump l long = long
writes_long dest.Call l long = long
writes_long dest.Halt l long = long

not_none : (n : ℕ) → not (n + 1 == 0) ≡ true
not_none n = let e : (n + 1 == 0) ≡ false = grind (arith, nat_tests) in rw e refl

plus_bit : (n : ℕ) (t b : Bool) → b ≡ not (n == 0) → (b || t) ≡ not (n + cond t 1 0 == 0)
plus_bit n true b e = or-true b ∙ sym (not_none n)
plus_bit n false b e = or-false b ∙ e ∙ ap (λ j. not (j == 0)) (plus_none n)

pub imms_at : (s : Source) (w : ℕ) (n : ℕ → ℕ) → ((k : ℕ) → has_bit w k ≡ not (n k == 0)) → ((u i : ℕ) → s ≡ source.Imm u i → u < 8) → (k : ℕ) → has_bit (imms_with s w) k ≡ not (n k + cond (reads_imm k s) 1 0 == 0)
imms_at (source.Imm u i) w n is room k = with_bit_at 8 w u k (room u i refl) ∙ plus_bit (n k) (u == k) (has_bit w k) (is k)
imms_at (source.Reg f i) w n is room k = is k ∙ ap (λ j. not (j == 0)) (plus_none (n k))
imms_at (source.Shown u) w n is room k = is k ∙ ap (λ j. not (j == 0)) (plus_none (n k))
imms_at source.Ra w n is room k = is k ∙ ap (λ j. not (j == 0)) (plus_none (n k))
imms_at (source.Value v) w n is room k = is k ∙ ap (λ j. not (j == 0)) (plus_none (n k))
