-- An item on a seat by its parts.
use Rattle.std.proofs.Common.{◌≡◌, ℕ, zero, suc, List, [], ◌∷◌, Some, None, refl, ap, arith}
use Rattle.std.specs.Prelude.{length, slice_get}
use Rattle.tta_arch.specs.declared.ends.Source.TheVariants as source
use Rattle.tta_arch.specs.declared.ends.Dest.TheVariants as dest
use Rattle.tta_bind.specs.Cited.{Item, Move, Long, guard_of, source_of, target_of_item}
use Rattle.tta_moves.specs.declared.items.LongValue.TheVariants as long
use Rattle.tta_bind.specs.declared.seats.Seat.{Seat}
use Rattle.tta_bind.specs.Seated.{seated_source, seated_target, seated, all_seated}

pub guard_seated : (s : Seat) (x : Item) → guard_of (seated s x) ≡ guard_of x
guard_seated s (Move guard src dst) = refl
guard_seated s (Long unit index value) = refl

pub source_seated : (s : Seat) (x : Item) → source_of (seated s x) ≡ seated_source s (source_of x)
source_seated s (Move guard src dst) = refl
source_seated s (Long unit index (long.Word word)) = refl
source_seated s (Long unit index (long.Address block)) = refl

pub target_seated : (s : Seat) (x : Item) → target_of_item (seated s x) ≡ seated_target s (target_of_item x)
target_seated s (Move guard src (dest.Reg f i)) = refl
target_seated s (Move guard src (dest.Operand unit)) = refl
target_seated s (Move guard src (dest.Trigger unit op)) = refl
target_seated s (Move guard src dest.Jump) = refl
target_seated s (Move guard src dest.Call) = refl
target_seated s (Move guard src dest.Halt) = refl
target_seated s (Long unit index value) = refl

pub seated_length : (seats : List Seat) (items : List Item) → length seats ≡ length items → length (all_seated seats items) ≡ length items
seated_length [] [] e = refl
seated_length [] (x ∷ items) e = e
seated_length (s ∷ seats) [] e = absurd cc
seated_length (s ∷ seats) (x ∷ items) e = ap suc (seated_length seats items (omega (arith, e)))

-- an item and its seat
pub record At (seats : List Seat) (items : List Item) (n : ℕ) (x : Item) : Type 0 where
  pub seat : Seat
  pub there : slice_get seats n ≡ Some seat
  pub other : slice_get (all_seated seats items) n ≡ Some (seated seat x)

pub seat_at : (seats : List Seat) (items : List Item) (n : ℕ) (x : Item) → length seats ≡ length items → slice_get items n ≡ Some x → At seats items n x
seat_at [] [] n x size e = absurd cc
seat_at [] (y ∷ items) n x size e = absurd (omega (arith, size))
seat_at (s ∷ seats) [] n x size e = absurd cc
seat_at (s ∷ seats) (y ∷ items) zero x size e =
    let same : y ≡ x = cc in record { seat = s; there = refl; other = ap (λ (z : Item). Some (seated s z)) same }
seat_at (s ∷ seats) (y ∷ items) (suc n) x size e =
    let more = seat_at seats items n x (omega (arith, size)) e in record { seat = more.seat; there = more.there; other = more.other }

pub none_past : (seats : List Seat) (items : List Item) (n : ℕ) → slice_get items n ≡ None → slice_get (all_seated seats items) n ≡ None
none_past [] items n e = refl
none_past (s ∷ seats) [] n e = refl
none_past (s ∷ seats) (y ∷ items) zero e = absurd cc
none_past (s ∷ seats) (y ∷ items) (suc n) e = none_past seats items n e
