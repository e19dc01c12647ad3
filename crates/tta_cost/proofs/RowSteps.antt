-- Rows of registers.
use Rattle.std.proofs.Common.{◌≡◌, ℕ, ◌+◌, ◌-◌, ◌<◌, List, [], ◌∷◌, ◌≤◌, length, take, drop, get_or, map, refl, ap, ◌∙◌, arith}
use Rattle.std.specs.List.{enumerate_from, flat_map, range_with_len}
use Rattle.tta_cost.specs.Cited.{Machine, Cost, register}
use Rattle.tta_cost.specs.declared.parts.Part.{Part}
use Rattle.tta_cost.specs.declared.parts.Parts.{Parts}
use Rattle.tta_cost.specs.declared.rows.Row.{Row}
use Rattle.tta_cost.specs.declared.rows.Row.TheVariants as row
use Rattle.tta_cost.specs.Rows.{named, part_of_row}
use Rattle.tta_cost.specs.Tally.{part_of, put, cost_of_register, registers_put}
use Rattle.tta_cost.proofs.Tally.{registers_over, row_more}
use Rattle.tta_cost.proofs.Listed.{after_one}
use Rattle.tta_hardware.specs.Signals.{Signal as Named}

-- each register of a row belongs to the row's part
parted : (r : Row) (n : ℕ) → part_of_row r ≡ part_of (named r n)
parted (row.File file) n = refl
parted (row.Immediate unit) n = refl
parted (row.IsDue unit) n = refl
parted (row.Due unit) n = refl
parted row.Underway n = refl

-- a row, one register after another
pub row_of : (t : List ℕ) (m : Machine) (r : Row) (a n : ℕ) (p : Part) (c : Cost) (old mid new : Parts) → 0 < n → p ≡ part_of_row r
    → c ≡ cost_of_register t m (register m (named r a)) → mid ≡ put p c old
    → new ≡ registers_put t m (map (named r) (range_with_len (a + 1) (n - 1))) mid
    → new ≡ registers_put t m (map (named r) (range_with_len a n)) old
row_of t m r a n p c old mid new some of_p of_c of_mid of_new =
    of_new
    ∙ ap (registers_put t m (map (named r) (range_with_len (a + 1) (n - 1))))
    (of_mid ∙ ap (λ (x : Part). put x c old) (of_p ∙ parted r a) ∙ ap (λ (x : Cost). put (part_of (named r a)) x old) of_c)
    ∙ row_more t m (named r) a n old some

-- lists of names, one after another, where the rest is over the elements after the first
pub lists_of : {A : Type 0} (t : List ℕ) (m : Machine) (F : ℕ × A → List Named) (k : ℕ) (xs : List A) (x d : A) (old mid new : Parts) → 1 ≤ length xs
    → x ≡ get_or xs 0 d → mid ≡ registers_put t m (F (k, x)) old
    → new ≡ registers_put t m (flat_map F (enumerate_from (k + 1) (take (length xs - 1) (drop 1 xs)))) mid
    → new ≡ registers_put t m (flat_map F (enumerate_from k xs)) old
lists_of t m F k [] x d old mid new some is of_mid of_new = absurd (omega (arith, some))
lists_of {A} t m F k (y ∷ ys) x d old mid new some is of_mid of_new =
    of_new ∙ ap (λ (l : List A). registers_put t m (flat_map F (enumerate_from (k + 1) l)) mid) (after_one ys)
    ∙ ap (registers_put t m (flat_map F (enumerate_from (k + 1) ys))) (of_mid ∙ ap (λ (z : A). registers_put t m (F (k, z)) old) is)
    ∙ registers_over t m F (k, y) (enumerate_from (k + 1) ys) old
