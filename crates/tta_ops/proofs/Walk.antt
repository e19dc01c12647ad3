-- A walk that is cut in two: what came before, and what is left.
use Rattle.std.proofs.Common.{◌≡◌, ◌<◌, ◌+◌, ◌-◌, ◌++◌, ◌∷◌, [], ℕ, suc, List, Option, Some, None, length, map, drop, get_or, refl, sym, ap, ◌∙◌, arith, add-one, append_assoc}
use Rattle.std.proofs.Math.Seq.{drop-cons}
use Rattle.std.proofs.lemmas.List.{map-append, append-nil}
use Rattle.std.proofs.lemmas.List.Sums.{sum_by-cons}
use Rattle.std.proofs.lemmas.List.FromFn.{length-map-range_with_len}
use Rattle.std.specs.List.{range_with_len, sum_by}
use Rattle.std.specs.Option.{option_or}
use Rattle.tta_ops.specs.declared.error.OpsError.{OpsError}
use Rattle.tta_ops.specs.declared.error.OpsError.TheVariants.{Twice, Reserved, NoMemory}
use Rattle.tta_ops.specs.Row.{Row, names_of}
use Rattle.tta_ops.specs.Offers.{row_of, unit_rows, rows_from}
use Rattle.tta_ops.specs.Refusal.{refusal_of, first_refusal, IsCause}

-- a cause of one refusal is a cause of the first of that and later ones
cause_or : (refusal later : Option OpsError) (error : OpsError) → IsCause refusal error
    → IsCause (option_or refusal later) error
cause_or refusal later NoMemory cause = tt
cause_or refusal later (Twice unit index) cause = rw cause refl
cause_or refusal later (Reserved unit index) cause = rw cause refl

option_or_assoc : (a b c : Option OpsError) → option_or a (option_or b c) ≡ option_or (option_or a b) c
option_or_assoc None b c = refl
option_or_assoc (Some e) b c = refl

-- the first refusal of two lists, walked one after the other
first_refusal-append : (before : List (List ℕ)) (xs ys : List Row)
    → first_refusal before (xs ++ ys) ≡ option_or (first_refusal before xs) (first_refusal (before ++ names_of xs) ys)
first_refusal-append before [] ys = rw (append-nil before) refl
first_refusal-append before (x ∷ xs) ys =
    ap (λ later. option_or (refusal_of before x) later)
    (first_refusal-append (before ++ x.name ∷ []) xs ys
    ∙ ap (λ names. option_or (first_refusal (before ++ x.name ∷ []) xs) (first_refusal names ys)) (append_assoc before (x.name ∷ []) (names_of xs)))
    ∙ option_or_assoc (refusal_of before x) (first_refusal (before ++ x.name ∷ []) xs) (first_refusal (before ++ names_of (x ∷ xs)) ys)

-- the rows of two lists after others, one list after the other
pub rows_later : (all before xs ys : List Row) → before ++ (xs ++ ys) ≡ all → (before ++ xs) ++ ys ≡ all
rows_later all before xs ys same = append_assoc before xs ys ∙ same

-- where no operation of the first list is refused, the walk goes on with the second
pub refusal_later : (refusal : Option OpsError) (before xs ys : List Row)
    → first_refusal (names_of before) xs ≡ None
    → first_refusal (names_of before) (xs ++ ys) ≡ refusal
    → first_refusal (names_of (before ++ xs)) ys ≡ refusal
refusal_later refusal before xs ys none same =
    ap (λ names. first_refusal names ys) (map-append (λ r. r.name) before xs)
    ∙ sym (first_refusal-append (names_of before) xs ys ∙ ap (λ first. option_or first (first_refusal (names_of before ++ names_of xs) ys)) none)
    ∙ same

-- the same where the first list is one operation
pub refusal_next : (refusal : Option OpsError) (before : List Row) (row : Row) (rows : List Row)
    → refusal_of (names_of before) row ≡ None
    → first_refusal (names_of before) (row ∷ rows) ≡ refusal
    → first_refusal (names_of (before ++ row ∷ [])) rows ≡ refusal
refusal_next refusal before row rows none same =
    refusal_later refusal before (row ∷ []) rows (ap (λ first. option_or first None) none) same

-- a cause of a refusal is a cause of the walk's, whatever comes later
pub cause_next : (before : List Row) (row : Row) (rows : List Row) (error : OpsError)
    → IsCause (refusal_of (names_of before) row) error
    → IsCause (first_refusal (names_of before) (row ∷ rows)) error
cause_next before row rows error cause =
    cause_or (refusal_of (names_of before) row) (first_refusal (names_of before ++ row.name ∷ []) rows) error cause

pub cause_later : (before xs ys : List Row) (error : OpsError)
    → IsCause (first_refusal (names_of before) xs) error
    → IsCause (first_refusal (names_of before) (xs ++ ys)) error
cause_later before xs ys error cause =
    rw (first_refusal-append (names_of before) xs ys)
    (cause_or (first_refusal (names_of before) xs) (first_refusal (names_of before ++ names_of xs) ys) error cause)

-- the operations of a unit that are left at an index below its size
pub rest_of_unit : (f : ℕ → Row) (i n : ℕ) → i < n
    → map f (range_with_len i (n - i)) ≡ f i ∷ map f (range_with_len (i + 1) (n - (i + 1)))
rest_of_unit f i n below = let more : n - i ≡ suc (n - (i + 1)) = omega arith in rw more refl

-- the operations of the units that are left at an index
pub rest_of_units : {B : Type 0} (size : B → ℕ) (name : B → ℕ → List ℕ) (arity : B → ℕ → ℕ) (number : ℕ) (units : List B) (j : ℕ) (unit : B)
    → j < length units → unit ≡ get_or units j unit
    → rows_from size name arity number (drop j units) ≡ unit_rows size name arity number unit ++ rows_from size name arity (number + 1) (drop (j + 1) units)
rest_of_units size name arity number units j unit below same = rw (drop-cons units j unit below, ← same, add-one j) refl

-- and how many they are
pub size_of_rest : {B : Type 0} (size : B → ℕ) (units : List B) (j : ℕ) (unit : B) → j < length units
    → unit ≡ get_or units j unit
    → sum_by size (drop j units) ≡ size unit + sum_by size (drop (j + 1) units)
size_of_rest size units j unit below same = rw (drop-cons units j unit below, ← same, add-one) (sum_by-cons size unit (drop (suc j) units))

-- a unit has as many operations as it says
pub length-unit_rows : {B : Type 0} (size : B → ℕ) (name : B → ℕ → List ℕ) (arity : B → ℕ → ℕ) (number : ℕ) (unit : B)
    → length (unit_rows size name arity number unit) ≡ size unit
length-unit_rows size name arity number unit = length-map-range_with_len (row_of name arity number unit) 0 (size unit)
