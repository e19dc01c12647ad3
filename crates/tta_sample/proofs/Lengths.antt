-- A sample is a short text: each of its lines has few bytes.
use Rattle.std.proofs.Common.{◌≡◌, ◌≤◌, ◌<◌, ◌+◌, ◌*◌, ◌%◌, ◌/◌, ◌^◌, ◌==◌, ◌||◌, ℕ, zero, suc, Bool, true, false, if◌then◌else◌, List, ◌++◌, length, codes, decimal, refl, length-append, arith}
use Rattle.std.proofs.Math.Nat.{mod-lt}
use Rattle.std.proofs.lemmas.Fmt.{length-decimal-le}
use Rattle.tta_sample.specs.Sample.{next_number, first_of, second_of, assigned_of, copied_of, constant_of, kind_of, var, first_part, of_two, of_one, put_out, copy_constant, load, store, when, skipped, late_line, middle_line, kind_line, body_line, body, head, tail, sample_text}

-- two parts of a text, each within its bound
both : (xs ys : List ℕ) (a b : ℕ) → length xs ≤ a → length ys ≤ b → length (xs ++ ys) ≤ a + b
both xs ys a b first second = let is = length-append xs ys in omega arith

-- a text of a known length
exactly : (xs : List ℕ) (n : ℕ) → length xs ≡ n → length xs ≤ n
exactly xs n is = omega arith

-- a bound that is no less
within : (xs : List ℕ) (a b : ℕ) → a ≤ b → length xs ≤ a → length xs ≤ b
within xs a b more few = omega arith

var_short : (n : ℕ) → n < 8 → length (var n) ≤ 2
var_short n few =
    let digit : length (decimal n) ≤ 1 = length-decimal-le 1 n (omega arith) (omega arith) (omega arith) in
    both (codes "v") (decimal n) 1 1 (exactly (codes "v") 1 refl) digit

-- a variable that a line names
named : (y : ℕ) → length (var (y % 8)) ≤ 2
named y = var_short (y % 8) (mod-lt y (omega arith))

constant_short : (x : ℕ) → length (decimal (constant_of x)) ≤ 2
constant_short x =
    let few : constant_of x < 64 = mod-lt x (omega arith) in
    length-decimal-le 2 (constant_of x) (omega arith) (omega arith) (omega arith)

-- ---- the lines

first_short : (name : List ℕ) (x : ℕ) → length name ≤ 3 → length (first_part name x) ≤ 12
first_short name x few =
    both (var (assigned_of x) ++ codes " = " ++ name ++ codes " " ++ var (first_of x)) (codes " ") 11 1
    (both (var (assigned_of x) ++ codes " = " ++ name ++ codes " ") (var (first_of x)) 9 2
    (both (var (assigned_of x) ++ codes " = " ++ name) (codes " ") 8 1
    (both (var (assigned_of x) ++ codes " = ") name 5 3
    (both (var (assigned_of x)) (codes " = ") 2 3 (named (x / 2 ^ 16)) (exactly (codes " = ") 3 refl)) (few)) (exactly (codes " ") 1 refl)) (named (x / 2 ^ 24))) (exactly (codes " ") 1 refl)

two_short : (name : List ℕ) (x : ℕ) → length name ≤ 3 → length (of_two name x) ≤ 46
two_short name x few =
    within (of_two name x) 15 46 (omega arith)
    (both (first_part name x ++ var (second_of x)) (codes "\n") 14 1
    (both (first_part name x) (var (second_of x)) 12 2 (first_short name x few) (named (x / 2 ^ 20))) (exactly (codes "\n") 1 refl))

one_short : (name : List ℕ) (x : ℕ) → length name ≤ 3 → length (of_one name x) ≤ 46
one_short name x few =
    within (of_one name x) 15 46 (omega arith)
    (both (first_part name x ++ decimal (constant_of x)) (codes "\n") 14 1
    (both (first_part name x) (decimal (constant_of x)) 12 2 (first_short name x few) (constant_short x)) (exactly (codes "\n") 1 refl))

out_short : (y : ℕ) → length (put_out (y % 8)) ≤ 46
out_short y =
    within (put_out (y % 8)) 7 46 (omega arith)
    (both (codes "out " ++ var (y % 8)) (codes "\n") 6 1
    (both (codes "out ") (var (y % 8)) 4 2 (exactly (codes "out ") 4 refl) (named y)) (exactly (codes "\n") 1 refl))

copy_short : (x : ℕ) → length (copy_constant x) ≤ 46
copy_short x =
    within (copy_constant x) 8 46 (omega arith)
    (both (var (assigned_of x) ++ codes " = " ++ decimal (constant_of x)) (codes "\n") 7 1
    (both (var (assigned_of x) ++ codes " = ") (decimal (constant_of x)) 5 2
    (both (var (assigned_of x)) (codes " = ") 2 3 (named (x / 2 ^ 16)) (exactly (codes " = ") 3 refl)) (constant_short x)) (exactly (codes "\n") 1 refl))

load_short : (x : ℕ) → length (load x) ≤ 46
load_short x =
    within (load x) 13 46 (omega arith)
    (both (var (assigned_of x) ++ codes " = load " ++ decimal (constant_of x)) (codes "\n") 12 1
    (both (var (assigned_of x) ++ codes " = load ") (decimal (constant_of x)) 10 2
    (both (var (assigned_of x)) (codes " = load ") 2 8 (named (x / 2 ^ 16)) (exactly (codes " = load ") 8 refl)) (constant_short x)) (exactly (codes "\n") 1 refl))

store_short : (x : ℕ) → length (store x) ≤ 46
store_short x =
    within (store x) 12 46 (omega arith)
    (both (codes "store " ++ decimal (constant_of x) ++ codes " " ++ var (first_of x)) (codes "\n") 11 1
    (both (codes "store " ++ decimal (constant_of x) ++ codes " ") (var (first_of x)) 9 2
    (both (codes "store " ++ decimal (constant_of x)) (codes " ") 8 1
    (both (codes "store ") (decimal (constant_of x)) 6 2 (exactly (codes "store ") 6 refl) (constant_short x)) (exactly (codes " ") 1 refl)) (named (x / 2 ^ 24))) (exactly (codes "\n") 1 refl))

when_short : (x : ℕ) → length (when x) ≤ 46
when_short x =
    within (when x) 23 46 (omega arith)
    (both (codes "when ltu " ++ var (first_of x) ++ codes " " ++ var (second_of x) ++ codes " " ++ var (assigned_of x) ++ codes " = " ++ var (copied_of x)) (codes "\n") 22 1
    (both (codes "when ltu " ++ var (first_of x) ++ codes " " ++ var (second_of x) ++ codes " " ++ var (assigned_of x) ++ codes " = ") (var (copied_of x)) 20 2
    (both (codes "when ltu " ++ var (first_of x) ++ codes " " ++ var (second_of x) ++ codes " " ++ var (assigned_of x)) (codes " = ") 17 3
    (both (codes "when ltu " ++ var (first_of x) ++ codes " " ++ var (second_of x) ++ codes " ") (var (assigned_of x)) 15 2
    (both (codes "when ltu " ++ var (first_of x) ++ codes " " ++ var (second_of x)) (codes " ") 14 1
    (both (codes "when ltu " ++ var (first_of x) ++ codes " ") (var (second_of x)) 12 2
    (both (codes "when ltu " ++ var (first_of x)) (codes " ") 11 1
    (both (codes "when ltu ") (var (first_of x)) 9 2 (exactly (codes "when ltu ") 9 refl) (named (x / 2 ^ 24))) (exactly (codes " ") 1 refl)) (named (x / 2 ^ 20))) (exactly (codes " ") 1 refl)) (named (x / 2 ^ 16))) (exactly (codes " = ") 3 refl)) (named (x / 2 ^ 12))) (exactly (codes "\n") 1 refl))

skipped_short : (k x : ℕ) → k < 10 ^ 5 → length (skipped k x) ≤ 46
skipped_short k x few =
    let number : length (decimal k) ≤ 5 = length-decimal-le 5 k (omega arith) few (omega arith) in
    both (codes "if lt " ++ var (first_of x) ++ codes " " ++ var (second_of x) ++ codes " goto L" ++ decimal k ++ codes "\n" ++ var (assigned_of x) ++ codes " = add " ++ var (assigned_of x) ++ codes " 1\nL" ++ decimal k) (codes ":\n") 44 2
    (both (codes "if lt " ++ var (first_of x) ++ codes " " ++ var (second_of x) ++ codes " goto L" ++ decimal k ++ codes "\n" ++ var (assigned_of x) ++ codes " = add " ++ var (assigned_of x) ++ codes " 1\nL") (decimal k) 39 5
    (both (codes "if lt " ++ var (first_of x) ++ codes " " ++ var (second_of x) ++ codes " goto L" ++ decimal k ++ codes "\n" ++ var (assigned_of x) ++ codes " = add " ++ var (assigned_of x)) (codes " 1\nL") 35 4
    (both (codes "if lt " ++ var (first_of x) ++ codes " " ++ var (second_of x) ++ codes " goto L" ++ decimal k ++ codes "\n" ++ var (assigned_of x) ++ codes " = add ") (var (assigned_of x)) 33 2
    (both (codes "if lt " ++ var (first_of x) ++ codes " " ++ var (second_of x) ++ codes " goto L" ++ decimal k ++ codes "\n" ++ var (assigned_of x)) (codes " = add ") 26 7
    (both (codes "if lt " ++ var (first_of x) ++ codes " " ++ var (second_of x) ++ codes " goto L" ++ decimal k ++ codes "\n") (var (assigned_of x)) 24 2
    (both (codes "if lt " ++ var (first_of x) ++ codes " " ++ var (second_of x) ++ codes " goto L" ++ decimal k) (codes "\n") 23 1
    (both (codes "if lt " ++ var (first_of x) ++ codes " " ++ var (second_of x) ++ codes " goto L") (decimal k) 18 5
    (both (codes "if lt " ++ var (first_of x) ++ codes " " ++ var (second_of x)) (codes " goto L") 11 7
    (both (codes "if lt " ++ var (first_of x) ++ codes " ") (var (second_of x)) 9 2
    (both (codes "if lt " ++ var (first_of x)) (codes " ") 8 1
    (both (codes "if lt ") (var (first_of x)) 6 2 (exactly (codes "if lt ") 6 refl) (named (x / 2 ^ 24))) (exactly (codes " ") 1 refl)) (named (x / 2 ^ 20))) (exactly (codes " goto L") 7 refl)) (number)) (exactly (codes "\n") 1 refl)) (named (x / 2 ^ 16))) (exactly (codes " = add ") 7 refl)) (named (x / 2 ^ 16))) (exactly (codes " 1\nL") 4 refl)) (number)) (exactly (codes ":\n") 2 refl)

-- one of two lines
pick : (b : Bool) (xs ys : List ℕ) → length xs ≤ 46 → length ys ≤ 46 → length (if b then xs else ys) ≤ 46
pick true xs ys first second = first
pick false xs ys first second = second

late_short : (n x : ℕ) → length (late_line n x) ≤ 46
late_short n x =
    pick (n == 10 || n == 11) _ _ (two_short (codes "mul") x (exactly (codes "mul") 3 refl))
    (pick (n == 12) _ _ (one_short (codes "add") x (exactly (codes "add") 3 refl))
    (pick (n == 13) _ _ (out_short (x / 2 ^ 16))
    (pick (n == 14) _ _ (two_short (codes "add") x (exactly (codes "add") 3 refl)) (one_short (codes "xor") x (exactly (codes "xor") 3 refl)))))

middle_short : (n k x : ℕ) → k < 10 ^ 5 → length (middle_line n k x) ≤ 46
middle_short n k x few =
    pick (n == 5) _ _ (load_short x)
    (pick (n == 6) _ _ (store_short x)
    (pick (n == 7) _ _ (out_short (x / 2 ^ 24))
    (pick (n == 8) _ _ (when_short x)
    (pick (n == 9) _ _ (skipped_short k x few) (late_short n x)))))

kind_short : (n k x : ℕ) → k < 10 ^ 5 → length (kind_line n k x) ≤ 46
kind_short n k x few =
    pick (n == 0) _ _ (two_short (codes "add") x (exactly (codes "add") 3 refl))
    (pick (n == 1) _ _ (two_short (codes "sub") x (exactly (codes "sub") 3 refl))
    (pick (n == 2) _ _ (two_short (codes "xor") x (exactly (codes "xor") 3 refl))
    (pick (n == 3) _ _ (two_short (codes "and") x (exactly (codes "and") 3 refl))
    (pick (n == 4) _ _ (copy_short x) (middle_short n k x few)))))

-- ---- the text

body_short : (k x count : ℕ) → k + count ≤ 20000 → length (body k x count) ≤ 46 * count
body_short k x zero few = exactly (body k x zero) 0 refl
body_short k x (suc n) few =
    let y = next_number x in
    within (body k x (suc n)) (46 + 46 * n) (46 * suc n) (omega arith)
    (both (body_line k y) (body (k + 1) y n) 46 (46 * n) (kind_short (kind_of y) k y (omega arith)) (body_short (k + 1) y n (omega arith)))

-- a text of at most 20,000 lines of the body has at most 2^24 bytes
pub text_short : (seed lines : ℕ) → lines ≤ 20000 → length (sample_text seed lines) ≤ 2 ^ 24
text_short seed lines few =
    within (sample_text seed lines) (76 + 46 * lines + 94) (2 ^ 24) (omega arith)
    (both (head ++ body 0 seed lines) tail (76 + 46 * lines) 94
    (both head (body 0 seed lines) 76 (46 * lines) (exactly head 76 refl) (body_short 0 seed lines (omega arith))) (exactly tail 94 refl))
