-- Sums over the parts of a program.
use Rattle.std.proofs.Common.{◌≡◌, ◌<◌, ◌≤◌, ◌+◌, ◌==◌, not, ◌++◌, ◌∷◌, [], ℕ, zero, suc, List, Some, length, take, filter, slice_get, refl, sym, ap, ◌∙◌, arith, inl, inr, add-zero, length-append, append_assoc}
use Rattle.std.specs.Option.{option_map_or}
use Rattle.std.specs.List.{flat_map, sum_by}
use Rattle.std.proofs.lemmas.Bool.{eq-eqb}
use Rattle.std.proofs.lemmas.List.Sums.{sum_by-cons, sum_by-append}
use Rattle.std.proofs.lemmas.List.Filters.{sum_by-filter_both}
use Rattle.tta_list.proofs.Lists.{slice_get-back}
use Rattle.tta_lower.specs.Cited.{Proc, Program}
use Rattle.tta_lower.specs.Lower.{numbers, code_order}
use Rattle.tta_lower.proofs.Lists.{In, in-filter, filter-in, in-numbers, numbers-below}

-- a sum over a prefix that is one longer
pub sum-more : {A : Type 0} (f : A → ℕ) (xs : List A) (k : ℕ) (x : A) → slice_get xs k ≡ Some x → sum_by f (take (k + 1) xs) ≡ sum_by f (take k xs) + f x
sum-more f [] k x is = cc
sum-more f (y ∷ ys) zero x is =
    let same : y ≡ x = cc in
    rw same refl
sum-more f (y ∷ ys) (suc k) x is =
    let e : suc k + 1 ≡ suc (k + 1) = omega arith in
    let rest = sum-more f ys k x is in
    ap (λ n. sum_by f (take n (y ∷ ys))) e ∙ sum_by-cons f y (take (k + 1) ys)
    ∙ ap (λ n. f y + n) rest ∙ omega arith ∙ ap (λ n. n + f x) (sym (sum_by-cons f y (take k ys)))

-- a sum over a longer prefix is at least as great
pub sum-rises : {A : Type 0} (f : A → ℕ) (xs : List A) (k : ℕ) → sum_by f (take k xs) ≤ sum_by f (take (k + 1) xs)
sum-rises f [] zero = omega arith
sum-rises f [] (suc k) =
    let e : suc k + 1 ≡ suc (k + 1) = omega arith in
    rw e (omega arith)
sum-rises f (y ∷ ys) zero = omega arith
sum-rises f (y ∷ ys) (suc k) =
    let e : suc k + 1 ≡ suc (k + 1) = omega arith in
    let rest = sum-rises f ys k in
    rw (e, sum_by-cons f y (take k ys), sum_by-cons f y (take (k + 1) ys)) (omega (arith, rest))

-- a sum over a flat list
pub sum-flat_map : {A B : Type 0} (g : B → ℕ) (f : A → List B) (xs : List A) → sum_by g (flat_map f xs) ≡ sum_by (λ x. sum_by g (f x)) xs
sum-flat_map g f [] = refl
sum-flat_map g f (x ∷ xs) =
    sum_by-append g (f x) (flat_map f xs) ∙ ap (λ n. sum_by g (f x) + n) (sum-flat_map g f xs) ∙ sym (sum_by-cons (λ x. sum_by g (f x)) x xs)

-- a sum of smaller values
pub sum-at_most : {A : Type 0} (f g : A → ℕ) (xs : List A) → ((x : A) → In x xs → f x ≤ g x) → sum_by f xs ≤ sum_by g xs
sum-at_most f g [] le = omega arith
sum-at_most f g (x ∷ xs) le =
    let rest = sum-at_most f g xs (λ y is. le y (inr is)) in
    rw (sum_by-cons f x xs, sum_by-cons g x xs) (omega (arith, rest, le x (inl refl)))

-- one of a sum
one-of : (g : ℕ → ℕ) (xs : List ℕ) (x : ℕ) → In x xs → g x ≤ sum_by g xs
one-of g [] x is = absurd is
one-of g (y ∷ ys) x (inl e) = rw (sum_by-cons g y ys, e) (omega arith)
one-of g (y ∷ ys) x (inr more) =
    let rest = one-of g ys x more in
    rw (sum_by-cons g y ys) (omega (arith, rest))

-- a sum over procedures by their numbers
over-procs : (h : Proc → ℕ) (prefix qs : List Proc) → sum_by (λ o. option_map_or h (slice_get (prefix ++ qs) o) 0) (numbers (length prefix) (length qs)) ≡ sum_by h qs
over-procs h prefix [] = refl
over-procs h prefix (q ∷ qs) =
    let here : slice_get (prefix ++ q ∷ qs) (length prefix) ≡ Some q = ap (slice_get (prefix ++ q ∷ qs)) (sym (add-zero (length prefix))) ∙ slice_get-back prefix (q ∷ qs) 0 in
    let longer : length (prefix ++ q ∷ []) ≡ length prefix + 1 = length-append prefix (q ∷ []) in
    let rest = over-procs h (prefix ++ q ∷ []) qs in
    let lists : (prefix ++ q ∷ []) ++ qs ≡ prefix ++ q ∷ qs = append_assoc prefix (q ∷ []) qs in
    let tail : sum_by (λ o. option_map_or h (slice_get (prefix ++ q ∷ qs) o) 0) (numbers (length prefix + 1) (length qs)) ≡ sum_by h qs =
    ap (λ l. sum_by (λ o. option_map_or h (slice_get l o) 0) (numbers (length prefix + 1) (length qs))) (sym lists)
    ∙ ap (λ n. sum_by (λ o. option_map_or h (slice_get ((prefix ++ q ∷ []) ++ qs) o) 0) (numbers n (length qs))) (sym longer) ∙ rest in
    sum_by-cons (λ o. option_map_or h (slice_get (prefix ++ q ∷ qs) o) 0) (length prefix) (numbers (length prefix + 1) (length qs))
    ∙ ap (λ o. option_map_or h o 0 + sum_by (λ o. option_map_or h (slice_get (prefix ++ q ∷ qs) o) 0) (numbers (length prefix + 1) (length qs))) here
    ∙ ap (λ n. h q + n) tail ∙ sym (sum_by-cons h q qs)

-- a sum over the procedures in the order of their code is at most that in the order of the text
pub code-order-sum : (p : Program) (h : Proc → ℕ) (g : ℕ → ℕ) → p.main < length p.procs → ((o : ℕ) → o < length p.procs → g o ≤ option_map_or h (slice_get p.procs o) 0)
    → sum_by g (code_order p) ≤ sum_by h p.procs
code-order-sum p h g main le =
    let of = λ (o : ℕ). option_map_or h (slice_get p.procs o) 0 in
    let others = filter (λ o. not (o == p.main)) (numbers 0 (length p.procs)) in
    let mains = filter (λ o. o == p.main) (numbers 0 (length p.procs)) in
    let both = sum_by-filter_both (λ o. o == p.main) (λ o. not (o == p.main)) (λ o. refl) of (numbers 0 (length p.procs)) in
    let one = one-of of mains p.main (in-filter (λ o. o == p.main) (numbers 0 (length p.procs)) p.main (in-numbers 0 (length p.procs) p.main (omega arith) (omega (arith, main))) (eq-eqb p.main p.main refl)) in
    let all = over-procs h [] p.procs in
    let rest = sum-at_most g of others (λ o is. le o (omega (arith, numbers-below 0 (length p.procs) o (filter-in (λ o. not (o == p.main)) (numbers 0 (length p.procs)) o is).0))) in
    rw (sum_by-cons g p.main others) (omega (arith, both, one, all, rest, le p.main main))
