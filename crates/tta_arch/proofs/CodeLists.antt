-- Lists that a loop makes item by item.
use Rattle.std.proofs.Common.{◌≡◌, ℕ, ◌+◌, ◌<◌, ◌≤◌, nat_lt, Bool, not, Option, Some, None, unwrap_or, List, [], ◌∷◌, ◌++◌, length, map, get_or, drop, refl, sym, ap, ◌∙◌, arith}
use Rattle.std.proofs.lemmas.List.{append_assoc, drop_more}
use Rattle.std.proofs.lemmas.List.FromFn.{map-range_with_len_more}
use Rattle.std.specs.List.{flat_map, enumerate_from, range_with_len, position, position_or_len}
use Rattle.std.proofs.lemmas.Bool.{cond_both, ltb-false}
use Rattle.std.proofs.lemmas.List.Sums.{prefix_len-le-length}

-- one number more
pub numbered_more : {X : Type 0} (f : ℕ → X) (list list' start : List X) (n : ℕ) → list' ≡ list ++ f n ∷ [] → list ≡ start ++ map f (range_with_len 0 n)
    → list' ≡ start ++ map f (range_with_len 0 (n + 1))
numbered_more f list list' start n pushed was =
    pushed ∙ ap (λ l. l ++ f n ∷ []) was ∙ append_assoc start (map f (range_with_len 0 n)) (f n ∷ [])
    ∙ ap (λ l. start ++ l) (sym (map-range_with_len_more f 0 n n (omega arith)))

enumerate_more : {X : Type 0} (xs : List X) (i : ℕ) (x : X) → i < length xs → x ≡ get_or xs i x
    → enumerate_from i (drop i xs) ≡ (i, x) ∷ enumerate_from (i + 1) (drop (i + 1) xs)
enumerate_more xs i x h is =
    ap (λ l. enumerate_from i l) (drop_more xs i x h) ∙ ap (λ y. (i, y) ∷ enumerate_from (i + 1) (drop (i + 1) xs)) (sym is)

-- one item more, where what each item gives is put at the end
pub pieces_more : {X A : Type 0} (g : ℕ × X → List A) (list list' all : List A) (xs : List X) (i : ℕ) (x : X) → i < length xs → x ≡ get_or xs i x
    → list' ≡ list ++ g (i, x) → list ++ flat_map g (enumerate_from i (drop i xs)) ≡ all
    → list' ++ flat_map g (enumerate_from (i + 1) (drop (i + 1) xs)) ≡ all
pieces_more g list list' all xs i x h is pushed was =
    ap (λ l. l ++ flat_map g (enumerate_from (i + 1) (drop (i + 1) xs))) pushed
    ∙ append_assoc list (g (i, x)) (flat_map g (enumerate_from (i + 1) (drop (i + 1) xs)))
    ∙ ap (λ l. list ++ flat_map g l) (sym (enumerate_more xs i x h is)) ∙ was

-- a place, or the length where there is none
pub place_or_len : {X : Type 0} (p : X → Bool) (xs xs' : List X) (place : Option ℕ) (n : ℕ) → xs ≡ xs' → place ≡ position p xs
    → n ≡ unwrap_or place (length xs) → n ≡ position_or_len p xs'
place_or_len p xs xs' place n same found is =
    let at : ℕ = position_or_len p xs in
    let most : at ≤ length xs = prefix_len-le-length (λ x. not (p x)) xs in
    is ∙ ap (λ o. unwrap_or o (length xs)) found
    ∙ cond_both (nat_lt at (length xs)) (Some at) None (λ o. unwrap_or o (length xs) ≡ at) (λ in'. refl) (λ out. let le : length xs ≤ at = ltb-false at (length xs) out in omega arith)
    ∙ ap (λ l. position_or_len p l) same
