-- Numbers of words that a word of the command line says.
use Rattle.std.proofs.Common.{◌≡◌, ℕ, zero, suc, ◌+◌, ◌-◌, ◌^◌, ◌<◌, ◌≤◌, Bool, true, false, ◌&&◌, if◌then◌else◌, List, [], ◌∷◌, ◌++◌, length, take, drop, replicate, Option, Some, None, refl, sym, ap, ◌∙◌, append_assoc, arith}
use Rattle.std.specs.Prelude.{◌==◌, is_some, option_and_then}
use Rattle.std.specs.List.{AllByRecursion}
use Rattle.std.specs.Option.{option_map_or}
use Rattle.std.proofs.lemmas.List.{length-replicate}
use Rattle.tta_inspect.specs.Cited.{digits_of}
use Rattle.tta_inspect.specs.Depths.{exponent_from, depth_of, comma_at, is_list, depth_or_zero, list_in, depths_in}

-- ---- one step more

pub exponent_more : (k left n : ℕ) → 0 < left → exponent_from k left n ≡ (if 2 ^ k == n then Some k else exponent_from (k + 1) (left - 1) n)
exponent_more k zero n some = absurd (omega arith)
exponent_more k (suc left) n some =
    let e : suc left - 1 ≡ left = omega arith in
    sym (ap (λ (l : ℕ). if 2 ^ k == n then Some k else exponent_from (k + 1) l n) e)

pub is_list_more : (count : ℕ) (bytes : List ℕ) → 0 < count
    → is_list count bytes
    ≡ (is_some (depth_of (take (comma_at bytes) bytes))
    && (if count - 1 == 0 then comma_at bytes == length bytes else is_list (count - 1) (drop (comma_at bytes + 1) bytes)))
is_list_more zero bytes some = absurd (omega arith)
is_list_more (suc n) bytes some =
    let e : suc n - 1 ≡ n = omega arith in
    sym (ap (λ (l : ℕ). is_some (depth_of (take (comma_at bytes) bytes))
    && (if l == 0 then comma_at bytes == length bytes else is_list l (drop (comma_at bytes + 1) bytes))) e)

pub list_more : (count : ℕ) (bytes : List ℕ) → 0 < count
    → list_in count bytes ≡ depth_or_zero (take (comma_at bytes) bytes) ∷ list_in (count - 1) (drop (comma_at bytes + 1) bytes)
list_more zero bytes some = absurd (omega arith)
list_more (suc n) bytes some =
    let e : suc n - 1 ≡ n = omega arith in
    sym (ap (λ (l : ℕ). depth_or_zero (take (comma_at bytes) bytes) ∷ list_in l (drop (comma_at bytes + 1) bytes)) e)

-- a number that was added, and those after it
pub list_added : (count : ℕ) (bytes first rest old now new : List ℕ) (at k : ℕ) → 0 < count → at ≡ comma_at bytes → first ≡ take at bytes
    → k ≡ depth_or_zero first → now ≡ old ++ k ∷ [] → rest ≡ drop (at + 1) bytes → new ≡ now ++ list_in (count - 1) rest
    → new ≡ old ++ list_in count bytes
list_added count bytes first rest old now new at k some where_at is_first is_k is_now is_rest is =
    let number : k ≡ depth_or_zero (take (comma_at bytes) bytes) = is_k ∙ ap depth_or_zero (is_first ∙ ap (λ (n : ℕ). take n bytes) where_at) in
    let others : rest ≡ drop (comma_at bytes + 1) bytes = is_rest ∙ ap (λ (n : ℕ). drop (n + 1) bytes) where_at in
    is ∙ ap (λ (l : List ℕ). l ++ list_in (count - 1) rest) is_now ∙ append_assoc old (k ∷ []) (list_in (count - 1) rest)
    ∙ ap (λ (n : ℕ). old ++ n ∷ list_in (count - 1) rest) number
    ∙ ap (λ (l : List ℕ). old ++ depth_or_zero (take (comma_at bytes) bytes) ∷ list_in (count - 1) l) others
    ∙ ap (λ (l : List ℕ). old ++ l) (sym (list_more count bytes some))

-- ---- how many they are, and how great

exponent_small : (k left n e : ℕ) → exponent_from k left n ≡ Some e → e < k + left
exponent_small k zero n e is = absurd cc
exponent_small k (suc left) n e is = by (2 ^ k == n) (exponent_small (k + 1) left n e) is where
  by : (b : Bool) → (exponent_from (k + 1) left n ≡ Some e → e < k + 1 + left) → (if b then Some k else exponent_from (k + 1) left n) ≡ Some e
      → e < k + suc left
  by true rest is = let same : k ≡ e = cc in omega (arith, same)
  by false rest is = let less = rest is in omega (arith, less)

pub depth_small : (digits : List ℕ) (k : ℕ) → depth_of digits ≡ Some k → k ≤ 16
depth_small digits k is = by (digits_of 10 5 (2 ^ 16 + 1) digits) is where
  by : (o : Option ℕ) → option_and_then (exponent_from 1 16) o ≡ Some k → k ≤ 16
  by None is = absurd cc
  by (Some n) is = let less = exponent_small 1 16 n k is in omega (arith, less)

zero_small : (digits : List ℕ) → depth_or_zero digits ≤ 16
zero_small digits = by (depth_of digits) refl where
  by : (o : Option ℕ) → depth_of digits ≡ o → option_map_or (λ k. k) o 0 ≤ 16
  by None is = omega arith
  by (Some k) is = depth_small digits k is

list_small : (count : ℕ) (bytes : List ℕ) → AllByRecursion (λ k. k ≤ 16) (list_in count bytes)
list_small zero bytes = tt
list_small (suc n) bytes = (zero_small (take (comma_at bytes) bytes), list_small n (drop (comma_at bytes + 1) bytes))

alike_small : (count k : ℕ) → k ≤ 16 → AllByRecursion (λ k. k ≤ 16) (replicate count k)
alike_small zero k small = tt
alike_small (suc n) k small = (small, alike_small n k small)

list_count : (count : ℕ) (bytes : List ℕ) → length (list_in count bytes) ≡ count
list_count zero bytes = refl
list_count (suc n) bytes = ap suc (list_count n (drop (comma_at bytes + 1) bytes))

pub depths_small : (count : ℕ) (word : List ℕ) → AllByRecursion (λ k. k ≤ 16) (depths_in count word)
depths_small count word = by (depth_of word) refl where
  by : (o : Option ℕ) → depth_of word ≡ o → AllByRecursion (λ k. k ≤ 16) (option_map_or (λ k. replicate count k) o (list_in count word))
  by None is = list_small count word
  by (Some k) is = alike_small count k (depth_small word k is)

pub depths_count : (count : ℕ) (word : List ℕ) → length (depths_in count word) ≡ count
depths_count count word = by (depth_of word) where
  by : (o : Option ℕ) → length (option_map_or (λ k. replicate count k) o (list_in count word)) ≡ count
  by None = list_count count word
  by (Some k) = length-replicate count k
