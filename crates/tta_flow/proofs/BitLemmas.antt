-- One bit of a row is set.
use Rattle.std.proofs.Common.{◌≡◌, ◌≢◌, ◌<◌, ◌/◌, ◌%◌, ◌^◌, ℕ, zero, suc, false, List, [], ◌∷◌, length, get_or, set, refl, sym, ap, ◌∙◌, ◌⊎◌, inl, inr, arith}
use Rattle.std.specs.Prelude.{◌==◌, ◌||◌, bit_or}
use Rattle.std.specs.Int.{bit_at}
use Rattle.std.proofs.lemmas.Bool.{cases_eq, eq-eqb, ne_eqb}
use Rattle.std.proofs.lemmas.Nat.Bits.{bit_at_or, bit_at-lt, bit_at-pow_same, bit_at-pow_other}
use Rattle.std.proofs.Common.{get_or-set_same, get_or-set_other}
use Rattle.std.proofs.Math.Bool.{or-true, or-false}
use Rattle.tta_list.proofs.Tests.{either_bit}

pub is_bit-or : (a b k : ℕ) → (bit_at (bit_or a b) k == 1) ≡ (bit_at a k == 1 || bit_at b k == 1)
is_bit-or a b k = ap (λ n. n == 1) (bit_at_or a b k) ∙ either_bit (bit_at a k) (bit_at b k) (bit_at-lt a k) (bit_at-lt b k)

module _ (words : List ℕ) (bit k word one : ℕ) (below : bit / 64 < length words) (is : get_or words (bit / 64) 0 ≡ word) (single : one ≡ 2 ^ (bit % 64)) where
  same_word : k / 64 ≡ bit / 64 → get_or (set words (bit / 64) (bit_or word one)) (k / 64) 0 ≡ bit_or word (2 ^ (bit % 64))
  same_word e = ap (λ i. get_or (set words (bit / 64) (bit_or word one)) i 0) e ∙ get_or-set_same words (bit / 64) (bit_or word one) 0 below ∙ ap (bit_or word) single

  pub set_bit : (bit_at (get_or (set words (bit / 64) (bit_or word one)) (k / 64) 0) (k % 64) == 1)
      ≡ (bit_at (get_or words (k / 64) 0) (k % 64) == 1 || bit == k)
  set_bit = elim (cases_eq (k / 64) (bit / 64)) [
    | inl e ↦ in_word e (cases_eq (k % 64) (bit % 64))
    | inr other ↦
        ap (λ n. bit_at n (k % 64) == 1) (get_or-set_other words (bit / 64) (k / 64) (bit_or word one) 0 other)
        ∙ sym (or-false _) ∙ ap (λ b. (bit_at (get_or words (k / 64) 0) (k % 64) == 1) || b) (sym (ne_eqb bit k (λ e. other (ap (λ n. n / 64) (sym e)))))
  ] where
    in_word : k / 64 ≡ bit / 64 → (k % 64 ≡ bit % 64) ⊎ (k % 64 ≢ bit % 64)
        → (bit_at (get_or (set words (bit / 64) (bit_or word one)) (k / 64) 0) (k % 64) == 1)
        ≡ (bit_at (get_or words (k / 64) 0) (k % 64) == 1 || bit == k)
    in_word e (inl same) =
        let alike : bit ≡ k = omega arith in
        ap (λ n. bit_at n (k % 64) == 1) (same_word e) ∙ is_bit-or word (2 ^ (bit % 64)) (k % 64)
        ∙ ap (λ b. bit_at word (k % 64) == 1 || b) (ap (λ n. n == 1) (ap (bit_at (2 ^ (bit % 64))) same ∙ bit_at-pow_same (bit % 64)))
        ∙ or-true _ ∙ sym (or-true (bit_at (get_or words (k / 64) 0) (k % 64) == 1))
        ∙ ap (λ b. (bit_at (get_or words (k / 64) 0) (k % 64) == 1) || b) (sym (eq-eqb bit k alike))
    in_word e (inr differ) =
        ap (λ n. bit_at n (k % 64) == 1) (same_word e) ∙ is_bit-or word (2 ^ (bit % 64)) (k % 64)
        ∙ ap (λ b. bit_at word (k % 64) == 1 || b) (ap (λ n. n == 1) (bit_at-pow_other (bit % 64) (k % 64) differ))
        ∙ ap (λ n. bit_at n (k % 64) == 1 || false) (sym is ∙ ap (λ i. get_or words i 0) (sym e))
        ∙ ap (λ b. (bit_at (get_or words (k / 64) 0) (k % 64) == 1) || b) (sym (ne_eqb bit k (λ s. differ (ap (λ n. n % 64) (sym s)))))

-- what stands at a place that is there, whatever is read past the end
pub any_default : (xs : List ℕ) (i d e : ℕ) → i < length xs → get_or xs i d ≡ get_or xs i e
any_default [] i d e below = absurd (omega arith)
any_default (x ∷ xs) zero d e below = refl
any_default (x ∷ xs) (suc i) d e below = any_default xs i d e (omega arith)
