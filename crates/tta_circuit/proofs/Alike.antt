-- Circuits whose signals have the same words and whose memories read the same.
use Rattle.std.proofs.Common.{◌≡◌, ℕ, ◌+◌, ◌-◌, ◌*◌, ◌/◌, ◌%◌, ◌^◌, ◌==◌, Bool, true, false, not, ◌&&◌, ◌||◌, nat_lt, List, [], ◌∷◌, Option, None, Some, refl, ap, ◌∙◌}
use Rattle.std.specs.Prelude.{if◌then◌else◌, slice_index, slice_set, bit_and, bit_or, bit_xor}
use Rattle.tta_ops.specs.Units.{Units}
use Rattle.tta_circuit.specs.Circuit.{Expr, Const, Signal, Slice, Join, Select, Not, Both, Either, Equal, Below, Plus, Minus, Times, BitAnd, BitOr, BitXor, Left, Right, Read, Apply, Wire, Register, WritePort}
use Rattle.tta_circuit.specs.Meaning.{bit, is_set, value, with_word, settle, registered}

two : (f : ℕ → ℕ → ℕ) (x y x' y' : ℕ) → x ≡ x' → y ≡ y' → f x y ≡ f x' y'
two f x y x' y' p q = ap (λ z. f z y) p ∙ ap (f x') q

module _ {N M : Type 0} (u : Units) (ms ms' : M → List ℕ) (reads : (m : M) (k : ℕ) → slice_index (ms' m) k ≡ slice_index (ms m) k) where
  module _ (env env' : N → ℕ) (lines : (n : N) → env' n ≡ env n) where
    abbrev old : Expr N M → ℕ
    old e = value u ms env e

    abbrev new : Expr N M → ℕ
    new e = value u ms' env' e

    pair : (f : ℕ → ℕ → ℕ) (a b : Expr N M) → new a ≡ old a → new b ≡ old b → f (new a) (new b) ≡ f (old a) (old b)
    pair f a b p q = two f (new a) (new b) (old a) (old b) p q

    -- an expression has the same word
    pub value_same : (e : Expr N M) → value u ms' env' e ≡ value u ms env e
    value_same (Const width word) = refl
    value_same (Signal n) = lines n
    value_same (Slice low width e) = ap (λ x. x / 2 ^ low % 2 ^ width) (value_same e)
    value_same (Join width high low) = pair (λ x y. x * 2 ^ width + y) high low (value_same high) (value_same low)
    value_same (Select test on off) =
        ap (λ x. if is_set x then new on else new off) (value_same test)
        ∙ pair (λ x y. if is_set (old test) then x else y) on off (value_same on) (value_same off)
    value_same (Not e) = ap (λ x. bit (not (is_set x))) (value_same e)
    value_same (Both a b) = pair (λ x y. bit (is_set x && is_set y)) a b (value_same a) (value_same b)
    value_same (Either a b) = pair (λ x y. bit (is_set x || is_set y)) a b (value_same a) (value_same b)
    value_same (Equal a b) = pair (λ x y. bit (x == y)) a b (value_same a) (value_same b)
    value_same (Below a b) = pair (λ x y. bit (nat_lt x y)) a b (value_same a) (value_same b)
    value_same (Plus width a b) = pair (λ x y. (x + y) % 2 ^ width) a b (value_same a) (value_same b)
    value_same (Minus width a b) = pair (λ x y. (2 ^ width + x - y) % 2 ^ width) a b (value_same a) (value_same b)
    value_same (Times width a b) = pair (λ x y. x * y % 2 ^ width) a b (value_same a) (value_same b)
    value_same (BitAnd a b) = pair bit_and a b (value_same a) (value_same b)
    value_same (BitOr a b) = pair bit_or a b (value_same a) (value_same b)
    value_same (BitXor a b) = pair bit_xor a b (value_same a) (value_same b)
    value_same (Left width a by) = pair (λ x y. x * 2 ^ y % 2 ^ width) a by (value_same a) (value_same by)
    value_same (Right a by) = pair (λ x y. x / 2 ^ y) a by (value_same a) (value_same by)
    value_same (Read m address) = ap (slice_index (ms' m)) (value_same address) ∙ reads m (old address)
    value_same (Apply op a b) = pair (λ x y. u.value op x y) a b (value_same a) (value_same b)

  -- wires settle to the same words
  pub settle_same : (same : N → N → Bool) (ws : List (Wire N M)) (env env' : N → ℕ) → ((n : N) → env' n ≡ env n)
      → (n : N) → settle same u ms' env' ws n ≡ settle same u ms env ws n
  settle_same same [] env env' lines n = lines n
  settle_same same (w ∷ ws) env env' lines n =
      settle_same same ws (with_word same env w.name (value u ms env w.word)) (with_word same env' w.name (value u ms' env' w.word))
      (λ k. by k (same w.name k)) n where
        by : (k : N) (b : Bool) → (if b then value u ms' env' w.word else env' k) ≡ (if b then value u ms env w.word else env k)
        by k true = value_same env env' lines w.word
        by k false = lines k

  module _ (env env' : N → ℕ) (lines : (n : N) → env' n ≡ env n) where
    -- a register takes the same word
    pub registered_same : (same : N → N → Bool) (o : Option (Register N M)) (old old' : ℕ) → old' ≡ old
        → registered same u ms' env' o old' ≡ registered same u ms env o old
    registered_same same None old old' was = was
    registered_same same (Some r) old old' was =
        ap (λ x. if is_set x then value u ms' env' r.next else old') (value_same env env' lines r.enable)
        ∙ two (λ x y. if is_set (value u ms env r.enable) then x else y) (value u ms' env' r.next) old' (value u ms env r.next) old
        (value_same env env' lines r.next) was

    -- a port writes the same word
    pub written_same : (p : WritePort N M) (words : List ℕ)
        → (if is_set (value u ms' env' p.enable) then slice_set words (value u ms' env' p.address) (value u ms' env' p.word) else words)
        ≡ (if is_set (value u ms env p.enable) then slice_set words (value u ms env p.address) (value u ms env p.word) else words)
    written_same p words =
        ap (λ x. if is_set x then slice_set words (value u ms' env' p.address) (value u ms' env' p.word) else words)
        (value_same env env' lines p.enable)
        ∙ ap (λ x. if is_set (value u ms env p.enable) then slice_set words x (value u ms' env' p.word) else words)
        (value_same env env' lines p.address)
        ∙ ap (λ x. if is_set (value u ms env p.enable) then slice_set words (value u ms env p.address) x else words)
        (value_same env env' lines p.word)
