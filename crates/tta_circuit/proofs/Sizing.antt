-- Expressions keep their widths.
use Rattle.std.proofs.Common.{◌≡◌, ℕ, ◌+◌, ◌*◌, ◌/◌, ◌^◌, ◌<◌, ◌≤◌, ◌==◌, Bool, true, false, ◌&&◌, List, sym, subst, arith}
use Rattle.std.specs.Prelude.{if◌then◌else◌, slice_index}
use Rattle.std.proofs.lemmas.Bool.{and_parts, ltb-true, eqb-true}
use Rattle.std.proofs.lemmas.Nat.{mod_below, pow_pos, pow-add, mul-le, div_below, and_le_l, or_lt, xor_lt}
use Rattle.tta_ops.specs.Units.{Units}
use Rattle.tta_circuit.specs.Circuit.{Expr, Const, Signal, Slice, Join, Select, Not, Both, Either, Equal, Below, Plus, Minus, Times, BitAnd, BitOr, BitXor, Left, Right, Read, Apply}
use Rattle.tta_circuit.specs.Meaning.{bit, is_set, value}
use Rattle.tta_circuit.specs.Widths.{width_of, is_sized}
use Rattle.tta_circuit.specs.Laws.{SizedFits}

bit_fits : (b : Bool) → bit b < 2 ^ 1
bit_fits true = omega arith
bit_fits false = omega arith

-- two words side by side
join_fits : (h l a w : ℕ) → h < 2 ^ a → l < 2 ^ w → h * 2 ^ w + l < 2 ^ (a + w)
join_fits h l a w high low =
    let rows : (h + 1) * 2 ^ w ≤ 2 ^ a * 2 ^ w = mul-le (h + 1) (2 ^ w) (2 ^ a) (2 ^ w) (omega (arith, high)) (omega arith) in
    let row : (h + 1) * 2 ^ w ≡ h * 2 ^ w + 2 ^ w = grind arith in
    omega (arith, rows, row, low, pow-add 2 a w)

-- what is left of a word
right_fits : (a by w : ℕ) → a < 2 ^ w → a / 2 ^ by < 2 ^ w
right_fits a by w less =
    let some : 0 < 2 ^ by = pow_pos by in
    let more : 2 ^ w * 1 ≤ 2 ^ w * 2 ^ by = mul-le (2 ^ w) 1 (2 ^ w) (2 ^ by) (omega arith) (omega (arith, some)) in
    div_below a (2 ^ by) (2 ^ w) some (omega (arith, less, more))

select_fits : (b : Bool) (x y w : ℕ) → x < 2 ^ w → y < 2 ^ w → (if b then x else y) < 2 ^ w
select_fits true x y w first second = first
select_fits false x y w first second = second

module _ {N M : Type 0} (signal : N → ℕ) (memory : M → ℕ) (u : Units) (ms : M → List ℕ) (env : N → ℕ)
    (signals : (n : N) → env n < 2 ^ signal n)
    (memories : (m : M) (k : ℕ) → slice_index (ms m) k < 2 ^ memory m) where
  -- a word of another width that is the same
  as_wide : (x a b : ℕ) → (a == b) ≡ true → x < 2 ^ a → x < 2 ^ b
  as_wide x a b same less = subst (λ (n : ℕ). x < 2 ^ n) (eqb-true a b same) less

  turned : (x a b : ℕ) → (a == b) ≡ true → x < 2 ^ b → x < 2 ^ a
  turned x a b same less = subst (λ (n : ℕ). x < 2 ^ n) (sym (eqb-true a b same)) less

  pub fits : (e : Expr N M) → is_sized signal memory e ≡ true → value u ms env e < 2 ^ width_of signal memory e
  fits (Const width word) h = ltb-true word (2 ^ width) h
  fits (Signal n) h = signals n
  fits (Slice low width e) h = mod_below (value u ms env e / 2 ^ low) (2 ^ width) (pow_pos width)
  fits (Join width high low) h =
      let p = and_parts (width_of signal memory low == width) (is_sized signal memory high && is_sized signal memory low) h in
      let q = and_parts (is_sized signal memory high) (is_sized signal memory low) p.1 in
      join_fits (value u ms env high) (value u ms env low) (width_of signal memory high) width (fits high q.0)
      (as_wide (value u ms env low) (width_of signal memory low) width p.0 (fits low q.1))
  fits (Select test on off) h =
      let p = and_parts (width_of signal memory test == 1 && width_of signal memory on == width_of signal memory off)
      (is_sized signal memory test && (is_sized signal memory on && is_sized signal memory off)) h in
      let w = and_parts (width_of signal memory test == 1) (width_of signal memory on == width_of signal memory off) p.0 in
      let q = and_parts (is_sized signal memory test) (is_sized signal memory on && is_sized signal memory off) p.1 in
      let r = and_parts (is_sized signal memory on) (is_sized signal memory off) q.1 in
      select_fits (is_set (value u ms env test)) (value u ms env on) (value u ms env off) (width_of signal memory on) (fits on r.0)
      (turned (value u ms env off) (width_of signal memory on) (width_of signal memory off) w.1 (fits off r.1))
  fits (Not e) h = bit_fits _
  fits (Both a b) h = bit_fits _
  fits (Either a b) h = bit_fits _
  fits (Equal a b) h = bit_fits _
  fits (Below a b) h = bit_fits _
  fits (Plus width a b) h = mod_below (value u ms env a + value u ms env b) (2 ^ width) (pow_pos width)
  fits (Minus width a b) h = mod_below _ (2 ^ width) (pow_pos width)
  fits (Times width a b) h = mod_below (value u ms env a * value u ms env b) (2 ^ width) (pow_pos width)
  fits (BitAnd a b) h =
      let p = and_parts (width_of signal memory a == width_of signal memory b) (is_sized signal memory a && is_sized signal memory b) h in
      let q = and_parts (is_sized signal memory a) (is_sized signal memory b) p.1 in
      let less = fits a q.0 in
      omega (arith, less, and_le_l (value u ms env a) (value u ms env b))
  fits (BitOr a b) h =
      let p = and_parts (width_of signal memory a == width_of signal memory b) (is_sized signal memory a && is_sized signal memory b) h in
      let q = and_parts (is_sized signal memory a) (is_sized signal memory b) p.1 in
      or_lt (width_of signal memory a) (value u ms env a) (value u ms env b) (fits a q.0)
      (turned (value u ms env b) (width_of signal memory a) (width_of signal memory b) p.0 (fits b q.1))
  fits (BitXor a b) h =
      let p = and_parts (width_of signal memory a == width_of signal memory b) (is_sized signal memory a && is_sized signal memory b) h in
      let q = and_parts (is_sized signal memory a) (is_sized signal memory b) p.1 in
      xor_lt (width_of signal memory a) (value u ms env a) (value u ms env b) (fits a q.0)
      (turned (value u ms env b) (width_of signal memory a) (width_of signal memory b) p.0 (fits b q.1))
  fits (Left width a by) h = mod_below (value u ms env a * 2 ^ value u ms env by) (2 ^ width) (pow_pos width)
  fits (Right a by) h =
      let p = and_parts (is_sized signal memory a) (is_sized signal memory by) h in
      right_fits (value u ms env a) (value u ms env by) (width_of signal memory a) (fits a p.0)
  fits (Read m address) h = memories m (value u ms env address)
  fits (Apply op a b) h = u.word op (value u ms env a) (value u ms env b)

pub sized_fits : (N M : Type 0) → SizedFits N M
sized_fits N M signal memory u ms env signals memories e h = fits signal memory u ms env signals memories e h
