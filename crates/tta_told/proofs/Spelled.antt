-- The names and numbers of an expression that is narrow and sized, and that reads only what is there, are spelled.
use Rattle.std.proofs.Common.{◌≡◌, ℕ, ◌+◌, ◌<◌, ◌≤◌, ◌^◌, ◌==◌, Bool, true, false, ◌&&◌, nat_lt, nat_le, ◌++◌, refl, arith}
use Rattle.std.specs.Prelude.{if◌then◌else◌}
use Rattle.std.proofs.lemmas.Bool.{and_parts, ltb-true, leb-true, lt-ltb, false≢true}
use Rattle.tta_arch.proofs.Widths.{pow_le}
use Rattle.tta_list.proofs.Lists.{all_append}
use Rattle.tta_circuit.specs.Circuit.{Const, Signal, Slice, Join, Select, Not, Both, Either, Equal, Below, Plus, Minus, Times, BitAnd, BitOr, BitXor, Left, Right, Read, Apply}
use Rattle.tta_circuit.specs.Widths.{width_of, is_sized}
use Rattle.tta_circuit.specs.Closed.{reads_only}
use Rattle.tta_hardware.specs.Cited.{Machine}
use Rattle.tta_hardware.specs.Signals.{Signal as Named, Store, Expression}
use Rattle.tta_hardware.specs.Sized.{store_width}
use Rattle.tta_verilog.specs.Spelling.{Scope, tokens_in, has_token}
use Rattle.tta_verilog.specs.Laws.{AreSpelled}
use Rattle.tta_told.proofs.Narrow.{narrow}

-- all memories have names, and so have operations by numbers of at most 64 bits
abbrev pub scope_of : (Named → Bool) → Scope Named Store
scope_of has = record { signal = has; memory = λ m. true; op = λ op. nat_lt op (2 ^ 64) }

-- A signal has a name, and at most 2^64 - 1 bits.
abbrev pub IsKnown : (signal : Named → ℕ) (has : Named → Bool) → Named → Type 0
IsKnown signal has n = (has n ≡ true) × (nat_lt (signal n) (2 ^ 64) ≡ true)

module _ (m : Machine) (signal : Named → ℕ) (there has : Named → Bool) (known : (n : Named) → there n ≡ true → IsKnown signal has n) where
  abbrev sized : Expression → Bool
  sized e = is_sized signal (store_width m) e

  abbrev ok : Expression → Bool
  ok e = reads_only there e

  abbrev pub Spelled : Expression → Type 0
  Spelled e = AreSpelled (scope_of has) (tokens_in e)

  -- two parts
  pair : (p : Bool) (a b : Expression) → (narrow m a && narrow m b) ≡ true → (p && (sized a && sized b)) ≡ true → (ok a && ok b) ≡ true
      → (narrow m a ≡ true → sized a ≡ true → ok a ≡ true → Spelled a) → (narrow m b ≡ true → sized b ≡ true → ok b ≡ true → Spelled b)
      → AreSpelled (scope_of has) (tokens_in a ++ tokens_in b)
  pair p a b few fit read of_a of_b =
      let x = and_parts (narrow m a) (narrow m b) few in
      let y = and_parts (sized a) (sized b) (and_parts p (sized a && sized b) fit).1 in
      let z = and_parts (ok a) (ok b) read in
      all_append (λ t. has_token (scope_of has) t ≡ true) (tokens_in a) (tokens_in b) (of_a x.0 y.0 z.0) (of_b x.1 y.1 z.1)

  has_it : (b : Bool) → nat_lt (if b then 0 else 1) 1 ≡ true → b ≡ true
  has_it true h = refl
  has_it false h = absurd (false≢true h)

  small : (n most : ℕ) → n < most → most < 2 ^ 64 → nat_lt n (2 ^ 64) ≡ true
  small n most p q = lt-ltb n (2 ^ 64) (omega (arith, p, q))

  pub spelled : (e : Expression) → narrow m e ≡ true → sized e ≡ true → ok e ≡ true → Spelled e
  spelled (Const w n) few fit read =
      let p = leb-true w 64 few in
      let q = ltb-true n (2 ^ w) fit in
      let r : 2 ^ w ≤ 2 ^ 64 = pow_le w 64 p in
      (lt-ltb w (2 ^ 64) (omega (arith, p)), (lt-ltb n (2 ^ 64) (omega (arith, q, r)), tt))
  spelled (Signal n) few fit read = ((known n (has_it (there n) read)).0, tt)
  spelled (Slice low w (Signal n)) few fit read =
      let p = ltb-true (signal n) (2 ^ 64) (known n (has_it (there n) read)).1 in
      let q = leb-true (low + w) (signal n) (and_parts (nat_le (low + w) (signal n)) true fit).0 in
      (lt-ltb low (2 ^ 64) (omega (arith, p, q)), (lt-ltb w (2 ^ 64) (omega (arith, p, q)), ((known n (has_it (there n) read)).0, tt)))
  spelled (Slice low w e) few fit read = absurd (false≢true few)
  spelled (Join w high low) few fit read =
      pair (width_of signal (store_width m) low == w) high low few fit read (spelled high) (spelled low)
  spelled (Select test on off) few fit read =
      let x = and_parts (narrow m test) (narrow m on && narrow m off) few in
      let y = and_parts (sized test) (sized on && sized off) (and_parts _ (sized test && (sized on && sized off)) fit).1 in
      let z = and_parts (ok test) (ok on && ok off) read in
      all_append (λ t. has_token (scope_of has) t ≡ true) (tokens_in test) (tokens_in on ++ tokens_in off) (spelled test x.0 y.0 z.0)
      (pair true on off x.1 y.1 z.1 (spelled on) (spelled off))
  spelled (Not e) few fit read = spelled e few (and_parts _ (sized e) fit).1 read
  spelled (Read s address) few fit read = (refl, spelled address few fit read)
  spelled (Right a b) few fit read = pair true a b few fit read (spelled a) (spelled b)
  spelled (Apply op a b) few fit read =
      let x = and_parts (nat_lt op (2 ^ 64)) (narrow m a && narrow m b) few in
      (x.0, pair _ a b x.1 fit read (spelled a) (spelled b))
  spelled (Both a b) few fit read = pair _ a b few fit read (spelled a) (spelled b)
  spelled (Either a b) few fit read = pair _ a b few fit read (spelled a) (spelled b)
  spelled (Equal a b) few fit read = pair _ a b few fit read (spelled a) (spelled b)
  spelled (Below a b) few fit read = pair _ a b few fit read (spelled a) (spelled b)
  spelled (BitAnd a b) few fit read = pair _ a b few fit read (spelled a) (spelled b)
  spelled (BitOr a b) few fit read = pair _ a b few fit read (spelled a) (spelled b)
  spelled (BitXor a b) few fit read = pair _ a b few fit read (spelled a) (spelled b)
  spelled (Plus w a b) few fit read = pair _ a b few fit read (spelled a) (spelled b)
  spelled (Minus w a b) few fit read = pair _ a b few fit read (spelled a) (spelled b)
  spelled (Times w a b) few fit read = pair _ a b few fit read (spelled a) (spelled b)
  spelled (Left w a b) few fit read = pair _ a b few fit read (spelled a) (spelled b)
