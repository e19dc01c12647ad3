-- The widths that a text does not tell are told by those of signals and memories.
use Rattle.std.proofs.Common.{◌≡◌, ℕ, ◌+◌, ◌==◌, true, ◌&&◌, nat_le, ◌++◌, refl, ap, ◌∙◌}
use Rattle.std.specs.List.{AllByRecursion}
use Rattle.std.proofs.lemmas.Bool.{and_parts, eqb-true}
use Rattle.tta_circuit.specs.Circuit.{Expr, Const, Signal, Slice, Join, Select, Not, Both, Either, Equal, Below, Plus, Minus, Times, BitAnd, BitOr, BitXor, Left, Right, Read, Apply}
use Rattle.tta_circuit.specs.Widths.{width_of, is_sized}
use Rattle.tta_verilog.specs.Spelling.{Token, SignalName, MemoryName, tokens_in}
use Rattle.tta_verilog.proofs.Words.{all_halves}
use Rattle.tta_verilog.proofs.Bare.{bare}

module _ {N M : Type 0} (signal : N → ℕ) (memory : M → ℕ) where
  -- an expression with the widths of its parts
  abbrev pub filled : Expr N M → Expr N M
  filled (Const w n) = Const w n
  filled (Signal n) = Signal n
  filled (Slice low w e) = Slice low w (filled e)
  filled (Join w high low) = Join (width_of signal memory (filled low)) (filled high) (filled low)
  filled (Select test on off) = Select (filled test) (filled on) (filled off)
  filled (Not e) = Not (filled e)
  filled (Both a b) = Both (filled a) (filled b)
  filled (Either a b) = Either (filled a) (filled b)
  filled (Equal a b) = Equal (filled a) (filled b)
  filled (Below a b) = Below (filled a) (filled b)
  filled (Plus w a b) = Plus (width_of signal memory (filled a)) (filled a) (filled b)
  filled (Minus w a b) = Minus (width_of signal memory (filled a)) (filled a) (filled b)
  filled (Times w a b) = Times (width_of signal memory (filled a)) (filled a) (filled b)
  filled (BitAnd a b) = BitAnd (filled a) (filled b)
  filled (BitOr a b) = BitOr (filled a) (filled b)
  filled (BitXor a b) = BitXor (filled a) (filled b)
  filled (Left w a by) = Left (width_of signal memory (filled a)) (filled a) (filled by)
  filled (Right a by) = Right (filled a) (filled by)
  filled (Read m address) = Read m (filled address)
  filled (Apply op a b) = Apply op (filled a) (filled b)

module _ {N M : Type 0} (signal : N → ℕ) (memory : M → ℕ) (other : N → ℕ) (other_memory : M → ℕ) where
  -- what a token names has the same width here and there
  abbrev pub Agrees : Token N M → Type 0
  Agrees (SignalName n) = other n ≡ signal n
  Agrees (MemoryName m) = other_memory m ≡ memory m
  Agrees t = Unit {0}

  abbrev AllAgree : Expr N M → Type 0
  AllAgree e = AllByRecursion Agrees (tokens_in e)

  -- so an expression has the same width
  width_alike : (e : Expr N M) → AllAgree e → width_of other other_memory e ≡ width_of signal memory e
  width_alike (Signal n) are = are.0
  width_alike (Join w high low) are = ap (λ v. v + w) (width_alike high (all_halves Agrees (tokens_in high) (tokens_in low) are).0)
  width_alike (Select test on off) are =
      width_alike on (all_halves Agrees (tokens_in on) (tokens_in off) (all_halves Agrees (tokens_in test) (tokens_in on ++ tokens_in off) are).1).0
  width_alike (BitAnd a b) are = width_alike a (all_halves Agrees (tokens_in a) (tokens_in b) are).0
  width_alike (BitOr a b) are = width_alike a (all_halves Agrees (tokens_in a) (tokens_in b) are).0
  width_alike (BitXor a b) are = width_alike a (all_halves Agrees (tokens_in a) (tokens_in b) are).0
  width_alike (Right a b) are = width_alike a (all_halves Agrees (tokens_in a) (tokens_in b) are).0
  width_alike (Read m e) are = are.0
  width_alike e are = refl

  abbrev back : Expr N M → Expr N M
  back e = filled other other_memory (bare e)

  -- two parts
  module _ (a b : Expr N M) (are : AllByRecursion Agrees (tokens_in a ++ tokens_in b))
      (sized : (is_sized signal memory a && is_sized signal memory b) ≡ true)
      (of_a : is_sized signal memory a ≡ true → AllAgree a → back a ≡ a) (of_b : is_sized signal memory b ≡ true → AllAgree b → back b ≡ b) where
    first_back : back a ≡ a
    first_back = of_a (and_parts (is_sized signal memory a) (is_sized signal memory b) sized).0 (all_halves Agrees (tokens_in a) (tokens_in b) are).0

    second_back : back b ≡ b
    second_back = of_b (and_parts (is_sized signal memory a) (is_sized signal memory b) sized).1 (all_halves Agrees (tokens_in a) (tokens_in b) are).1

    pair : (f : Expr N M → Expr N M → Expr N M) → f (back a) (back b) ≡ f a b
    pair f = ap (λ x. f x (back b)) first_back ∙ ap (f a) second_back

    -- with the width of the first, or of the second
    wide : (f : ℕ → Expr N M → Expr N M → Expr N M) (w : ℕ) → (width_of signal memory a == w) ≡ true
        → f (width_of other other_memory (back a)) (back a) (back b) ≡ f w a b
    wide f w is =
        pair (λ x y. f (width_of other other_memory (back a)) x y)
        ∙ ap (λ x. f (width_of other other_memory x) a b) first_back
        ∙ ap (λ v. f v a b) (width_alike a (all_halves Agrees (tokens_in a) (tokens_in b) are).0 ∙ eqb-true (width_of signal memory a) w is)

    join : (w : ℕ) → (width_of signal memory b == w) ≡ true → Join (width_of other other_memory (back b)) (back a) (back b) ≡ Join w a b
    join w is =
        pair (λ x y. Join (width_of other other_memory (back b)) x y)
        ∙ ap (λ y. Join (width_of other other_memory y) a b) second_back
        ∙ ap (λ v. Join v a b) (width_alike b (all_halves Agrees (tokens_in a) (tokens_in b) are).1 ∙ eqb-true (width_of signal memory b) w is)

  -- an expression that is sized here gets its widths back from there
  pub filled_back : (e : Expr N M) → is_sized signal memory e ≡ true → AllAgree e → filled other other_memory (bare e) ≡ e
  filled_back (Const w n) h are = refl
  filled_back (Signal n) h are = refl
  filled_back (Slice low w e) h are =
      ap (Slice low w) (filled_back e (and_parts (nat_le (low + w) (width_of signal memory e)) (is_sized signal memory e) h).1 are.1.1)
  filled_back (Join w high low) h are =
      let p = and_parts (width_of signal memory low == w) (is_sized signal memory high && is_sized signal memory low) h in
      join high low are p.1 (filled_back high) (filled_back low) w p.0
  filled_back (Select test on off) h are =
      let p = and_parts (width_of signal memory test == 1 && width_of signal memory on == width_of signal memory off)
      (is_sized signal memory test && (is_sized signal memory on && is_sized signal memory off)) h in
      let q = and_parts (is_sized signal memory test) (is_sized signal memory on && is_sized signal memory off) p.1 in
      let t = all_halves Agrees (tokens_in test) (tokens_in on ++ tokens_in off) are in
      ap (λ x. Select x (back on) (back off)) (filled_back test q.0 t.0)
      ∙ pair on off t.1 q.1 (filled_back on) (filled_back off) (Select test)
  filled_back (Not e) h are =
      ap Not (filled_back e (and_parts (width_of signal memory e == 1) (is_sized signal memory e) h).1 are)
  filled_back (Read m e) h are = ap (Read m) (filled_back e h are.1)
  filled_back (Right a by) h are = pair a by are h (filled_back a) (filled_back by) Right
  filled_back (Apply op a b) h are =
      pair a b are.1 (and_parts _ _ h).1
      (filled_back a) (filled_back b) (Apply op)
  filled_back (Both a b) h are =
      pair a b are (and_parts _ _ h).1 (filled_back a) (filled_back b) Both
  filled_back (Either a b) h are =
      pair a b are (and_parts _ _ h).1 (filled_back a) (filled_back b) Either
  filled_back (Equal a b) h are =
      pair a b are (and_parts _ _ h).1 (filled_back a) (filled_back b) Equal
  filled_back (Below a b) h are =
      pair a b are (and_parts _ _ h).1 (filled_back a) (filled_back b) Below
  filled_back (BitAnd a b) h are =
      pair a b are (and_parts _ _ h).1 (filled_back a) (filled_back b) BitAnd
  filled_back (BitOr a b) h are =
      pair a b are (and_parts _ _ h).1 (filled_back a) (filled_back b) BitOr
  filled_back (BitXor a b) h are =
      pair a b are (and_parts _ _ h).1 (filled_back a) (filled_back b) BitXor
  filled_back (Plus w a b) h are =
      let p = and_parts (width_of signal memory a == w && width_of signal memory b == w) (is_sized signal memory a && is_sized signal memory b) h in
      wide a b are p.1 (filled_back a) (filled_back b) Plus w (and_parts (width_of signal memory a == w) (width_of signal memory b == w) p.0).0
  filled_back (Minus w a b) h are =
      let p = and_parts (width_of signal memory a == w && width_of signal memory b == w) (is_sized signal memory a && is_sized signal memory b) h in
      wide a b are p.1 (filled_back a) (filled_back b) Minus w (and_parts (width_of signal memory a == w) (width_of signal memory b == w) p.0).0
  filled_back (Times w a b) h are =
      let p = and_parts (width_of signal memory a == w && width_of signal memory b == w) (is_sized signal memory a && is_sized signal memory b) h in
      wide a b are p.1 (filled_back a) (filled_back b) Times w (and_parts (width_of signal memory a == w) (width_of signal memory b == w) p.0).0
  filled_back (Left w a b) h are =
      let p = and_parts (width_of signal memory a == w) (is_sized signal memory a && is_sized signal memory b) h in
      wide a b are p.1 (filled_back a) (filled_back b) Left w p.0
