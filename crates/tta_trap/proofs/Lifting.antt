-- Expressions that read only signals of one width under two measures have one width, and are plain under both.
use Rattle.std.proofs.Common.{◌≡◌, ℕ, ◌+◌, ◌==◌, Bool, true, ◌&&◌, Option, None, Some, refl, ap, ◌∙◌}
use Rattle.std.specs.Prelude.{if◌then◌else◌, nat_lt, nat_le}
use Rattle.std.proofs.lemmas.Bool.{and_parts, ltb-true}
use Rattle.tta_circuit.specs.Circuit.{Expr, Const, Signal, Slice, Join, Select, Not, Both, Either, Equal, Below, Plus, Minus, Times, BitAnd, BitOr, BitXor, Left, Right, Read, Apply, Register, WritePort, Memory}
use Rattle.tta_circuit.specs.Widths.{width_of, is_sized}
use Rattle.tta_circuit.specs.Plain.{is_name, is_plain, IsWritten, IsWrittenRegister, IsWrittenAt, IsWrittenMemory}
use Rattle.tta_circuit.specs.Closed.{reads_only, PortReads}
use Rattle.tta_trap.proofs.Present.{passes}

module _ {N M : Type 0} (a b : N → ℕ) (memory : M → ℕ) (has : N → Bool) (same : (n : N) → has n ≡ true → b n ≡ a n) where
  abbrev reads : Expr N M → Bool
  reads e = reads_only has e

  abbrev wide : Expr N M → ℕ
  wide e = width_of a memory e

  abbrev wide' : Expr N M → ℕ
  wide' e = width_of b memory e

  abbrev sized : Expr N M → Bool
  sized e = is_sized a memory e

  abbrev sized' : Expr N M → Bool
  sized' e = is_sized b memory e

  abbrev plain : Expr N M → Bool
  plain e = is_plain a memory e

  abbrev plain' : Expr N M → Bool
  plain' e = is_plain b memory e

  here : (n : N) → nat_lt (if has n then 0 else 1) 1 ≡ true → b n ≡ a n
  here n is = same n (passes (has n) (ltb-true (if has n then 0 else 1) 1 is))

  first : (x y : Expr N M) → (reads x && reads y) ≡ true → reads x ≡ true
  first x y h = (and_parts (reads x) (reads y) h).0

  middle : (x y z : Expr N M) → (reads x && (reads y && reads z)) ≡ true → reads y ≡ true
  middle x y z h = (and_parts (reads y) (reads z) (and_parts (reads x) (reads y && reads z) h).1).0

  -- ---- widths

  pub width_same : (e : Expr N M) → reads_only has e ≡ true → width_of b memory e ≡ width_of a memory e
  width_same (Const width word) h = refl
  width_same (Signal n) h = here n h
  width_same (Slice low width e) h = refl
  width_same (Join width high low) h = ap (λ w. w + width) (width_same high (first high low h))
  width_same (Select test on off) h = width_same on (middle test on off h)
  width_same (Not e) h = refl
  width_same (Both x y) h = refl
  width_same (Either x y) h = refl
  width_same (Equal x y) h = refl
  width_same (Below x y) h = refl
  width_same (Plus width x y) h = refl
  width_same (Minus width x y) h = refl
  width_same (Times width x y) h = refl
  width_same (BitAnd x y) h = width_same x (first x y h)
  width_same (BitOr x y) h = width_same x (first x y h)
  width_same (BitXor x y) h = width_same x (first x y h)
  width_same (Left width x by) h = refl
  width_same (Right x by) h = width_same x (first x by h)
  width_same (Read m address) h = refl
  width_same (Apply op x y) h = refl

  -- a test of two parts, by their widths and whether they are sized
  pair : (f : ℕ → ℕ → Bool → Bool → Bool) (x y : Expr N M) → (reads x && reads y) ≡ true → (reads x ≡ true → sized' x ≡ sized x)
      → (reads y ≡ true → sized' y ≡ sized y)
      → f (wide' x) (wide' y) (sized' x) (sized' y) ≡ f (wide x) (wide y) (sized x) (sized y)
  pair f x y h of_x of_y =
      let p = and_parts (reads x) (reads y) h in
      ap (λ w. f w (wide' y) (sized' x) (sized' y)) (width_same x p.0) ∙ ap (λ w. f (wide x) w (sized' x) (sized' y)) (width_same y p.1)
      ∙ ap (λ c. f (wide x) (wide y) c (sized' y)) (of_x p.0) ∙ ap (λ c. f (wide x) (wide y) (sized x) c) (of_y p.1)

  pub sized_same : (e : Expr N M) → reads_only has e ≡ true → is_sized b memory e ≡ is_sized a memory e
  sized_same (Const width word) h = refl
  sized_same (Signal n) h = refl
  sized_same (Slice low width e) h =
      ap (λ w. nat_le (low + width) w && sized' e) (width_same e h) ∙ ap (λ c. nat_le (low + width) (wide e) && c) (sized_same e h)
  sized_same (Join width high low) h = pair (λ v w c d. w == width && (c && d)) high low h (sized_same high) (sized_same low)
  sized_same (Select test on off) h =
      let p = and_parts (reads test) (reads on && reads off) h in
      ap (λ t. (t == 1 && wide' on == wide' off) && (sized' test && (sized' on && sized' off))) (width_same test p.0)
      ∙ ap (λ t. (wide test == 1 && wide' on == wide' off) && (t && (sized' on && sized' off))) (sized_same test p.0)
      ∙ pair (λ v w c d. (wide test == 1 && v == w) && (sized test && (c && d))) on off p.1 (sized_same on) (sized_same off)
  sized_same (Not e) h = ap (λ w. w == 1 && sized' e) (width_same e h) ∙ ap (λ c. wide e == 1 && c) (sized_same e h)
  sized_same (Both x y) h = pair (λ v w c d. (v == 1 && w == 1) && (c && d)) x y h (sized_same x) (sized_same y)
  sized_same (Either x y) h = pair (λ v w c d. (v == 1 && w == 1) && (c && d)) x y h (sized_same x) (sized_same y)
  sized_same (Equal x y) h = pair (λ v w c d. v == w && (c && d)) x y h (sized_same x) (sized_same y)
  sized_same (Below x y) h = pair (λ v w c d. v == w && (c && d)) x y h (sized_same x) (sized_same y)
  sized_same (Plus width x y) h = pair (λ v w c d. (v == width && w == width) && (c && d)) x y h (sized_same x) (sized_same y)
  sized_same (Minus width x y) h = pair (λ v w c d. (v == width && w == width) && (c && d)) x y h (sized_same x) (sized_same y)
  sized_same (Times width x y) h = pair (λ v w c d. (v == width && w == width) && (c && d)) x y h (sized_same x) (sized_same y)
  sized_same (BitAnd x y) h = pair (λ v w c d. v == w && (c && d)) x y h (sized_same x) (sized_same y)
  sized_same (BitOr x y) h = pair (λ v w c d. v == w && (c && d)) x y h (sized_same x) (sized_same y)
  sized_same (BitXor x y) h = pair (λ v w c d. v == w && (c && d)) x y h (sized_same x) (sized_same y)
  sized_same (Left width x by) h = pair (λ v w c d. v == width && (c && d)) x by h (sized_same x) (sized_same by)
  sized_same (Right x by) h = pair (λ v w c d. c && d) x by h (sized_same x) (sized_same by)
  sized_same (Read m address) h = sized_same address h
  sized_same (Apply op x y) h = pair (λ v w c d. (v == 32 && w == 32) && (c && d)) x y h (sized_same x) (sized_same y)

  -- ---- plain

  name_same : (e : Expr N M) → reads_only has e ≡ true → is_name b memory e ≡ is_name a memory e
  name_same (Signal n) h = ap (nat_lt 0) (here n h)
  name_same e h = refl

  two : (x y : Expr N M) → (reads x && reads y) ≡ true → (reads x ≡ true → plain' x ≡ plain x) → (reads y ≡ true → plain' y ≡ plain y)
      → (plain' x && plain' y) ≡ (plain x && plain y)
  two x y h of_x of_y =
      let p = and_parts (reads x) (reads y) h in ap (λ c. c && plain' y) (of_x p.0) ∙ ap (λ c. plain x && c) (of_y p.1)

  pub plain_same : (e : Expr N M) → reads_only has e ≡ true → is_plain b memory e ≡ is_plain a memory e
  plain_same (Const width word) h = refl
  plain_same (Signal n) h = ap (nat_lt 0) (here n h)
  plain_same (Slice low width e) h = ap (λ c. nat_lt 0 width && c) (name_same e h)
  plain_same (Join width high low) h = two high low h (plain_same high) (plain_same low)
  plain_same (Select test on off) h =
      let p = and_parts (reads test) (reads on && reads off) h in
      ap (λ c. c && (plain' on && plain' off)) (plain_same test p.0)
      ∙ ap (λ c. plain test && c) (two on off p.1 (plain_same on) (plain_same off))
  plain_same (Not e) h = plain_same e h
  plain_same (Both x y) h = two x y h (plain_same x) (plain_same y)
  plain_same (Either x y) h = two x y h (plain_same x) (plain_same y)
  plain_same (Equal x y) h = two x y h (plain_same x) (plain_same y)
  plain_same (Below x y) h = two x y h (plain_same x) (plain_same y)
  plain_same (Plus width x y) h = two x y h (plain_same x) (plain_same y)
  plain_same (Minus width x y) h = two x y h (plain_same x) (plain_same y)
  plain_same (Times width x y) h = two x y h (plain_same x) (plain_same y)
  plain_same (BitAnd x y) h = two x y h (plain_same x) (plain_same y)
  plain_same (BitOr x y) h = two x y h (plain_same x) (plain_same y)
  plain_same (BitXor x y) h = two x y h (plain_same x) (plain_same y)
  plain_same (Left width x by) h = two x by h (plain_same x) (plain_same by)
  plain_same (Right x by) h = two x by h (plain_same x) (plain_same by)
  plain_same (Read m address) h = ap (λ c. nat_lt 0 (memory m) && c) (plain_same address h)
  plain_same (Apply op x y) h = two x y h (plain_same x) (plain_same y)

  -- ---- what is written

  pub lifted : (e : Expr N M) (width : ℕ) → reads_only has e ≡ true → IsWritten a memory e width → IsWritten b memory e width
  lifted e width h f = record {
    plain = plain_same e h ∙ f.plain;
    sized = sized_same e h ∙ f.sized;
    wide = width_same e h ∙ f.wide;
  }

  pub lifted_register : (r : Register N M) → b r.name ≡ a r.name → (reads_only has r.enable ≡ true) × (reads_only has r.next ≡ true)
      → IsWrittenRegister a memory r → IsWrittenRegister b memory r
  lifted_register r name h f = record {
    some = f.some;
    wide = name ∙ f.wide;
    enable = lifted r.enable 1 h.0 f.enable;
    next = lifted r.next r.width h.1 f.next;
  }

  lifted_port : (width : ℕ) (p : Option (WritePort N M)) → PortReads has p → IsWrittenAt a memory width p → IsWrittenAt b memory width p
  lifted_port width None h f = tt
  lifted_port width (Some p) h f = record {
    enable = lifted p.enable 1 h.0 f.enable;
    address = record {
      plain = plain_same p.address h.1.0 ∙ f.address.plain;
      sized = sized_same p.address h.1.0 ∙ f.address.sized;
      wide = refl;
    };
    word = lifted p.word width h.1.1 f.word;
  }

  pub lifted_memory : (x : Memory N M) → PortReads has x.port → IsWrittenMemory a memory x → IsWrittenMemory b memory x
  lifted_memory x h f = record { some = f.some; wide = f.wide; port = lifted_port x.width x.port h f.port }
