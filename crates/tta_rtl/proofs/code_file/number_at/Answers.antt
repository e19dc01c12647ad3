use Rattle.std.proofs.Common.{◌≡◌, ℕ, ap, arith}
use Rattle.tta_rtl.specs.Cited.{bits_in, field}
use Rattle.tta_rtl.proofs.CodeFiles.{four_bits, one_bit, three_bits, two_bits}
use Rattle.tta_rtl.proofs.code_file.number_at.Goals as goal

pub returns-then-width-eq1-clause-value : goal.returns-then-width-eq1-clause-value
returns-then-width-eq1-clause-value c =
    let bytes = c.args.bytes.now in
    let e : c.args.width ≡ 1 = omega (arith, c.if-width-eq1.true) in
    let same : field c.args.at c.args.width (bits_in bytes) ≡ field c.args.at 1 (bits_in bytes) = ap (λ (n : ℕ). field c.args.at n (bits_in bytes)) e in
    let is = one_bit bytes c.args.at (omega (arith, c.requires.inside, e)) in
    omega (arith, same, is, c.number_of_bit-first.ensures.value)

pub returns-then-width-eq2-clause-value : goal.returns-then-width-eq2-clause-value
returns-then-width-eq2-clause-value c =
    let bytes = c.args.bytes.now in
    let e : c.args.width ≡ 2 = omega (arith, c.if-width-eq2.true) in
    let same : field c.args.at c.args.width (bits_in bytes) ≡ field c.args.at 2 (bits_in bytes) = ap (λ (n : ℕ). field c.args.at n (bits_in bytes)) e in
    let is = two_bits bytes c.args.at (omega (arith, c.requires.inside, e)) in
    omega (arith, same, is, c.number_of_bit-first.ensures.value, c.number_of_bit-second.ensures.value)

pub returns-then-width-eq3-clause-value : goal.returns-then-width-eq3-clause-value
returns-then-width-eq3-clause-value c =
    let bytes = c.args.bytes.now in
    let e : c.args.width ≡ 3 = omega (arith, c.if-width-eq3.true) in
    let same : field c.args.at c.args.width (bits_in bytes) ≡ field c.args.at 3 (bits_in bytes) = ap (λ (n : ℕ). field c.args.at n (bits_in bytes)) e in
    let is = three_bits bytes c.args.at (omega (arith, c.requires.inside, e)) in
    omega (arith, same, is, c.number_of_bit-first.ensures.value, c.number_of_bit-second.ensures.value, c.number_of_bit-third.ensures.value)

pub returns-clause-value : goal.returns-clause-value
returns-clause-value c =
    let bytes = c.args.bytes.now in
    let e : c.args.width ≡ 4 =
    omega (arith, c.if-width-eq1.false, c.if-width-eq2.false, c.if-width-eq3.false, c.requires.some, c.requires.short) in
    let same : field c.args.at c.args.width (bits_in bytes) ≡ field c.args.at 4 (bits_in bytes) = ap (λ (n : ℕ). field c.args.at n (bits_in bytes)) e in
    let is = four_bits bytes c.args.at (omega (arith, c.requires.inside, e)) in
    let last = c.number_of_bit-fourth.ensures.value in
    omega (arith, same, is, c.number_of_bit-first.ensures.value, c.number_of_bit-second.ensures.value, c.number_of_bit-third.ensures.value, last)
