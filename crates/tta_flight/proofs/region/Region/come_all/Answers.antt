use Rattle.std.proofs.Common.{◌≡◌, ◌≢◌, ◌<◌, ◌≤◌, ◌/◌, ◌%◌, ℕ, suc, length, sym, ap, ◌∙◌, arith}
use Rattle.std.specs.Int.{bit_at}
use Rattle.tta_flight.proofs.BitLemmas.{no_bit, no_bit_before, none_up_to}
use Rattle.tta_flight.proofs.Come.{none_come, come_more, come_rest}
use Rattle.tta_flight.proofs.Walked.{bit_is, within_bits}
use Rattle.tta_flight.proofs.region.Region.come_all.Goals as goal

low_unit : (u : ℕ) → u < 64 → u % 64 ≡ u
low_unit u few = omega (arith, few)

first_word : (u : ℕ) → u < 64 → u / 64 ≡ 0
first_word u few = omega (arith, few)

pub bits-init : goal.bits-init
bits-init c =
    let count : ℕ = length c.args.self.now.rings in
    let few : count < 64 = c.requires in
    record {
      within = omega arith;
      come = none_come _;
      low = λ i before. absurd (omega (arith, before));
      some = λ i below is.
          let mark = c.word-left.ensures.some i is in
          let inside = within_bits 0 0 _ _ c.bits_of_units.ensures i (first_word i below) (ap (bit_at c.bits_of_units.result) (low_unit i below) ∙ mark) in
          omega (arith, inside.1, c.units.ensures.all);
      still = λ unit past least there off.
          let low : unit < 64 = omega (arith, there, few) in
          let at : unit % 64 ≡ unit = low_unit unit low in
          c.word-left.ensures.none unit past there (first_word unit low)
          (bit_is 0 0 _ _ c.bits_of_units.ensures unit (first_word unit low) (omega arith) (omega (arith, there, c.units.ensures.all)))
          (ap (bit_at c.word-left.result) at ∙ off);
    }

pub step-requires : goal.step-requires
step-requires c =
    let there = c.bits.invariant.some c.least_bit-bit.result c.least_bit-bit.ensures.few c.least_bit-bit.ensures.some in
    omega (arith, there, c.bits.invariant.come.units)

pub bits-preserved : goal.bits-preserved
bits-preserved c =
    let at : ℕ = c.bits.at in
    let bit : ℕ = c.least_bit-bit.result in
    let few : bit < 64 = c.least_bit-bit.ensures.few in
    let first = no_bit_before at 0 bit c.bits.left (λ i before. c.bits.invariant.low i (omega (arith, before))) c.least_bit-bit.ensures.some in
    let order : at ≤ bit = omega (arith, first) in
    let there = c.bits.invariant.some bit few c.least_bit-bit.ensures.some in
    record {
      within = omega (arith, few);
      come = come_more at bit _ c.bits.self c.step.new.self c.bits.invariant.come order there
          (λ u past least before. c.bits.invariant.still u past least (omega (arith, before, there)) (c.least_bit-bit.ensures.none u before))
          c.step.ensures.come;
      low = λ i up. none_up_to bit i c.bits.left c.without_bit-left.result up few c.least_bit-bit.ensures.none
          c.without_bit-left.ensures.none c.without_bit-left.ensures.others;
      some = λ i below is.
          let other : i ≢ bit = λ same.
          let none : bit_at c.without_bit-left.result i ≡ 0 = ap (bit_at c.without_bit-left.result) same ∙ c.without_bit-left.ensures.none in
          omega (arith, none, is) in
          c.bits.invariant.some i below (sym (c.without_bit-left.ensures.others i other below) ∙ is);
      still = λ u p past had off.
          let other : u ≢ bit = λ same. omega (arith, same, past) in
          let low : u < 64 = omega (arith, had, c.requires) in
          (c.step.ensures.come.others u (omega (arith, had, c.bits.invariant.come.units)) other).due (suc p)
          ∙ c.bits.invariant.still u p (omega (arith, past, order)) had (sym (c.without_bit-left.ensures.others u other low) ∙ off);
    }

pub returns : goal.returns
returns c =
    come_rest c.bits.at _ c.bits.self c.bits.invariant.come (λ u past least had.
    c.bits.invariant.still u past least had (no_bit c.bits.left u c.bits-test.false))
