use Rattle.std.proofs.Common.{◌≡◌, ◌≢◌, ◌<◌, ◌≤◌, ◌+◌, ◌*◌, ◌/◌, ◌%◌, ℕ, suc, length, refl, sym, ap, ◌∙◌, arith}
use Rattle.std.specs.Int.{bit_at}
use Rattle.tta_flight.specs.Rings.{AreEmpty, due_in, nearest}
use Rattle.tta_flight.proofs.Advanced.{advanced_none, advanced_to}
use Rattle.tta_flight.proofs.BitLemmas.{no_bit, no_bit_before, none_up_to}
use Rattle.tta_flight.proofs.Walked.{none_due, bit_before, bit_past, due_past, nearest_first, nearest_order, nearest_before, nearest_within, nearest_least, advanced_one, advanced_next, bit_is, within_bits}
use Rattle.tta_flight.proofs.region.Region.turn.Goals as goal

pub bits-init : goal.bits-init
bits-init c = record {
  after = omega arith;
  within = omega arith;
  units = refl;
  advanced = λ base end order are. advanced_none _ _;
  low = λ i before. absurd (omega (arith, before));
  some = λ i few is. c.word-left.ensures.some i is;
  still = λ unit past least here is off. c.word-left.ensures.none unit past (c.requires.there unit here is) here is off;
  over = λ unit least here is. c.requires.over unit here is;
}

-- the unit of the least bit
here_of : (number bit : ℕ) → bit < 64 → (64 * number + bit) / 64 ≡ number
here_of number bit few = omega (arith, few)

bit_of : (number bit : ℕ) → bit < 64 → (64 * number + bit) % 64 ≡ bit
bit_of number bit few = omega (arith, few)

mark_of : (among number bit : ℕ) → bit < 64 → bit_at among bit ≡ 1 → bit_at among ((64 * number + bit) % 64) ≡ 1
mark_of among number bit few is = ap (bit_at among) (bit_of number bit few) ∙ is

pub step-requires : goal.step-requires
step-requires c =
    let few = c.least_bit-bit.ensures.few in
    let mark = c.bits.invariant.some c.least_bit-bit.result few c.least_bit-bit.ensures.some in
    let there = c.requires.there (64 * c.args.number + c.least_bit-bit.result) (here_of c.args.number c.least_bit-bit.result few)
    (mark_of c.args.among c.args.number c.least_bit-bit.result few mark) in
    omega (arith, there, c.bits.invariant.units)

pub bits-preserved : goal.bits-preserved
bits-preserved c =
    let number : ℕ = c.args.number in
    let among : ℕ = c.args.among in
    let at : ℕ = c.bits.at in
    let bit : ℕ = c.least_bit-bit.result in
    let few : bit < 64 = c.least_bit-bit.ensures.few in
    let unit : ℕ = 64 * number + bit in
    let later : at ≤ unit = no_bit_before at (64 * number) bit c.bits.left c.bits.invariant.low c.least_bit-bit.ensures.some in
    let mark = mark_of among number bit few (c.bits.invariant.some bit few c.least_bit-bit.ensures.some) in
    let stepped = c.step.ensures.advanced (c.bits.invariant.over unit later (here_of number bit few) mark) in
    let there : unit < length c.bits.self.rings = omega (arith, c.requires.there unit (here_of number bit few) mark, c.bits.invariant.units) in
    let stays : (u d : ℕ) → unit + 1 ≤ u → u / 64 ≡ number → bit_at among (u % 64) ≡ 1 → due_in c.step.new.self u d ≡ due_in c.bits.self u d =
    λ u d past here is. due_past unit 1 u d c.bits.self c.step.new.self stepped (omega (arith, c.requires.there u here is, c.bits.invariant.units)) past in
    record {
      after = omega (arith, later, c.bits.invariant.after);
      within = omega (arith, few);
      units = stepped.units ∙ c.bits.invariant.units;
      advanced = λ base end order are.
          let span = within_bits number base end among are unit (here_of number bit few) mark in
          let empty : AreEmpty (nearest base end at) (nearest base end unit) c.bits.self = λ u d least most.
          let last : u < end = nearest_within base end order unit u most in
          let first : base ≤ u = omega (arith, least, nearest_first base end order at) in
          let from : at ≤ u = nearest_least base end order at u least last in
          let before : u < unit = nearest_before base end order unit u first most in
          let here : u / 64 ≡ number = omega (arith, from, before, c.bits.invariant.after, few) in
          let is = bit_is number base end among are u here first last in
          let off = c.least_bit-bit.ensures.none (u % 64) (bit_before number at bit u here c.bits.invariant.after from before) in
          none_due c.bits.self u (c.bits.invariant.over u from here is) (λ past. c.bits.invariant.still u past from here is off) d in
          advanced_next base end order (64 * number) at unit _ _ _ c.bits.invariant.after later (c.bits.invariant.advanced base end order are) empty
          (advanced_one base end order unit _ _ span.0 span.1 stepped);
      low = λ i up. none_up_to bit i c.bits.left c.without_bit-left.result (omega (arith, up)) few c.least_bit-bit.ensures.none
          c.without_bit-left.ensures.none c.without_bit-left.ensures.others;
      some = λ i below is.
          let other : i ≢ bit = λ same.
          let none : bit_at c.without_bit-left.result i ≡ 0 = ap (bit_at c.without_bit-left.result) same ∙ c.without_bit-left.ensures.none in
          omega (arith, none, is) in
          c.bits.invariant.some i below (sym (c.without_bit-left.ensures.others i other below) ∙ is);
      still = λ u p past here is off.
          let other = bit_past number at bit u here c.bits.invariant.after later few past in
          let small : u % 64 < 64 = omega arith in
          stays u (suc p) past here is
          ∙ c.bits.invariant.still u p (omega (arith, past, later)) here is (sym (c.without_bit-left.ensures.others (u % 64) other small) ∙ off);
      over = λ u past here is. stays u 0 past here is ∙ c.bits.invariant.over u (omega (arith, past, later)) here is;
    }

pub returns : goal.returns
returns c = λ base end order are.
    let start : ℕ = 64 * c.args.number in
    advanced_to (nearest base end start) (nearest base end c.bits.at) (nearest base end (start + 64)) _ _
    (nearest_order base end order start c.bits.at c.bits.invariant.after) (nearest_order base end order c.bits.at (start + 64) c.bits.invariant.within)
    (c.bits.invariant.advanced base end order are) (λ u d least most.
    let last : u < end = nearest_within base end order (start + 64) u most in
    let first : base ≤ u = omega (arith, least, nearest_first base end order c.bits.at) in
    let from : c.bits.at ≤ u = nearest_least base end order c.bits.at u least last in
    let before : u < start + 64 = nearest_before base end order (start + 64) u first most in
    let here : u / 64 ≡ c.args.number = omega (arith, from, before, c.bits.invariant.after) in
    let is = bit_is c.args.number base end c.args.among are u here first last in
    none_due c.bits.self u (c.bits.invariant.over u from here is)
    (λ past. c.bits.invariant.still u past from here is (no_bit c.bits.left (u % 64) c.bits-test.false)) d)
