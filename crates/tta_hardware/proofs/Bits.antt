-- Fields that have bits.
use Rattle.std.proofs.Common.{◌≡◌, ℕ, zero, suc, ◌+◌, ◌^◌, ◌<◌, ◌≤◌, true, length, Some, arith}
use Rattle.std.specs.List.{range_with_len, sum_by}
use Rattle.std.proofs.lemmas.List.Sums.{sum_by-cons}
use Rattle.tta_hardware.specs.Cited.{GuardRef, Dest, Machine, IsMachine, is_dest_on, has_guard, width_for, guards_on, dests_on, guard_width, payload_width, dest_width, template_width, bus_width, word_width}
use Rattle.tta_arch.proofs.Widths.{width_for-enough, pow_le}
use Rattle.tta_image.proofs.EndsLemmas.{guard_code_inside, dest_code_inside}
use Rattle.tta_image.proofs.NarrowFields.{narrow}

-- a field that is wide enough has all its codes
pub enough : (codes width : ℕ) → width_for codes ≤ width → codes ≤ 2 ^ width
enough codes width wide = let e = width_for-enough codes in let more = pow_le (width_for codes) width wide in omega (arith, e, more)

-- one that tells two codes apart has bits
some_bits : (codes width : ℕ) → 2 ≤ codes → codes ≤ 2 ^ width → 0 < width
some_bits codes zero two wide = absurd (omega (arith, two, wide))
some_bits codes (suc k) two wide = omega arith

-- that of the destinations of a bus, where it has one
pub dest_some : (m : Machine) (bus : ℕ) (dst : Dest) → is_dest_on m bus dst ≡ true → 0 < dest_width m bus
dest_some m bus dst on =
    let e = enough (1 + length (dests_on m bus)) (dest_width m bus) (omega arith) in
    let i = dest_code_inside m bus dst on in
    some_bits (1 + length (dests_on m bus)) (dest_width m bus) (omega (arith, i)) e

-- that of its guards, where it has one
pub guard_some : (m : Machine) (bus : ℕ) (on : GuardRef) → has_guard m bus (Some on) ≡ true → 0 < guard_width m bus
guard_some m bus on has =
    let e = enough (1 + length (guards_on m bus)) (guard_width m bus) (omega arith) in
    let i = guard_code_inside m bus (Some on) has in
    some_bits (1 + length (guards_on m bus)) (guard_width m bus) (omega (arith, i)) e

-- that of the templates, where there is one
pub template_some : (m : Machine) (k : ℕ) → k < length m.templates → 0 < template_width m
template_some m k less =
    let e = enough (1 + length m.templates) (template_width m) (omega arith) in
    some_bits (1 + length m.templates) (template_width m) (omega (arith, less)) e

-- that of the sources of each bus
pub payload_some : (m : Machine) (bus : ℕ) → IsMachine m → bus < length m.buses → 0 < payload_width m bus
payload_some m bus rules there = let fields = narrow m bus rules there in let some = fields.some_short in omega (arith, some)

-- an instruction
pub word_some : (m : Machine) → IsMachine m → 0 < word_width m
word_some m rules = let some = first (length m.buses) rules.limits.some_bus in omega (arith, some) where
  first : (n : ℕ) → 0 < n → 0 < sum_by (bus_width m) (range_with_len 0 n)
  first zero less = absurd (omega (arith, less))
  first (suc k) less = let cut = sum_by-cons (bus_width m) 0 (range_with_len (0 + 1) k) in omega (arith, cut)

-- ---- control's numbers

pub address_some : (m : Machine) → IsMachine m → 1 ≤ m.control.address
address_some m rules = let c = rules.control in grind (arith, c)

pub delay_few : (m : Machine) → IsMachine m → m.control.delay ≤ 4
delay_few m rules = let c = rules.control in grind (arith, c)
