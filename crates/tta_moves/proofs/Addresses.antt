-- A field that holds the greatest address holds each address.
use Rattle.std.proofs.Common.{◌≡◌, ℕ, ◌-◌, ◌/◌, ◌^◌, ◌<◌, ◌≤◌, Bool, true, false, Option, Some, None, refl, ap, arith, ◌∙◌, inl, inr}
use Rattle.std.specs.Prelude.{◌==◌, ◌&&◌, ◌||◌, nat_lt, nat_le, if◌then◌else◌, slice_get}
use Rattle.std.specs.Option.{option_map_or}
use Rattle.std.proofs.lemmas.Bool.{cases_lt, lt-ltb, ltb-true, leb-true, eqb-true, eq-eqb, or_left, or_cases, and_parts}
use Rattle.std.proofs.Math.Nat.{div-le_self, pow-le-pow_right}
use Rattle.std.proofs.Math.Pow.{shr_mono}
use Rattle.tta_list.proofs.Lists.{list_all_one}
use Rattle.tta_arch.specs.declared.parts.Bus.{Bus}
use Rattle.tta_arch.specs.declared.ends.Source.TheVariants as source
use Rattle.tta_moves.specs.Cited.{Machine, IsMachine, is_bus, is_from_to, is_socket, is_port_socket, holds_word, is_source_on}
use Rattle.tta_arch.proofs.Widths.{no_high}

-- the greatest number below 2 ^ 16 is no row of ones in a signed field
no_ones : (s g : ℕ) → s < 32 → g < 2 ^ 16 → g / 2 ^ s ≡ 2 ^ (32 - s) - 1 → ⊥
no_ones s g short small e = elim (cases_lt s 16) [
  | inl less ↦
      let wide : 2 ^ 17 ≤ 2 ^ (32 - s) = pow-le-pow_right (omega arith) {i = 17} {j = 32 - s} (omega arith) in
      let le = div-le_self g (2 ^ s) in omega arith
  | inr more ↦
      let none : g / 2 ^ s ≡ 0 = no_high g 16 s small more in
      let wide : 2 ^ 1 ≤ 2 ^ (32 - s) = pow-le-pow_right (omega arith) {i = 1} {j = 32 - s} (omega arith) in omega arith
]

pub smaller_held : (b : Bus) (g w : ℕ) → is_bus b ≡ true → g < 2 ^ 16 → w ≤ g → holds_word b g ≡ true → holds_word b w ≡ true
smaller_held b g w is small le h = on b.signed h where
  short : b.short ≤ 32
  short = leb-true b.short 32 (and_parts (nat_le 1 b.short) (nat_le b.short 32) is).1

  some : 1 ≤ b.short
  some = leb-true 1 b.short (and_parts (nat_le 1 b.short) (nat_le b.short 32) is).0

  on : (c : Bool) → (if c then g / 2 ^ (b.short - 1) == 0 || g / 2 ^ (b.short - 1) == 2 ^ (33 - b.short) - 1 else nat_lt g (2 ^ b.short)) ≡ true
      → (if c then w / 2 ^ (b.short - 1) == 0 || w / 2 ^ (b.short - 1) == 2 ^ (33 - b.short) - 1 else nat_lt w (2 ^ b.short)) ≡ true
  on false t = let lt = ltb-true g (2 ^ b.short) t in lt-ltb w (2 ^ b.short) (omega arith)
  on true t = elim (or_cases (g / 2 ^ (b.short - 1) == 0) (g / 2 ^ (b.short - 1) == 2 ^ (33 - b.short) - 1) t) [
    | inl none ↦
        let zero_g = eqb-true (g / 2 ^ (b.short - 1)) 0 none in
        let less : w / 2 ^ (b.short - 1) ≤ g / 2 ^ (b.short - 1) = shr_mono (b.short - 1) le in
        or_left _ _ (eq-eqb (w / 2 ^ (b.short - 1)) 0 (omega arith))
    | inr ones ↦
        let e = eqb-true (g / 2 ^ (b.short - 1)) (2 ^ (33 - b.short) - 1) ones in
        let low = some in let high = short in
        let same : 33 - b.short ≡ 32 - (b.short - 1) = omega arith in
        absurd (no_ones (b.short - 1) g (omega arith) small (e ∙ ap (λ k. 2 ^ k - 1) same))
  ]

-- ---- on a machine

pub address_held : (m : Machine) → IsMachine m → (bus word : ℕ) → word < 2 ^ m.control.address → is_source_on m bus (source.Value (2 ^ m.control.address - 1)) ≡ true → is_source_on m bus (source.Value word) ≡ true
address_held m rules bus word lt h = on (slice_get m.buses bus) refl h where
  few : m.control.address ≤ 16
  few =
      let three = and_parts (nat_le m.control.delay 4 && is_from_to 1 16 m.control.address && is_socket m.sockets true m.control.trigger) (is_port_socket m.sockets false m.control.ra) rules.control in
      let two = and_parts (nat_le m.control.delay 4 && is_from_to 1 16 m.control.address) (is_socket m.sockets true m.control.trigger) three.0 in
      let one = and_parts (nat_le m.control.delay 4) (is_from_to 1 16 m.control.address) two.0 in
      leb-true m.control.address 16 (and_parts (nat_le 1 m.control.address) (nat_le m.control.address 16) one.1).1

  greatest : 2 ^ m.control.address ≤ 2 ^ 16
  greatest = pow-le-pow_right (omega arith) {i = m.control.address} {j = 16} few

  on : (o : Option Bus) → slice_get m.buses bus ≡ o → option_map_or (λ b. holds_word b (2 ^ m.control.address - 1)) o false ≡ true → option_map_or (λ b. holds_word b word) o false ≡ true
  on None e t = absurd cc
  on (Some b) e t =
      let le = greatest in
      smaller_held b (2 ^ m.control.address - 1) word (list_all_one is_bus m.buses bus b rules.buses e) (omega arith) (omega arith) t
