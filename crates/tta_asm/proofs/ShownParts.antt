-- What the rules of machines and legal moves say of the ends of a move.
use Rattle.std.proofs.Common.{◌≡◌, ℕ, zero, suc, ◌+◌, ◌-◌, ◌*◌, ◌/◌, ◌^◌, ◌<◌, ◌≤◌, ◌==◌, Bool, true, false, List, [], ◌∷◌, length, refl, sym, inl, inr, arith}
use Rattle.std.specs.Prelude.{◌&&◌, ◌||◌, nat_lt, nat_le, Option, Some, None, option_and_then, slice_get, is_some, if◌then◌else◌}
use Rattle.std.specs.Option.{option_map_or}
use Rattle.std.specs.List.{list_any, list_all}
use Rattle.std.proofs.Math.Nat.{lt-div-mul-add, pow-le-pow_right}
use Rattle.std.proofs.lemmas.Bool.{false≢true, and_parts, eqb-true, ltb-true, leb-true, or_cases}
use Rattle.std.proofs.lemmas.Nat.{pow_pos, pow-add}
use Rattle.tta_asm.specs.Cited.{Bus, Guard, GuardRef, Machine, within, has_socket, holds_word, is_same, is_same_guard, is_bus, is_guard}
use Rattle.tta_arch.specs.declared.parts.File.{File as RegisterFile}

-- ---- words of a short field

-- a number with a quotient of p - 1 at most is below p times the divisor
below_power : (p high low word : ℕ) → 0 < p → high ≡ p - 1 → word < high * low + low → word < p * low
below_power zero high low word some is less = absurd (omega arith)
below_power (suc q) high low word some is less =
    let same : high ≡ q = omega arith in
    let much : suc q * low ≡ q * low + low = grind arith in
    rw much (rw same at less)

-- the words that a bus holds in its short field are words of 32 bits
pub held_word_small : (b : Bus) (word : ℕ) → is_bus b ≡ true → holds_word b word ≡ true → word < 2 ^ 32
held_word_small b word rule h =
    let range = and_parts (nat_le 1 b.short) (nat_le b.short 32) rule in
    let least : 1 ≤ b.short = leb-true 1 b.short range.0 in
    let most : b.short ≤ 32 = leb-true b.short 32 range.1 in by b.signed least most h where
      by : (signed : Bool) → 1 ≤ b.short → b.short ≤ 32
          → (if signed then word / 2 ^ (b.short - 1) == 0 || word / 2 ^ (b.short - 1) == 2 ^ (33 - b.short) - 1
          else nat_lt word (2 ^ b.short)) ≡ true
          → word < 2 ^ 32
      by true least most k =
          let low = 2 ^ (b.short - 1) in
          let high = word / low in
          let inside : word < high * low + low = lt-div-mul-add {a = word} {b = low} (pow_pos (b.short - 1)) in
          elim (or_cases (high == 0) (high == 2 ^ (33 - b.short) - 1) k) [
            | inl none ↦
                let zeros : high ≡ 0 = eqb-true high 0 none in
                let under : word < 0 * low + low = rw zeros at inside in
                let few : 2 ^ (b.short - 1) ≤ 2 ^ 32 = pow-le-pow_right {n = 2} (omega arith) {i = b.short - 1} {j = 32} (omega arith) in omega arith
            | inr all ↦
                let ones : high ≡ 2 ^ (33 - b.short) - 1 = eqb-true high (2 ^ (33 - b.short) - 1) all in
                let under = below_power (2 ^ (33 - b.short)) high low word (pow_pos (33 - b.short)) ones inside in
                let together : 2 ^ (33 - b.short) * low ≡ 2 ^ (33 - b.short + (b.short - 1)) = sym (pow-add 2 (33 - b.short) (b.short - 1)) in
                let count : 33 - b.short + (b.short - 1) ≡ 32 = omega arith in
                rw (together, count) at under
          ]
      by false least most k =
          let under : word < 2 ^ b.short = ltb-true word (2 ^ b.short) k in
          let few : 2 ^ b.short ≤ 2 ^ 32 = pow-le-pow_right {n = 2} (omega arith) {i = b.short} {j = 32} most in omega arith

-- ---- ends

-- what stands after a socket is there
pub there : {P : Type 0} (m : Machine) (input : Bool) (bus : ℕ) (o : Option P) (f : P → Option ℕ)
    → has_socket m input (option_and_then f o) bus ≡ true
    → (x : P) × (is : o ≡ Some x) × (has_socket m input (f x) bus ≡ true)
there m input bus None f h = absurd (false≢true h)
there m input bus (Some x) f h = (x, refl, h)

-- a register after a socket is within its file
pub below : (m : Machine) (input : Bool) (bus i size socket : ℕ) → has_socket m input (within i size socket) bus ≡ true
    → nat_lt i size ≡ true
below m input bus i size socket h = by (nat_lt i size) refl h where
  by : (b : Bool) → nat_lt i size ≡ b → has_socket m input (if b then Some socket else None) bus ≡ true → nat_lt i size ≡ true
  by true is k = is
  by false is k = absurd (false≢true k)

-- a port after a socket is there
pub port_there : (m : Machine) (input : Bool) (bus : ℕ) (o : Option ℕ) → has_socket m input o bus ≡ true → is_some o ≡ true
port_there m input bus None h = absurd (false≢true h)
port_there m input bus (Some s) h = refl

-- an element with an index below the length is there
pub element_there : {A : Type 0} (xs : List A) (k : ℕ) → nat_lt k (length xs) ≡ true → (x : A) × (slice_get xs k ≡ Some x)
element_there [] k h = let none = ltb-true k 0 h in absurd (omega arith)
element_there (x ∷ xs) zero h = (x, refl)
element_there (x ∷ xs) (suc k) h =
    let under : suc k < suc (length xs) = ltb-true (suc k) (suc (length xs)) h in
    let less : nat_lt k (length xs) ≡ true = grind (arith) in element_there xs k less

-- ---- guards

-- a guard that is written for a bus
pub guard_there : (gs : List Guard) (bus : ℕ) (on : GuardRef)
    → list_any (λ g. g.bus == bus && is_same_guard g.on on) gs ≡ true
    → (P : Guard → Bool) → list_all P gs ≡ true
    → (g : Guard) × (rule : P g ≡ true) × (is_same_guard g.on on ≡ true)
guard_there [] bus on h P all = absurd (false≢true h)
guard_there (g ∷ gs) bus on h P all =
    let rules = and_parts (P g) (list_all P gs) all in
    elim (or_cases (g.bus == bus && is_same_guard g.on on) (list_any (λ g. g.bus == bus && is_same_guard g.on on) gs) h) [
      | inl here ↦ (g, rules.0, (and_parts (g.bus == bus) (is_same_guard g.on on) here).1)
      | inr more ↦ guard_there gs bus on more P rules.1
    ]

-- what is known of a register of a guard
pub record GuardPlace (m : Machine) (on : GuardRef) : Type 0 where
  pub file : RegisterFile
  pub at : slice_get m.files on.file ≡ Some file
  pub bit : (file.width == 1) ≡ true
  pub within : nat_lt on.index file.size ≡ true

-- a guard is of a register of a file of width 1
pub guard_place : (m : Machine) (g : Guard) (on : GuardRef) → is_guard (length m.buses) m.files g ≡ true
    → is_same_guard g.on on ≡ true → GuardPlace m on
guard_place m g on rule same =
    let outer = and_parts (g.on.file == on.file && g.on.index == on.index) (is_same g.on.inverted on.inverted) same in
    let inner = and_parts (g.on.file == on.file) (g.on.index == on.index) outer.0 in
    let file : g.on.file ≡ on.file = eqb-true g.on.file on.file inner.0 in
    let index : g.on.index ≡ on.index = eqb-true g.on.index on.index inner.1 in
    let parts = and_parts (nat_lt g.bus (length m.buses)) (option_map_or (λ f. f.width == 1 && nat_lt g.on.index f.size) (slice_get m.files g.on.file) false) rule in
    by (slice_get m.files on.file) refl (rw (file, index) at parts.1) where
      by : (o : Option RegisterFile) → slice_get m.files on.file ≡ o
          → option_map_or (λ f. f.width == 1 && nat_lt on.index f.size) o false ≡ true → GuardPlace m on
      by None at k = absurd (false≢true k)
      by (Some f) at k =
          let both = and_parts (f.width == 1) (nat_lt on.index f.size) k in
          record { file = f; at = at; bit = both.0; within = both.1 }
