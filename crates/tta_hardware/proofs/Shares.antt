-- The long immediate as the parts of the buses that are taken.
use Rattle.std.proofs.Common.{◌≡◌, ℕ, zero, suc, ◌+◌, ◌-◌, ◌*◌, ◌/◌, ◌%◌, ◌^◌, ◌<◌, ◌≤◌, ◌==◌, min, Bool, true, false, ◌&&◌, nat_lt, if◌then◌else◌, List, [], ◌++◌, length, take, drop, refl, sym, ap, ◌∙◌, arith}
use Rattle.std.specs.List.{range_with_len}
use Rattle.std.proofs.lemmas.Bool.{eqb-true, ltb-true, ltb-false}
use Rattle.std.proofs.lemmas.List.{append_assoc, take-append-drop, length-drop, length-take-le}
use Rattle.std.proofs.lemmas.List.Sums.{sum_by-cons}
use Rattle.tta_hardware.specs.Cited.{Units, Machine, has_bit, bus_width, number_of, taken_bits, Expr, Slice, Join, value}
use Rattle.tta_image.proofs.Numbers.{number_of-append, number_of-below}
use Rattle.tta_image.proofs.InstructionDecoded.{fields_from, length-taken_bits}
use Rattle.tta_hardware.specs.Parts.{buses_width, long_width, above, shares_from}
use Rattle.tta_hardware.proofs.Numbers.{piece_at, low_low, joined_low, joined_high}

-- the bits of a long immediate in so many buses from one on
abbrev pub own_from : Machine → (taken bus count : ℕ) → List Bool → List Bool
own_from m taken bus count bits = taken_bits taken bus (fields_from m bus count) bits

module _ {N M : Type 0} (u : Units) (ms : M → List ℕ) (env : N → ℕ) (word : Expr N M) where
  -- a part with bits below it
  above-value : (left low k r : ℕ) (rest : Expr N M) → value u ms env rest ≡ r → (left ≡ 0 → r ≡ 0)
      → value u ms env (above word left low k rest) ≡ value u ms env word / 2 ^ low % 2 ^ k * 2 ^ left + r
  above-value left low k r rest told none = by (left == 0) refl where
    x : ℕ
    x = value u ms env word / 2 ^ low % 2 ^ k

    by : (b : Bool) → (left == 0) ≡ b
        → value u ms env (if b then Slice low k word else Join left (Slice low k word) rest)
        ≡ value u ms env word / 2 ^ low % 2 ^ k * 2 ^ left + r
    by true is =
        let e : left ≡ 0 = eqb-true left 0 is in
        let z : r ≡ 0 = none e in
        let one : x * 2 ^ 0 + r ≡ x = omega (arith, z) in
        sym (ap (λ (l : ℕ). x * 2 ^ l + r) e ∙ one)
    by false is = ap (λ (y : ℕ). x * 2 ^ left + y) told

  -- the low 32 bits of a part and of what stands after it
  share-value : (left low w f r all : ℕ) (rest : Expr N M) → value u ms env word / 2 ^ low % 2 ^ w ≡ f → f < 2 ^ w → r < 2 ^ left
      → all ≡ f * 2 ^ left + r → value u ms env rest ≡ r % 2 ^ 32 → (b : Bool) → nat_lt left 32 ≡ b
      → value u ms env (if b then above word left low (min w (32 - left)) rest else rest) ≡ all % 2 ^ 32
  share-value left low w f r all rest at few small is told true low32 =
      let k : ℕ = min w (32 - left) in
      let inside : k ≤ w = omega arith in
      let own : value u ms env word / 2 ^ low % 2 ^ k ≡ f % 2 ^ k =
      sym (low_low (value u ms env word / 2 ^ low) w k inside) ∙ ap (λ (x : ℕ). x % 2 ^ k) at in
      let h = ltb-true left 32 low32 in
      above-value left low k (r % 2 ^ 32) rest told none
      ∙ ap (λ (x : ℕ). x * 2 ^ left + r % 2 ^ 32) own
      ∙ sym (joined_low f w r left 32 few small (omega (arith, h))) ∙ ap (λ (x : ℕ). x % 2 ^ 32) (sym is) where
        none : left ≡ 0 → r % 2 ^ 32 ≡ 0
        none e =
            let p : 2 ^ left ≡ 2 ^ 0 = ap (λ (l : ℕ). 2 ^ l) e in
            let z : r ≡ 0 = omega (arith, small, p) in
            ap (λ (x : ℕ). x % 2 ^ 32) z
  share-value left low w f r all rest at few small is told false high =
      told ∙ sym (joined_high f r left 32 small (ltb-false left 32 high)) ∙ ap (λ (x : ℕ). x % 2 ^ 32) (sym is)

  -- the shares are the low 32 bits of the long immediate in the buses
  pub shares-value : (m : Machine) (taken bus count : ℕ) (front bits : List Bool) → value u ms env word ≡ number_of (front ++ bits)
      → length bits ≡ buses_width m bus count
      → value u ms env (shares_from m word taken bus count) ≡ number_of (own_from m taken bus count bits) % 2 ^ 32
  shares-value m taken bus zero front bits is many = refl
  shares-value m taken bus (suc count) front bits is many =
      let w : ℕ = bus_width m bus in
      let s = sum_by-cons (bus_width m) bus (range_with_len (bus + 1) count) in
      let d = length-drop w bits in
      let front' : List Bool = front ++ take w bits in
      let cut : front ++ bits ≡ front ++ (take w bits ++ drop w bits) =
      ap (λ (l : List Bool). front ++ l) (sym (take-append-drop w bits)) in
      let is' : value u ms env word ≡ number_of (front' ++ drop w bits) = is
      ∙ ap number_of (cut ∙ sym (append_assoc front (take w bits) (drop w bits))) in
      by (has_bit taken bus) (shares-value m taken (bus + 1) count front' (drop w bits) is' (omega arith)) where
        rest : Expr N M
        rest = shares_from m word taken (bus + 1) count

        after : List Bool
        after = own_from m taken (bus + 1) count (drop (bus_width m bus) bits)

        left : ℕ
        left = long_width m taken (bus + 1) count

        own : Expr N M
        own = above word left (buses_width m (bus + 1) count) (min (bus_width m bus) (32 - left)) rest

        by : (b : Bool) → value u ms env rest ≡ number_of after % 2 ^ 32
            → value u ms env (if b && nat_lt left 32 then own else rest)
            ≡ number_of ((if b then take (bus_width m bus) bits else []) ++ after) % 2 ^ 32
        by true told =
            let w : ℕ = bus_width m bus in
            let low : ℕ = buses_width m (bus + 1) count in
            let s = sum_by-cons (bus_width m) bus (range_with_len (bus + 1) count) in
            let d = length-drop w bits in
            let f : List Bool = take w bits in
            let wide : length f ≡ w = length-take-le w bits (omega arith) in
            let below : length (drop w bits) ≡ low = omega arith in
            let long : length after ≡ left = length-taken_bits m taken (bus + 1) count (drop w bits) (omega arith) in
            let f_small : number_of f < 2 ^ w = let h = number_of-below f in let e : 2 ^ length f ≡ 2 ^ w = ap (λ (k : ℕ). 2 ^ k) wide in
            omega arith in
            let r_small : number_of after < 2 ^ left = let h = number_of-below after in let e : 2 ^ length after ≡ 2 ^ left =
            ap (λ (k : ℕ). 2 ^ k) long in omega arith in
            let cut : front ++ bits ≡ front ++ (f ++ drop w bits) = ap (λ (l : List Bool). front ++ l) (sym (take-append-drop w bits)) in
            let at : value u ms env word / 2 ^ low % 2 ^ w ≡ number_of f =
            ap (λ (n : ℕ). n / 2 ^ low % 2 ^ w) is ∙ piece_at (front ++ bits) front f (drop w bits) low w cut below wide in
            let all : number_of (f ++ after) ≡ number_of f * 2 ^ left + number_of after =
            number_of-append f after ∙ ap (λ (k : ℕ). number_of f * 2 ^ k + number_of after) long in
            share-value left low w (number_of f) (number_of after) (number_of (f ++ after)) rest at f_small r_small all told
            (nat_lt left 32) refl
        by false told = told
