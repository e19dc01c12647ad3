-- The registers and inputs of a circuit that leaves operations to modules, found by name.
use Rattle.std.proofs.Common.{◌≡◌, ℕ, ◌-◌, ◌<◌, Bool, true, false, ◌&&◌, List, [], ◌∷◌, ◌++◌, map, slice_get, Option, Some, None, refl, sym, ap, ◌∙◌, arith}
use Rattle.std.specs.Prelude.{if◌then◌else◌, option_and_then}
use Rattle.std.specs.Option.{option_map_or}
use Rattle.std.specs.List.{find, list_any, flat_map, enumerate_from, range_with_len, AllByRecursion}
use Rattle.std.proofs.lemmas.Bool.{true≢false, and_from, false_from_ne_true}
use Rattle.std.proofs.lemmas.Option.{none-some, same_Some}
use Rattle.tta_arch.specs.declared.parts.Unit.{Unit as OpUnit}
use Rattle.tta_image.proofs.Places.{any_both, any_pieces, any_numbered}
use Rattle.tta_boxed.specs.Cited.{Machine, UnitOp, KeptPort, op_at, Circuit, Register, Store, Keeps, Due, IsFrom, Boxes, ops_of, same_signal}
use Rattle.tta_hardware.specs.Signals.{Signal as Named}
use Rattle.tta_hardware.proofs.Named.{signal_is, signal_itself}
use Rattle.tta_hardware.proofs.WiresFit.{all_map}
use Rattle.tta_hardware.proofs.RegistersFit.{weaker}
use Rattle.tta_hardware.proofs.PlainWires.{all_made, all_pieces, every_piece}
use Rattle.tta_hardware.proofs.OnlyThere.{kept_in, ops_there}
use Rattle.tta_boxed.specs.Boxed.{is_left, left_ops, boxed_register, from_register, op_registers, box_registers, boxed}
use Rattle.tta_boxed.proofs.Early.{is_slow}
use Rattle.tta_boxed.proofs.Finding.{not_found, found_past, any_flat, any_enumerated}
use Rattle.tta_boxed.proofs.Wholes.{is_box, IsWhole, found}

module _ (m : Machine) (leaves : ℕ → Bool) where
  -- ---- operations that are left to modules

  -- each stands at its number
  pub left_there : (unit : ℕ)
      → AllByRecursion (λ o. (op_at m unit o.0 ≡ Some o.1) × (is_left m leaves o.1 ≡ true)) (left_ops m leaves unit)
  left_there unit = kept_in (λ o. op_at m unit o.0 ≡ Some o.1) (λ o. is_left m leaves o.1) (ops_of m unit) (ops_there m unit)

  pub unit_of : (R : Type 0) (unit op : ℕ) (o : UnitOp) → op_at m unit op ≡ Some o
      → ((x : OpUnit) → slice_get m.units unit ≡ Some x → slice_get x.ops op ≡ Some o → R) → R
  unit_of R unit op o at each = by (slice_get m.units unit) refl at where
    by : (q : Option OpUnit) → slice_get m.units unit ≡ q → option_and_then (λ x. slice_get x.ops op) q ≡ Some o → R
    by None is at = absurd (none-some o at)
    by (Some x) is at = each x is at

  -- one that is left is among them
  pub in_left : (unit op : ℕ) (o : UnitOp) → op_at m unit op ≡ Some o → is_left m leaves o ≡ true → (p : ℕ × UnitOp → Bool)
      → p (op, o) ≡ true → list_any p (left_ops m leaves unit) ≡ true
  in_left unit op o at left p is = any_both (λ x. is_left m leaves x.1) p (ops_of m unit) (unit_of _ unit op o at within) where
    within : (x : OpUnit) → slice_get m.units unit ≡ Some x → slice_get x.ops op ≡ Some o
        → list_any (λ x. is_left m leaves x.1 && p x) (ops_of m unit) ≡ true
    within x here there =
        ap (λ q. list_any (λ x. is_left m leaves x.1 && p x) (option_map_or (λ u. enumerate_from 0 u.ops) q [])) here
        ∙ any_enumerated (λ x. is_left m leaves x.1 && p x) x.ops 0 op op o (omega arith) there
        (and_from (is_left m leaves o) (p (op, o)) left is)

  -- ---- registers that stay

  -- a register keeps its name
  pub same_name : (r : Register Named Store) → (boxed_register m leaves r).name ≡ r.name
  same_name r = by r.name where
    by : (n : Named) → (boxed_register m leaves (record r { name = n })).name ≡ n
    by (Keeps (KeptPort unit)) = refl
    by (Due unit delay) = refl
    by n = refl

  -- and what enables it
  pub same_enable : (r : Register Named Store) → (boxed_register m leaves r).enable ≡ r.enable
  same_enable r = by r.name where
    by : (n : Named) → (boxed_register m leaves (record r { name = n })).enable ≡ r.enable
    by (Keeps (KeptPort unit)) = refl
    by (Due unit delay) = refl
    by n = refl

  -- one that takes no results under way stays as it is
  pub same_register : (r : Register Named Store) → is_slow r.name ≡ false → boxed_register m leaves r ≡ r
  same_register r = by r.name where
    by : (n : Named) → is_slow n ≡ false → boxed_register m leaves (record r { name = n }) ≡ record r { name = n }
    by (Keeps (KeptPort unit)) is = absurd (true≢false is)
    by (Due unit delay) is = absurd (true≢false is)
    by n is = refl

  -- one that is found is found as it is changed
  pub found_changed : (n : Named) (rs ys : List (Register Named Store)) (x : Register Named Store)
      → find (λ r. same_signal r.name n) rs ≡ Some x
      → find (λ r. same_signal r.name n) (map (boxed_register m leaves) rs ++ ys) ≡ Some (boxed_register m leaves x)
  found_changed n [] ys x is = absurd (none-some x is)
  found_changed n (r ∷ rs) ys x is =
      ap (λ (k : Named). if same_signal k n then Some (boxed_register m leaves r) else rest) (same_name r)
      ∙ by (same_signal r.name n) is (found_changed n rs ys x)
    where
      rest : Option (Register Named Store)
      rest = find (λ r. same_signal r.name n) (map (boxed_register m leaves) rs ++ ys)

      by : (b : Bool) → (if b then Some r else find (λ r. same_signal r.name n) rs) ≡ Some x
          → (find (λ r. same_signal r.name n) rs ≡ Some x → rest ≡ Some (boxed_register m leaves x))
          → (if b then Some (boxed_register m leaves r) else rest) ≡ Some (boxed_register m leaves x)
      by true is rest = ap (λ o. option_map_or (λ r. Some (boxed_register m leaves r)) o None) is
      by false is rest = rest is

  -- ---- registers of modules

  -- two signals of which one is a module's are two
  pub other_name : (k n : Named) → is_box k ≡ true → is_box n ≡ false → same_signal k n ≡ false
  other_name k n a b = false_from_ne_true (same_signal k n) (λ is. true≢false (sym a ∙ ap is_box (signal_is k n is) ∙ b))

  pub of_boxes : (P : Register Named Store → Type 0)
      → ((unit op : ℕ) (o : UnitOp) → op_at m unit op ≡ Some o → is_left m leaves o ≡ true → (delay : ℕ)
      → P (from_register m leaves unit op o.latency delay))
      → AllByRecursion P (box_registers m leaves)
  of_boxes P each =
      every_piece P (λ u. flat_map (op_registers m leaves u.0) (left_ops m leaves u.0)) (enumerate_from 0 m.units)
      (λ u. all_pieces (λ o. (op_at m u.0 o.0 ≡ Some o.1) × (is_left m leaves o.1 ≡ true)) P (op_registers m leaves u.0)
      (left_ops m leaves u.0) (left_there u.0)
      (λ o is. all_made P (from_register m leaves u.0 o.0 o.1.latency) (range_with_len 1 (o.1.latency - 1)) (each u.0 o.0 o.1 is.0 is.1)))

  -- no other signal is one of theirs
  pub no_box : (n : Named) → is_box n ≡ false → find (λ r. same_signal r.name n) (box_registers m leaves) ≡ None
  no_box n other =
      not_found (λ r. same_signal r.name n) (box_registers m leaves)
      (of_boxes (λ r. same_signal r.name n ≡ false) (λ unit op o at left delay. other_name (Boxes (IsFrom unit op delay)) n refl other))

  -- whose it is, of which operation, and in how many cycles it is due
  abbrev whose : Named → ℕ
  whose (Boxes (IsFrom unit op delay)) = unit
  whose n = 0

  abbrev which : Named → ℕ
  which (Boxes (IsFrom unit op delay)) = op
  which n = 0

  abbrev soon : Named → ℕ
  soon (Boxes (IsFrom unit op delay)) = delay
  soon n = 0

  one_register : (unit op : ℕ) (o : UnitOp) → op_at m unit op ≡ Some o → (delay : ℕ) (unit' op' : ℕ) (o' : UnitOp)
      → op_at m unit' op' ≡ Some o' → (delay' : ℕ)
      → same_signal (Boxes (IsFrom unit' op' delay')) (Boxes (IsFrom unit op delay)) ≡ true
      → from_register m leaves unit' op' o'.latency delay' ≡ from_register m leaves unit op o.latency delay
  one_register unit op o at delay unit' op' o' at' delay' is =
      let name = signal_is (Boxes (IsFrom unit' op' delay')) (Boxes (IsFrom unit op delay)) is in
      let units : unit' ≡ unit = ap whose name in
      let ops : op' ≡ op = ap which name in
      let same : o' ≡ o = same_Some o' o (sym at' ∙ ap (λ k. op_at m k op') units ∙ ap (op_at m unit) ops ∙ at) in
      ap (λ k. from_register m leaves k op' o'.latency delay') units ∙ ap (λ k. from_register m leaves unit k o'.latency delay') ops
      ∙ ap (λ (x : UnitOp). from_register m leaves unit op x.latency delay') same
      ∙ ap (λ k. from_register m leaves unit op o.latency k) (ap soon name)

  -- what says whose a result is is one of theirs
  pub from_in : (unit op : ℕ) (o : UnitOp) → op_at m unit op ≡ Some o → is_left m leaves o ≡ true → (delay : ℕ) → 0 < delay
      → delay < o.latency → list_any (λ r. same_signal r.name (Boxes (IsFrom unit op delay))) (box_registers m leaves) ≡ true
  from_in unit op o at left delay some less = unit_of _ unit op o at there where
    q : Register Named Store → Bool
    q r = same_signal r.name (Boxes (IsFrom unit op delay))

    there : (x : OpUnit) → slice_get m.units unit ≡ Some x → slice_get x.ops op ≡ Some o → list_any q (box_registers m leaves) ≡ true
    there x here is =
        any_pieces q (λ u. flat_map (op_registers m leaves u.0) (left_ops m leaves u.0)) m.units 0 unit unit x (omega arith) here
        (any_flat q (op_registers m leaves unit) (left_ops m leaves unit)
        (in_left unit op o at left (λ x. list_any q (op_registers m leaves unit x))
        (any_numbered q (from_register m leaves unit op o.latency) 1 (o.latency - 1) (delay - 1) delay (omega (arith, some))
        (omega (arith, some, less)) (signal_itself (Boxes (IsFrom unit op delay))))))

  module _ (d : Circuit Named Store) (w : IsWhole m d) where
    -- a register that the circuit has without modules
    pub found_kept : (n : Named) (x : Register Named Store) → find (λ r. same_signal r.name n) d.registers ≡ Some x
        → find (λ r. same_signal r.name n) (boxed m leaves d).registers ≡ Some (boxed_register m leaves x)
    found_kept n x is = found_changed n d.registers (box_registers m leaves) x is

    -- one that says whose a result is
    pub from_at : (unit op : ℕ) (o : UnitOp) → op_at m unit op ≡ Some o → is_left m leaves o ≡ true → (delay : ℕ) → 0 < delay
        → delay < o.latency
        → find (λ r. same_signal r.name (Boxes (IsFrom unit op delay))) (boxed m leaves d).registers
        ≡ Some (from_register m leaves unit op o.latency delay)
    from_at unit op o at left delay some less =
        found_past q (map (boxed_register m leaves) d.registers) (box_registers m leaves)
        (all_map (λ r. q r ≡ false) (boxed_register m leaves) d.registers
        (weaker (λ r. is_box r.name ≡ false) (λ r. q (boxed_register m leaves r) ≡ false) d.registers other w.plain))
        ∙ found q (box_registers m leaves) (from_register m leaves unit op o.latency delay)
        (of_boxes (λ r. q r ≡ true → r ≡ from_register m leaves unit op o.latency delay)
        (λ unit' op' o' at' left' delay' is. one_register unit op o at delay unit' op' o' at' delay' is))
        (from_in unit op o at left delay some less)
      where
        q : Register Named Store → Bool
        q r = same_signal r.name (Boxes (IsFrom unit op delay))

        other : (r : Register Named Store) → is_box r.name ≡ false → q (boxed_register m leaves r) ≡ false
        other r is =
            false_from_ne_true (q (boxed_register m leaves r))
            (λ same. true≢false (ap is_box (sym (sym (same_name r) ∙ signal_is _ (Boxes (IsFrom unit op delay)) same)) ∙ is))
