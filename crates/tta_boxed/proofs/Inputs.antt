-- The inputs of a circuit that leaves operations to modules.
use Rattle.std.proofs.Common.{◌≡◌, ℕ, Bool, true, false, ◌||◌, List, [], ◌∷◌, ◌++◌, map, slice_get, Some, refl, sym, ap, ◌∙◌, arith}
use Rattle.std.specs.List.{list_any, enumerate_from, AllByRecursion}
use Rattle.std.proofs.lemmas.Bool.{false≢true, true≢false}
use Rattle.tta_arch.specs.declared.parts.Unit.{Unit as OpUnit}
use Rattle.tta_image.proofs.Places.{any_left, any_right, any_pieces}
use Rattle.tta_boxed.specs.Cited.{Machine, UnitOp, op_at, Circuit, Store, IsDue, Due, Shows, IsFrom, Boxes, same_signal}
use Rattle.tta_circuit.specs.Meaning.{is_input}
use Rattle.tta_hardware.specs.Signals.{Signal as Named, IsOffered, Offer, IsReady, IsReset}
use Rattle.tta_hardware.proofs.Named.{signal_itself}
use Rattle.tta_hardware.proofs.Members.{any_made}
use Rattle.tta_hardware.proofs.PlainWires.{all_made, every_piece}
use Rattle.tta_boxed.specs.Boxed.{is_left, left_ops, box_inputs, boxed}
use Rattle.tta_boxed.proofs.Finding.{none_there, first_alone}
use Rattle.tta_boxed.proofs.Wholes.{is_box, is_held, IsWhole}
use Rattle.tta_boxed.proofs.Registers.{in_left, unit_of, other_name}

-- whether a signal is an input, over the list of them
pub input_any : (xs : List (Named × ℕ)) (n : Named) → is_input same_signal xs n ≡ list_any (λ i. same_signal i.0 n) xs
input_any [] n = refl
input_any (x ∷ xs) n = ap (λ b. same_signal x.0 n || b) (input_any xs n)

module _ (m : Machine) (leaves : ℕ → Bool) where
  pub of_inputs : (P : Named × ℕ → Type 0) → ((unit op : ℕ) → P (Boxes (Shows unit op), 32)) → AllByRecursion P (box_inputs m leaves)
  of_inputs P each =
      every_piece P (λ u. map (λ o. (Boxes (Shows u.0 o.0), 32)) (left_ops m leaves u.0)) (enumerate_from 0 m.units)
      (λ u. all_made P (λ (o : ℕ × UnitOp). (Boxes (Shows u.0 o.0), 32)) (left_ops m leaves u.0) (λ o. each u.0 o.0))

  no_input : (n : Named) → is_box n ≡ false → list_any (λ i. same_signal i.0 n) (box_inputs m leaves) ≡ false
  no_input n other =
      none_there (λ i. same_signal i.0 n) (box_inputs m leaves)
      (of_inputs (λ i. same_signal i.0 n ≡ false) (λ unit op. other_name m leaves (Boxes (Shows unit op)) n refl other))

  module _ (d : Circuit Named Store) (w : IsWhole m d) where
    -- modules add no other input
    pub input_same : (n : Named) → is_box n ≡ false
        → is_input same_signal (boxed m leaves d).inputs n ≡ is_input same_signal d.inputs n
    input_same n other =
        input_any (d.inputs ++ box_inputs m leaves) n
        ∙ first_alone (λ i. same_signal i.0 n) d.inputs (box_inputs m leaves) (no_input n other) ∙ sym (input_any d.inputs n)

    pub input_more : (n : Named) → is_input same_signal d.inputs n ≡ true → is_input same_signal (boxed m leaves d).inputs n ≡ true
    input_more n is =
        input_any (d.inputs ++ box_inputs m leaves) n
        ∙ any_left (λ i. same_signal i.0 n) d.inputs (box_inputs m leaves) (sym (input_any d.inputs n) ∙ is)

    -- what is due is no input, nor whose it is
    pub no_due : (n : Named) → is_box n ≡ false → is_held n ≡ true → is_input same_signal (boxed m leaves d).inputs n ≡ false
    no_due n other held = input_same n other ∙ ap (λ l. is_input same_signal l n) w.inputs ∙ by n other held where
      by : (n : Named) → is_box n ≡ false → is_held n ≡ true
          → is_input same_signal ((IsOffered, 1) ∷ (Offer, 32) ∷ (IsReady, 1) ∷ (IsReset, 1) ∷ []) n ≡ false
      by (IsDue unit delay) other held = refl
      by (Due unit delay) other held = refl
      by (Boxes b) other held = absurd (true≢false other)
      by n other held = absurd (false≢true held)

    pub no_from : (unit op delay : ℕ) → is_input same_signal (boxed m leaves d).inputs (Boxes (IsFrom unit op delay)) ≡ false
    no_from unit op delay =
        input_any (d.inputs ++ box_inputs m leaves) (Boxes (IsFrom unit op delay))
        ∙ first_alone (λ i. same_signal i.0 (Boxes (IsFrom unit op delay))) d.inputs (box_inputs m leaves)
        (none_there (λ i. same_signal i.0 (Boxes (IsFrom unit op delay))) (box_inputs m leaves)
        (of_inputs (λ i. same_signal i.0 (Boxes (IsFrom unit op delay)) ≡ false) (λ unit op. refl)))
        ∙ ap (λ (l : List (Named × ℕ)). list_any (λ i. same_signal i.0 (Boxes (IsFrom unit op delay))) l) w.inputs

    -- what a module shows is one
    pub is_shown : (unit op : ℕ) (o : UnitOp) → op_at m unit op ≡ Some o → is_left m leaves o ≡ true
        → is_input same_signal (boxed m leaves d).inputs (Boxes (Shows unit op)) ≡ true
    is_shown unit op o at left =
        input_any (d.inputs ++ box_inputs m leaves) (Boxes (Shows unit op))
        ∙ any_right q d.inputs (box_inputs m leaves) (unit_of m leaves _ unit op o at there)
      where
        q : Named × ℕ → Bool
        q i = same_signal i.0 (Boxes (Shows unit op))

        there : (x : OpUnit) → slice_get m.units unit ≡ Some x → slice_get x.ops op ≡ Some o → list_any q (box_inputs m leaves) ≡ true
        there x here is =
            any_pieces q (λ u. map (λ o. (Boxes (Shows u.0 o.0), 32)) (left_ops m leaves u.0)) m.units 0 unit unit x (omega arith) here
            (any_made q (λ (p : ℕ × UnitOp). same_signal (Boxes (Shows unit p.0)) (Boxes (Shows unit op)))
            (λ p. (Boxes (Shows unit p.0), 32)) (left_ops m leaves unit) (λ p same. same)
            (in_left m leaves unit op o at left (λ p. same_signal (Boxes (Shows unit p.0)) (Boxes (Shows unit op)))
            (signal_itself (Boxes (Shows unit op)))))
