-- The result ports take the same word in both circuits, where modules show what they owe.
use Rattle.std.proofs.Common.{◌≡◌, ℕ, ◌-◌, ◌<◌, Bool, true, false, nat_lt, List, map, slice_get, Option, Some, None, refl, sym, ap, ◌∙◌, arith}
use Rattle.std.specs.Prelude.{if◌then◌else◌}
use Rattle.std.specs.Option.{option_map_or}
use Rattle.std.specs.List.{find}
use Rattle.std.proofs.lemmas.Bool.{false≢true, and_parts, ltb-true, lt-ltb, false_from_ne_true}
use Rattle.tta_boxed.specs.Cited.{Units, Machine, UnitOp, Op, Set, KeptPort, op_at, Circuit, Signal, is_set, Store, Keeps, IsDue, Due, HasBegun, Shows, IsFrom, Boxes, Expression, Hardware, longest, begins, made, coming, is_coming, fresh, loads, nothing, never, first_of}
use Rattle.tta_arch.specs.declared.parts.Op.TheVariants.{Ldw, Stw, Ldf, Stf, Out, Take}
use Rattle.tta_hardware.specs.Signals.{Signal as Named, Port}
use Rattle.tta_hardware.specs.Wires.{read_word}
use Rattle.tta_hardware.specs.Registers.{register, becomes}
use Rattle.tta_hardware.proofs.Chained.{first_found}
use Rattle.tta_hardware.proofs.PlainWires.{all_made}
use Rattle.tta_boxed.specs.Boxed.{is_left, left_ops, shown, coming_next, boxed_register}
use Rattle.tta_boxed.proofs.Early.{early, begins_early, made_early, is_coming_early}
use Rattle.tta_boxed.proofs.Alike.{Same, either_word, first_early}
use Rattle.tta_boxed.proofs.Finding.{found_is, none_found}
use Rattle.tta_boxed.proofs.Wholes.{IsWhole}
use Rattle.tta_boxed.proofs.Registers.{left_there, in_left}
use Rattle.tta_boxed.proofs.Due.{DueAt, AreDue}
use Rattle.tta_boxed.proofs.Clock as clock
use Rattle.tta_boxed.proofs.Going as going

-- an operation that is left to a module is one by a number, and takes more than a cycle
pub left_parts : (m : Machine) (leaves : ℕ → Bool) (o : UnitOp) → is_left m leaves o ≡ true
    → (id : ℕ) × ((o.op ≡ Set (record { 0 = id })) × (1 < o.latency))
left_parts m leaves o = by o.op where
  by : (p : Op) → is_left m leaves (record o { op = p }) ≡ true → (id : ℕ) × ((p ≡ Set (record { 0 = id })) × (1 < o.latency))
  by (Set i) is = (i.0, (refl, ltb-true 1 o.latency (and_parts (leaves i.0) (nat_lt 1 o.latency) is).1))
  by Ldw is = absurd (false≢true is)
  by Stw is = absurd (false≢true is)
  by Ldf is = absurd (false≢true is)
  by Stf is = absurd (false≢true is)
  by Out is = absurd (false≢true is)
  by Take is = absurd (false≢true is)

module _ (u : Units) (m : Machine) (leaves : ℕ → Bool) (d : Circuit Named Store) (w : IsWhole m d) (hc hd : Hardware)
    (inputs : Named → ℕ) (words : Same hc.words hd.words) (memories : (s : Store) → hc.memories s ≡ hd.memories s)
    (history : (unit : ℕ) → UnitOp → List (ℕ × ℕ)) (due : AreDue u m leaves hc.words hd.words history)
    (shows : (unit op id : ℕ) (o : UnitOp) → op_at m unit op ≡ Some o → is_left m leaves o ≡ true → o.op ≡ Set (record { 0 = id })
    → (x : ℕ × ℕ) → slice_get (history unit o) (o.latency - 1 - 1) ≡ Some x → inputs (Boxes (Shows unit op)) ≡ u.value id x.0 x.1) where
  abbrev env : Named → ℕ
  env = going.env u m leaves d w hc hd inputs words memories

  abbrev env' : Named → ℕ
  env' = going.env' u m leaves d w hc hd inputs words memories

  abbrev val : Expression → ℕ
  val = going.val u m leaves d w hc hd inputs words memories

  abbrev val' : Expression → ℕ
  val' = going.val' u m leaves d w hc hd inputs words memories

  module _ (unit : ℕ) (soon : 1 < longest m unit) (is : is_set (hc.words (IsDue unit 1)) ≡ true) where
    abbrev flagged : ℕ × UnitOp → Bool
    flagged o = is_set (env (Boxes (IsFrom unit o.0 1)))

    now : DueAt u m leaves hc.words hd.words history unit 1
    now = due unit 1 (omega arith) soon is

    -- the module of an operation shows the word that is due
    one_shown : (k : ℕ × UnitOp) → find flagged (left_ops m leaves unit) ≡ Some k → env (Boxes (Shows unit k.0)) ≡ hd.words (Due unit 1)
    one_shown k here =
        let it = found_is (λ o. (op_at m unit o.0 ≡ Some o.1) × (is_left m leaves o.1 ≡ true)) flagged (left_ops m leaves unit) k
        (left_there m leaves unit) here in
        let parts = left_parts m leaves k.1 it.0.1 in
        let known = now.picked k.0 parts.0 k.1 it.0.0 it.0.1 parts.1.0 parts.1.1
        (ap is_set (sym (clock.from_held u m leaves d w hc hd inputs words memories unit k.0 1)) ∙ it.1) in
        clock.shown_held u m leaves d w hc hd inputs words memories unit k.0 k.1 it.0.0 it.0.1
        ∙ shows unit k.0 parts.0 k.1 it.0.0 it.0.1 parts.1.0 known.0 known.1.0 ∙ sym known.1.1

    -- where it is of none, both keep the same word
    none_shown : find flagged (left_ops m leaves unit) ≡ None → env (Due unit 1) ≡ hd.words (Due unit 1)
    none_shown here =
        clock.due_held u m leaves d w hc hd inputs words memories unit 1 ∙ sym (now.other cleared)
      where
        cleared : (op : ℕ) (o : UnitOp) → op_at m unit op ≡ Some o → is_left m leaves o ≡ true → 1 < o.latency
            → is_set (hc.words (Boxes (IsFrom unit op 1))) ≡ false
        cleared op o at left less =
            false_from_ne_true (is_set (hc.words (Boxes (IsFrom unit op 1))))
            (λ on. false≢true (sym (none_found flagged (left_ops m leaves unit) here)
            ∙ in_left m leaves unit op o at left flagged
            (ap is_set (clock.from_held u m leaves d w hc hd inputs words memories unit op 1) ∙ on)))

    word_shown : val (first_of (shown m leaves unit) (Signal (Due unit 1))) ≡ val' (Signal (Due unit 1))
    word_shown =
        first_found u hc.memories env (λ (o : ℕ × UnitOp). Signal (Boxes (IsFrom unit o.0 1))) (λ o. Signal (Boxes (Shows unit o.0)))
        (left_ops m leaves unit) (Signal (Due unit 1))
        ∙ by (find flagged (left_ops m leaves unit)) refl ∙ sym (clock.due_held' u m leaves d w hc hd inputs words memories unit 1)
      where
        by : (o : Option (ℕ × UnitOp)) → find flagged (left_ops m leaves unit) ≡ o
            → option_map_or (λ (k : ℕ × UnitOp). env (Boxes (Shows unit k.0))) o (env (Due unit 1)) ≡ hd.words (Due unit 1)
        by (Some k) here = one_shown k here
        by None here = none_shown here

    came : val (coming_next m leaves unit) ≡ val' (coming m unit 1)
    came =
        ap (λ b. val (if b then fresh m unit 2 (first_of (shown m leaves unit) (Signal (Due unit 1))) else nothing)) less
        ∙ first_early u hc.memories hd.memories memories env env' (clock.signals u m leaves d w hc hd inputs words memories)
        (map (λ o. (Signal (HasBegun unit o.0), read_word unit o.0)) (loads m unit 2))
        (first_of (shown m leaves unit) (Signal (Due unit 1))) (Signal (Due unit 1))
        (all_made (λ (c : Expression × Expression). (early c.0 ≡ true) × (early c.1 ≡ true))
        (λ (o : ℕ × UnitOp). (Signal (HasBegun unit o.0), read_word unit o.0)) (loads m unit 2) (λ o. (refl, refl))) word_shown
        ∙ ap (λ b. val' (if b then fresh m unit 2 (Signal (Due unit 1)) else nothing)) (sym less)
      where
        less : nat_lt 1 (longest m unit) ≡ true
        less = lt-ltb 1 (longest m unit) soon

  -- what a port takes
  pub port_same : (unit : ℕ)
      → val (boxed_register m leaves (register m (Keeps (KeptPort unit)))).next ≡ val' (becomes m (Keeps (KeptPort unit)))
  port_same unit =
      either_word (is_set (val (begins m unit 1))) (is_set (val' (begins m unit 1))) (val (made m unit 1))
      (if is_set (val (is_coming m unit 1)) then val (coming_next m leaves unit) else env (Port unit)) (val' (made m unit 1))
      (if is_set (val' (is_coming m unit 1)) then val' (coming m unit 1) else env' (Port unit))
      (ap is_set (going.same u m leaves d w hc hd inputs words memories (begins m unit 1) (begins_early m unit 1)))
      (going.same u m leaves d w hc hd inputs words memories (made m unit 1) (made_early m unit 1))
      (clock.either_if (is_set (val (is_coming m unit 1))) (is_set (val' (is_coming m unit 1))) (val (coming_next m leaves unit))
      (env (Port unit)) (val' (coming m unit 1)) (env' (Port unit))
      (ap is_set (going.same u m leaves d w hc hd inputs words memories (is_coming m unit 1) (is_coming_early m unit 1)))
      (λ on. by (nat_lt 1 (longest m unit)) refl on)
      (λ off. clock.signals u m leaves d w hc hd inputs words memories (Port unit) refl))
    where
      by : (b : Bool) → nat_lt 1 (longest m unit) ≡ b → is_set (val (if b then Signal (IsDue unit 1) else never)) ≡ true
          → val (coming_next m leaves unit) ≡ val' (coming m unit 1)
      by true less set =
          came unit (ltb-true 1 (longest m unit) less)
          (ap is_set (sym (clock.is_due_held u m leaves d w hc hd inputs words memories unit 1)) ∙ set)
      by false less set = absurd (false≢true set)
