-- One clock of both circuits: their words are the same but for what is beside, and are so after it.
use Rattle.std.proofs.Common.{◌≡◌, ℕ, ◌<◌, Bool, true, false, List, [], ◌∷◌, ◌++◌, map, Option, Some, refl, sym, ap, ◌∙◌}
use Rattle.std.specs.Prelude.{if◌then◌else◌}
use Rattle.std.specs.List.{find, AllByRecursion}
use Rattle.std.proofs.lemmas.Bool.{false≢true, true≢false}
use Rattle.tta_boxed.specs.Cited.{Units, Machine, KeptPort, Circuit, Register, is_set, Store, IsReset, Goes, Keeps, IsDue, Due, Shows, IsFrom, Boxes, UnitOp, op_at, Hardware, longest, same_signal}
use Rattle.tta_circuit.specs.Meaning.{value, is_input, given, settled, registered, clocked}
use Rattle.tta_hardware.specs.Signals.{Signal as Named, same_store}
use Rattle.tta_hardware.specs.Registers.{register, becomes}
use Rattle.tta_hardware.proofs.Named.{signal_is}
use Rattle.tta_boxed.specs.Boxed.{is_left, boxed_register, from_register, box_registers, boxed}
use Rattle.tta_boxed.specs.Theorem.{is_beside}
use Rattle.tta_boxed.proofs.Early.{is_slow}
use Rattle.tta_boxed.proofs.Alike.{Same, either_word, value_early, stored_alike, settle_early}
use Rattle.tta_boxed.proofs.Wholes.{is_box, RegisterEarly, IsWhole}
use Rattle.tta_boxed.proofs.Registers.{same_name, same_register, no_box, found_kept, from_at}
use Rattle.tta_boxed.proofs.Inputs.{input_same, no_due, no_from, is_shown}

-- one of two words, where each is the same where it is taken
pub either_if : (b c : Bool) (x y x' y' : ℕ) → b ≡ c → (b ≡ true → x ≡ x') → (b ≡ false → y ≡ y')
    → (if b then x else y) ≡ (if c then x' else y')
either_if b c x y x' y' same on off = by b c same on off where
  by : (b c : Bool) → b ≡ c → (b ≡ true → x ≡ x') → (b ≡ false → y ≡ y') → (if b then x else y) ≡ (if c then x' else y')
  by true true same on off = on refl
  by true false same on off = absurd (true≢false same)
  by false true same on off = absurd (false≢true same)
  by false false same on off = off refl

not_box : (n : Named) → is_beside n ≡ false → is_box n ≡ false
not_box (Boxes b) is = absurd (true≢false is)
not_box n is = refl

module _ (u : Units) (m : Machine) (leaves : ℕ → Bool) (d : Circuit Named Store) (w : IsWhole m d) (hc hd : Hardware)
    (inputs : Named → ℕ) (words : Same hc.words hd.words) (memories : (s : Store) → hc.memories s ≡ hd.memories s) where
  abbrev pub c : Circuit Named Store
  c = boxed m leaves d

  -- the words of the signals of both
  abbrev pub env : Named → ℕ
  env = settled same_signal u (boxed m leaves d) hc inputs

  abbrev pub env' : Named → ℕ
  env' = settled same_signal u d hd inputs

  given_same : Same (given same_signal c hc inputs) (given same_signal d hd inputs)
  given_same n is =
      ap (λ (b : Bool). if b then inputs n else hc.words n) (input_same m leaves d w n (not_box n is))
      ∙ ap (λ k. if is_input same_signal d.inputs n then inputs n else k) (words n is)

  pub signals : Same env env'
  signals =
      settle_early u hc.memories hd.memories memories d.wires w.wires (given same_signal c hc inputs) (given same_signal d hd inputs)
      given_same

  -- ---- what is held

  pub is_due_held : (unit delay : ℕ) → env (IsDue unit delay) ≡ hc.words (IsDue unit delay)
  is_due_held unit delay =
      w.keeps u hc.memories (given same_signal c hc inputs) (IsDue unit delay) refl
      ∙ ap (λ (b : Bool). if b then inputs (IsDue unit delay) else hc.words (IsDue unit delay))
      (no_due m leaves d w (IsDue unit delay) refl refl)

  pub due_held : (unit delay : ℕ) → env (Due unit delay) ≡ hc.words (Due unit delay)
  due_held unit delay =
      w.keeps u hc.memories (given same_signal c hc inputs) (Due unit delay) refl
      ∙ ap (λ (b : Bool). if b then inputs (Due unit delay) else hc.words (Due unit delay))
      (no_due m leaves d w (Due unit delay) refl refl)

  pub due_held' : (unit delay : ℕ) → env' (Due unit delay) ≡ hd.words (Due unit delay)
  due_held' unit delay =
      w.keeps u hd.memories (given same_signal d hd inputs) (Due unit delay) refl
      ∙ ap (λ (b : Bool). if b then inputs (Due unit delay) else hd.words (Due unit delay))
      (sym (input_same m leaves d w (Due unit delay) refl) ∙ no_due m leaves d w (Due unit delay) refl refl)

  pub from_held : (unit op delay : ℕ) → env (Boxes (IsFrom unit op delay)) ≡ hc.words (Boxes (IsFrom unit op delay))
  from_held unit op delay =
      w.keeps u hc.memories (given same_signal c hc inputs) (Boxes (IsFrom unit op delay)) refl
      ∙ ap (λ (b : Bool). if b then inputs (Boxes (IsFrom unit op delay)) else hc.words (Boxes (IsFrom unit op delay)))
      (no_from m leaves d w unit op delay)

  -- what a module shows is handed in
  pub shown_held : (unit op : ℕ) (o : UnitOp) → op_at m unit op ≡ Some o → is_left m leaves o ≡ true
      → env (Boxes (Shows unit op)) ≡ inputs (Boxes (Shows unit op))
  shown_held unit op o at left =
      w.keeps u hc.memories (given same_signal c hc inputs) (Boxes (Shows unit op)) refl
      ∙ ap (λ (b : Bool). if b then inputs (Boxes (Shows unit op)) else hc.words (Boxes (Shows unit op)))
      (is_shown m leaves d w unit op o at left)

  -- whether the clock begins anew, and that it carries nothing out then
  pub reset_held : env IsReset ≡ inputs IsReset
  reset_held = signals IsReset refl ∙ w.reset u hd inputs

  pub stopped : is_set (inputs IsReset) ≡ true → is_set (env Goes) ≡ false
  stopped is = ap is_set (signals Goes refl) ∙ w.stops u hd inputs is

  -- ---- after it

  abbrev pub after : Hardware
  after = clocked same_signal same_store u (boxed m leaves d) env hc

  abbrev pub after' : Hardware
  after' = clocked same_signal same_store u d env' hd

  pub memories_next : (s : Store) → after.memories s ≡ after'.memories s
  memories_next s =
      stored_alike u hc.memories hd.memories memories env env' signals d.memories w.memories s (hc.memories s) (hd.memories s) (memories s)

  -- what a register becomes
  took : (n : Named) (r : Register Named Store) → find (λ r. same_signal r.name n) c.registers ≡ Some r
      → after.words n ≡ (if is_set (value u hc.memories env r.enable) then value u hc.memories env r.next else hc.words n)
  took n r is = ap (λ o. registered same_signal u hc.memories env o (hc.words n)) is

  pub is_due_next : (unit delay : ℕ) → 0 < delay → delay < longest m unit
      → after.words (IsDue unit delay)
      ≡ (if is_set (value u hc.memories env (register m (IsDue unit delay)).enable)
      then value u hc.memories env (becomes m (IsDue unit delay)) else hc.words (IsDue unit delay))
  is_due_next unit delay some soon =
      took (IsDue unit delay) (register m (IsDue unit delay))
      (found_kept m leaves d w (IsDue unit delay) (register m (IsDue unit delay)) (w.is_due unit delay some soon))

  pub due_next : (unit delay : ℕ) → 0 < delay → delay < longest m unit
      → after.words (Due unit delay)
      ≡ (if is_set (env Goes) then value u hc.memories env (boxed_register m leaves (register m (Due unit delay))).next
      else hc.words (Due unit delay))
  due_next unit delay some soon =
      took (Due unit delay) (boxed_register m leaves (register m (Due unit delay)))
      (found_kept m leaves d w (Due unit delay) (register m (Due unit delay)) (w.due unit delay some soon))

  pub due_next' : (unit delay : ℕ) → 0 < delay → delay < longest m unit
      → after'.words (Due unit delay)
      ≡ (if is_set (env' Goes) then value u hd.memories env' (becomes m (Due unit delay)) else hd.words (Due unit delay))
  due_next' unit delay some soon =
      ap (λ o. registered same_signal u hd.memories env' o (hd.words (Due unit delay))) (w.due unit delay some soon)

  pub from_next_is : (unit op : ℕ) (o : UnitOp) → op_at m unit op ≡ Some o → is_left m leaves o ≡ true → (delay : ℕ) → 0 < delay
      → delay < o.latency
      → after.words (Boxes (IsFrom unit op delay))
      ≡ (if is_set (value u hc.memories env (from_register m leaves unit op o.latency delay).enable)
      then value u hc.memories env (from_register m leaves unit op o.latency delay).next else hc.words (Boxes (IsFrom unit op delay)))
  from_next_is unit op o at left delay some less =
      took (Boxes (IsFrom unit op delay)) (from_register m leaves unit op o.latency delay)
      (from_at m leaves d w unit op o at left delay some less)

  -- ---- all registers but those of results

  module _ (ports : (unit : ℕ) → is_set (env Goes) ≡ true
      → value u hc.memories env (boxed_register m leaves (register m (Keeps (KeptPort unit)))).next
      ≡ value u hd.memories env' (becomes m (Keeps (KeptPort unit)))) where
    abbrev taken : Option (Register Named Store) → Named → ℕ
    taken o n = registered same_signal u hc.memories env o (hc.words n)

    abbrev taken' : Option (Register Named Store) → Named → ℕ
    taken' o n = registered same_signal u hd.memories env' o (hd.words n)

    port_taken : (n : Named) → is_beside n ≡ false → is_slow n ≡ true
        → taken (Some (boxed_register m leaves (register m n))) n ≡ taken' (Some (register m n)) n
    port_taken (Keeps (KeptPort unit)) is slow =
        either_if (is_set (env Goes)) (is_set (env' Goes))
        (value u hc.memories env (boxed_register m leaves (register m (Keeps (KeptPort unit)))).next) (hc.words (Keeps (KeptPort unit)))
        (value u hd.memories env' (becomes m (Keeps (KeptPort unit)))) (hd.words (Keeps (KeptPort unit))) (ap is_set (signals Goes refl))
        (ports unit) (λ off. words (Keeps (KeptPort unit)) refl)
    port_taken (Due unit delay) is slow = absurd (true≢false is)
    port_taken n is slow = absurd (false≢true slow)

    one_taken : (r : Register Named Store) → RegisterEarly m r → (n : Named) → r.name ≡ n → is_beside n ≡ false
        → taken (Some (boxed_register m leaves r)) n ≡ taken' (Some r) n
    one_taken r all n name is = by (is_slow r.name) refl where
      plain : is_slow r.name ≡ false → taken (Some r) n ≡ taken' (Some r) n
      plain slow =
          either_word (is_set (value u hc.memories env r.enable)) (is_set (value u hd.memories env' r.enable))
          (value u hc.memories env r.next) (hc.words n) (value u hd.memories env' r.next) (hd.words n)
          (ap is_set (value_early u hc.memories hd.memories memories env env' signals r.enable all.0))
          (value_early u hc.memories hd.memories memories env env' signals r.next (all.1.0 slow)) (words n is)

      by : (b : Bool) → is_slow r.name ≡ b → taken (Some (boxed_register m leaves r)) n ≡ taken' (Some r) n
      by true slow =
          let same : r ≡ register m n = all.1.1 slow ∙ ap (register m) name in
          ap (λ (x : Register Named Store). taken (Some (boxed_register m leaves x)) n) same
          ∙ port_taken n is (ap is_slow (sym name) ∙ slow) ∙ ap (λ (x : Register Named Store). taken' (Some x) n) (sym same)
      by false slow = ap (λ (x : Register Named Store). taken (Some x) n) (same_register m leaves r slow) ∙ plain slow

    all_taken : (n : Named) → is_beside n ≡ false → (rs : List (Register Named Store)) → AllByRecursion (RegisterEarly m) rs
        → taken (find (λ r. same_signal r.name n) (map (boxed_register m leaves) rs ++ box_registers m leaves)) n
        ≡ taken' (find (λ r. same_signal r.name n) rs) n
    all_taken n is [] all = ap (λ o. taken o n) (no_box m leaves n (not_box n is)) ∙ words n is
    all_taken n is (r ∷ rs) all =
        ap (λ (k : Named). taken (if same_signal k n then Some (boxed_register m leaves r) else rest) n) (same_name m leaves r)
        ∙ by (same_signal r.name n) refl (all_taken n is rs all.1)
      where
        rest : Option (Register Named Store)
        rest = find (λ r. same_signal r.name n) (map (boxed_register m leaves) rs ++ box_registers m leaves)

        by : (b : Bool) → same_signal r.name n ≡ b → taken rest n ≡ taken' (find (λ r. same_signal r.name n) rs) n
            → taken (if b then Some (boxed_register m leaves r) else rest) n
            ≡ taken' (if b then Some r else find (λ r. same_signal r.name n) rs) n
        by true same more = one_taken r all.0 n (signal_is r.name n same) is
        by false same more = more

    pub words_next : Same after.words after'.words
    words_next n is = all_taken n is d.registers w.registers
