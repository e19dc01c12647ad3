-- The registers of a machine keep their widths and are plain.
use Rattle.std.proofs.Common.{◌≡◌, ℕ, ◌+◌, ◌-◌, ◌^◌, ◌<◌, ◌≤◌, ◌==◌, Bool, true, false, ◌&&◌, List, [], ◌∷◌, length, filter, Option, None, Some, refl, sym, ap, subst, arith}
use Rattle.std.specs.Prelude.{if◌then◌else◌, nat_lt}
use Rattle.std.specs.Option.{option_map_or}
use Rattle.std.specs.List.{enumerate_from, AllByRecursion}
use Rattle.std.proofs.lemmas.Bool.{eqb-true, lt-ltb}
use Rattle.std.proofs.lemmas.Nat.{pow_pos}
use Rattle.tta_hardware.specs.Cited.{Op, Ldw, Stw, Ldf, Stf, Out, Take, Set, UnitOp, Template, Machine, IsMachine, is_dest_on, numbers, template_width, word_width, Place, KeptReg, KeptImm, KeptOperand, KeptRa, KeptPort, op_at, Const, Signal, Slice, Select, Either, Equal, Below}
use Rattle.tta_arch.specs.declared.ends.Dest.TheVariants as dest
use Rattle.tta_arch.specs.Effects.{width_of}
use Rattle.tta_arch.proofs.Facts.{address_most}
use Rattle.tta_arch.proofs.Widths.{pow_le}
use Rattle.tta_hardware.specs.Signals.{TemplateOf, LongOf, Data, Frame, Code, Expression, Signal as Named, Pc, IsReset, NextPc, Underway, Keeps, IsDue, Due, Port, Offer, Fetched, Word, Starts, Trigger, Operand, Controls, GoalNow, EndsNow, Lands, Goes}
use Rattle.tta_hardware.specs.Wires.{never, next_pc, nothing, fresh, hits, buses_to, all_ops, word_of_start, result_of, timed, begins, made, is_coming, coming, longest}
use Rattle.tta_hardware.specs.Registers.{read_at, space_size, narrowed, kept_next, next_of, restarts, enabled}
use Rattle.tta_hardware.specs.Hardware.{store_port}
use Rattle.tta_hardware.specs.Sized.{signal_width, Fits, RegistersFit, PortFits, RegistersAreSized}
use Rattle.tta_hardware.proofs.Bits.{enough, template_some, word_some, address_some, delay_few}
use Rattle.tta_hardware.proofs.Fitting.{signal, const, slice, join, select, negated, both, either, equal, below, plus, read, apply, any_fits, first_fits, all_of}
use Rattle.tta_hardware.proofs.WiresFit.{kept_filter, all_filter, as_word, file_bits, wide_file, fresh_fits, hit_fits, reached_fits, start_fits}

-- numbers of a list are below its length
pub numbered : {A : Type 0} (n j : ℕ) (xs : List A) → j + length xs ≤ n → AllByRecursion (λ (t : ℕ × A). t.0 < n) (enumerate_from j xs)
numbered n j [] few = tt
numbered n j (x ∷ xs) few = (omega (arith, few), numbered n (j + 1) xs (omega (arith, few)))

pub weaker : {A : Type 0} (P Q : A → Type 0) (xs : List A) → ((x : A) → P x → Q x) → AllByRecursion P xs → AllByRecursion Q xs
weaker P Q [] more all = tt
weaker P Q (x ∷ xs) more all = (more x all.0, weaker P Q xs more all.1)

module _ (m : Machine) (rules : IsMachine m) where
  -- ---- control's numbers

  address_few : m.control.address ≤ 16
  address_few = address_most m rules

  address_bits : nat_lt 0 m.control.address ≡ true
  address_bits = lt-ltb 0 m.control.address (address_some m rules)

  -- ---- results

  raw_fits : (unit : ℕ) (o : Option UnitOp) → Fits m (option_map_or (λ o. read_at o.op (Signal (Trigger unit))) o nothing) 32
  raw_fits unit None = const m 32 0 refl (pow_pos 32)
  raw_fits unit (Some o) = by o.op where
    by : (p : Op) → Fits m (read_at p (Signal (Trigger unit))) 32
    by Ldw = read m Data 32 _ refl (signal m (Trigger unit) refl)
    by Stw = read m Data 32 _ refl (signal m (Trigger unit) refl)
    by Ldf = read m Frame 32 _ refl (signal m (Trigger unit) refl)
    by Stf = read m Data 32 _ refl (signal m (Trigger unit) refl)
    by Out = read m Data 32 _ refl (signal m (Trigger unit) refl)
    by Take = read m Data 32 _ refl (signal m (Trigger unit) refl)
    by (Set id) = read m Data 32 _ refl (signal m (Trigger unit) refl)

  size_few : (o : Op) → space_size m o < 2 ^ 32
  size_few o = by o where
    words_few : m.data_words < 2 ^ 32
    words_few = let few = rules.limits.data_words in omega (arith, few)

    by : (p : Op) → space_size m p < 2 ^ 32
    by Ldw = words_few
    by Stw = words_few
    by Ldf = let few = rules.limits.frame_words in omega (arith, few)
    by Stf = words_few
    by Out = words_few
    by Take = words_few
    by (Set id) = words_few

  inside_fits : (unit : ℕ) (o : Option UnitOp)
      → Fits m (option_map_or (λ o. Below (Signal (Trigger unit)) (Const 32 (space_size m o.op))) o never) 1
  inside_fits unit None = const m 1 0 refl (omega arith)
  inside_fits unit (Some o) = below m 32 _ _ (signal m (Trigger unit) refl) (const m 32 (space_size m o.op) refl (size_few o.op))

  result_fits : (unit : ℕ) (o : UnitOp) → Fits m (result_of m unit o) 32
  result_fits unit o = by o.op where
    two : (b : Bool) → Fits m (if b then Signal (Operand unit) else nothing) 32
    two true = signal m (Operand unit) refl
    two false = const m 32 0 refl (pow_pos 32)

    by : (p : Op) → Fits m (result_of m unit (record o { op = p })) 32
    by Ldw = const m 32 0 refl (pow_pos 32)
    by Stw = const m 32 0 refl (pow_pos 32)
    by Ldf = const m 32 0 refl (pow_pos 32)
    by Stf = const m 32 0 refl (pow_pos 32)
    by Out = const m 32 0 refl (pow_pos 32)
    by Take = signal m Offer refl
    by (Set id) = apply m id.0 _ _ (two (o.arity == 2)) (signal m (Trigger unit) refl)

  begins_fit : (unit latency : ℕ) → Fits m (begins m unit latency) 1
  begins_fit unit latency =
      any_fits m (λ (o : ℕ × UnitOp). Signal (Starts unit o.0)) (timed m unit latency)
      (all_of m (λ (o : ℕ × UnitOp). Fits m (Signal (Starts unit o.0)) 1) (timed m unit latency) (λ o. signal m (Starts unit o.0) refl))

  made_fits : (unit latency : ℕ) → Fits m (made m unit latency) 32
  made_fits unit latency =
      first_fits m 32 (λ (o : ℕ × UnitOp). Signal (Starts unit o.0)) (λ o. result_of m unit o.1) (timed m unit latency) nothing
      (all_of m (λ (o : ℕ × UnitOp). Fits m (Signal (Starts unit o.0)) 1 × Fits m (result_of m unit o.1) 32) (timed m unit latency)
      (λ o. (signal m (Starts unit o.0) refl, result_fits unit o.1)))
      (const m 32 0 refl (pow_pos 32))

  is_coming_fits : (unit delay : ℕ) → Fits m (is_coming m unit delay) 1
  is_coming_fits unit delay = by (nat_lt delay (longest m unit)) where
    by : (b : Bool) → Fits m (if b then Signal (IsDue unit delay) else never) 1
    by true = signal m (IsDue unit delay) refl
    by false = const m 1 0 refl (omega arith)

  coming_fits : (unit delay : ℕ) → Fits m (coming m unit delay) 32
  coming_fits unit delay = by (nat_lt delay (longest m unit)) where
    by : (b : Bool) → Fits m (if b then fresh m unit (delay + 1) (Signal (Due unit delay)) else nothing) 32
    by true = fresh_fits m rules unit (delay + 1) (Signal (Due unit delay)) (signal m (Due unit delay) refl)
    by false = const m 32 0 refl (pow_pos 32)

  -- ---- places

  narrow_fits : (file bus : ℕ) → Fits m (narrowed m file (Signal (Word bus))) (width_of m file)
  narrow_fits file bus = by (width_of m file == 1) refl where
    by : (b : Bool) → (width_of m file == 1) ≡ b → Fits m (if b then Slice 0 1 (Signal (Word bus)) else Signal (Word bus)) (width_of m file)
    by true one = subst (λ (n : ℕ). Fits m (Slice 0 1 (Signal (Word bus))) n) (sym (eqb-true (width_of m file) 1 one))
        (slice m 0 1 (Word bus) refl (omega arith) (omega arith))
    by false other = subst (λ (n : ℕ). Fits m (Signal (Word bus)) n) (sym (wide_file m rules file other)) (signal m (Word bus) refl)

  longs_fit : (unit index : ℕ) → Fits m (kept_next m (KeptImm unit index)) 32
  longs_fit unit index =
      first_fits m 32 (λ (t : ℕ × Template). Equal (Signal (Fetched TemplateOf)) (Const (template_width m) (t.0 + 1)))
      (λ t. Signal (Fetched LongOf))
      (filter (λ t. t.1.imm == unit && t.1.reg == index) (enumerate_from 0 m.templates)) _
      (kept_filter (λ (t : ℕ × Template). Fits m (Equal (Signal (Fetched TemplateOf)) (Const (template_width m) (t.0 + 1))) 1
      × Fits m (Signal (Fetched LongOf)) 32)
      (λ t. t.1.imm == unit && t.1.reg == index) (enumerate_from 0 m.templates)
      (weaker (λ (t : ℕ × Template). t.0 < length m.templates)
      (λ (t : ℕ × Template). Fits m (Equal (Signal (Fetched TemplateOf)) (Const (template_width m) (t.0 + 1))) 1
      × Fits m (Signal (Fetched LongOf)) 32)
      (enumerate_from 0 m.templates)
      (λ t less. (
        equal m (template_width m) _ _
            (signal m (Fetched TemplateOf) (lt-ltb 0 (template_width m) (template_some m t.0 less)))
            (const m (template_width m) (t.0 + 1) (lt-ltb 0 (template_width m) (template_some m t.0 less))
            (let e = enough (1 + length m.templates) (template_width m) (omega arith) in omega (arith, e, less))),
        signal m (Fetched LongOf) refl,
      ))
      (numbered (length m.templates) 0 m.templates (omega arith))))
      (signal m (Keeps (KeptImm unit index)) refl)

  place_fits : (p : Place) → Fits m (next_of m (Keeps p)) (signal_width m (Keeps p))
  place_fits (KeptReg file index) =
      first_fits m (width_of m file) (hits m (dest.Reg file index)) (λ bus. narrowed m file (Signal (Word bus)))
      (buses_to m (dest.Reg file index)) _
      (all_filter (λ bus. Fits m (hits m (dest.Reg file index) bus) 1 × Fits m (narrowed m file (Signal (Word bus))) (width_of m file))
      (λ bus. is_dest_on m bus (dest.Reg file index)) (numbers (length m.buses))
      (λ bus on. (hit_fits m rules (dest.Reg file index) bus on, narrow_fits file bus)))
      (signal m (Keeps (KeptReg file index)) (file_bits m rules file))
  place_fits (KeptImm unit index) = longs_fit unit index
  place_fits (KeptOperand unit) = signal m (Operand unit) refl
  place_fits KeptRa =
      select m 32 _ _ _ (reached_fits m rules dest.Call)
      (plus m 32 _ _ (as_word m rules _ (32 - m.control.address + m.control.address) (omega (arith, address_few))
      (join m m.control.address (32 - m.control.address) _ _
      (const m (32 - m.control.address) 0 (lt-ltb 0 (32 - m.control.address) (omega (arith, address_few)))
      (pow_pos (32 - m.control.address)))
      (signal m Pc address_bits)))
      (const m 32 (1 + m.control.delay) refl (omega (arith, delay_few m rules)))) (signal m (Keeps KeptRa) refl)
  place_fits (KeptPort unit) =
      select m 32 _ _ _ (begins_fit unit 1) (made_fits unit 1)
      (select m 32 _ _ _ (is_coming_fits unit 1) (coming_fits unit 1) (signal m (Port unit) refl))

  -- ---- control

  pc_fits : Fits m (next_pc m) m.control.address
  pc_fits =
      let more : 2 ^ 1 ≤ 2 ^ m.control.address = pow_le 1 m.control.address (address_some m rules) in
      select m m.control.address _ _ _ (both m _ _ (signal m Lands refl) (negated m _ (signal m EndsNow refl)))
      (slice m 0 m.control.address GoalNow refl (address_some m rules) (omega (arith, address_few)))
      (plus m m.control.address _ _ (signal m Pc address_bits) (const m m.control.address 1 address_bits (omega (arith, more))))

  enables_fit : (n : Named) → Fits m (enabled n) 1
  enables_fit n = by (restarts n) where
    by : (b : Bool) → Fits m (if b then Either (Signal IsReset) (Signal Goes) else Signal Goes) 1
    by true = either m _ _ (signal m IsReset refl) (signal m Goes refl)
    by false = signal m Goes refl

  -- a test that a clock that begins anew clears
  cleared : (e : Expression) → Fits m e 1 → Fits m (Select (Signal IsReset) never e) 1
  cleared e f = select m 1 _ _ _ (signal m IsReset refl) (const m 1 0 refl (omega arith)) f

  underway_fits : (delay : ℕ) → Fits m (next_of m (Underway delay)) 1
  underway_fits delay = by (delay == m.control.delay) where
    by : (b : Bool) → Fits m (if b then Signal Controls else Signal (Underway (delay + 1))) 1
    by true = signal m Controls refl
    by false = signal m (Underway (delay + 1)) refl

  -- ---- spaces

  word_fits : (test : Op → Bool) (f : ℕ → Named) → ((unit : ℕ) → signal_width m (f unit) ≡ 32)
      → Fits m (word_of_start m test (λ unit. Signal (f unit))) 32
  word_fits test f wide =
      first_fits m 32 (λ (o : ℕ × ℕ). Signal (Starts o.0 o.1)) (λ o. Signal (f o.0)) (all_ops m test) nothing
      (all_of m (λ (o : ℕ × ℕ). Fits m (Signal (Starts o.0 o.1)) 1 × Fits m (Signal (f o.0)) 32) (all_ops m test)
      (λ o. (
        signal m (Starts o.0 o.1) refl,
        subst (λ (n : ℕ). Fits m (Signal (f o.0)) n) (wide o.0)
            (signal m (f o.0) (ap (nat_lt 0) (wide o.0))),
      )))
      (const m 32 0 refl (pow_pos 32))

  port_fits : (size : ℕ) (test : Op → Bool) → size < 2 ^ 32 → PortFits m (store_port m size test)
  port_fits size test few = record {
    enable = both m _ _ (signal m Goes refl)
        (both m _ _ (any_fits m (λ (o : ℕ × ℕ). Signal (Starts o.0 o.1)) (all_ops m test) (start_fits m rules (all_ops m test)))
        (below m 32 _ _ (word_fits test Operand (λ unit. refl)) (const m 32 size refl few)));
    address = word_fits test Operand (λ unit. refl);
    word = word_fits test Trigger (λ unit. refl);
  }

  pub registers_fit : RegistersFit m
  registers_fit = record {
    enables = enables_fit;
    next_pc = select m m.control.address _ _ _ (signal m IsReset refl)
        (const m m.control.address 0 address_bits (pow_pos m.control.address)) pc_fits;
    pc = signal m NextPc address_bits;
    whole = read m Code m.control.address _ (lt-ltb 0 (word_width m) (word_some m rules)) (signal m NextPc address_bits);
    halted = cleared _ (both m _ _ (signal m Lands refl) (signal m EndsNow refl));
    underway = λ delay. cleared _ (underway_fits delay);
    goal = signal m GoalNow refl;
    ends = signal m EndsNow refl;
    places = place_fits;
    is_due = λ unit delay. cleared _ (either m _ _ (begins_fit unit (delay + 1)) (is_coming_fits unit (delay + 1)));
    due = λ unit delay. select m 32 _ _ _ (begins_fit unit (delay + 1)) (made_fits unit (delay + 1)) (coming_fits unit (delay + 1));
    begun = λ unit op. signal m (Starts unit op) refl;
    raw = λ unit op. raw_fits unit (op_at m unit op);
    inside = λ unit op. inside_fits unit (op_at m unit op);
    stores = λ test. port_fits m.data_words test (let few = rules.limits.data_words in omega (arith, few));
    frame_stores = λ test. port_fits m.frame_words test (let few = rules.limits.frame_words in omega (arith, few));
  }

pub registers_are_sized : RegistersAreSized
registers_are_sized m rules = registers_fit m rules
