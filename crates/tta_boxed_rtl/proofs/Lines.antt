-- The registers of a circuit that leaves operations to modules.
use Rattle.std.proofs.Common.{◌≡◌, ◌-◌, ◌++◌, ◌∷◌, [], ℕ, List, Bool, true, false, map, refl, sym, ap, ◌∙◌, append_assoc}
use Rattle.std.specs.Prelude.{codes}
use Rattle.std.specs.List.{flat_map, enumerate_from, range_with_len}
use Rattle.std.proofs.lemmas.List.{append-nil, map-append}
use Rattle.std.proofs.lemmas.List.Folds.{flat_map-map}
use Rattle.std.proofs.lemmas.Grind.{flat_map-append}
use Rattle.tta_arch.specs.declared.parts.Unit.{Unit as OpUnit}
use Rattle.tta_hardware.specs.Signals.{HasBegun, IsDue, IsInside, Raw, Signal as Named, Underway}
use Rattle.tta_hardware.specs.Hardware.{load_registers, result_registers}
use Rattle.tta_hardware.specs.Registers.{becomes, register_width, restarts}
use Rattle.tta_hardware.specs.Wires.{is_load}
use Rattle.tta_rtl.specs.Cited.{between}
use Rattle.tta_rtl.specs.Texts.{due_text, load_text, register_line, register_of, register_rest, register_start}
use Rattle.tta_verilog.specs.Circuits.{clocked}
use Rattle.tta_rtl.proofs.Modules.{kept_names}
use Rattle.tta_boxed_rtl.specs.Cited.{KeptImm, KeptOperand, KeptPort, KeptReg, Machine, UnitOp, longest, numbers, Boxes, Due, IsFrom, Keeps, Shows, Watch, register, register_names, unit_registers, box_name, names_of, place_name, signal_name, text_of, fixed, registers_of_file, registers_of_imm, underways, range, registers_text, register_text, box_inputs, box_registers, boxed, boxed_register, from_register, left_ops, op_registers, watch_register, watch_registers, watches_text}
use Rattle.tta_boxed_rtl.specs.Left.{all_left}
use Rattle.tta_boxed_rtl.specs.Texts.{due_line, due_next, from_becomes, from_line, left_lines, plain_lines, port_line, port_next, unit_lines}
use Rattle.tta_boxed_rtl.specs.Beside.{made_line}
use Rattle.tta_boxed_rtl.specs.Parts.{circuit_by, registers_lines}
use Rattle.tta_trap_rtl.proofs.Wires.{by_each}
use Rattle.tta_boxed_rtl.proofs.Lists.{by_both, each_by}

-- ---- lines

-- a register as it is declared, and what it takes at a clock, as a line
declared_is : (width : ℕ) (restarts : Bool) (name next : List ℕ)
    → codes "reg " ++ range width ++ name ++ codes ";\n" ≡ register_line true width restarts name next
unfolding register_start register_rest
declared_is width restarts name next = simp append_assoc

goes_is : (width : ℕ) (name next : List ℕ)
    → clocked (codes "n_goes") (name ++ codes " <= " ++ next ++ codes ";\n") ≡ register_line false width false name next
unfolding register_start register_rest
goes_is width name next = simp append_assoc

restarts_is : (width : ℕ) (name next : List ℕ)
    → clocked (codes "(reset)||(n_goes)") (name ++ codes " <= " ++ next ++ codes ";\n") ≡ register_line false width true name next
unfolding register_start register_rest
restarts_is width name next = simp append_assoc

line_is : (m : Machine) (d : Bool) (n : Named) (b : Bool) → restarts n ≡ b
    → register_text (names_of m) d (register m n) ≡ register_of m d n
unfolding register_of between
line_is m true n b is = declared_is (register_width m n) (restarts n) (signal_name m n) (text_of m (becomes m n))
line_is m false n true is = rw is (restarts_is (register_width m n) (signal_name m n) (text_of m (becomes m n)))
line_is m false n false is = rw is (goes_is (register_width m n) (signal_name m n) (text_of m (becomes m n)))

module _ (m : Machine) (leaves : ℕ → Bool) (d : Bool) where
  -- the text of a register by its name
  abbrev boxed_of : Named → List ℕ
  boxed_of n = register_text (names_of m) d (boxed_register m leaves (register m n))

  boxed_each : (ns : List Named)
      → flat_map (register_text (names_of m) d) (map (boxed_register m leaves) (map (register m) ns)) ≡ flat_map boxed_of ns
  boxed_each ns =
      flat_map-map (register_text (names_of m) d) (boxed_register m leaves) (map (register m) ns)
      ∙ flat_map-map (λ r. register_text (names_of m) d (boxed_register m leaves r)) (register m) ns

  -- ---- registers that are the same in both circuits

  -- whether the texts of these are the same
  abbrev Alike : List Named → Type 0
  Alike ns = flat_map boxed_of ns ≡ registers_text m d ns

  alike_append : (ns os : List Named) → Alike ns → Alike os → Alike (ns ++ os)
  alike_append ns os first second =
      flat_map-append boxed_of ns os
      ∙ ap (λ (t : List ℕ). t ++ flat_map boxed_of os) first ∙ ap (λ (t : List ℕ). registers_text m d ns ++ t) second
      ∙ sym (flat_map-append (register_text (names_of m) d) (map (register m) ns) (map (register m) os))
      ∙ ap (flat_map (register_text (names_of m) d)) (sym (map-append (register m) ns os))

  alike_each : {A : Type 0} (f : A → Named) → ((x : A) → boxed_register m leaves (register m (f x)) ≡ register m (f x)) → (xs : List A)
      → Alike (map f xs)
  alike_each f same [] = refl
  alike_each f same (x ∷ xs) =
      ap (λ r. register_text (names_of m) d r ++ flat_map boxed_of (map f xs)) (same x)
      ∙ ap (λ (t : List ℕ). register_text (names_of m) d (register m (f x)) ++ t) (alike_each f same xs)

  alike_all : {A : Type 0} (f : A → List Named) → ((x : A) → Alike (f x)) → (xs : List A) → Alike (flat_map f xs)
  alike_all f same [] = refl
  alike_all f same (x ∷ xs) = alike_append (f x) (flat_map f xs) (same x) (alike_all f same xs)

  kept_alike : Alike (kept_names m)
  kept_alike =
      alike_append (flat_map (λ f. registers_of_file f.0 f.1.size) (enumerate_from 0 m.files))
      (flat_map (λ i. registers_of_imm i.0 i.1.size) (enumerate_from 0 m.imms))
      (alike_all (λ f. registers_of_file f.0 f.1.size)
      (λ f. alike_each (λ index. Keeps (KeptReg f.0 index)) (λ index. refl) (numbers f.1.size)) (enumerate_from 0 m.files))
      (alike_all (λ i. registers_of_imm i.0 i.1.size)
      (λ i. alike_each (λ index. Keeps (KeptImm i.0 index)) (λ index. refl) (numbers i.1.size)) (enumerate_from 0 m.imms))

  states_alike : Alike (underways m ++ fixed)
  states_alike = alike_append (underways m) fixed (alike_each Underway (λ delay. refl) (range_with_len 1 m.control.delay)) refl

  -- ---- the registers of a unit

  same_line : (n : Named) → boxed_register m leaves (register m n) ≡ register m n → boxed_of n ≡ register_of m d n
  same_line n same = ap (register_text (names_of m) d) same ∙ line_is m d n (restarts n) refl

  due_is : (unit delay : ℕ) → boxed_of (IsDue unit delay) ≡ due_text m d unit delay
  unfolding due_text
  due_is unit delay = same_line (IsDue unit delay) refl

  load_is : (unit : ℕ) (o : ℕ × UnitOp) (b : Bool) → is_load o.1.op ≡ b → flat_map boxed_of (load_registers unit o) ≡ load_text m d unit o
  unfolding load_text
  load_is unit o true is =
      let began = register_of m d (HasBegun unit o.0) in
      let raw = register_of m d (Raw unit o.0) in
      rw is (
      ap (λ (t : List ℕ). t ++ (boxed_of (Raw unit o.0) ++ (boxed_of (IsInside unit o.0) ++ []))) (same_line (HasBegun unit o.0) refl)
      ∙ ap (λ (t : List ℕ). began ++ (t ++ (boxed_of (IsInside unit o.0) ++ []))) (same_line (Raw unit o.0) refl)
      ∙ ap (λ (t : List ℕ). began ++ (raw ++ (t ++ []))) (same_line (IsInside unit o.0) refl)
      ∙ ap (λ (t : List ℕ). began ++ (raw ++ t)) (append-nil (register_of m d (IsInside unit o.0))))
  load_is unit o false is = rw is refl

port_is : (m : Machine) (leaves : ℕ → Bool) (d : Bool) (unit : ℕ) → boxed_of m leaves d (Keeps (KeptPort unit)) ≡ port_line m leaves d unit
unfolding port_line
port_is m leaves true unit = declared_is 32 false (place_name m (KeptPort unit)) (text_of m (port_next m leaves unit))
port_is m leaves false unit = goes_is 32 (place_name m (KeptPort unit)) (text_of m (port_next m leaves unit))

due_word_is : (m : Machine) (leaves : ℕ → Bool) (d : Bool) (unit delay : ℕ)
    → boxed_of m leaves d (Due unit delay) ≡ due_line m leaves d unit delay
unfolding due_line
due_word_is m leaves true unit delay = declared_is 32 false (signal_name m (Due unit delay)) (text_of m (due_next m leaves unit delay))
due_word_is m leaves false unit delay = goes_is 32 (signal_name m (Due unit delay)) (text_of m (due_next m leaves unit delay))

from_is : (m : Machine) (leaves : ℕ → Bool) (d : Bool) (unit op latency delay : ℕ)
    → register_text (names_of m) d (from_register m leaves unit op latency delay) ≡ from_line m leaves d unit op latency delay
unfolding from_line between
from_is m leaves true unit op latency delay =
    declared_is 1 true (box_name m (IsFrom unit op delay)) (text_of m (from_becomes m leaves unit op latency delay))
from_is m leaves false unit op latency delay =
    restarts_is 1 (box_name m (IsFrom unit op delay)) (text_of m (from_becomes m leaves unit op latency delay))

unit_is : (m : Machine) (leaves : ℕ → Bool) (d : Bool) (u : ℕ × OpUnit)
    → flat_map (boxed_of m leaves d) (unit_registers m u) ≡ unit_lines m leaves d u
unfolding unit_lines
unit_is m leaves d u =
    let unit : ℕ = u.0 in
    let g : Named → List ℕ = boxed_of m leaves d in
    let ds = range_with_len 1 (longest m unit - 1) in
    let os = flat_map (load_registers unit) (enumerate_from 0 u.1.ops) in
    let dues = flat_map (due_text m d unit) ds in
    let loads = flat_map (load_text m d unit) (enumerate_from 0 u.1.ops) in
    let words = flat_map (due_line m leaves d unit) ds in
    flat_map-append g (result_registers m unit) os
    ∙ ap (λ (t : List ℕ). (g (Keeps (KeptOperand unit)) ++ (g (Keeps (KeptPort unit)) ++ t)) ++ flat_map g os)
    (flat_map-append g (map (IsDue unit) ds) (map (Due unit) ds)
    ∙ ap (λ (t : List ℕ). t ++ flat_map g (map (Due unit) ds)) (each_by g (IsDue unit) (due_text m d unit) (due_is m leaves d unit) ds)
    ∙ ap (λ (t : List ℕ). dues ++ t) (each_by g (Due unit) (due_line m leaves d unit) (due_word_is m leaves d unit) ds))
    ∙ ap (λ (t : List ℕ). (g (Keeps (KeptOperand unit)) ++ (g (Keeps (KeptPort unit)) ++ (dues ++ words))) ++ t)
    (by_each g (load_registers unit) (load_text m d unit) (λ o. load_is m leaves d unit o (is_load o.1.op) refl)
    (enumerate_from 0 u.1.ops))
    ∙ ap (λ (t : List ℕ). (t ++ (g (Keeps (KeptPort unit)) ++ (dues ++ words))) ++ loads)
    (same_line m leaves d (Keeps (KeptOperand unit)) refl)
    ∙ ap (λ (t : List ℕ). (register_of m d (Keeps (KeptOperand unit)) ++ (t ++ (dues ++ words))) ++ loads)
    (port_is m leaves d unit)
    ∙ simp append_assoc

-- ---- all registers

-- those that a circuit has that makes all operations itself
plain_is : (m : Machine) (leaves : ℕ → Bool) (d : Bool)
    → flat_map (register_text (names_of m) d) (map (boxed_register m leaves) (map (register m) (register_names m)))
    ≡ plain_lines m leaves d
plain_is m leaves d =
    let g : Named → List ℕ = boxed_of m leaves d in
    let kept = kept_names m in
    let units = flat_map (unit_registers m) (enumerate_from 0 m.units) in
    let states : List Named = underways m ++ fixed in
    boxed_each m leaves d (register_names m)
    ∙ ap (flat_map g) (append_assoc (kept ++ units) (underways m) fixed)
    ∙ flat_map-append g (kept ++ units) states
    ∙ ap (λ (t : List ℕ). t ++ flat_map g states) (flat_map-append g kept units)
    ∙ append_assoc (flat_map g kept) (flat_map g units) (flat_map g states)
    ∙ ap (λ (t : List ℕ). t ++ (flat_map g units ++ flat_map g states)) (kept_alike m leaves d)
    ∙ ap (λ (t : List ℕ). registers_text m d kept ++ (t ++ flat_map g states))
    (by_each g (unit_registers m) (unit_lines m leaves d) (unit_is m leaves d) (enumerate_from 0 m.units))
    ∙ ap (λ (t : List ℕ). registers_text m d kept ++ (flat_map (unit_lines m leaves d) (enumerate_from 0 m.units) ++ t))
    (states_alike m leaves d)

-- those that tell whose results are
froms_are : (m : Machine) (leaves : ℕ → Bool) (d : Bool)
    → flat_map (register_text (names_of m) d) (box_registers m leaves) ≡ flat_map (left_lines m leaves d) (all_left m leaves)
unfolding left_lines
froms_are m leaves d =
    by_both (register_text (names_of m) d) (left_lines m leaves d)
    (λ (u : ℕ × OpUnit). flat_map (op_registers m leaves u.0) (left_ops m leaves u.0))
    (λ u. map (λ o. (u.0, o)) (left_ops m leaves u.0))
    (λ u. by_each (register_text (names_of m) d) (op_registers m leaves u.0) (λ o. left_lines m leaves d (u.0, o))
    (λ o. each_by (register_text (names_of m) d) (from_register m leaves u.0 o.0 o.1.latency) (from_line m leaves d u.0 o.0 o.1.latency)
    (from_is m leaves d u.0 o.0 o.1.latency) (range_with_len 1 (o.1.latency - 1))) (left_ops m leaves u.0)
    ∙ sym (flat_map-map (left_lines m leaves d) (λ o. (u.0, o)) (left_ops m leaves u.0)))
    (enumerate_from 0 m.units)

-- the words that modules show
pub made_are : (m : Machine) (leaves : ℕ → Bool)
    → flat_map (made_line m) (box_inputs m leaves) ≡ flat_map (λ l. made_line m (Boxes (Shows l.0 l.1.0), 32)) (all_left m leaves)
made_are m leaves =
    let line : ℕ × (ℕ × UnitOp) → List ℕ = λ l. made_line m (Boxes (Shows l.0 l.1.0), 32) in
    by_both (made_line m) line (λ (u : ℕ × OpUnit). map (λ o. (Boxes (Shows u.0 o.0), 32)) (left_ops m leaves u.0))
    (λ u. map (λ o. (u.0, o)) (left_ops m leaves u.0))
    (λ u. flat_map-map (made_line m) (λ (o : ℕ × UnitOp). (Boxes (Shows u.0 o.0), 32)) (left_ops m leaves u.0)
    ∙ sym (flat_map-map line (λ (o : ℕ × UnitOp). (u.0, o)) (left_ops m leaves u.0)))
    (enumerate_from 0 m.units)

-- those that tell faults stay as they are
watches_are : (m : Machine) (leaves : ℕ → Bool) (ws : List Watch)
    → map (boxed_register m leaves) (map (watch_register m) ws) ≡ map (watch_register m) ws
watches_are m leaves [] = refl
watches_are m leaves (w ∷ ws) = ap (λ rs. watch_register m w ∷ rs) (watches_are m leaves ws)

-- all of them
pub registers_are : (m : Machine) (leaves : ℕ → Bool) (faults d : Bool) (count : ℕ) (words memory : List ℕ)
    → flat_map (register_text (names_of m) d) (boxed m leaves (circuit_by faults m count words memory)).registers
    ≡ registers_lines m leaves faults d
registers_are m leaves false d count words memory =
    flat_map-append (register_text (names_of m) d) (map (boxed_register m leaves) (map (register m) (register_names m)))
    (box_registers m leaves)
    ∙ ap (λ (t : List ℕ). t ++ flat_map (register_text (names_of m) d) (box_registers m leaves)) (plain_is m leaves d)
    ∙ ap (λ (t : List ℕ). plain_lines m leaves d ++ t) (froms_are m leaves d)
registers_are m leaves true d count words memory =
    let g = register_text (names_of m) d in
    let plain = map (register m) (register_names m) in
    let watches = map (watch_register m) (watch_registers m) in
    let froms = flat_map g (box_registers m leaves) in
    flat_map-append g (map (boxed_register m leaves) (plain ++ watches)) (box_registers m leaves)
    ∙ ap (λ rs. flat_map g rs ++ froms) (map-append (boxed_register m leaves) plain watches)
    ∙ ap (λ (t : List ℕ). t ++ froms) (flat_map-append g (map (boxed_register m leaves) plain) (map (boxed_register m leaves) watches))
    ∙ ap (λ (t : List ℕ). (t ++ flat_map g (map (boxed_register m leaves) watches)) ++ froms) (plain_is m leaves d)
    ∙ ap (λ rs. (plain_lines m leaves d ++ flat_map g rs) ++ froms) (watches_are m leaves (watch_registers m))
    ∙ append_assoc (plain_lines m leaves d) (watches_text m d (watch_registers m)) froms
    ∙ ap (λ (t : List ℕ). plain_lines m leaves d ++ (watches_text m d (watch_registers m) ++ t)) (froms_are m leaves d)
