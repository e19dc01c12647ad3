-- The registers of units.
use Rattle.std.proofs.Common.{◌≡◌, ◌+◌, ◌-◌, ◌++◌, ◌∷◌, ℕ, List, [], Bool, true, false, map, refl, ap, sym, ◌∙◌, append_assoc}
use Rattle.std.specs.List.{flat_map, enumerate_from, range_with_len}
use Rattle.std.proofs.lemmas.List.{append-nil}
use Rattle.std.proofs.lemmas.List.Concat.{flat_map-cons}
use Rattle.std.proofs.lemmas.Grind.{flat_map-append}
use Rattle.tta_arch.specs.declared.parts.Unit.{Unit as OpUnit}
use Rattle.tta_rtl.specs.Cited.{UnitOp, Machine, KeptOperand, KeptPort, Keeps, IsDue, Due, is_load, longest, load_registers, result_registers, unit_registers, register, register_text, names_of}
use Rattle.tta_hardware.specs.Signals.{Signal as Named}
use Rattle.tta_rtl.specs.Texts.{due_text, due_word_text, load_text, register_of, registers_text, unit_registers_text}
use Rattle.tta_rtl.proofs.RegisterTexts.{line_of_register}

-- the registers of a list, one after another
registers_each : (m : Machine) (declares : Bool) (ns : List Named) → registers_text m declares ns ≡ flat_map (register_of m declares) ns
unfolding register_of
registers_each m declares [] = refl
registers_each m declares (n ∷ ns) =
    flat_map-cons (register_text (names_of m) declares) (register m n) (map (register m) ns)
    ∙ ap (λ (r : List ℕ). r ++ registers_text m declares ns) (line_of_register m declares n)
    ∙ ap (λ (r : List ℕ). register_of m declares n ++ r) (registers_each m declares ns)
    ∙ sym (flat_map-cons (register_of m declares) n ns)

each_of : {A : Type 0} (g : Named → List ℕ) (f : A → List Named) (xs : List A)
    → flat_map g (flat_map f xs) ≡ flat_map (λ x. flat_map g (f x)) xs
each_of g f [] = refl
each_of g f (x ∷ xs) =
    ap (flat_map g) (flat_map-cons f x xs) ∙ flat_map-append g (f x) (flat_map f xs)
    ∙ ap (λ (r : List ℕ). flat_map g (f x) ++ r) (each_of g f xs)
    ∙ sym (flat_map-cons (λ x. flat_map g (f x)) x xs)

-- the registers of all units
pub units_registers : (m : Machine) (declares : Bool) (us : List (ℕ × OpUnit))
    → registers_text m declares (flat_map (unit_registers m) us) ≡ flat_map (unit_registers_text m declares) us
unfolding unit_registers_text
units_registers m declares us =
    registers_each m declares (flat_map (unit_registers m) us) ∙ each_of (register_of m declares) (unit_registers m) us

-- whether results are due, one delay after another
pub dues_each : (m : Machine) (declares : Bool) (unit : ℕ) (ds : List ℕ)
    → flat_map (register_of m declares) (map (IsDue unit) ds) ≡ flat_map (due_text m declares unit) ds
unfolding due_text
dues_each m declares unit [] = refl
dues_each m declares unit (d ∷ ds) =
    flat_map-cons (register_of m declares) (IsDue unit d) (map (IsDue unit) ds)
    ∙ ap (λ (r : List ℕ). register_of m declares (IsDue unit d) ++ r) (dues_each m declares unit ds)
    ∙ sym (flat_map-cons (due_text m declares unit) d ds)

due_words_each : (m : Machine) (declares : Bool) (unit : ℕ) (ds : List ℕ)
    → flat_map (register_of m declares) (map (Due unit) ds) ≡ flat_map (due_word_text m declares unit) ds
unfolding due_word_text
due_words_each m declares unit [] = refl
due_words_each m declares unit (d ∷ ds) =
    flat_map-cons (register_of m declares) (Due unit d) (map (Due unit) ds)
    ∙ ap (λ (r : List ℕ). register_of m declares (Due unit d) ++ r) (due_words_each m declares unit ds)
    ∙ sym (flat_map-cons (due_word_text m declares unit) d ds)

load_each : (m : Machine) (declares : Bool) (unit : ℕ) (o : ℕ × UnitOp) (b : Bool) → is_load o.1.op ≡ b
    → flat_map (register_of m declares) (load_registers unit o) ≡ load_text m declares unit o
unfolding load_text
load_each m declares unit o true is = rw is (simp append-nil)
load_each m declares unit o false is = rw is refl

-- the registers of loads, one operation after another
pub loads_each : (m : Machine) (declares : Bool) (unit : ℕ) (os : List (ℕ × UnitOp))
    → flat_map (register_of m declares) (flat_map (load_registers unit) os) ≡ flat_map (load_text m declares unit) os
loads_each m declares unit [] = refl
loads_each m declares unit (o ∷ os) =
    ap (flat_map (register_of m declares)) (flat_map-cons (load_registers unit) o os)
    ∙ flat_map-append (register_of m declares) (load_registers unit o) (flat_map (load_registers unit) os)
    ∙ ap (λ (r : List ℕ). r ++ flat_map (register_of m declares) (flat_map (load_registers unit) os)) (load_each m declares unit o (is_load o.1.op) refl)
    ∙ ap (λ (r : List ℕ). load_text m declares unit o ++ r) (loads_each m declares unit os)
    ∙ sym (flat_map-cons (load_text m declares unit) o os)

-- the registers of a unit one after another
pub unit_registers_parts : (m : Machine) (declares : Bool) (unit : ℕ) (u : OpUnit)
    → unit_registers_text m declares (unit, u)
    ≡ register_of m declares (Keeps (KeptOperand unit)) ++ (register_of m declares (Keeps (KeptPort unit))
    ++ (flat_map (due_text m declares unit) (range_with_len 1 (longest m unit - 1))
    ++ (flat_map (due_word_text m declares unit) (range_with_len 1 (longest m unit - 1))
    ++ flat_map (load_text m declares unit) (enumerate_from 0 u.ops))))
unfolding unit_registers_text
unit_registers_parts m declares unit u =
    let g = register_of m declares in
    let ds = range_with_len 1 (longest m unit - 1) in
    let os = flat_map (load_registers unit) (enumerate_from 0 u.ops) in
    flat_map-append g (result_registers m unit) os
    ∙ ap (λ (r : List ℕ). (g (Keeps (KeptOperand unit)) ++ (g (Keeps (KeptPort unit)) ++ r)) ++ flat_map g os)
    (flat_map-append g (map (IsDue unit) ds) (map (Due unit) ds)
    ∙ ap (λ (r : List ℕ). r ++ flat_map g (map (Due unit) ds)) (dues_each m declares unit ds)
    ∙ ap (λ (r : List ℕ). flat_map (due_text m declares unit) ds ++ r) (due_words_each m declares unit ds))
    ∙ ap (λ (r : List ℕ). (g (Keeps (KeptOperand unit)) ++ (g (Keeps (KeptPort unit))
    ++ (flat_map (due_text m declares unit) ds ++ flat_map (due_word_text m declares unit) ds))) ++ r)
    (loads_each m declares unit (enumerate_from 0 u.ops))
    ∙ simp append_assoc
