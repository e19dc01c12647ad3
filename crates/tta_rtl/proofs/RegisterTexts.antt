-- The lines of registers.
use Rattle.std.proofs.Common.{◌≡◌, ◌+◌, ◌++◌, ◌∷◌, [], List, ℕ, Bool, true, false, map, length, refl, ap, ◌∙◌, append_assoc}
use Rattle.std.specs.Prelude.{◌==◌, ◌&&◌}
use Rattle.std.specs.List.{flat_map, enumerate_from, range_with_len}
use Rattle.std.proofs.lemmas.List.{map-append}
use Rattle.std.proofs.lemmas.List.Folds.{flat_map-map}
use Rattle.std.proofs.lemmas.Grind.{flat_map-append}
use Rattle.tta_arch.specs.declared.ends.Dest.TheVariants as dest
use Rattle.tta_rtl.specs.Cited.{Template, KeptReg, KeptImm, width_of, numbers, template_width, is_dest_on, Machine, Signal, Const, Equal, Word, Keeps, Underway, Fetched, TemplateOf, LongOf, Expression, hits, buses_to, register, register_width, restarts, becomes, kept_next, narrowed, longs, between, register_text, names_of, signal_name, text_of}
use Rattle.tta_hardware.specs.Signals.{Signal as Named}
use Rattle.tta_rtl.specs.Texts.{register_start, register_rest, register_line, registers_text}
use Rattle.tta_rtl.specs.Kept.{brought, file_line, imm_line, line_of, long_choice, registers_of_file, registers_of_imm, template_choice, underway_line, underway_name, underways}
use Rattle.tta_rtl.proofs.Choices.{choices_passed, text_first}

next_line : (m : Machine) (n : Named) (b : Bool) → restarts n ≡ b
    → register_text (names_of m) false (register m n)
    ≡ register_line false (register_width m n) (restarts n) (signal_name m n) (text_of m (becomes m n))
unfolding register_start register_rest between
next_line m n true is = rw is (simp append_assoc)
next_line m n false is = rw is (simp append_assoc)

-- the text of a register is its line
pub line_of_register : (m : Machine) (declares : Bool) (n : Named)
    → register_text (names_of m) declares (register m n)
    ≡ register_line declares (register_width m n) (restarts n) (signal_name m n) (text_of m (becomes m n))
unfolding register_start register_rest
line_of_register m true n = simp append_assoc
line_of_register m false n = next_line m n (restarts n) refl

-- registers line by line
pub lines_of : (m : Machine) (declares : Bool) (ns : List Named) → registers_text m declares ns ≡ flat_map (line_of m declares) ns
lines_of m declares [] = refl
lines_of m declares (n ∷ ns) =
    ap (λ (t : List ℕ). t ++ registers_text m declares ns) (line_of_register m declares n)
    ∙ ap (λ (t : List ℕ). line_of m declares n ++ t) (lines_of m declares ns)

-- some registers by their numbers
pub numbered_lines : (m : Machine) (declares : Bool) (f : ℕ → Named) (ks : List ℕ)
    → registers_text m declares (map f ks) ≡ flat_map (λ k. line_of m declares (f k)) ks
numbered_lines m declares f ks = lines_of m declares (map f ks) ∙ flat_map-map (line_of m declares) f ks

-- the registers of a file by their numbers
pub file_lines : (m : Machine) (declares : Bool) (file size : ℕ)
    → registers_text m declares (registers_of_file file size) ≡ flat_map (file_line m declares file) (numbers size)
unfolding file_line
file_lines m declares file size = numbered_lines m declares (λ index. Keeps (KeptReg file index)) (numbers size)

-- the same of an immediate unit
pub imm_lines : (m : Machine) (declares : Bool) (unit size : ℕ)
    → registers_text m declares (registers_of_imm unit size) ≡ flat_map (imm_line m declares unit) (numbers size)
unfolding imm_line
imm_lines m declares unit size = numbered_lines m declares (λ index. Keeps (KeptImm unit index)) (numbers size)

-- what says when control moves take effect
pub underway_lines : (m : Machine) (declares : Bool)
    → registers_text m declares (underways m) ≡ flat_map (underway_line m declares) (range_with_len 1 m.control.delay)
unfolding underway_line underway_name
underway_lines m declares = numbered_lines m declares Underway (range_with_len 1 m.control.delay)

-- registers and more registers
pub registers_append : (m : Machine) (declares : Bool) (ns os : List Named)
    → registers_text m declares (ns ++ os) ≡ registers_text m declares ns ++ registers_text m declares os
registers_append m declares ns os =
    ap (flat_map (register_text (names_of m) declares)) (map-append (register m) ns os)
    ∙ flat_map-append (register_text (names_of m) declares) (map (register m) ns) (map (register m) os)

-- what a register of a file keeps from now on
pub file_next : (m : Machine) (file index : ℕ)
    → text_of m (kept_next m (KeptReg file index))
    ≡ flat_map (brought m (dest.Reg file index) (width_of m file == 1)) (numbers (length m.buses)) ++ text_of m (Signal (Keeps (KeptReg file index)))
unfolding brought
file_next m file index =
    let dst = dest.Reg file index in
    let keeps : Expression = Signal (Keeps (KeptReg file index)) in
    text_first m (map (λ bus. (hits m dst bus, narrowed m file (Signal (Word bus)))) (buses_to m dst)) keeps
    ∙ ap (λ (t : List ℕ). t ++ text_of m keeps)
    (choices_passed m (λ b. is_dest_on m b dst) (hits m dst) (λ b. narrowed m file (Signal (Word b))) (numbers (length m.buses)))

-- what a register of an immediate unit keeps from now on
pub imm_next : (m : Machine) (unit index : ℕ)
    → text_of m (kept_next m (KeptImm unit index))
    ≡ flat_map (long_choice m unit index) (enumerate_from 0 m.templates) ++ text_of m (Signal (Keeps (KeptImm unit index)))
unfolding long_choice template_choice
imm_next m unit index =
    let keeps : Expression = Signal (Keeps (KeptImm unit index)) in
    text_first m (longs m unit index) keeps
    ∙ ap (λ (t : List ℕ). t ++ text_of m keeps)
    (choices_passed m (λ (t : ℕ × Template). t.1.imm == unit && t.1.reg == index)
    (λ t. Equal (Signal (Fetched TemplateOf)) (Const (template_width m) (t.0 + 1))) (λ t. Signal (Fetched LongOf)) (enumerate_from 0 m.templates))
