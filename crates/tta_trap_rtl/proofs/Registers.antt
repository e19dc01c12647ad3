-- The registers of a circuit that tells the first fault.
use Rattle.std.proofs.Common.{◌≡◌, ◌++◌, ◌∷◌, [], ℕ, List, Bool, true, false, length, map, refl, ap, ◌∙◌, append_assoc}
use Rattle.std.specs.List.{flat_map, enumerate_from}
use Rattle.std.proofs.lemmas.List.{append-nil}
use Rattle.std.proofs.lemmas.List.Folds.{flat_map-map}
use Rattle.std.proofs.lemmas.Grind.{flat_map-append}
use Rattle.tta_rtl.specs.Cited.{between}
use Rattle.tta_rtl.specs.Texts.{register_start, register_rest}
use Rattle.tta_trap.specs.Memory.{places}
use Rattle.tta_arch.specs.Effects.{Place}
use Rattle.tta_trap_rtl.specs.Cited.{Machine, File, ImmUnit, numbers, KeptImm, KeptOperand, KeptPort, KeptRa, KeptReg, HasWord, IsPast, Watch, names_of, register_text, watch_register, watch_registers}
use Rattle.tta_trap_rtl.specs.Texts.{lines_of_file, lines_of_imm, lines_of_unit, places_lines, watch_line, watches_text}
use Rattle.tta_trap_rtl.proofs.Wires.{by_each}

line_is : (m : Machine) (declares : Bool) (w : Watch) → register_text (names_of m) declares (watch_register m w) ≡ watch_line m declares w
unfolding watch_line register_start register_rest between
line_is m true w = simp append_assoc
line_is m false w = simp append_assoc

lines_are : (m : Machine) (declares : Bool) (ws : List Watch) → watches_text m declares ws ≡ flat_map (watch_line m declares) ws
lines_are m declares [] = refl
lines_are m declares (w ∷ ws) =
    ap (λ (t : List ℕ). t ++ watches_text m declares ws) (line_is m declares w)
    ∙ ap (λ (t : List ℕ). watch_line m declares w ++ t) (lines_are m declares ws)

-- the line of what says whether a place has had a word
abbrev place_line : Machine → (declares : Bool) → Place → List ℕ
place_line m declares p = watch_line m declares (HasWord p)

file_is : (m : Machine) (declares : Bool) (f : ℕ × File)
    → flat_map (place_line m declares) (map (KeptReg f.0) (numbers f.1.size)) ≡ lines_of_file m declares f
unfolding lines_of_file
file_is m declares f = flat_map-map (place_line m declares) (KeptReg f.0) (numbers f.1.size)

imm_is : (m : Machine) (declares : Bool) (i : ℕ × ImmUnit)
    → flat_map (place_line m declares) (map (KeptImm i.0) (numbers i.1.size)) ≡ lines_of_imm m declares i
unfolding lines_of_imm
imm_is m declares i = flat_map-map (place_line m declares) (KeptImm i.0) (numbers i.1.size)

unit_is : (m : Machine) (declares : Bool) (unit : ℕ)
    → flat_map (place_line m declares) (KeptOperand unit ∷ KeptPort unit ∷ []) ≡ lines_of_unit m declares unit
unfolding lines_of_unit
unit_is m declares unit = ap (λ (t : List ℕ). watch_line m declares (HasWord (KeptOperand unit)) ++ t) (append-nil (watch_line m declares (HasWord (KeptPort unit))))

places_are : (m : Machine) (declares : Bool) → flat_map (place_line m declares) (places m) ≡ places_lines m declares
places_are m declares =
    let g : Place → List ℕ = place_line m declares in
    let files = flat_map (λ f. map (KeptReg f.0) (numbers f.1.size)) (enumerate_from 0 m.files) in
    let imms = flat_map (λ i. map (KeptImm i.0) (numbers i.1.size)) (enumerate_from 0 m.imms) in
    let units = flat_map (λ unit. KeptOperand unit ∷ KeptPort unit ∷ []) (numbers (length m.units)) in
    let last : List Place = KeptRa ∷ [] in
    flat_map-append g ((files ++ imms) ++ units) last
    ∙ ap (λ (t : List ℕ). t ++ flat_map g last) (flat_map-append g (files ++ imms) units)
    ∙ ap (λ (t : List ℕ). (t ++ flat_map g units) ++ flat_map g last) (flat_map-append g files imms)
    ∙ append_assoc (flat_map g files ++ flat_map g imms) (flat_map g units) (flat_map g last)
    ∙ append_assoc (flat_map g files) (flat_map g imms) (flat_map g units ++ flat_map g last)
    ∙ ap (λ (t : List ℕ). t ++ (flat_map g imms ++ (flat_map g units ++ flat_map g last)))
    (by_each g (λ (f : ℕ × File). map (KeptReg f.0) (numbers f.1.size)) (lines_of_file m declares) (file_is m declares) (enumerate_from 0 m.files))
    ∙ ap (λ (t : List ℕ). flat_map (lines_of_file m declares) (enumerate_from 0 m.files) ++ (t ++ (flat_map g units ++ flat_map g last)))
    (by_each g (λ (i : ℕ × ImmUnit). map (KeptImm i.0) (numbers i.1.size)) (lines_of_imm m declares) (imm_is m declares) (enumerate_from 0 m.imms))
    ∙ ap (λ (t : List ℕ). flat_map (lines_of_file m declares) (enumerate_from 0 m.files)
    ++ (flat_map (lines_of_imm m declares) (enumerate_from 0 m.imms) ++ (t ++ flat_map g last)))
    (by_each g (λ unit. KeptOperand unit ∷ KeptPort unit ∷ []) (lines_of_unit m declares) (unit_is m declares) (numbers (length m.units)))
    ∙ ap (λ (t : List ℕ). flat_map (lines_of_file m declares) (enumerate_from 0 m.files)
    ++ (flat_map (lines_of_imm m declares) (enumerate_from 0 m.imms)
    ++ (flat_map (lines_of_unit m declares) (numbers (length m.units)) ++ t))) (append-nil (g KeptRa))

-- all registers that a circuit has more
pub watches_are : (m : Machine) (declares : Bool)
    → watches_text m declares (watch_registers m) ≡ places_lines m declares ++ watch_line m declares IsPast
watches_are m declares =
    let line : Watch → List ℕ = watch_line m declares in
    lines_are m declares (watch_registers m)
    ∙ flat_map-append line (map HasWord (places m)) (IsPast ∷ [])
    ∙ ap (λ (t : List ℕ). t ++ flat_map line (IsPast ∷ [])) (flat_map-map line HasWord (places m) ∙ places_are m declares)
    ∙ ap (λ (t : List ℕ). places_lines m declares ++ t) (append-nil (line IsPast))
