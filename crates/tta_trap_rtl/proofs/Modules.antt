-- The text of the whole module, from its parts.
use Rattle.std.proofs.Common.{◌≡◌, ℕ, List, ◌++◌, Bool, true, false, map, ap, ◌∙◌}
use Rattle.std.specs.List.{flat_map}
use Rattle.std.proofs.lemmas.Grind.{flat_map-append}
use Rattle.tta_hardware.specs.Hardware.{circuit_with}
use Rattle.tta_hardware.specs.Registers.{register}
use Rattle.tta_rtl.specs.Functions.{functions_text}
use Rattle.tta_rtl.specs.Module.{memories_text}
use Rattle.tta_trap.specs.Trap.{trap_with, trap_wires}
use Rattle.tta_verilog.specs.Circuits.{store_text}
use Rattle.tta_trap_rtl.specs.Cited.{Machine, Rom, Units, core_text, names_of, register_names, register_text, watch_register, watch_registers}
use Rattle.tta_trap_rtl.specs.Texts.{trap_registers_text, trap_wires_text}

-- all registers
registers_are : (m : Machine) (declares : Bool)
    → flat_map (register_text (names_of m) declares) (map (register m) (register_names m) ++ map (watch_register m) (watch_registers m))
    ≡ trap_registers_text m declares
registers_are m declares =
    flat_map-append (register_text (names_of m) declares) (map (register m) (register_names m)) (map (watch_register m) (watch_registers m))

-- the parts of the circuit
pub parts_are : (u : Units) (m : Machine) (r : Rom) (count : ℕ) (words memory : List ℕ)
    → core_text u m r (trap_with m count words memory)
    ≡ trap_registers_text m true ++ (memories_text m r (circuit_with m words memory) ++ (functions_text u m
    ++ (trap_wires_text m count (trap_wires m) ++ (trap_registers_text m false
    ++ flat_map (store_text (names_of m)) (circuit_with m words memory).memories))))
parts_are u m r count words memory =
    let memories = memories_text m r (circuit_with m words memory) in
    let functions = functions_text u m in
    let wires = trap_wires_text m count (trap_wires m) in
    let stores = flat_map (store_text (names_of m)) (circuit_with m words memory).memories in
    let next = flat_map (register_text (names_of m) false) (map (register m) (register_names m) ++ map (watch_register m) (watch_registers m)) in
    ap (λ (t : List ℕ). t ++ (memories ++ (functions ++ (wires ++ (next ++ stores))))) (registers_are m true)
    ∙ ap (λ (t : List ℕ). trap_registers_text m true ++ (memories ++ (functions ++ (wires ++ (t ++ stores))))) (registers_are m false)
