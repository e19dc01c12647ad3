-- The texts that are printed of circuits, with the words of the code in them, are such texts.
use Rattle.std.specs.Prelude.{◌≡◌, ℕ, Bool, true}
use Rattle.tta_ops.specs.Units.{Units}
use Rattle.tta_arch.specs.Machine.{Machine}
use Rattle.tta_circuit.specs.Circuit.{Circuit}
use Rattle.tta_hardware.specs.Signals.{Store, Signal as Named}
use Rattle.tta_boxed.specs.Boxed.{box_inputs}
use Rattle.tta_verilog.specs.Circuits.{parts_text, parts_beside}
use Rattle.tta_verilog.specs.Laws.{begins_apart, begins_behind}
use Rattle.tta_names.specs.Names.{names_of}
use Rattle.tta_rtl.specs.declared.rom.Rom.TheVariants as rom
use Rattle.tta_rtl.specs.Functions.{functions_text as offered_functions}
use Rattle.tta_rtl.specs.Module.{core_text}
use Rattle.tta_boxed_rtl.specs.Left.{functions_text as made_functions}
use Rattle.tta_boxed_rtl.specs.Beside.{module_lines}
use Rattle.tta_boxed_rtl.specs.Module.{core_text as core_beside}

-- What stands between the ports of a circuit, whether or not it tells faults, is the text of its parts with the functions of the operations
-- that the machine offers, which begin as no register and no memory does.
abbrev pub PrintedText : Type 0
PrintedText =
    (u : Units) (m : Machine) (c : Circuit Named Store)
    → (core_text u m rom.Text c ≡ parts_text (names_of m) (offered_functions u m) c)
    × (begins_apart (offered_functions u m) ≡ true)

-- With modules it is the text of its parts with the functions of the operations that are not left to them, with what the modules show, and
-- with the modules, which begin as no register, no memory and no wire does.
abbrev pub PrintedBoxedText : Type 0
PrintedBoxedText =
    (u : Units) (m : Machine) (leaves : ℕ → Bool) (c : Circuit Named Store)
    → (core_beside u m rom.Text leaves c
    ≡ parts_beside (names_of m) (made_functions u m leaves) (box_inputs m leaves) (module_lines u m leaves) c)
    × ((begins_apart (made_functions u m leaves) ≡ true) × (begins_behind (module_lines u m leaves) ≡ true))
