-- What is told of a machine.
use Rattle.std.specs.Prelude.{ℕ, List, ◌++◌, codes}
use Rattle.tta_arch.specs.declared.layout.Layout.{Layout}
use Rattle.tta_arch.specs.Machine.{Machine}
use Rattle.tta_arch.specs.Layout.{layout_of}
use Rattle.tta_info.specs.Lines.{count_text}
use Rattle.tta_info.specs.Buses.{buses_text}
use Rattle.tta_info.specs.Parts.{files_text, imms_text, templates_text}
use Rattle.tta_info.specs.Chosen.{build_text}

-- the bits of an instruction and of its template's field
unfoldable pub widths_text : (instruction template : ℕ) → List ℕ
widths_text instruction template =
    count_text (codes "instruction ") instruction ++ (count_text (codes "\ntemplate ") template ++ codes "\n")

-- these, and what is told of each bus
unfoldable pub layout_text : Machine → Layout → List ℕ
layout_text m l = widths_text l.width l.template_width ++ buses_text m l.buses

-- files, immediate units and templates
unfoldable pub parts_text : Machine → List ℕ
parts_text m = files_text m.files ++ (imms_text m.imms ++ templates_text m m.templates)

-- the fields of an instruction, the registers, and what `build` chooses
unfoldable pub info_of_machine : Machine → List ℕ
info_of_machine m = layout_text m (layout_of m) ++ (parts_text m ++ build_text m)
