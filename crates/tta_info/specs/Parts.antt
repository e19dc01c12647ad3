-- What is told of each file, immediate unit and template.
use Rattle.std.specs.Prelude.{ℕ, List, ◌++◌, codes, decimal}
use Rattle.std.specs.List.{flat_map}
use Rattle.tta_arch.specs.declared.parts.File.{File}
use Rattle.tta_arch.specs.declared.parts.ImmUnit.{ImmUnit}
use Rattle.tta_arch.specs.declared.parts.Template.{Template}
use Rattle.tta_arch.specs.Machine.{Machine}
use Rattle.tta_disasm.specs.Canonical.{imm_name, place_text}
use Rattle.tta_info.specs.Lines.{count_text, start_text}

-- a file: how many registers it has, of how many bits, and how many moves of a cycle read and write it
unfoldable pub file_text : File → List ℕ
file_text f =
    start_text (codes "file ") f.name (codes " registers ")
    ++ (decimal f.size
    ++ (count_text (codes " bits ") f.width ++ (count_text (codes " reads ") f.read ++ (count_text (codes " writes ") f.write ++ codes "\n"))))

-- files
abbrev pub files_text : List File → List ℕ
files_text files = flat_map file_text files

-- an immediate unit
unfoldable pub imm_text : ImmUnit → List ℕ
imm_text i = start_text (codes "imm ") i.name (codes " registers ") ++ (decimal i.size ++ codes "\n")

-- immediate units
abbrev pub imms_text : List ImmUnit → List ℕ
imms_text imms = flat_map imm_text imms

-- a template, and the register that it writes
unfoldable pub template_text : Machine → Template → List ℕ
template_text m t =
    start_text (codes "template ") t.name (codes " writes ") ++ (place_text (imm_name m t.imm) t.reg ++ codes "\n")

-- templates
abbrev pub templates_text : Machine → List Template → List ℕ
templates_text m templates = flat_map (template_text m) templates
