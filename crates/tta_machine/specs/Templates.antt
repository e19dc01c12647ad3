-- A template of a line.
use Rattle.std.specs.Prelude.{ℕ, [], ◌∷◌, ◌++◌, length}
use Rattle.tta_machine.specs.Cited.{Template}
use Rattle.tta_machine.specs.declared.draft.Draft.{Draft}
use Rattle.tta_machine.specs.declared.draft.Named.TheVariants as place

-- the draft with a template more, with its name and with the line where it stands
abbrev pub with_template : Draft → (line : ℕ) → Template → Draft
with_template d line t = record d {
  names = d.names ++ (t.name, place.Template (length d.templates)) ∷ [];
  templates = d.templates ++ t ∷ [];
  template_lines = d.template_lines ++ line ∷ [];
}
