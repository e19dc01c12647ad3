use Rattle.std.proofs.Common.{List, ap, ◌∙◌}
use Rattle.std.specs.Prelude.{slice_set}
use Rattle.tta_optim.specs.declared.notes.Note.{Note}
use Rattle.tta_optim.proofs.Stamps.{notes_put, notes_put_stamps}
use Rattle.tta_optim.proofs.notes.Notes.put.Goals as goal

pub invariant_of-self : goal.invariant_of-self
invariant_of-self c = notes_put_stamps c.self.inside.list c.self.inside.entries.items c.args.place c.args.note c.self.invariant

pub returns-then-place-len : goal.returns-then-place-len
returns-then-place-len c =
    notes_put c.self.inside.list c.self.inside.entries.items c.args.place c.args.note
    ∙ ap (λ (l : List Note). slice_set l c.args.place c.args.note) c.self.view_is
