use Rattle.std.proofs.Common.{ℕ, Bool, List, Option, sym, ap, subst, ◌∙◌, map}
use Rattle.std.specs.Prelude.{◌==◌, slice_set}
use Rattle.tta_optim.specs.Notes.{AreStamps, set_wanted}
use Rattle.tta_optim.proofs.Stamps.{wanted_put, wanted_put_stamps}
use Rattle.tta_optim.proofs.wanted.LiveOperands.set.Goals as goal

pub invariant_of-self : goal.invariant_of-self
invariant_of-self c =
    subst (λ (s : ℕ). AreStamps c.self.inside.list (slice_set c.self.inside.marks.items c.in-Some.n s)) (sym c.mark_of.ensures)
    (wanted_put_stamps c.self.inside.list c.self.inside.marks.items c.in-Some.n c.args.is c.self.invariant)

pub returns-then-n-len : goal.returns-then-n-len
returns-then-n-len c =
    ap (λ (s : ℕ). map (λ mark. mark == c.self.inside.list) (slice_set c.self.inside.marks.items c.in-Some.n s)) c.mark_of.ensures
    ∙ wanted_put c.self.inside.list c.self.inside.marks.items c.in-Some.n c.args.is c.self.invariant
    ∙ ap (λ (l : List Bool). slice_set l c.in-Some.n c.args.is) c.self.view_is
    ∙ ap (λ (o : Option ℕ). set_wanted c.args.self.now o c.args.is) (sym c.in-Some.is)
