use Rattle.tta_inspect.specs.Cited.{stated}
use Rattle.tta_inspect.proofs.subject.subject_of.Goals as goal

pub returns-then-begins_as_image-clause-takes : goal.returns-then-begins_as_image-clause-takes
returns-then-begins_as_image-clause-takes g c =
    c.code_in.ensures.takes (stated (λ v. (goal.OpUnit-dyn g v).unit_meaning v.1) c.args.units.now)

pub returns-then-begins_as_image-clause-suits : goal.returns-then-begins_as_image-clause-suits
returns-then-begins_as_image-clause-suits g c =
    c.code_in.ensures.suits (stated (λ v. (goal.OpUnit-dyn g v).unit_meaning v.1) c.args.units.now)
