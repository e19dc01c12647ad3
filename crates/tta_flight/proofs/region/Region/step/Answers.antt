use Rattle.std.proofs.Common.{◌∙◌, sym}
use Rattle.tta_flight.proofs.Stepped.{stepped_still, stepped_shown, come_still, come_shown}
use Rattle.tta_flight.proofs.region.Region.step.Goals as goal

pub returns-in-Some-clause-come : goal.returns-in-Some-clause-come
returns-in-Some-clause-come c =
    come_shown c.args.unit c.in-Some.value _ _ _ c.take.ensures.turned (sym c.take.ensures.taken ∙ c.in-Some.is) c.show.ensures

pub returns-in-Some-clause-advanced : goal.returns-in-Some-clause-advanced
returns-in-Some-clause-advanced c = λ over.
    stepped_shown c.args.unit c.in-Some.value _ _ _ c.requires c.take.ensures.turned (sym c.take.ensures.taken ∙ c.in-Some.is) c.show.ensures

pub returns-in_default-clause-come : goal.returns-in_default-clause-come
returns-in_default-clause-come c =
    come_still c.args.unit _ _ c.take.ensures.turned (sym c.take.ensures.taken ∙ c.in_default.is)

pub returns-in_default-clause-advanced : goal.returns-in_default-clause-advanced
returns-in_default-clause-advanced c = λ over.
    stepped_still c.args.unit _ _ c.requires c.take.ensures.turned over (sym c.take.ensures.taken ∙ c.in_default.is)
