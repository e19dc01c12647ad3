use Rattle.std.proofs.Common.{subst}
use Rattle.tta_flight.specs.Rings.{IsAdvanced}
use Rattle.tta_flight.proofs.Standing.{stands_advanced}
use Rattle.tta_flight.proofs.region.Region.advance.Goals as goal

pub returns-clause-held : goal.returns-clause-held
returns-clause-held c = subst (λ n. IsAdvanced 0 n c.args.self.now c.steps.new.self) c.units-count.ensures.all c.steps.ensures

pub returns-clause-same : goal.returns-clause-same
returns-clause-same c = λ f stands. stands_advanced f _ _ stands _ _ (returns-clause-held c)
