use Rattle.tta_tacrun.proofs.Placed.{run_started}
use Rattle.tta_tacrun.proofs.seq.Seq.load.Goals as goal

pub returns-clause-loaded : goal.returns-clause-loaded
returns-clause-loaded c = run_started c.args.p.now c.of.ensures.rules c.in_ok-of.field-0 _ _ _ c.in_ok-of.ensures.first c.in_ok-flat_code.ensures
