use Rattle.std.proofs.Common.{sym, subst}
use Rattle.tta_stages.specs.Cited.{stated, IsCodeFor}
use Rattle.tta_stages.specs.declared.stages.Stages.{Stages}
use Rattle.tta_stages.proofs.stages.stages_of.Goals as goal

pub returns-clause-stages : goal.returns-clause-stages
returns-clause-stages g c =
    let told = c.in_ok-stages.ensures in
    let U = stated (λ v. (goal.OpUnit-dyn g v).unit_meaning v.1) c.args.units.now in record {
      value = c.in_ok-value.value;
      is = c.in_ok-value.ensures.value;
      told = told;
      code = subst (λ (x : Stages). IsCodeFor U c.args.m.now c.args.p.now x.code) (sym told.is) c.in_ok-value.ensures.code;
    }
