use Rattle.std.proofs.Common.{ap}
use Rattle.std.specs.Prelude.{slice_set}
use Rattle.tta_tacrun.proofs.words.Words.set.Goals as goal

pub returns-then-i-len : goal.returns-then-i-len
returns-then-i-len c = ap (λ words. slice_set words c.args.i c.args.word) c.self.view_is
