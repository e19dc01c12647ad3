use Rattle.tta_machine.proofs.Over.{text_over}
use Rattle.tta_machine.proofs.Said.{machine-said, text_machine}
use Rattle.tta_machine.proofs.laws.texts_are_machines.Goals as goal

pub returns : goal.returns
returns c = record {
  machine = text_machine;
  over = λ u text m h. text_over u text m (machine-said u text m h);
}
