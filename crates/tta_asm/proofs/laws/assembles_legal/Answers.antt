use Rattle.tta_asm.proofs.AssembledLegal.{assembled_legal}
use Rattle.tta_asm.proofs.ShownOnce.{text_assembled}
use Rattle.tta_asm.proofs.laws.assembles_legal.Goals as goal

pub returns : goal.returns
returns c = record { legal = assembled_legal; back = text_assembled }
