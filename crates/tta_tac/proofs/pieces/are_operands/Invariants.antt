use Rattle.std.proofs.Common.{◌≡◌, true, is_some, take}
use Rattle.std.specs.List.{list_all}
use Rattle.tta_tac.specs.Cited.{plain}
use Rattle.tta_tac.specs.Forms.{operand_of}
use Rattle.tta_tac.proofs.pieces.are_operands.Given as goal

abbrev pub invariant-loop-word : goal.invariant-loop-word
invariant-loop-word l = list_all (λ w. is_some (operand_of (plain w))) (take l.word-index l.words) ≡ true
