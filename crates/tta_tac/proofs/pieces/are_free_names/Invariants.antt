use Rattle.std.proofs.Common.{◌≡◌, true, is_some, take}
use Rattle.std.specs.List.{list_all}
use Rattle.tta_tac.specs.Cited.{plain}
use Rattle.tta_tac.specs.Forms.{free_name}
use Rattle.tta_tac.proofs.pieces.are_free_names.Given as goal

abbrev pub invariant-loop-word : goal.invariant-loop-word
invariant-loop-word l = list_all (λ w. is_some (free_name (plain w))) (take l.word-index l.words) ≡ true
