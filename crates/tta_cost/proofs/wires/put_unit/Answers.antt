use Rattle.std.proofs.Common.{[], ◌∷◌, map, length}
use Rattle.tta_cost.specs.Cited.{numbers, Starts, Trigger, Operand}
use Rattle.tta_cost.proofs.Tally.{wires_two}
use Rattle.tta_cost.proofs.wires.put_unit.Goals as goal

pub returns : goal.returns
returns c =
    wires_two c.args.on.now.applied.now c.args.on.now.m.now (map (Starts c.args.unit) (numbers (length c.args.u.now.ops))) (Trigger c.args.unit ∷ Operand c.args.unit ∷ []) _ _ _ c.put_all_starts.ensures c.put_words.ensures
