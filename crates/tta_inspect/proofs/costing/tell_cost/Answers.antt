use Rattle.std.specs.Prelude.{replicate}
use Rattle.std.proofs.lemmas.List.{length-replicate}
use Rattle.tta_inspect.proofs.costing.tell_cost.Goals as goal

pub returns : goal.returns
returns g c =
    let words = c.args.file.now.machine.data_words in
    c.tell_machine.ensures (replicate words 0) (length-replicate words 0)
