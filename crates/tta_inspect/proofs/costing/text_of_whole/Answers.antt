use Rattle.std.specs.Prelude.{replicate}
use Rattle.std.proofs.Common.{◌∙◌}
use Rattle.std.proofs.lemmas.List.{length-replicate}
use Rattle.tta_code.specs.Whole.{data_in}
use Rattle.tta_list.proofs.Sets.{over-length}
use Rattle.tta_inspect.specs.Cited.{first_words}
use Rattle.tta_inspect.proofs.costing.text_of_whole.Goals as goal

pub returns-in-Ok : goal.returns-in-Ok
returns-in-Ok g c =
    let m = c.args.file.now.machine in
    let whole = c.args.whole.now in
    let words = replicate m.data_words 0 in
    c.in-Ok.ensures (first_words m whole) (over-length (data_in whole) words ∙ length-replicate m.data_words 0)
