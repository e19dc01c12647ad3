use Rattle.std.proofs.Common.{List, ◌∙◌, ap}
use Rattle.tta_stages.specs.Cited.{Block, first_by, parts}
use Rattle.tta_stages.proofs.lowered.parts_of.Goals as goal

pub returns : goal.returns
returns c =
    c.in_ok-all.ensures ∙ ap (λ (bs : List Block). parts c.args.p.now bs (first_by c.args.p.now c.args.live.now)) c.as_slice.ensures
