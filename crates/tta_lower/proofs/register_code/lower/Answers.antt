use Rattle.std.proofs.Common.{◌∙◌, ap, List}
use Rattle.tta_flow.specs.declared.flow.Block.{Block}
use Rattle.tta_lower.specs.Cited.{count_of}
use Rattle.tta_lower.specs.LoweringInput.{known_by}
use Rattle.tta_lower.specs.Lower.{lowered}
use Rattle.tta_lower.proofs.Standing.{code-of}
use Rattle.tta_lower.proofs.register_code.lower.Goals as goal

pub returns-clause-code : goal.returns-clause-code
returns-clause-code c =
    let p = c.args.p.now in
    let l = c.args.live.now in
    let h = c.args.homes.now in
    code-of p c.args.f.now.blocks l h c.args.frame_words _ c.in_ok-firsts.ensures.sound c.requires.flow c.requires.live c.requires.homes c.in_ok-firsts.ensures.room
    (c.in_ok-code.ensures ∙ ap (λ (bs : List Block). lowered p (known_by p bs l h) (count_of h)) c.as_slice-2.ensures)
