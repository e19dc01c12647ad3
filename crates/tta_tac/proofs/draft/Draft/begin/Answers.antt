use Rattle.std.proofs.Common.{◌∙◌, sym}
use Rattle.tta_tac.proofs.Lines.{begins}
use Rattle.tta_tac.proofs.draft.Draft.begin.Goals as goal

pub returns : goal.returns
returns c =
    c.put_back.ensures
    ∙ sym (begins c.args.self.now c.in_ok-proc.proc _ c.args.name.now c.add.new.self c.len-number.result
    c.in_ok-add.ensures.ok c.len-number.ensures c.in_ok-proc.ensures)
