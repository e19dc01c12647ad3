use Rattle.std.proofs.Common.{arith, sym, ◌∙◌}
use Rattle.std.proofs.lemmas.Grind.{common_steps}
use Rattle.tta_input.proofs.Cuts.{lines_of-none, lines_of-last, lines_of-ended}
use Rattle.tta_input.specs.Lines.{lines_of}
use Rattle.tta_input.proofs.lines.Lines.next_line.Goals as goal

pub returns-then-is_empty : goal.returns-then-is_empty
returns-then-is_empty c = sym c.self.view_is ∙ lines_of-none c.self.inside.rest.now (grind (arith))

pub returns-then-end-rest : goal.returns-then-end-rest
unfolding lines_of
returns-then-end-rest c =
    sym c.self.view_is
    ∙ lines_of-last c.self.inside.rest.now (grind (arith)) (sym c.line_len-end.ensures.len ∙ c.if-end-rest.true)

pub returns : goal.returns
returns c =
    let len = c.line_len-end.result in
    let rest = c.self.inside.rest.now in
    let cut = lines_of-ended rest len (sym c.line_len-end.ensures.len) (grind (arith, common_steps)) in
    let front = sym c.without_return.ensures in
    let r = sym c.self.view_is ∙ cut in
    grind (arith, common_steps, r, front)
