use Rattle.std.proofs.Common.{◌∙◌, sym}
use Rattle.tta_arch.proofs.Layouts.{set_width}
use Rattle.tta_machine.proofs.Completed.{narrow_found, narrow_later}
use Rattle.tta_machine.proofs.complete.narrow_line.Goals as goal

pub returns-then-width_of_set-lt-WORD_BITS : goal.returns-then-width_of_set-lt-WORD_BITS
returns-then-width_of_set-lt-WORD_BITS c =
    let m = c.args.m.now in let t = c.index-templates-k.result in
    let wide = c.width_of_set.ensures ∙ set_width m c.args.layout.now t.buses c.requires.layout in
    sym (narrow_found m c.args.templates.now c.args.lines.now c.loop-k.k t c.width_of_set.result c.loop-k-test.true c.requires.lines c.index-templates-k.is wide c.if-width_of_set-lt-WORD_BITS.true)
    ∙ c.loop-k.invariant

-- one template more is wide enough
pub loop-k-preserved : goal.loop-k-preserved
loop-k-preserved c =
    let m = c.args.m.now in let t = c.index-templates-k.result in
    let wide = c.width_of_set.ensures ∙ set_width m c.args.layout.now t.buses c.requires.layout in
    sym (narrow_later m c.args.templates.now c.args.lines.now c.loop-k.k t c.width_of_set.result c.loop-k-test.true c.requires.lines c.index-templates-k.is wide c.if-width_of_set-lt-WORD_BITS.false)
    ∙ c.loop-k.invariant
