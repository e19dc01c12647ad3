use Rattle.std.proofs.Common.{◌<◌, ◌+◌, ◌-◌, ℕ, List, ◌++◌, sym, ap, ◌∙◌, arith}
use Rattle.std.specs.List.{flat_map}
use Rattle.tta_list.proofs.Lists.{then_more}
use Rattle.tta_list.proofs.Results.{onward}
use Rattle.tta_divider_rtl.specs.Cited.{register_text, stage_registers}
use Rattle.tta_divider_rtl.specs.Texts.{divider_names}
use Rattle.tta_divider_rtl.specs.Pieces.{behind_text}
use Rattle.tta_divider_rtl.proofs.Cuts.{registers_more}
use Rattle.tta_divider_rtl.proofs.registers.+push_registers.Goals as goal

pub returns : goal.returns
returns t c =
    let stages = c.args.stages in
    let stage = c.args.stage in
    let declares = c.args.declares in
    let some : 0 < c.args.count = omega (arith, c.if-count-eq0.false) in
    let one = behind_text declares stages stage in
    let others = flat_map (register_text divider_names declares) (stage_registers stages (stage + 1) (c.args.count - 1)) in
    onward c.push_registers.result (λ last.
    then_more _ _ _ one others c.in_ok-push_behind.ensures last
    ∙ ap (λ (text : List ℕ). c.args.out.now.items ++ text) (sym (registers_more stages stage c.args.count declares some)))
    c.push_registers.ensures
