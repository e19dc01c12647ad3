use Rattle.std.proofs.Common.{◌+◌, ◌-◌, ◌<◌, ◌++◌, List, ℕ, arith, ap, sym, ◌∙◌}
use Rattle.std.specs.List.{flat_map, range_with_len}
use Rattle.tta_list.proofs.Lists.{then_more}
use Rattle.tta_list.proofs.Results.{onward}
use Rattle.tta_boxed_rtl.specs.Left.{told_by}
use Rattle.tta_boxed_rtl.specs.Texts.{due_line}
use Rattle.tta_verilog.proofs.Lists.{one_more}
use Rattle.tta_boxed_rtl.proofs.registers.+push_dues.Goals as goal

pub returns : goal.returns
returns t c =
    let some : 0 < c.args.count = omega arith in
    let f = due_line c.args.at.now.on.now.m.now (told_by c.args.at.now.leaves.now) c.args.declares c.args.unit in
    onward c.push_dues.result (λ last.
    then_more _ _ _ (f c.args.delay) (flat_map f (range_with_len (c.args.delay + 1) (c.args.count - 1))) c.in_ok-push_due.ensures last
    ∙ ap (λ (t : List ℕ). c.args.out.now.items ++ t) (sym (one_more f c.args.delay c.args.count some))) c.push_dues.ensures
