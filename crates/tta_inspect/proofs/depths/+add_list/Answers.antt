use Rattle.std.proofs.Common.{◌<◌, arith}
use Rattle.tta_list.proofs.Results.{onward}
use Rattle.tta_inspect.proofs.Powers.{list_added}
use Rattle.tta_inspect.proofs.depths.+add_list.Goals as goal

pub returns : goal.returns
returns t c =
    let some : 0 < c.args.count = omega (arith, c.if-count-eq0.false) in
    onward c.add_list.result
    (list_added c.args.count c.args.bytes.now c.first_of.result.now c.rest_of.result.now c.args.found.now.items c.push.new.self.items c.add_list.new.found.items
    c.comma_at-at.result c.depth_or_zero.result some c.comma_at-at.ensures.at c.first_of.ensures c.depth_or_zero.ensures c.in_ok-push.ensures.items c.rest_of.ensures)
    c.add_list.ensures
