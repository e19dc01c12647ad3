use Rattle.std.proofs.Common.{rules, ◌≡◌, ◌≤◌, length}
use Rattle.tta_stdin.proofs.Gone.{long_line}
use Rattle.tta_stdin.proofs.one_line.read_line.Goals as goal

pub returns-then-len-limit : goal.returns-then-len-limit
returns-then-len-limit g c =
    let one : length c.read.new.buf ≡ 1 = search rules in
    let most : c.in-Ok.count ≤ 1 = search rules in
    let full : length c.bytes.line.items ≡ c.args.limit = search rules in
    long_line _ _ _ c.args.limit c.bytes.line.items c.read.new.buf c.in-Ok.count c.bytes.invariant full c.in-Ok.ensures.bytes.0 one most c.if-count-eq0.false
