use Rattle.std.proofs.Common.{◌++◌, ap, ◌∙◌}
use Rattle.std.specs.Prelude.{codes, decimal}
use Rattle.tta_list.proofs.Lists.{then_more}
use Rattle.tta_waves.proofs.changes.push_fault.Goals as goal

pub returns : goal.returns
returns c =
    let old = c.args.out.now.items in
    let one = c.extend_from_slice.new.self.items in
    let two = c.push_number.new.out.items in
    let number = c.in_ok-push_number.ensures ∙ ap (λ n. one ++ decimal n) c.from.ensures in
    then_more old one c.extend_from_slice-2.new.self.items (codes "$comment fault ") (decimal c.args.number ++ codes " $end\n") c.in_ok-extend_from_slice.ensures.items
    (then_more one two c.extend_from_slice-2.new.self.items (decimal c.args.number) (codes " $end\n") number c.in_ok-extend_from_slice-2.ensures.items)
