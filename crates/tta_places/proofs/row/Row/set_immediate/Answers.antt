use Rattle.std.proofs.Common.{◌+◌, ◌*◌, sym, ap, ◌∙◌}
use Rattle.tta_places.specs.Cited.{KeptImm}
use Rattle.tta_places.proofs.row.Row.set_immediate.Goals as goal

pub returns : goal.returns
returns c = λ written had.
    let number = sym (ap (λ n. 512 + n * 16 + c.from-2.result) c.from.ensures ∙ ap (λ n. 512 + c.args.unit * 16 + n) c.from-2.ensures) in
    c.set.ensures (KeptImm c.args.unit c.args.index) written c.requires number had
