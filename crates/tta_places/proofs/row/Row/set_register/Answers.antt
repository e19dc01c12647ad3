use Rattle.std.proofs.Common.{◌+◌, ◌*◌, sym, ap, ◌∙◌}
use Rattle.tta_places.specs.Cited.{KeptReg}
use Rattle.tta_places.proofs.row.Row.set_register.Goals as goal

pub returns : goal.returns
returns c = λ written had.
    let number = sym (ap (λ n. n * 64 + c.from-2.result) c.from.ensures ∙ ap (λ n. c.args.file * 64 + n) c.from-2.ensures) in
    c.set.ensures (KeptReg c.args.file c.args.index) written c.requires number had
