use Rattle.tta_loadelim.specs.Copied.{AreSpare}
use Rattle.tta_loadelim.proofs.SpareRegisters.{spare_none}
use Rattle.tta_loadelim.proofs.sparing.spare_registers.Goals as goal

pub returns : goal.returns
returns c =
    let none : AreSpare c.args.hub c.args.b.now c.in_ok-fresh.fresh.items = rw c.in_ok-fresh.ensures.items (spare_none c.args.hub c.args.b.now) in
    c.in_ok-add_spare-2.ensures (c.in_ok-add_spare.ensures none)
