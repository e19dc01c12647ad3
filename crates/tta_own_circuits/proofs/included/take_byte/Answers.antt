use Rattle.tta_own_circuits.proofs.Inclusions.{newline, more_of_line}
use Rattle.tta_own_circuits.proofs.included.take_byte.Goals as goal

pub returns-then-byte-eq10 : goal.returns-then-byte-eq10
returns-then-byte-eq10 g c =
    newline _ _ _ c.args.out.now.items _ c.args.line.now.items c.as_slice.result.now c.clear.new.self.items c.args.byte c.if-byte-eq10.true
    c.as_slice.ensures.value c.clear.ensures.items c.in_ok-push_line.ensures

pub returns : goal.returns
returns g c =
    more_of_line _ _ _ c.args.out.now.items c.args.line.now.items c.push.new.self.items c.args.byte c.if-byte-eq10.false c.in_ok-push.ensures.items
