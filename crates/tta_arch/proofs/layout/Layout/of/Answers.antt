use Rattle.std.proofs.Common.{arith}
use Rattle.tta_arch.proofs.Layouts.{fields_more, width_more}
use Rattle.tta_arch.proofs.layout.Layout.of.Goals as goal

pub loop-bus-preserved : goal.loop-bus-preserved
loop-bus-preserved c = record {
  buses = fields_more c.args.m.now c.loop-bus.buses.items _ c.in_ok-fields.fields c.loop-bus.bus c.in_ok-push.ensures.items c.in_ok-fields.ensures.value c.loop-bus.invariant.buses;
  width = width_more c.args.m.now c.width_for-template_width.result c.loop-bus.width c.in_ok-fields.fields c.loop-bus.bus c.in_ok-fields.ensures.value c.loop-bus.invariant.width;
  small = omega (arith, c.in_ok-fields.ensures.small);
}
