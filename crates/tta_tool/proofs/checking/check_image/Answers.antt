use Rattle.tta_tool.specs.Cited.{stated, IsImageFor, RefusesImage}
use Rattle.tta_load.proofs.Endings.{puts}
use Rattle.tta_tool.specs.Check.{IsCalledSafe, IsFound}
use Rattle.tta_tool.proofs.checking.check_image.Goals as goal

pub returns-in-Ok : goal.returns-in-Ok
returns-in-Ok g c =
    let f = g.F.Files in
    let sink = g.S.Sink in
    let U = stated (λ v. (goal.OpUnit-dyn g v).unit_meaning v.1) c.args.units.now in
    let request = c.args.request.now in
    let pair = c.in-Ok.pair in
    puts U IsImageFor RefusesImage IsCalledSafe IsFound request.machine.now request.image.now pair.file pair.whole
    (f.world c.args.files.now) (f.world c.image_pair.new.files) (sink.output c.args.sink.now) (sink.output c.put_made.new.sink)
    (λ v. v.items) c.line_of_pair-made.result c.put_made.result c.in-Ok.ensures.ends c.line_of_pair-made.ensures c.put_made.ensures
