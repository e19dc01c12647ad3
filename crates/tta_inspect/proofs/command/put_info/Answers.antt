use Rattle.tta_inspect.specs.Cited.{stated, no_memory, IsImageFor, RefusesImage}
use Rattle.tta_load.proofs.Endings.{puts}
use Rattle.tta_inspect.specs.Command.{IsTold}
use Rattle.tta_inspect.proofs.command.put_info.Goals as goal

pub returns-in-Ok : goal.returns-in-Ok
returns-in-Ok g c =
    let f = g.F.Files in
    let sink = g.S.Sink in
    let U = stated (λ v. (goal.OpUnit-dyn g v).unit_meaning v.1) c.args.units.now in
    let pair = c.in-Ok.pair in
    puts U IsImageFor RefusesImage IsTold (λ file whole. no_memory) c.args.names.now.machine.now c.args.names.now.image.now pair.file pair.whole
    (f.world c.args.files.now) (f.world c.image_pair.new.files) (sink.output c.args.sink.now) (sink.output c.put_made.new.sink)
    (λ v. v.items) c.text_of_image-made.result c.put_made.result c.in-Ok.ensures.ends c.text_of_image-made.ensures c.put_made.ensures
