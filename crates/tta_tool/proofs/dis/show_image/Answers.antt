use Rattle.tta_tool.specs.Cited.{stated, no_memory, IsImageFor, RefusesImage}
use Rattle.tta_tool.specs.Dis.{IsShown}
use Rattle.tta_load.proofs.Endings.{writes}
use Rattle.tta_tool.proofs.dis.show_image.Goals as goal

pub returns-in-Ok : goal.returns-in-Ok
returns-in-Ok g c =
    let f = g.F.Files in
    let U = stated (λ v. (goal.OpUnit-dyn g v).unit_meaning v.1) c.args.units.now in
    let request = c.args.request.now in
    let pair = c.in-Ok.pair in
    writes U (IsImageFor) (RefusesImage) (IsShown U) (λ file whole. no_memory) request.machine.now request.second.now request.out.now pair.file pair.whole
    (f.world c.args.files.now) (f.world c.image_pair.new.files) (f.world c.write_made.new.files) (λ v. v.items) c.text_of_pair-made.result c.write_made.result
    c.in-Ok.ensures.ends c.text_of_pair-made.ensures c.write_made.ensures
