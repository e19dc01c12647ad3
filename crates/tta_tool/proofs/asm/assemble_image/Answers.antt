use Rattle.tta_tool.specs.Cited.{stated, no_memory, IsAssemblyFor, RefusesAssembly}
use Rattle.tta_tool.specs.Asm.{IsAssembled}
use Rattle.tta_load.proofs.Endings.{writes}
use Rattle.tta_tool.proofs.asm.assemble_image.Goals as goal

pub returns-in-Ok : goal.returns-in-Ok
returns-in-Ok g c =
    let f = g.F.Files in
    let U = stated (λ v. (goal.OpUnit-dyn g v).unit_meaning v.1) c.args.units.now in
    let request = c.args.request.now in
    let pair = c.in-Ok.pair in
    writes U (IsAssemblyFor U) (RefusesAssembly U) (IsAssembled) (λ file whole. no_memory) request.machine.now request.second.now request.out.now pair.file pair.whole
    (f.world c.args.files.now) (f.world c.assembly_pair.new.files) (f.world c.write_made.new.files) (λ v. v.items) c.image_of_whole-made.result c.write_made.result
    c.in-Ok.ensures.ends c.image_of_whole-made.ensures c.write_made.ensures
