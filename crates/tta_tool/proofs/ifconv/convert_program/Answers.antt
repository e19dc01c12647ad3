use Rattle.std.proofs.Common.{inl}
use Rattle.tta_tool.specs.Cited.{stated}
use Rattle.tta_tool.proofs.Convertings.{writes_converted}
use Rattle.tta_tool.proofs.ifconv.convert_program.Goals as goal

pub returns-in-Ok : goal.returns-in-Ok
returns-in-Ok g c =
    let f = g.F.Files in
    let U = stated (λ v. (goal.OpUnit-dyn g v).unit_meaning v.1) c.args.units.now in
    let request = c.args.request.now in
    writes_converted U request.program.now request.out.now c.in-Ok.program
    (f.world c.args.files.now) (f.world c.source_file.new.files) (f.world c.write_made.new.files) (λ v. v.items) c.converted_text-made.result c.write_made.result
    c.in-Ok.ensures.ends c.converted_text-made.ensures c.write_made.ensures

pub returns-in-Err : goal.returns-in-Err
returns-in-Err g c = inl c.in-Err.ensures.ends
