use Rattle.std.proofs.Common.{option_map, refl, inl}
use Rattle.tta_inspect.specs.Cited.{stated}
use Rattle.tta_inspect.proofs.Prompted.{opens}
use Rattle.tta_inspect.proofs.prompting.prompt_image.Goals as goal

pub returns-in-Ok : goal.returns-in-Ok
returns-in-Ok g c =
    let f = g.F.Files in
    let U = stated (λ v. (goal.OpUnit-dyn g v).unit_meaning v.1) c.args.units.now in
    let request = c.args.request.now in
    let read = c.in-Ok.field-0 in
    opens U request.machine.now request.image.now request.input.now (option_map (λ s. s.now) request.stream) read.pair.file read.pair.whole
    read.given.memory.items read.given.words.items (f.world c.args.files.now) (f.world c.read_all.new.files)
    (g.L.Lines.come c.args.lines.now) (g.L.Lines.come c.session_of.new.lines) (g.S.Sink.output c.args.sink.now) (g.S.Sink.output c.session_of.new.sink)
    c.session_of.result c.in-Ok.ensures.ends c.session_of.ensures

pub returns-in-Err : goal.returns-in-Err
returns-in-Err g c = inl (c.in-Err.ensures.ends, record { lines = refl; quiet = record { taken = refl; faults = refl } })
