use Rattle.std.proofs.Common.{option_map, inr}
use Rattle.tta_tool.specs.Cited.{stated, IsImageFor}
use Rattle.tta_load.proofs.Endings.{pair_then}
use Rattle.tta_tool.specs.Debug.{AskedRuns}
use Rattle.tta_tool.proofs.debugging.debug_image.Goals as goal

pub returns-in-Ok : goal.returns-in-Ok
returns-in-Ok g c =
    let f = g.F.Files in
    let sink = g.S.Sink in
    let U = stated (λ v. (goal.OpUnit-dyn g v).unit_meaning v.1) c.args.units.now in
    let pair = c.in-Ok.pair in
    let request = c.args.request.now in
    let names = request.names in
    let after = f.world c.debug_pair.new.files in
    let old = sink.output c.args.sink.now in
    let new = sink.output c.debug_pair.new.sink in
    inr (pair_then U IsImageFor names.machine.now names.second.now pair.file pair.whole (f.world c.args.files.now) (f.world c.image_pair.new.files)
    (λ x v w. AskedRuns U x.machine v names.input.now request.script.now (option_map (λ s. s.now) names.stream) w after old new c.debug_pair.result)
    c.in-Ok.ensures.ends c.debug_pair.ensures)
