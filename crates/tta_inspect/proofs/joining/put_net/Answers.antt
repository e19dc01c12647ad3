use Rattle.std.proofs.Common.{ℕ, List, Option, map, sym, ap, subst}
use Rattle.std.proofs.lemmas.List.{length-map}
use Rattle.std.specs.String.{string_bytes}
use Rattle.tta_inspect.specs.Cited.{stated, IsTaken, cores_in, AreLinks}
use Rattle.tta_inspect.specs.Joining.{ShowsCores}
use Rattle.tta_inspect.proofs.Joined.{links_shown}
use Rattle.tta_inspect.proofs.joining.put_net.Goals as goal

pub returns-in-Ok : goal.returns-in-Ok
returns-in-Ok g c =
    let f = g.F.Files in
    let sink = g.S.Sink in
    let U = stated (λ v. (goal.OpUnit-dyn g v).unit_meaning v.1) c.args.units.now in
    let request = c.args.request.now in
    let names = map (λ w. string_bytes w) request.names.now in
    let before = f.world c.args.files.now in
    let between = f.world c.links_file.new.files in
    let after = f.world c.put_cores.new.files in
    let old = sink.output c.args.sink.now in
    let new = sink.output c.put_cores.new.sink in
    let count = ap cores_in (sym (length-map request.names.now (λ w. string_bytes w))) in
    let Shows : List (Option ℕ) → Type 0 = λ feeds. ShowsCores U request.depths.now names feeds between after old new c.put_cores.result in
    links_shown U request.depths.now request.links.now names c.in-Ok.feeds.items before between after old new c.put_cores.result
    (subst (λ (n : ℕ). IsTaken (AreLinks n) request.links.now c.in-Ok.feeds.items before between) count c.in-Ok.ensures.ends)
    (subst Shows c.as_slice.ensures.value c.put_cores.ensures)
