use Rattle.std.proofs.Common.{ℕ, map, sym, ap, subst}
use Rattle.std.proofs.lemmas.List.{length-map}
use Rattle.std.specs.String.{string_bytes}
use Rattle.tta_inspect.specs.Cited.{stated, no_memory, TextEnds, cores_in, TakesCores}
use Rattle.tta_load.proofs.Endings.{text_ends}
use Rattle.tta_inspect.specs.Depths.{depths_in}
use Rattle.tta_inspect.specs.Joining.{IsNetText}
use Rattle.tta_inspect.proofs.Joined.{cores_shown}
use Rattle.tta_inspect.proofs.joining.put_cores.Goals as goal

pub returns-in-Ok : goal.returns-in-Ok
returns-in-Ok g c =
    let f = g.F.Files in
    let sink = g.S.Sink in
    let U = stated (λ v. (goal.OpUnit-dyn g v).unit_meaning v.1) c.args.units.now in
    let request = c.args.request.now in
    let names = map (λ w. string_bytes w) request.names.now in
    let feeds = c.args.feeds.now in
    let cores = c.in-Ok.taken.cores.items in
    let memories = map (λ v. v.items) c.in-Ok.taken.memories.items in
    let before = f.world c.args.files.now in
    let after = f.world c.core_files.new.files in
    let old = sink.output c.args.sink.now in
    let new = sink.output c.put_made.new.sink in
    let count = ap cores_in (sym (length-map request.names.now (λ w. string_bytes w))) in
    cores_shown U request.depths.now names feeds cores memories before after old new c.put_made.result
    (subst (λ (n : ℕ). TakesCores U names n cores memories before after) count c.in-Ok.ensures.ends)
    (subst (λ (n : ℕ). TextEnds (IsNetText U cores memories feeds (depths_in n request.depths.now)) no_memory old new c.put_made.result) count
    (text_ends (IsNetText U cores memories feeds _) no_memory old new (λ v. v.items) c.text_of_cores-made.result c.put_made.result
    c.text_of_cores-made.ensures c.put_made.ensures))
