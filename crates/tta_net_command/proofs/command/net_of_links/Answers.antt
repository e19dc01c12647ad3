use Rattle.std.proofs.Common.{ℕ, map, sym, ap, subst}
use Rattle.std.proofs.lemmas.List.{length-map}
use Rattle.std.specs.String.{string_bytes}
use Rattle.tta_net_command.specs.Cited.{stated}
use Rattle.tta_net_command.specs.CoreFiles.{cores_in, TakesCores}
use Rattle.tta_net_command.proofs.RoundsMade.{cores_report}
use Rattle.tta_net_command.proofs.command.net_of_links.Goals as goal

pub returns-in-Ok : goal.returns-in-Ok
returns-in-Ok g c =
    let f = g.F.Files in
    let sink = g.S.Sink in
    let U = stated (λ v. (goal.OpUnit-dyn g v).unit_meaning v.1) c.args.units.now in
    let names = map (λ w. string_bytes w) c.args.request.now.names.now in
    let cores = c.in-Ok.taken.cores.items in
    let memories = map (λ v. v.items) c.in-Ok.taken.memories.items in
    let before = f.world c.args.files.now in
    let after = f.world c.core_files.new.files in
    let count = ap cores_in (sym (length-map c.args.request.now.names.now (λ w. string_bytes w))) in
    cores_report U c.args.feeds.now c.args.request.now.rounds names cores memories before after (sink.output c.args.sink.now) (sink.output c.run_cores.new.sink) c.run_cores.result
    (subst (λ (n : ℕ). TakesCores U names n cores memories before after) count c.in-Ok.ensures.ends) c.run_cores.ensures
