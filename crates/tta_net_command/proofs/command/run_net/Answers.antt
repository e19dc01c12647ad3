use Rattle.std.proofs.Common.{ℕ, List, Option, map, sym, ap, subst}
use Rattle.std.proofs.lemmas.List.{length-map}
use Rattle.std.specs.String.{string_bytes}
use Rattle.tta_net_command.specs.Cited.{stated, IsTaken}
use Rattle.tta_net_command.specs.CoreFiles.{cores_in, AreLinks}
use Rattle.tta_net_command.specs.Net.{CoresReport}
use Rattle.tta_net_command.proofs.RoundsMade.{links_then}
use Rattle.tta_net_command.proofs.command.run_net.Goals as goal

pub returns-in-Ok : goal.returns-in-Ok
returns-in-Ok g c =
    let f = g.F.Files in
    let sink = g.S.Sink in
    let U = stated (λ v. (goal.OpUnit-dyn g v).unit_meaning v.1) c.args.units.now in
    let names = map (λ w. string_bytes w) c.args.request.now.names.now in
    let before = f.world c.args.files.now in
    let between = f.world c.links_file.new.files in
    let count = ap cores_in (sym (length-map c.args.request.now.names.now (λ w. string_bytes w))) in
    let after = f.world c.net_of_links.new.files in
    let Reports : List (Option ℕ) → Type 0 = λ feeds. CoresReport U feeds c.args.request.now.rounds names between after
    (sink.output c.args.sink.now) (sink.output c.net_of_links.new.sink) c.net_of_links.result in
    links_then U c.args.request.now.rounds c.args.request.now.links.now names c.in-Ok.feeds.items
    before between after
    (sink.output c.args.sink.now) (sink.output c.net_of_links.new.sink) c.net_of_links.result
    (subst (λ (n : ℕ). IsTaken (AreLinks n) c.args.request.now.links.now c.in-Ok.feeds.items before between) count c.in-Ok.ensures.ends)
    (subst Reports c.as_slice.ensures.value c.net_of_links.ensures)
