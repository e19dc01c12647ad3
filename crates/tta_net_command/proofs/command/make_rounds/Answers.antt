use Rattle.std.proofs.Common.{sym, subst}
use Rattle.tta_net_command.specs.Cited.{stated, joined, first_states, feeds_of, Status}
use Rattle.tta_net_command.specs.Net.{HasMadeRounds}
use Rattle.tta_net_command.proofs.RoundsMade.{made_rounds, cut_rounds}
use Rattle.tta_net_command.proofs.command.make_rounds.Goals as goal

pub returns-in-Ok : goal.returns-in-Ok
returns-in-Ok g c = λ memories stands.
    let sink = g.S.Sink in
    let U = stated (λ v. (goal.OpUnit-dyn g v).unit_meaning v.1) c.args.units.now in
    let cores = c.args.cores.now in
    let was = c.args.cluster.now in
    let h = c.run-is_running.new.self in
    let last = c.run-is_running.new.last in
    let old = sink.output c.args.sink.now in
    let new = sink.output c.put_net.new.sink in
    let ended = c.run-is_running.ensures.ended (joined (first_states cores memories)) stands in
    subst (λ (s : Status). HasMadeRounds U (feeds_of was) cores memories was.rounds old new s) (sym c.rounds_status.ensures)
    (made_rounds U (feeds_of was) cores memories was.rounds h last old new c.run-is_running.ensures.loaded c.run-is_running.ensures.turns c.run-is_running.result ended
    c.first_fault.result c.first_fault.ensures (record { taken = c.in-Ok.ensures.grows; faults = c.in-Ok.ensures.cause }))

pub returns-in-Err : goal.returns-in-Err
returns-in-Err g c = λ memories stands.
    let sink = g.S.Sink in
    let U = stated (λ v. (goal.OpUnit-dyn g v).unit_meaning v.1) c.args.units.now in
    let cores = c.args.cores.now in
    let was = c.args.cluster.now in
    let h = c.run-is_running.new.self in
    let last = c.run-is_running.new.last in
    let ended = c.run-is_running.ensures.ended (joined (first_states cores memories)) stands in
    let part = c.in-Err.ensures.grows in
    cut_rounds U (feeds_of was) cores memories was.rounds h last (sink.output c.args.sink.now) (sink.output c.put_net.new.sink)
    c.run-is_running.ensures.loaded c.run-is_running.ensures.turns c.run-is_running.result ended (record { count = part.0; taken = part.1; rose = c.in-Err.ensures.cause })
