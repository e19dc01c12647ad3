use Rattle.std.proofs.Common.{length, replicate, ap, ◌∙◌, subst}
use Rattle.tta_sim.specs.Cited.{IsMachine}
use Rattle.tta_sim.proofs.Going.{first_stands, first_run}
use Rattle.tta_sim.proofs.state.SimState.load.Goals as goal
use Rattle.tta_code.proofs.Rooms.{room_few as all_reached}

pub returns-clause-start : goal.returns-clause-start
returns-clause-start c = λ r input none.
    let s = c.in_ok-store.ensures in
    first_stands c.args.m.now c.args.memory.items input c.in_ok-lines.lines c.in_ok-store.store c.first-control.result r
    s.places s.cycle s.memory (s.frame ∙ ap (λ m. replicate m.frame_words 0) c.m.view_is) c.first-control.ensures none

pub returns-clause-loaded : goal.returns-clause-loaded
returns-clause-loaded c =
    let s = c.in_ok-store.ensures in
    first_run c.args.m.now c.args.code.now c.in_ok-lines.lines c.in_ok-store.store c.first-control.result
    _ (subst IsMachine c.m.view_is c.m.invariant) c.requires.legal c.in_ok-lines.ensures
    (ap length s.memory ∙ c.requires.size) s.frame (ap (λ m. m.frame_words) c.m.view_is)

pub decode-requires : goal.decode-requires
decode-requires c = all_reached c.args.m.now c.args.code.now (subst IsMachine c.m.view_is c.m.invariant) c.requires.legal
