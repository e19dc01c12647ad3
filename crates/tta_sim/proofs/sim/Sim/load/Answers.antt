use Rattle.std.proofs.Common.{map, sym, ap, ◌∙◌, subst}
use Rattle.tta_sim.specs.Cited.{start}
use Rattle.tta_sim.specs.Results.{units_of}
use Rattle.tta_sim.specs.Flat.{row_with}
use Rattle.tta_sim.specs.Known.{mark_of, all_shown, AreKnown}
use Rattle.tta_sim.proofs.Marking.{first_known}
use Rattle.tta_sim.proofs.Owning.{own_run, own_stands}
use Rattle.tta_sim.proofs.sim.Sim.load.Goals as goal

pub returns-clause-start : goal.returns-clause-start
returns-clause-start c = λ input.
    own_stands c.args.m.now c.args.code.now c.in_ok-state.state c.in_ok-region.region c.in_ok-region.ensures.units (start c.args.m.now c.args.memory.items input)
    (c.in_ok-state.ensures.start (units_of 0 c.args.m.now c.in_ok-region.region) input c.in_ok-region.ensures.none)

pub returns-clause-loaded : goal.returns-clause-loaded
returns-clause-loaded c =
    own_run c.args.m.now c.args.code.now c.in_ok-state.state c.in_ok-region.region c.in_ok-region.ensures.units c.in_ok-state.ensures.loaded c.in_ok-region.ensures.has_units

pub invariant_of-result : goal.invariant_of-result
invariant_of-result c =
    let state = c.in_ok-state.state in
    let rows = c.in_ok-rows.ensures ∙ ap (map (λ l. row_with (mark_of l) l)) c.lines.ensures in
    subst (AreKnown state.places (all_shown c.in_ok-region.region) state.lines) (sym rows) (first_known state.places (all_shown c.in_ok-region.region) state.lines)
