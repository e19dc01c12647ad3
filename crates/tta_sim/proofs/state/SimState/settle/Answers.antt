use Rattle.std.proofs.Common.{◌≡◌, ◌+◌, ◌<◌, get_or, Some, length, slice_get, refl, sym, ap, ◌∙◌, subst, arith}
use Rattle.std.proofs.lemmas.Option.{slice_get-get_or}
use Rattle.tta_sim.specs.Kept.{kept_as, IsAtLine}
use Rattle.tta_sim.specs.Results.{results_at, shown_by}
use Rattle.tta_sim.specs.Known.{all_shown, IsMarked}
use Rattle.tta_sim.proofs.Going.{length-lines}
use Rattle.tta_sim.proofs.Marking.{known_set}
use Rattle.tta_sim.proofs.Reaching.{Reached, at_line}
use Rattle.tta_sim.proofs.state.SimState.settle.Goals.{After-part_of-part}
use Rattle.tta_sim.proofs.state.SimState.settle.Goals as goal

-- the line at the address
module _ (c : After-part_of-part) where
  pub reached : Reached c.args.m.now c.args.code.now c.args.self.now 0 c.args.region.now c.part_of-part.result c.self.inside.lines c.self.inside.run.store
      c.self.inside.run.control c.args.m.now.control.delay c.index-as_slice-pc.result
  reached = record {
    rules = c.rules.ensures;
    run = c.requires.loaded;
    has = c.requires.has_units;
    part_is = c.part_of-part.ensures;
    view = c.self.view_is;
    running = c.in-Running.is;
    within =
        let many = ap length c.requires.loaded.decoded ∙ length-lines c.args.m.now (1 + c.args.m.now.control.delay) c.args.code.now.words in
        omega (arith, c.if-pc-len.false, c.len.ensures, many, c.requires.known.count);
    delay_is = refl;
    line_is = c.index-as_slice-pc.is ∙ ap (λ ls. get_or ls c.self.inside.run.control.pc c.index-as_slice-pc.result) c.as_slice.ensures;
  }

  ready : IsAtLine c.part_of-part.result c.index-as_slice-pc.result (kept_as c.self.inside.run.store c.self.inside.run.control c.args.region.now)
  ready = at_line reached c.requires.few

  -- what the ports show, by either name
  shown_is : shown_by (results_at c.part_of-part.result c.args.region.now) ≡ all_shown c.args.region.now
  shown_is = ap (λ p. shown_by (results_at p c.args.region.now)) c.part_of-part.ensures

  line_at : slice_get c.args.self.now.lines c.self.inside.run.control.pc ≡ Some c.index-as_slice-pc.result
  line_at =
      let within : c.self.inside.run.control.pc < length c.args.self.now.lines = omega (arith, c.if-pc-len.false, c.len.ensures, c.requires.known.count) in
      slice_get-get_or c.args.self.now.lines c.self.inside.run.control.pc c.index-as_slice-pc.result within
      ∙ ap (λ ls. Some (get_or ls c.self.inside.run.control.pc c.index-as_slice-pc.result)) (sym (ap (λ h. h.lines) c.self.view_is))
      ∙ ap Some (sym reached.line_is)

pub settle-requires-clause-there : goal.settle-requires-clause-there
settle-requires-clause-there c =
    let at = (goal.at.settle-requires-clause-there c).After-part_of-part in
    (ready at).there

pub settle-requires-clause-marked : goal.settle-requires-clause-marked
settle-requires-clause-marked c =
    let at = (goal.at.settle-requires-clause-marked c).After-part_of-part in
    let line = c.index-as_slice-pc.result in
    let pc = c.self.inside.run.control.pc in
    let row = c.index_mut-row.result.now in
    let within : pc < length c.args.rows.now.items = omega (arith, c.if-pc-len.false, c.len.ensures) in
    let row_at : slice_get c.args.rows.now.items pc ≡ Some row = slice_get-get_or c.args.rows.now.items pc row within ∙ ap Some (sym c.index_mut-row.ensures.value) in
    subst (λ f. IsMarked c.self.inside.run.store.places f line row.mark) (sym (shown_is at))
    (subst (λ h. IsMarked h.places (all_shown c.args.region.now) line row.mark) (sym c.self.view_is)
    (c.requires.known.each pc line row (line_at at) row_at).marked)

pub returns : goal.returns
returns c =
    let at = (goal.at.returns c).After-part_of-part in
    let line = c.index-as_slice-pc.result in
    let pc = c.self.inside.run.control.pc in
    let row = c.index_mut-row.result.now in
    let within : pc < length c.args.rows.now.items = omega (arith, c.if-pc-len.false, c.len.ensures) in
    let row_at : slice_get c.args.rows.now.items pc ≡ Some row = slice_get-get_or c.args.rows.now.items pc row within ∙ ap Some (sym c.index_mut-row.ensures.value) in
    record {
      known = known_set c.args.self.now.places (all_shown c.args.region.now) c.args.self.now.lines c.args.rows.now.items pc line row c.settle.new.self
          c.requires.known (line_at at) row_at
          (subst (λ h. IsMarked h.places (all_shown c.args.region.now) line c.settle.new.self) c.self.view_is
          (subst (λ f. IsMarked c.self.inside.run.store.places f line c.settle.new.self) (shown_is at) c.settle.ensures.marked));
    }
