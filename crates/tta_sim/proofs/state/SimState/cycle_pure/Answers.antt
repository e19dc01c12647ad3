use Rattle.std.proofs.Common.{◌≡◌, ◌+◌, false, get_or, None, length, slice_get, refl, sym, ap, ◌∙◌, subst, arith}
use Rattle.tta_sim.specs.Cited.{stated, IsMachine, StayBeside}
use Rattle.tta_sim.specs.Controls.{outcome_of}
use Rattle.tta_sim.specs.Held.{goes_pure}
use Rattle.tta_sim.proofs.Going.{length-lines}
use Rattle.tta_sim.proofs.Reaching.{Reached, at_line, code_stays, goes, answers}
use Rattle.tta_sim.proofs.Silent.{silent_cycle, at_most_one, no_pure_line, no_line}
use Rattle.tta_sim.proofs.state.SimState.cycle_pure.Given as given
use Rattle.tta_sim.proofs.state.SimState.cycle_pure.Goals.{After-m}
use Rattle.tta_sim.proofs.state.SimState.cycle_pure.Goals as goal

pub bounds-as_slice-self-inside : goal.bounds-as_slice-self-inside
bounds-as_slice-self-inside g c =
    let words = c.args.code.now.words in
    let lines = c.as_slice.ensures ∙ ap (λ h. h.lines) c.self.view_is ∙ c.requires.loaded.decoded in
    let many = ap length lines ∙ length-lines c.args.m.now (1 + c.args.m.now.control.delay) words in
    omega (arith, c.if-self-len.false, c.len.ensures, many)

-- the line at the address, once it was read
module _ (g : given.Over) (c : After-m g) where
  reached : Reached c.args.m.now c.args.code.now c.args.self.now c.args.base c.args.region.now c.part_of.result c.self.inside.lines c.self.inside.run.store
      c.self.inside.run.control c.m.inside.control.delay c.index-as_slice-self.result
  reached = record {
    rules = subst IsMachine c.m.view_is c.m.invariant;
    run = c.requires.loaded;
    has = c.requires.has_units;
    part_is = c.part_of.ensures;
    view = c.self.view_is;
    running = c.in-Running.is;
    within = omega (arith, c.if-self-len.false, c.len.ensures);
    delay_is = ap (λ m. m.control.delay) c.m.view_is;
    line_is = c.index-as_slice-self.is ∙ ap (λ ls. get_or ls c.self.inside.run.control.pc c.index-as_slice-self.result) c.as_slice.ensures;
  }

pub carry_pure-requires-clause-ready : goal.carry_pure-requires-clause-ready
carry_pure-requires-clause-ready g c = at_line (reached g (goal.at.carry_pure-requires-clause-ready g c).After-m) c.requires.few

pub returns-clause-next : goal.returns-clause-next
returns-clause-next g c = λ s same.
    let U = stated (λ v. (goal.OpUnit-dyn g v).unit_meaning v.1) c.args.units.now in
    let here = reached g (goal.at.returns-clause-next g c).After-m in
    let made = c.carry_pure.ensures.cycle (slice_get s.rest 0) in
    silent_cycle U c.args.m.now c.args.code.now _ _ s c.carry_pure.result c.carry_pure.ensures.silent (goes here U _ _ _ _ _ made s same refl)
    (answers here U _ _ _ _ _ made s same refl)

pub returns-clause-loaded : goal.returns-clause-loaded
returns-clause-loaded g c =
    let U = stated (λ v. (goal.OpUnit-dyn g v).unit_meaning v.1) c.args.units.now in
    code_stays (reached g (goal.at.returns-clause-loaded g c).After-m) U None _ _ _ _ (c.carry_pure.ensures.cycle None)

pub returns-clause-kept : goal.returns-clause-kept
returns-clause-kept g c = (c.carry_pure.ensures.cycle None).others.kept

pub returns-clause-beside : goal.returns-clause-beside
returns-clause-beside g c =
    subst (λ p. StayBeside p.base p.count c.args.region.now c.carry_pure.new.region) c.part_of.ensures (c.carry_pure.ensures.cycle None).others.beside

pub returns-clause-counted : goal.returns-clause-counted
returns-clause-counted g c =
    let made = c.carry_pure.ensures.cycle None in
    omega (arith, made.counted, at_most_one c.carry_pure.result, ap (λ h. h.cycle) c.self.view_is)

pub returns-clause-runs : goal.returns-clause-runs
returns-clause-runs g c = λ made.
    ap (λ h. h.outcome) (sym c.self.view_is) ∙ ap (outcome_of c.self.inside.run.store.cycle) c.in-Running.is

pub returns-clause-grows : goal.returns-clause-grows
returns-clause-grows g c =
    let made = c.carry_pure.ensures.cycle None in
    omega (arith, made.counted, ap (λ h. h.cycle) c.self.view_is)

-- ---- where it makes none

pub returns-then-self-len-clause-stops : goal.returns-then-self-len-clause-stops
returns-then-self-len-clause-stops g c = λ none.
    let at = c.self.inside.run.control.pc in
    let lines = ap (λ h. h.lines) c.self.view_is ∙ c.requires.loaded.decoded in
    let many = ap length lines ∙ length-lines c.args.m.now (1 + c.args.m.now.control.delay) c.args.code.now.words in
    subst (λ h. goes_pure h.lines h.pc h.outcome ≡ false) c.self.view_is
    (ap (λ p. goes_pure c.self.inside.lines at (outcome_of c.self.inside.run.store.cycle p)) c.in-Running.is
    ∙ no_line c.self.inside.lines at (omega (arith, c.if-self-len.true, c.len.ensures, many)))

pub returns-then-not-line-clause-stops : goal.returns-then-not-line-clause-stops
returns-then-not-line-clause-stops g c = λ none.
    let at = c.self.inside.run.control.pc in
    let lines = ap (λ h. h.lines) c.self.view_is ∙ c.requires.loaded.decoded in
    let many = ap length lines ∙ length-lines c.args.m.now (1 + c.args.m.now.control.delay) c.args.code.now.words in
    let line = c.index-as_slice-self.result in
    subst (λ h. goes_pure h.lines h.pc h.outcome ≡ false) c.self.view_is
    (ap (λ p. goes_pure c.self.inside.lines at (outcome_of c.self.inside.run.store.cycle p)) c.in-Running.is
    ∙ no_pure_line c.self.inside.lines at line (omega (arith, c.if-self-len.false, c.len.ensures, many))
    (c.index-as_slice-self.is ∙ ap (λ ls. get_or ls at line) c.as_slice.ensures) c.if-not-line.true)
