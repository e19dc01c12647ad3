use Rattle.std.proofs.Common.{◌+◌, get_or, length, sym, ap, ◌∙◌, subst, arith}
use Rattle.tta_sim.specs.Cited.{stated, IsMachine, Fault, StayBeside}
use Rattle.tta_sim.specs.Controls.{outcome_of}
use Rattle.tta_sim.proofs.Going.{halted_stands, fault_stands, fault_answer, past_stands, past_answer, length-lines, past_all}
use Rattle.tta_sim.proofs.Reaching.{Reached, at_line, code_stays, goes, answers}
use Rattle.tta_sim.proofs.state.SimState.cycle.Given as given
use Rattle.tta_sim.proofs.state.SimState.cycle.Goals.{After-m}
use Rattle.tta_sim.proofs.state.SimState.cycle.Goals as goal

pub returns-in-Halted-clause-next : goal.returns-in-Halted-clause-next
returns-in-Halted-clause-next g c = λ s same fed.
    let U = stated (λ v. (goal.OpUnit-dyn g v).unit_meaning v.1) c.args.units.now in
    let over = ap (λ h. h.outcome) (sym c.self.view_is) ∙ ap (outcome_of c.self.inside.run.store.cycle) c.in-Halted.is in
    halted_stands U c.args.m.now c.args.code.now _ c.args.self.now s same over

pub returns-in-Fault-clause-next : goal.returns-in-Fault-clause-next
returns-in-Fault-clause-next g c = λ s same fed.
    let U = stated (λ v. (goal.OpUnit-dyn g v).unit_meaning v.1) c.args.units.now in
    let over = ap (λ h. h.outcome) (sym c.self.view_is) ∙ ap (outcome_of c.self.inside.run.store.cycle) c.in-Fault.is in
    fault_stands U c.args.m.now c.args.code.now _ c.args.self.now s same c.in-Fault.number _ over

pub returns-in-Fault-clause-answer : goal.returns-in-Fault-clause-answer
returns-in-Fault-clause-answer g c = λ s same fed.
    let U = stated (λ v. (goal.OpUnit-dyn g v).unit_meaning v.1) c.args.units.now in
    let over = ap (λ h. h.outcome) (sym c.self.view_is) ∙ ap (outcome_of c.self.inside.run.store.cycle) c.in-Fault.is in
    let at = over ∙ ap (Fault c.in-Fault.number) (ap (λ h. h.cycle) c.self.view_is) in
    fault_answer U c.args.m.now c.args.code.now _ c.args.self.now s same c.in-Fault.number at

pub returns-then-self-len-clause-next : goal.returns-then-self-len-clause-next
returns-then-self-len-clause-next g c = λ s same fed.
    let U = stated (λ v. (goal.OpUnit-dyn g v).unit_meaning v.1) c.args.units.now in
    let none = past_all c.args.code.now.words c.self.inside.run.control.pc (omega (arith, c.if-self-len.true, c.len.ensures)) in
    past_stands U c.args.m.now c.args.code.now c.self.inside.lines c.self.inside.run.store _ c.self.inside.run.control s (rw (← c.self.view_is) at same) c.in-Running.is none

pub returns-then-self-len-clause-answer : goal.returns-then-self-len-clause-answer
returns-then-self-len-clause-answer g c = λ s same fed.
    let U = stated (λ v. (goal.OpUnit-dyn g v).unit_meaning v.1) c.args.units.now in
    let none = past_all c.args.code.now.words c.self.inside.run.control.pc (omega (arith, c.if-self-len.true, c.len.ensures)) in
    past_answer U c.args.m.now c.args.code.now c.self.inside.lines c.self.inside.run.store _ c.self.inside.run.control s (rw (← c.self.view_is) at same) c.in-Running.is none

pub bounds-as_slice-self-inside : goal.bounds-as_slice-self-inside
bounds-as_slice-self-inside g c =
    let words = c.args.code.now.words in
    let lines = c.as_slice.ensures ∙ ap (λ h. h.lines) c.self.view_is ∙ c.requires.loaded.decoded in
    let many = ap length lines ∙ length-lines c.args.m.now (1 + c.args.m.now.control.delay) words in
    omega (arith, c.if-self-len.false, c.len.ensures, many)

-- the line at the address, once it was read
module _ (g : given.Over) (c : After-m g) where
  reached : Reached c.args.m.now c.args.code.now c.args.self.now c.args.base c.args.region.now c.part_of.result c.self.inside.lines c.self.inside.run.store
      c.self.inside.run.control c.m.inside.control.delay c.index-as_slice-self.result
  reached = record {
    rules = subst IsMachine c.m.view_is c.m.invariant;
    run = c.requires.loaded;
    has = c.requires.has_units;
    part_is = c.part_of.ensures;
    view = c.self.view_is;
    running = c.in-Running.is;
    within = omega (arith, c.if-self-len.false, c.len.ensures);
    delay_is = ap (λ m. m.control.delay) c.m.view_is;
    line_is = c.index-as_slice-self.is ∙ ap (λ ls. get_or ls c.self.inside.run.control.pc c.index-as_slice-self.result) c.as_slice.ensures;
  }

pub carry-requires : goal.carry-requires
carry-requires g c = at_line (reached g (goal.at.carry-requires g c).After-m) c.requires.few

pub returns-clause-loaded : goal.returns-clause-loaded
returns-clause-loaded g c =
    let U = stated (λ v. (goal.OpUnit-dyn g v).unit_meaning v.1) c.args.units.now in
    code_stays (reached g (goal.at.returns-clause-loaded g c).After-m) U c.args.next _ _ _ _ c.carry.ensures

pub returns-clause-next : goal.returns-clause-next
returns-clause-next g c = λ s same fed.
    let U = stated (λ v. (goal.OpUnit-dyn g v).unit_meaning v.1) c.args.units.now in
    goes (reached g (goal.at.returns-clause-next g c).After-m) U c.args.next _ _ _ _ c.carry.ensures s same fed

pub returns-clause-answer : goal.returns-clause-answer
returns-clause-answer g c = λ s same fed.
    let U = stated (λ v. (goal.OpUnit-dyn g v).unit_meaning v.1) c.args.units.now in
    answers (reached g (goal.at.returns-clause-answer g c).After-m) U c.args.next _ _ _ _ c.carry.ensures s same fed

pub returns-clause-kept : goal.returns-clause-kept
returns-clause-kept g c = c.carry.ensures.others.kept

pub returns-clause-beside : goal.returns-clause-beside
returns-clause-beside g c = subst (λ p. StayBeside p.base p.count c.args.region.now c.carry.new.region) c.part_of.ensures c.carry.ensures.others.beside

pub returns-clause-waits : goal.returns-clause-waits
returns-clause-waits g c = λ is. c.carry.ensures.waits c.self.inside.lines is ∙ c.self.view_is
