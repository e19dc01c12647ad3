use Rattle.std.proofs.Common.{Some, sym, ap, ◌∙◌, subst}
use Rattle.tta_sim.specs.Results.{shown_by}
use Rattle.tta_sim.specs.Lines.{is_ready}
use Rattle.tta_sim.specs.Ready.{AreNoted}
use Rattle.tta_sim.specs.Unset.{IsFaultOf}
use Rattle.tta_sim.proofs.Facing.{none_found}
use Rattle.tta_sim.proofs.ready.find_pure_fault.Goals as goal

pub returns-then-is_pure_ready-clause-fault : goal.returns-then-is_pure_ready-clause-fault
returns-then-is_pure_ready-clause-fault g c = λ p m back i decoded size.
    none_found m decoded.rules i decoded.legal back c.args.line.now decoded.line c.args.store.now.places c.args.results.now p _ (c.is_pure_ready.ensures.ready p)
    c.if-is_pure_ready.true

pub fault_of-requires-clause-noted : goal.fault_of-requires-clause-noted
fault_of-requires-clause-noted g c =
    subst (λ r. AreNoted c.args.store.now.places (shown_by r) c.args.line.now c.is_pure_ready.new.buffers.writes) (sym c.reborrow.ensures) c.is_pure_ready.ensures.noted

pub returns-clause-fault : goal.returns-clause-fault
returns-clause-fault g c = λ p.
    let places = c.args.store.now.places in
    let line = c.args.line.now in
    subst (λ r. IsFaultOf places r p line (Some c.fault_of.result)) c.reborrow.ensures
    (c.fault_of.ensures p (ap (λ r. is_ready places r p line) c.reborrow.ensures ∙ sym (c.is_pure_ready.ensures.ready p) ∙ c.if-is_pure_ready.false))
