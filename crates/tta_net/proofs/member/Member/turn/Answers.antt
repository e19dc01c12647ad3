use Rattle.std.proofs.Common.{◌+◌, ℕ, List, ◌++◌, sym, ap, ◌∙◌, subst}
use Rattle.std.specs.Prelude.{option_to_list}
use Rattle.tta_net.specs.Cited.{stated, stepped}
use Rattle.tta_kahn.proofs.Outcomes.{changes}
use Rattle.tta_net.specs.declared.member.Member.{Member}
use Rattle.tta_net.specs.Members.{StandsAs, alone}
use Rattle.tta_net.proofs.Stepping.{stands_fed, goes_as, counts, halted_same, halted_goes, fault_goes, none_taken, one_taken, answers_ran, answers_halted, answers_waiting, answers_fault}
use Rattle.tta_net.proofs.member.Member.turn.Goals as goal

pub returns-in-Ran-clause-next : goal.returns-in-Ran-clause-next
returns-in-Ran-clause-next g c = λ d input stands is_fed.
    let U = stated (λ v. (goal.OpUnit-dyn g v).unit_meaning v.1) c.args.units.now in
    let core = c.args.core.now in
    let held = stands_fed _ _ d.state input stands.stands in
    let goes = c.in-Ran.ensures.next _ held is_fed in
    let is = c.in-Ran.ensures.answer _ held is_fed in
    let counted = sym goes.cycle ∙ c.in-Ran.ensures.counted ∙ ap (λ (n : ℕ). n + 1) stands.stands.cycle in
    subst (λ (m : Member). StandsAs c.cycle.new.region core m (stepped (alone U core) 0 input d)) (sym c.note.ensures)
    (goes_as U core d input _ _ (counts U core d input counted) goes (ap (λ (ws : List ℕ). ws ++ option_to_list c.in-Ran.put) stands.output ∙ sym is.1.1)
    (one_taken U core d input c.args.next c.in-Ran.took is_fed c.in-Ran.ensures.takes is.1.2 c.args.self.now.taken stands.taken))

pub returns-in-Ran-clause-answer : goal.returns-in-Ran-clause-answer
returns-in-Ran-clause-answer g c = λ d input stands is_fed.
    let U = stated (λ v. (goal.OpUnit-dyn g v).unit_meaning v.1) c.args.units.now in
    let core = c.args.core.now in
    let held = stands_fed _ _ d.state input stands.stands in
    let goes = c.in-Ran.ensures.next _ held is_fed in
    let is = c.in-Ran.ensures.answer _ held is_fed in
    let counted = sym goes.cycle ∙ c.in-Ran.ensures.counted ∙ ap (λ (n : ℕ). n + 1) stands.stands.cycle in
    answers_ran U core d input is.0 is.1.0 (counts U core d input counted)

pub returns-in-Halted-clause-next : goal.returns-in-Halted-clause-next
returns-in-Halted-clause-next g c = λ d input stands is_fed.
    let U = stated (λ v. (goal.OpUnit-dyn g v).unit_meaning v.1) c.args.units.now in
    let core = c.args.core.now in
    let held = stands_fed _ _ d.state input stands.stands in
    let goes = c.in-Halted.ensures.next _ held is_fed in
    let is = c.in-Halted.ensures.answer _ held is_fed in
    let same = halted_same U core d input is in
    goes_as U core d input _ _ (halted_goes U core d input is) goes (stands.output ∙ ap (λ t. t.output) (sym same))
    (none_taken U core d input _ (ap (λ t. t.rest) same) _ stands.taken)

pub returns-in-Halted-clause-answer : goal.returns-in-Halted-clause-answer
returns-in-Halted-clause-answer g c = λ d input stands is_fed.
    let U = stated (λ v. (goal.OpUnit-dyn g v).unit_meaning v.1) c.args.units.now in
    answers_halted U c.args.core.now d input (c.in-Halted.ensures.answer _ (stands_fed _ _ d.state input stands.stands) is_fed)

pub returns-in-Waiting-clause-answer : goal.returns-in-Waiting-clause-answer
returns-in-Waiting-clause-answer g c = λ d input stands is_fed.
    let U = stated (λ v. (goal.OpUnit-dyn g v).unit_meaning v.1) c.args.units.now in
    let is = c.in-Waiting.ensures.answer _ (stands_fed _ _ d.state input stands.stands) is_fed in
    answers_waiting U c.args.core.now d input is.0 is.1

pub returns-in-Fault-clause-next : goal.returns-in-Fault-clause-next
returns-in-Fault-clause-next g c = λ d input stands is_fed.
    let U = stated (λ v. (goal.OpUnit-dyn g v).unit_meaning v.1) c.args.units.now in
    let core = c.args.core.now in
    let held = stands_fed _ _ d.state input stands.stands in
    let goes = c.in-Fault.ensures.next _ held is_fed in
    let is = c.in-Fault.ensures.answer _ held is_fed in
    let same = (changes U core.machine core.code (record d.state { rest = input })).faults _ _ is in
    goes_as U core d input _ _ (fault_goes U core d input _ _ is) goes (stands.output ∙ sym same.0)
    (none_taken U core d input _ same.1 _ stands.taken)

pub returns-in-Fault-clause-answer : goal.returns-in-Fault-clause-answer
returns-in-Fault-clause-answer g c = λ d input stands is_fed.
    let U = stated (λ v. (goal.OpUnit-dyn g v).unit_meaning v.1) c.args.units.now in
    answers_fault U c.args.core.now d input c.in-Fault.number _ (c.in-Fault.ensures.answer _ (stands_fed _ _ d.state input stands.stands) is_fed)
