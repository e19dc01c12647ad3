use Rattle.std.proofs.Common.{List, Some, length, refl, ap, sym, subst, ◌∙◌, arith}
use Rattle.std.specs.Prelude.{slice_get}
use Rattle.tta_check.specs.Cited.{Machine, Instruction}
use Rattle.tta_check.specs.Visits.{Visits}
use Rattle.tta_check.specs.Tables.{FitsBoth, PutBoth}
use Rattle.tta_check.specs.Carries.{Empty, Ended, Went}
use Rattle.tta_check.proofs.Putting.{goes_fit}
use Rattle.tta_check.proofs.entries.EntryTable.carry.Goals as goal

pub returns-in_default : goal.returns-in_default
returns-in_default c = Empty (ap (λ xs. slice_get xs c.args.place) (sym c.deref.ensures.value) ∙ c.entry_at.ensures ∙ ap Some c.in_default.is) refl

pub visit-requires-clause-times : goal.visit-requires-clause-times
visit-requires-clause-times c = c.requires.times c.in-Some.at.point.address c.word_at.result.now (ap (λ ws. slice_get ws c.in-Some.at.point.address) (sym c.as_slice-words.ensures) ∙ c.word_at.ensures)

pub visit-requires-clause-room : goal.visit-requires-clause-room
visit-requires-clause-room c =
    let a = c.requires.within c.args.place c.in-Some.at (ap (λ xs. slice_get xs c.args.place) (sym c.deref.ensures.value) ∙ c.entry_at.ensures ∙ ap Some c.in-Some.is) in
    let b = c.requires.room in
    let d = c.requires.delay in
    omega arith

pub put_both-requires : goal.put_both-requires
put_both-requires c =
    subst (λ d. FitsBoth d (length c.as_slice-words.result.now) c.in-Goes.acts c.in-Goes.stays c.args.self.now) (sym (ap (λ (m : Machine). m.control.delay) c.m.view_is))
    (subst (λ (ws : List Instruction). FitsBoth c.args.m.now.control.delay (length ws) c.in-Goes.acts c.in-Goes.stays c.args.self.now) (sym c.as_slice-words.ensures)
    (goes_fit c.args.m.now c.args.code.now c.args.place c.args.self.now c.in-Some.at c.word_at.result.now c.in-Goes.acts c.in-Goes.stays c.requires (ap (λ xs. slice_get xs c.args.place) (sym c.deref.ensures.value) ∙ c.entry_at.ensures ∙ ap Some c.in-Some.is) (subst (Visits c.args.m.now c.word_at.result.now c.in-Some.at) c.in-Goes.is c.in_ok-verdict.ensures)))

pub returns-in-Ends : goal.returns-in-Ends
returns-in-Ends c =
    Ended c.in-Some.at c.word_at.result.now c.in-Ends.verdict (ap (λ xs. slice_get xs c.args.place) (sym c.deref.ensures.value) ∙ c.entry_at.ensures ∙ ap Some c.in-Some.is) (ap (λ ws. slice_get ws c.in-Some.at.point.address) (sym c.as_slice-words.ensures) ∙ c.word_at.ensures)
    (subst (Visits c.args.m.now c.word_at.result.now c.in-Some.at) c.in-Ends.is c.in_ok-verdict.ensures)

pub returns-in_ok-verdict-in-Goes : goal.returns-in_ok-verdict-in-Goes
returns-in_ok-verdict-in-Goes c =
    Went c.in-Some.at c.word_at.result.now c.in-Goes.acts c.in-Goes.stays c.in_ok-verdict-in-Goes.verdict (ap (λ xs. slice_get xs c.args.place) (sym c.deref.ensures.value) ∙ c.entry_at.ensures ∙ ap Some c.in-Some.is) (ap (λ ws. slice_get ws c.in-Some.at.point.address) (sym c.as_slice-words.ensures) ∙ c.word_at.ensures) (subst (Visits c.args.m.now c.word_at.result.now c.in-Some.at) c.in-Goes.is c.in_ok-verdict.ensures)
    (subst (λ d. PutBoth d (length c.args.code.now.words) c.in-Goes.acts c.in-Goes.stays c.args.self.now c.put_both.new.self c.in_ok-verdict-in-Goes.verdict) (ap (λ (m : Machine). m.control.delay) c.m.view_is)
    (subst (λ (ws : List Instruction). PutBoth c.m.inside.control.delay (length ws) c.in-Goes.acts c.in-Goes.stays c.args.self.now c.put_both.new.self c.in_ok-verdict-in-Goes.verdict) c.as_slice-words.ensures
    c.in_ok-verdict-in-Goes.ensures))
