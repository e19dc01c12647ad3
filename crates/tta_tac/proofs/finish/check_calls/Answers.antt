-- The first procedure that leads back is one of the draft's.
use Rattle.std.proofs.Common.{◌<◌, ◌∙◌, sym, ap, subst, length, get_or, Some}
use Rattle.tta_tac.specs.Text.{IsFirstRecursive}
use Rattle.tta_tac.proofs.Finished.{first_within, line_there}
use Rattle.tta_tac.proofs.finish.check_calls.Goals as goal

pub bounds-as_slice-place : goal.bounds-as_slice-place
bounds-as_slice-place c =
    let first = rw c.in-Some.is at c.in_ok-place.ensures in
    let within = first_within c.args.procs.now c.in-Some.place first in
    let size = c.requires ∙ ap length (sym c.as_slice.ensures) in
    subst (λ n. c.in-Some.place < n) size within

pub returns-in-Some-clause-refused : goal.returns-in-Some-clause-refused
returns-in-Some-clause-refused c =
    let first : IsFirstRecursive c.args.procs.now c.in-Some.place = rw c.in-Some.is at c.in_ok-place.ensures in
    let within = subst (λ n. c.in-Some.place < n) c.requires (first_within c.args.procs.now c.in-Some.place first) in
    let is = c.index-as_slice-place.is ∙ ap (λ s. get_or s c.in-Some.place c.index-as_slice-place.result) c.as_slice.ensures in
    let line = line_there c.args.draft.now.procs c.in-Some.place c.index-as_slice-place.result within is in
    (c.code.ensures, (c.in-Some.place, first, line ∙ ap (λ q. Some q.line) c.index-as_slice-place.is))
