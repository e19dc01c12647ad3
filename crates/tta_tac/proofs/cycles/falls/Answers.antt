-- Numbers that fall along all calls of a procedure, and never rise along others, do not lead back to it.
use Rattle.std.proofs.Common.{◌<◌, ◌-◌, List, nat_le, get_or, sym, ap, arith, ◌∙◌}
use Rattle.std.specs.List.{list_all}
use Rattle.tta_tac.specs.Cited.{Step, Proc}
use Rattle.tta_tac.specs.Cycles.{passes}
use Rattle.tta_tac.proofs.CallLemmas.{not_back}
use Rattle.tta_tac.proofs.cycles.falls.Goals as goal

pub returns-then-own-gt0 : goal.returns-then-own-gt0
returns-then-own-gt0 c e =
    let numbers = c.args.numbers.now in
    let most = get_or numbers c.args.place 0 - 1 in
    let less : most < get_or numbers c.args.place 0 = omega arith in
    not_back c.args.procs.now numbers c.requires.size (c.requires.level c.if-level.true) c.args.place c.index-procs-place.result most
    c.requires.within c.index-procs-place.is less
    (ap (λ (ss : List Step). list_all (passes (λ n. nat_le n most) numbers) ss) (sym (c.as_slice.ensures ∙ ap (λ (q : Proc). q.steps) (sym c.index-procs-place.is))) ∙ sym c.are_at_most.ensures ∙ e)
