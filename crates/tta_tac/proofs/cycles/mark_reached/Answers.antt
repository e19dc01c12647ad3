-- The search keeps what it has found, up to the end.
use Rattle.std.proofs.Common.{◌<◌, ◌≤◌, false, length, rules, sym, ◌∙◌, ap}
use Rattle.std.proofs.lemmas.List.{length-replicate}
use Rattle.tta_tac.proofs.Search.{unmarked, search_first, place_within, search_step, search_no}
use Rattle.tta_tac.proofs.cycles.mark_reached.Goals as goal

pub mark_callees-requires : goal.mark_callees-requires
mark_callees-requires c = rw (c.requires.clear, c.requires.none) (unmarked (length c.args.procs.now))

pub loop-next-init : goal.loop-next-init
loop-next-init c =
    search_first c.args.procs.now c.args.from c.args.marks.now.items c.mark_callees.new.marks.items c.args.found.now.items
    c.mark_callees.new.found.items c.index-procs-from.result c.as_slice.result.now c.requires.within c.index-procs-from.is
    (c.as_slice.ensures ∙ ap (λ q. q.steps) (sym c.index-procs-from.is))
    c.requires.none (ap length c.requires.clear ∙ length-replicate (length c.args.procs.now) false)
    c.in_ok-mark_callees.ensures.size c.in_ok-mark_callees.ensures.marked c.in_ok-mark_callees.ensures.finds

pub offset_bounds-procs-place : goal.offset_bounds-procs-place
offset_bounds-procs-place c =
    let left : c.loop-next.next < length c.loop-next.found.items = search rules in
    let within = place_within _ _ _ _ _ c.index-place.result.now c.loop-next.invariant left c.index-place.ensures in
    search rules

pub bounds-procs-place : goal.bounds-procs-place
bounds-procs-place c =
    let left : c.loop-next.next < length c.loop-next.found.items = search rules in
    place_within _ _ _ _ _ c.index-place.result.now c.loop-next.invariant left c.index-place.ensures

pub loop-next-preserved : goal.loop-next-preserved
loop-next-preserved c =
    let left : c.loop-next.next < length c.loop-next.found.items = search rules in
    search_step c.args.procs.now c.args.from c.loop-next.marks.items c.mark_callees-in-loop-next.new.marks.items c.loop-next.found.items
    c.mark_callees-in-loop-next.new.found.items c.loop-next.next c.index-place.result.now c.index-procs-place.result
    c.as_slice-in-loop-next.result.now c.loop-next.invariant left c.index-place.ensures c.index-procs-place.is
    (c.as_slice-in-loop-next.ensures ∙ ap (λ q. q.steps) (sym c.index-procs-place.is)) c.in_ok-mark_callees-2.ensures.size c.in_ok-mark_callees-2.ensures.marked
    c.in_ok-mark_callees-2.ensures.finds

pub returns-clause-no : goal.returns-clause-no
returns-clause-no c clear r =
    let all : length c.loop-next.found.items ≤ c.loop-next.next = search rules in
    search_no _ _ _ _ _ c.loop-next.invariant c.requires.within all clear r
