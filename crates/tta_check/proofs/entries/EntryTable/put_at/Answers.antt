use Rattle.std.proofs.Common.{Some, ap, sym, ◌∙◌}
use Rattle.std.specs.Prelude.{◌-◌, slice_get}
use Rattle.tta_check.proofs.Placing.{put_differs, put_calm, put_grown}
use Rattle.tta_check.proofs.entries.EntryTable.put_at.Goals as goal

pub returns-then-not-same_point : goal.returns-then-not-same_point
returns-then-not-same_point c =
    put_differs c.args.delay c.args.len c.args.successor c.in-Some.old c.args.self.now c.args.place c.saturating_sub.result c.requires.here
    (ap (λ xs. slice_get xs c.args.place) (sym c.deref.ensures.value) ∙ c.entry_at.ensures ∙ ap Some c.in-Some.is)
    (sym c.same_point.ensures ∙ c.if-not-same_point.true)
    (c.saturating_sub.ensures ∙ ap (λ n. c.args.successor.point.address - n) c.ago.ensures.value)

pub returns-in-None : goal.returns-in-None
returns-in-None c =
    put_calm c.args.delay c.args.successor c.in-Some.old c.args.self.now c.args.place c.in_ok-grown.field-0 c.requires.here
    (ap (λ xs. slice_get xs c.args.place) (sym c.deref.ensures.value) ∙ c.entry_at.ensures ∙ ap Some c.in-Some.is)
    (sym c.same_point.ensures ∙ c.if-not-same_point.false) c.in_ok-grown.ensures c.in-None.is

pub returns : goal.returns
returns c =
    put_grown c.args.delay c.args.successor c.in-Some.old c.args.self.now c.set-in-Some-2.new.self c.args.place c.in_ok-grown.field-0 c.in-Some-2.state c.requires.here
    (ap (λ xs. slice_get xs c.args.place) (sym c.deref.ensures.value) ∙ c.entry_at.ensures ∙ ap Some c.in-Some.is)
    (sym c.same_point.ensures ∙ c.if-not-same_point.false) c.in_ok-grown.ensures c.in-Some-2.is c.in_ok-set-in-Some-2.ensures
