use Rattle.std.proofs.Common.{◌≡◌, [], get_or, set, ap, ◌∙◌}
use Rattle.std.proofs.lemmas.List.{get_or_read, length-set}
use Rattle.tta_tacrun.proofs.Kept.{calls_set}
use Rattle.tta_tacrun.proofs.calls.Calls.assign.Goals as goal

pub returns : goal.returns
returns c =
    let vs = c.self.inside.variables.items in
    let proc = c.self.inside.top.proc in
    let read : c.index_mut.result.now ≡ get_or vs proc [] =
    get_or_read vs proc c.index_mut.result.now c.self.invariant.within.0 c.index_mut.ensures.value [] in
    let new : c.set.new.self ≡ set (get_or vs proc []) c.args.d c.args.word = c.set.ensures ∙ ap (λ v. set v c.args.d c.args.word) read in
    rw (new, ← c.self.view_is)
    (calls_set vs c.self.inside.top c.self.inside.callers.items _ _ _ c.self.invariant (length-set (get_or vs proc []) c.args.d c.args.word))
