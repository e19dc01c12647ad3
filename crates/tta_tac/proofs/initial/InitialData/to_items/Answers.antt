use Rattle.std.proofs.Common.{◌≡◌, ◌≤◌, Some, slice_get, length, sym, ◌∙◌}
use Rattle.tta_tac.proofs.InitialLines.{line_copied, all_copied}
use Rattle.tta_tac.proofs.initial.InitialData.to_items.Goals as goal

-- the next data line goes last
pub loop-place-preserved : goal.loop-place-preserved
loop-place-preserved c =
    let es = c.self.inside.by_address.entries in
    let r = c.unwrap.result in
    let at : slice_get es c.loop-place.place ≡ Some (r.0.now, r.1.now) = sym (rw c.unwrap.ensures at c.get_index.ensures.entry) in
    c.in_ok-push.ensures.ok
    ∙ line_copied c.loop-place.items c.args.self.now es c.loop-place.place (r.0.now, r.1.now) c.self.view_is at c.loop-place.invariant

-- all of them were copied
pub returns : goal.returns
returns c =
    let es = c.self.inside.by_address.entries in
    let enough : length es ≤ c.loop-place.place = rw c.len-place-end.ensures.len at c.loop-place-test.false in
    all_copied c.loop-place.items c.args.self.now es c.loop-place.place c.self.view_is enough c.loop-place.invariant
