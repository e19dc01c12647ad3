use Rattle.std.proofs.Common.{◌≡◌, ◌≤◌, true, List, length, Some, sym, ap, ◌∙◌}
use Rattle.tta_loadelim.specs.Cited.{Item, is_straight, KeepsMeaning, AsksNoMore}
use Rattle.tta_loadelim.specs.Reworked.{IsReworked}
use Rattle.tta_loadelim.proofs.Standing.{reworked_stands}
use Rattle.tta_loadelim.proofs.reloading.Reloads.reload.Goals as goal

pub returns-then-branch : goal.returns-then-branch
returns-then-branch c =
    let made : IsReworked c.args.on.now.joined.machine.now c.args.on.now.choice.now.hub c.args.b.now c.in-Some.more = rw c.in-Some.is at c.in_ok-more.ensures in
    let meaning : KeepsMeaning c.args.on.now.joined.machine.now c.in-Some.more.live_out c.in-Some.more.items c.in-Some-2.r.items = rw c.in-Some-2.is at c.in_ok-r.ensures.meaning in
    let no_more : AsksNoMore c.args.on.now.joined.machine.now c.in-Some.more.items c.in-Some-2.r.items = rw c.in-Some-2.is at c.in_ok-r.ensures.no_more in
    let live : c.in-Some-2.r.live_out ≡ c.in-Some.more.live_out = rw c.in-Some-2.is at c.in_ok-r.ensures.live in
    let few : length c.in-Some-2.r.items ≤ length c.args.b.now.items = c.gains.ensures c.if-not-gains.false in
    let straight : is_straight c.args.on.now.joined.machine.now (Some c.args.on.now.choice.now.hub) c.in-Some-2.r.items ≡ true =
    ap (λ (l : List Item). is_straight c.args.on.now.joined.machine.now (Some c.args.on.now.choice.now.hub) l) (sym c.as_slice-4.ensures) ∙ c.in_ok-is_straight.ensures c.if-branch.true in
    reworked_stands c.args.on.now.joined.machine.now c.args.on.now.choice.now.hub c.args.b.now c.in-Some.more c.in-Some-2.r c.args.on.now.choice_of.hub made meaning no_more live few straight
