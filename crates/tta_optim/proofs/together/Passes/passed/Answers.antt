use Rattle.std.proofs.Common.{◌≡◌, ℕ, List, [], true, ap, sym, subst, ◌∙◌}
use Rattle.std.specs.List.{list_all}
use Rattle.tta_optim.specs.Cited.{Item, has_slot}
use Rattle.tta_optim.specs.Passes.{bypass_items, share_items, dead_items}
use Rattle.tta_optim.proofs.Slotted.{slotted}
use Rattle.tta_optim.proofs.NoMore.{bypass_no_more, share_no_more}
use Rattle.tta_optim.proofs.Passing.{list_is}
use Rattle.tta_optim.proofs.together.Passes.passed.Goals as goal

pub share_items-requires : goal.share_items-requires
share_items-requires c =
    let m = c.args.on.now.machine.now in
    let items = c.args.b.now.items in
    let is : c.as_slice-2.result.now ≡ bypass_items m [] items =
    c.as_slice-2.ensures ∙ (c.in_ok-bypassed.ensures.items ∙ (c.in_ok-one.ensures ∙ ap (λ (l : List Item). bypass_items m [] l) c.as_slice.ensures)) in
    subst (λ (l : List Item). list_all (has_slot m) l ≡ true) (sym is)
    (slotted m (bypass_items m [] items) ((bypass_no_more m items).list c.requires.list))

pub dead_items-requires : goal.dead_items-requires
dead_items-requires c =
    let m = c.args.on.now.machine.now in
    let items = c.args.b.now.items in
    let one : c.as_slice-2.result.now ≡ bypass_items m [] items =
    c.as_slice-2.ensures ∙ (c.in_ok-bypassed.ensures.items ∙ (c.in_ok-one.ensures ∙ ap (λ (l : List Item). bypass_items m [] l) c.as_slice.ensures)) in
    let is : c.as_slice-3.result.now ≡ share_items m [] (bypass_items m [] items) =
    c.as_slice-3.ensures ∙ (c.in_ok-shared.ensures.items ∙ (c.in_ok-two.ensures ∙ ap (λ (l : List Item). share_items m [] l) one)) in
    subst (λ (l : List Item). list_all (has_slot m) l ≡ true) (sym is)
    (slotted m (share_items m [] (bypass_items m [] items)) ((share_no_more m (bypass_items m [] items)).list ((bypass_no_more m items).list c.requires.list)))

pub returns : goal.returns
returns c =
    let m = c.args.on.now.machine.now in
    let b = c.args.b.now in
    let live = c.as_slice-live.ensures in record {
      bypassed = list_is c.in_ok-bypassed.bypassed b _
          (c.in_ok-bypassed.ensures.items ∙ (c.in_ok-one.ensures ∙ ap (λ (l : List Item). bypass_items m [] l) c.as_slice.ensures)) c.in_ok-bypassed.ensures.live;
      shared = list_is c.in_ok-shared.shared b _
          (c.in_ok-shared.ensures.items ∙ (c.in_ok-two.ensures ∙ ap (λ (l : List Item). share_items m [] l) c.as_slice-2.ensures)) c.in_ok-shared.ensures.live;
      lively = list_is c.in_ok-lively.lively b _
          (c.in_ok-lively.ensures.items ∙ (c.in_ok-three.ensures ∙ (ap (λ (l : List (ℕ × ℕ)). dead_items m l c.as_slice-3.result.now) live
          ∙ ap (λ (l : List Item). dead_items m b.live_out l) c.as_slice-3.ensures))) c.in_ok-lively.ensures.live;
    }
