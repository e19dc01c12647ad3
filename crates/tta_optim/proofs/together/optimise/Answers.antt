use Rattle.std.proofs.Common.{◌≡◌, List, true, ap, sym, subst}
use Rattle.tta_optim.specs.Cited.{Item, BlockList, is_bypassed, is_shared, is_lively}
use Rattle.tta_optim.specs.Kept.{KeepsMeaning, DoesNoMore}
use Rattle.tta_optim.proofs.Meanings.{optimise_meaning}
use Rattle.tta_optim.proofs.NoMore.{optimise_no_more, optimise_bypassed, optimise_shared, optimise_lively}
use Rattle.tta_optim.proofs.Passing.{passed_is}
use Rattle.tta_optim.proofs.together.optimise.Goals as goal

pub returns : goal.returns
returns c =
    let m = c.args.m.now in
    let b = c.args.b.now in
    let live = b.live_out in
    let items = b.items in
    let is = passed_is m b _ c.in_ok-lively.ensures in
    let e = ap (λ (l : BlockList). l.items) is in
    record {
      are = e;
      meaning = subst (λ (l : List Item). KeepsMeaning m live items l) (sym e) (optimise_meaning m live items);
      bypassed = subst (λ (l : List Item). is_bypassed m l ≡ true) (sym e) (optimise_bypassed m live items);
      shared = subst (λ (l : List Item). is_shared m l ≡ true) (sym e) (optimise_shared m live items);
      lively = subst (λ (l : List Item). is_lively m live l ≡ true) (sym e) (optimise_lively m live items);
      no_more = subst (λ (l : List Item). DoesNoMore m items l) (sym e) (optimise_no_more m live items);
      live = ap (λ (l : BlockList). l.live_out) is;
    }
