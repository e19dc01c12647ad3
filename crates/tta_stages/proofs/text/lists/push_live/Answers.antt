use Rattle.std.proofs.Common.{ℕ, List, ◌++◌, ap, ◌∙◌}
use Rattle.std.specs.Prelude.{codes}
use Rattle.tta_stages.specs.Words.{pairs_text}
use Rattle.tta_stages.specs.ListText.{live_text}
use Rattle.tta_stages.proofs.Pieces.{where_put}
use Rattle.tta_stages.proofs.text.lists.push_live.Goals as goal
use Rattle.tta_list.proofs.Lists.{then_more}
use Rattle.tta_list.proofs.Results.{onward}

pub returns : goal.returns
unfolding live_text
returns c =
    let m = c.args.of.now.m.now in
    let pairs = pairs_text m c.args.list.now.live_out in
    let put = c.in_ok-push_pairs.ensures ∙ ap (λ (l : List (ℕ × ℕ)). c.extend_from_slice.new.self.items ++ pairs_text m l) c.as_slice.ensures in
    onward c.extend_from_slice-2.result (λ last. then_more _ _ _ (codes " live after :") (pairs ++ codes "\n") c.in_ok-extend_from_slice.ensures.items
    (then_more _ _ _ pairs (codes "\n") put last)) (where_put c.extend_from_slice-2.result _ _ (codes "\n") c.extend_from_slice-2.ensures.items)
