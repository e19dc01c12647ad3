use Rattle.std.proofs.Common.{ℕ, List, ◌++◌}
use Rattle.std.specs.Prelude.{codes}
use Rattle.std.specs.List.{flat_map}
use Rattle.tta_stages.specs.Cited.{numbers, live_after}
use Rattle.tta_stages.specs.Words.{var_if}
use Rattle.tta_stages.specs.ProgramText.{after_text}
use Rattle.tta_stages.proofs.Pieces.{where_put}
use Rattle.tta_stages.proofs.text.program.push_after.Goals as goal
use Rattle.tta_list.proofs.Lists.{then_more}
use Rattle.tta_list.proofs.Results.{onward}

pub returns : goal.returns
unfolding after_text
returns c =
    let live : List ℕ = flat_map (λ (x : ℕ). var_if (live_after c.args.live.now c.args.owner c.args.step x) x) (numbers c.args.vars) in
    onward c.extend_from_slice-2.result (λ last. then_more _ _ _ (codes " live after :") (live ++ codes "\n") c.in_ok-extend_from_slice.ensures.items
    (then_more _ _ _ live (codes "\n") c.in_ok-push_all_after.ensures last)) (where_put c.extend_from_slice-2.result _ _ (codes "\n") c.extend_from_slice-2.ensures.items)
