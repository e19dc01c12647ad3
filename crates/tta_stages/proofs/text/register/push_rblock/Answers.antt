use Rattle.std.proofs.Common.{◌≡◌, ℕ, List, ◌++◌, subst}
use Rattle.std.specs.Prelude.{codes}
use Rattle.tta_stages.specs.Cited.{stated, RStep}
use Rattle.tta_stages.specs.StepText.{steps_text, exit_text}
use Rattle.tta_stages.specs.RegisterText.{homes_text, rblock_text}
use Rattle.tta_stages.proofs.Pieces.{where_put}
use Rattle.tta_stages.proofs.text.register.push_rblock.Goals as goal
use Rattle.tta_list.proofs.Lists.{then_more}
use Rattle.tta_list.proofs.Results.{onward}

pub returns : goal.returns
unfolding rblock_text
returns g c =
    let U = stated (λ v. (goal.OpUnit-dyn g v).unit_meaning v.1) c.args.units.now in
    let m = c.args.on.now.m.now in
    let homes = c.args.on.now.homes.now in
    let b = c.args.b.now in
    let steps : List ℕ = steps_text U m homes b.steps in
    let exit : List ℕ = exit_text m homes b.exit in
    let live : List ℕ = homes_text m homes b.live_out in
    let stepped = subst (λ (l : List RStep). c.push_rsteps.new.out.items ≡ c.args.out.now.items ++ steps_text U m homes l) c.as_slice.ensures c.in_ok-push_rsteps.ensures in
    let lived = subst (λ (l : List ℕ). c.push_homes.new.out.items ≡ c.extend_from_slice.new.self.items ++ homes_text m homes l) c.as_slice-2.ensures c.in_ok-push_homes.ensures in
    onward c.extend_from_slice-2.result (λ last. then_more _ _ _ steps (exit ++ (codes "\n live after :" ++ (live ++ codes "\n"))) stepped
    (then_more _ _ _ exit (codes "\n live after :" ++ (live ++ codes "\n")) c.in_ok-push_exit.ensures
    (then_more _ _ _ (codes "\n live after :") (live ++ codes "\n") c.in_ok-extend_from_slice.ensures.items
    (then_more _ _ _ live (codes "\n") lived last)))) (where_put c.extend_from_slice-2.result _ _ (codes "\n") c.extend_from_slice-2.ensures.items)
