use Rattle.std.proofs.Common.{ℕ, List, ◌++◌, ap, ◌∙◌}
use Rattle.std.specs.Prelude.{codes}
use Rattle.std.specs.List.{flat_map}
use Rattle.tta_stages.specs.Cited.{numbers, Program, proc_name}
use Rattle.tta_stages.specs.ProgramText.{variable_text, proc_variables_text}
use Rattle.tta_stages.proofs.text.variables.push_proc_variables.Goals as goal
use Rattle.tta_list.proofs.Lists.{then_more}
use Rattle.tta_list.proofs.Results.{onward}

pub returns : goal.returns
unfolding proc_variables_text
returns c =
    let name : List ℕ = proc_name c.args.of.now.p.now.main c.args.owner in
    let each : List ℕ = flat_map (variable_text c.args.on.now.m.now c.args.on.now.homes.now c.args.of.now.p.now c.args.of.now.lowered.now c.args.owner c.args.first) (numbers c.args.vars) in
    let named = c.in_ok-push_proc.ensures ∙ ap (λ (x : Program). c.extend_from_slice.new.self.items ++ proc_name x.main c.args.owner) c.p.view_is in
    onward c.push_each.result (λ last. then_more _ _ _ (codes "variables proc ") (name ++ (codes "\n" ++ each)) c.in_ok-extend_from_slice.ensures.items
    (then_more _ _ _ name (codes "\n" ++ each) named
    (then_more _ _ _ (codes "\n") each c.in_ok-extend_from_slice-2.ensures.items last))) c.push_each.ensures
