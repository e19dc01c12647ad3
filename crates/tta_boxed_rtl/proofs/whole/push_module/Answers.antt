use Rattle.std.proofs.Common.{◌++◌, ℕ, List, Bool, ap, ◌∙◌}
use Rattle.tta_list.proofs.Lists.{then_more}
use Rattle.tta_list.proofs.Results.{onward}
use Rattle.tta_rtl.specs.Cited.{stated}
use Rattle.tta_rtl.specs.Memories.{words_in}
use Rattle.tta_boxed_rtl.specs.Cited.{Out, boxed, offers}
use Rattle.tta_boxed_rtl.specs.Left.{told_by}
use Rattle.tta_boxed_rtl.specs.Parts.{circuit_by}
use Rattle.tta_boxed_rtl.specs.Module.{before_text, core_text, shown_text}
use Rattle.tta_boxed_rtl.proofs.whole.push_module.Goals as goal

pub returns : goal.returns
returns g c =
    let of = c.args.of.now in
    let core = of.core.now in
    let m = core.on.now.m.now in
    let leaves = told_by of.leaves.now in
    let u = stated (λ v. (goal.OpUnit-dyn g v).unit_meaning v.1) core.units.now in
    let circuit = circuit_by of.faults m core.words (words_in m core.body.now core.words) core.first.now in
    let parts = core_text u m core.rom leaves (boxed m leaves circuit) in
    let old = c.args.out.now.items in
    let gives = c.in_ok-gives.gives in
    let takes = c.in_ok-takes.takes in
    let text : Bool → Bool → List ℕ = λ a b. before_text m of.faults a b ++ (parts ++ shown_text m of.faults a b) in
    onward c.push_shown.result (λ last.
    then_more _ _ _ (before_text m of.faults gives takes) (parts ++ shown_text m of.faults gives takes) c.in_ok-push_before.ensures
    (then_more _ _ _ parts (shown_text m of.faults gives takes) c.in_ok-push_parts.ensures last)
    ∙ ap (λ (a : Bool). old ++ text a takes) c.in_ok-gives.ensures
    ∙ ap (λ (b : Bool). old ++ text (offers m Out) b) c.in_ok-takes.ensures) c.push_shown.ensures
