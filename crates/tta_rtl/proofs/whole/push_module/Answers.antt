use Rattle.std.proofs.Common.{◌++◌}
use Rattle.tta_list.proofs.Lists.{then_more}
use Rattle.tta_list.proofs.Results.{onward}
use Rattle.tta_rtl.specs.Cited.{stated, circuit_with}
use Rattle.tta_rtl.specs.Memories.{words_in}
use Rattle.tta_rtl.specs.Module.{before_parts, core_text, shown_text}
use Rattle.tta_rtl.proofs.whole.push_module.Goals as goal

pub returns : goal.returns
returns g c =
    let core = c.args.core.now in
    let m = core.on.now.m.now in
    let U = stated (λ v. (goal.OpUnit-dyn g v).unit_meaning v.1) core.units.now in
    let parts = core_text U m core.rom (circuit_with m (words_in m core.body.now core.words) core.first.now) in
    let shown = shown_text c.args.gives c.args.takes in
    onward c.push_shown.result (λ last.
    then_more _ _ _ (before_parts m c.args.name.now c.args.gives c.args.takes) (parts ++ shown) c.in_ok-push_before.ensures
    (then_more _ _ _ parts shown c.in_ok-push_parts.ensures last)) c.push_shown.ensures
