use Rattle.std.proofs.Common.{ap, ◌∙◌}
use Rattle.tta_connect.specs.Cited.{Machine}
use Rattle.tta_connect.proofs.Firsts.{homes_more}
use Rattle.tta_connect.proofs.homes.push_files.Goals as goal

pub loop-file-preserved : goal.loop-file-preserved
loop-file-preserved c =
    homes_more c.args.on.now.machine.now c.args.hub c.loop-file.file c.f-item.result c.as_slice-f-items.result.now c.args.on.now.machine.now.files _ _ _
    (c.as_slice-f-items.ensures ∙ ap (λ (x : Machine). x.files) c.m.view_is) c.loop-file-test.true c.f-item.is c.in_ok-push_file.ensures c.loop-file.invariant
