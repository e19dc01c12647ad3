use Rattle.std.specs.Prelude.{codes}
use Rattle.tta_pretty.specs.Printed.{src_words, proc_name}
use Rattle.tta_pretty.proofs.Pushing.{line_put}
use Rattle.tta_pretty.proofs.steps.push_call.Goals as goal

pub returns : goal.returns
returns c =
    line_put (codes "call") (proc_name c.args.main c.args.callee) (src_words c.args.args.now) c.args.out.now.items _ _ _ _
    c.in_ok-extend_from_slice.ensures.items c.in_ok-push_proc.ensures c.in_ok-push_srcs.ensures c.in_ok-extend_from_slice-2.ensures.items
