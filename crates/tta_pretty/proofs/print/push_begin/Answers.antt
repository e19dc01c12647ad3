use Rattle.std.specs.Prelude.{codes}
use Rattle.tta_pretty.specs.Printed.{words, var_names, proc_name}
use Rattle.tta_pretty.proofs.Pushing.{line_put}
use Rattle.tta_pretty.proofs.print.push_begin.Goals as goal

pub returns : goal.returns
returns c =
    line_put (codes "proc") (proc_name c.args.main c.args.k) (words (var_names 0 c.args.params)) c.args.out.now.items _ _ _ _
    c.in_ok-extend_from_slice.ensures.items c.in_ok-push_proc.ensures c.in_ok-push_params.ensures c.in_ok-extend_from_slice-2.ensures.items
