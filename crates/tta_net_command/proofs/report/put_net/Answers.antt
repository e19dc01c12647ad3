use Rattle.std.proofs.Common.{◌+◌, ap, ◌∙◌, subst}
use Rattle.tta_net_command.specs.Cited.{lines_text, words_of, fault_by}
use Rattle.tta_report.proofs.Puts.{HasPut, put_more, put_part, part_is_put}
use Rattle.tta_net_command.specs.Net.{net_lines}
use Rattle.tta_net_command.proofs.NetLines.{net_put}
use Rattle.tta_net_command.proofs.report.put_net.Goals as goal

pub returns-in_err-put_core-clause-grows : goal.returns-in_err-put_core-clause-grows
returns-in_err-put_core-clause-grows g c =
    let h = c.args.cluster.now in
    let last = c.args.last.now in
    let has = subst (HasPut (g.S.Sink.output c.args.sink.now).taken (g.S.Sink.output c.cores.sink).taken (lines_text (net_lines (words_of h) (fault_by h) 0 last)))
    (net_put (words_of h) (fault_by h) last c.cores.core c.cores.turn-index _ _ _ _ c.output.ensures.held c.fault.ensures.held c.turn_line-line.ensures c.cores-test.true)
    c.cores.invariant.put in
    let part = c.in_err-put_core.ensures.grows in
    part_is_put _ _ _ _ c.from_residual.ensures.0 (put_part _ _ _ _ _ _ part.0 has part.1)

pub cores-preserved : goal.cores-preserved
cores-preserved g c =
    let h = c.args.cluster.now in
    let last = c.args.last.now in
    let has = subst (HasPut (g.S.Sink.output c.args.sink.now).taken (g.S.Sink.output c.cores.sink).taken (lines_text (net_lines (words_of h) (fault_by h) 0 last)))
    (net_put (words_of h) (fault_by h) last c.cores.core c.cores.turn-index _ _ _ _ c.output.ensures.held c.fault.ensures.held c.turn_line-line.ensures c.cores-test.true)
    c.cores.invariant.put in
    record {
      core = ap (λ k. k + 1) c.cores.invariant.core;
      put = put_more _ _ _ _ _ _ has c.in_ok-put_core.ensures.grows;
      faults = c.in_ok-put_core.ensures.cause ∙ c.cores.invariant.faults;
    }
