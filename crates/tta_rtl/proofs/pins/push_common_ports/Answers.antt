use Rattle.std.proofs.Common.{◌++◌}
use Rattle.std.specs.Prelude.{codes}
use Rattle.tta_list.proofs.Lists.{then_more}
use Rattle.tta_list.proofs.Results.{onward}
use Rattle.tta_rtl.specs.Cited.{range}
use Rattle.tta_rtl.proofs.pins.push_common_ports.Goals as goal

pub returns : goal.returns
returns c =
    let first = codes "input clk;\ninput [0:0] reset;\noutput [0:0] halted;\noutput [0:0] cycle;\noutput " in
    let bits = range c.args.on.now.m.now.control.address in
    onward c.push_text-2.result (λ last.
    then_more _ _ _ first (bits ++ codes "pc;\n") c.in_ok-push_text.ensures
    (then_more _ _ _ bits (codes "pc;\n") c.in_ok-push_address_range.ensures last)) c.push_text-2.ensures
