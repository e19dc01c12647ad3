use Rattle.std.proofs.Common.{◌++◌}
use Rattle.std.specs.Prelude.{codes}
use Rattle.hex.specs.Hex.{encode_lower}
use Rattle.tta_list.proofs.Lists.{then_more}
use Rattle.tta_list.proofs.Results.{onward}
use Rattle.tta_header.specs.Header.{machine_line}
use Rattle.tta_header.proofs.lines.push_machine.Goals as goal

pub returns : goal.returns
unfolding machine_line
returns c =
    let digits = encode_lower c.args.digest.now in
    onward c.push_text-2.result (λ last.
    then_more _ _ _ (codes "// machine: sha256 ") (digits ++ codes "\n") c.in_ok-push_text.ensures
    (then_more _ _ _ digits (codes "\n") c.in_ok-push_bytes.ensures last)) c.push_text-2.ensures
