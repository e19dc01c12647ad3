use Rattle.tta_asm.specs.Pieces.{pieces_of}
use Rattle.tta_asm.proofs.AssembledLegal.{front_legal, front_behind}
use Rattle.tta_asm.proofs.assembling.whole_of.Goals as goal

-- as many pieces stand before the code as data were read
pub code_of-requires-clause-behind : goal.code_of-requires-clause-behind
code_of-requires-clause-behind g c =
    rw c.len.ensures (front_behind c.args.target.now.machine.now (pieces_of c.args.text.now) c.in_ok-init.init c.in_ok-init.ensures.answers)

-- data that were read ascend
pub invariant_of-result : goal.invariant_of-result
invariant_of-result g c =
    (front_legal c.args.target.now.machine.now (pieces_of c.args.text.now) c.in_ok-init.init c.in_ok-code.code c.in_ok-init.ensures.answers c.in_ok-code.ensures.legal).rises

-- and lie in the data space
pub returns-clause-legal : goal.returns-clause-legal
returns-clause-legal g c =
    front_legal c.args.target.now.machine.now (pieces_of c.args.text.now) c.in_ok-init.init c.in_ok-code.code c.in_ok-init.ensures.answers c.in_ok-code.ensures.legal
