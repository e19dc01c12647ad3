use Rattle.std.proofs.Common.{◌∙◌}
use Rattle.tta_flow.proofs.BitLemmas.{any_default}
use Rattle.tta_flow.proofs.GrowthLemmas.{unset_bit}
use Rattle.tta_flow.proofs.bits.BitRow.unset_there.Goals as goal

pub returns-clause-bits : goal.returns-clause-bits
returns-clause-bits c = λ k.
    unset_bit c.args.self.now.words.items c.args.bit k c.index_mut-word.result.now c.one_bit.result c.requires
    (c.index_mut-word.ensures.value ∙ any_default _ _ _ _ c.requires) c.one_bit.ensures c.one_bit.type_inv
