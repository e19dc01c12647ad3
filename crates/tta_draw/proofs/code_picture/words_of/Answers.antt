use Rattle.std.proofs.Common.{◌≤◌, length}
use Rattle.std.proofs.lemmas.List.Elements.{All-same}
use Rattle.tta_draw.proofs.Rows.{few_slots}
use Rattle.tta_draw.proofs.code_picture.words_of.Goals as goal

pub returns-clause-slots : goal.returns-clause-slots
returns-clause-slots c =
    All-same (λ i. length i.moves ≤ 16) _ _ c.as_slice.ensures
    (few_slots c.args.m.now c.args.code.now.words c.addresses.ensures.rules.limits.buses c.requires.words)
