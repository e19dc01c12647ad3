use Rattle.std.proofs.Common.{◌≤◌, length}
use Rattle.std.proofs.lemmas.List.Elements.{All-same}
use Rattle.tta_profile.proofs.Guards.{few_slots}
use Rattle.tta_profile.proofs.report.words_of.Goals as goal

pub returns-clause-low : goal.returns-clause-low
returns-clause-low c =
    All-same (λ i. length i.moves ≤ 16) _ _ c.as_slice.ensures (few_slots c.args.m.now c.addresses.ensures.rules c.args.code.now.words c.requires.words)
