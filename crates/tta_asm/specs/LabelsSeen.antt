-- The labels that the code reads, as the definitions see them.
use Rattle.tta_asm.specs.declared.labels.LabelWord.{LabelWord as NamedWord}
use Rattle.tta_asm.specs.Labels.{LabelWord}

-- a name with its place
abbrev pub label_seen : NamedWord → LabelWord
label_seen w = record { name = w.name.now; line = w.line; start = w.start }
