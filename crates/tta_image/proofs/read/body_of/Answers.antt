use Rattle.std.proofs.Common.{◌+◌, ◌∙◌, ap, drop}
use Rattle.std.proofs.lemmas.List.{take_rest}
use Rattle.tta_image.proofs.read.body_of.Goals as goal

pub returns : goal.returns
returns c = take_rest c.args.bytes.now _ ∙ ap (λ n. drop (48 + n) c.args.bytes.now) c.section_length.ensures.value
