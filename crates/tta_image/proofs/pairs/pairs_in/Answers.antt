use Rattle.std.proofs.lemmas.List.{take_rest}
use Rattle.tta_image.proofs.pairs.pairs_in.Goals as goal

pub returns : goal.returns
returns c = take_rest c.args.bytes.now 52
