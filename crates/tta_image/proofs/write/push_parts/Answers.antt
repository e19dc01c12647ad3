use Rattle.std.proofs.Common.{rules}
use Rattle.tta_image.proofs.write.push_parts.Goals as goal

pub returns : goal.returns
returns c = search rules
