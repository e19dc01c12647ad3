use Rattle.std.proofs.Common.{rules}
use Rattle.tta_image.proofs.header.has_length.Goals as goal

pub returns-then-words-addresses : goal.returns-then-words-addresses
returns-then-words-addresses c = search rules
