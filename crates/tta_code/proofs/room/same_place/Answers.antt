use Rattle.std.proofs.Common.{rules}
use Rattle.tta_code.proofs.room.same_place.Goals as goal

pub returns-then-file-f : goal.returns-then-file-f
returns-then-file-f c = search rules

pub returns-in-Trigger-b : goal.returns-in-Trigger-b
returns-in-Trigger-b c = search rules

pub returns-in_default-matches : goal.returns-in_default-matches
returns-in_default-matches c = search rules
