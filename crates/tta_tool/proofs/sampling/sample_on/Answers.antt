use Rattle.std.proofs.Common.{inr}
use Rattle.tta_tool.proofs.sampling.sample_on.Goals as goal

pub returns-in-Ok : goal.returns-in-Ok
returns-in-Ok g c =
    inr (record { value = c.in-Ok.file; held = c.in-Ok.ensures.ends.held }, c.in-Ok.ensures.ends.untouched, c.sample_for.ensures)
