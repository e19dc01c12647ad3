use Rattle.std.proofs.Common.{◌≡◌, false, map}
use Rattle.tta_tac.specs.FirstPass.{has_address}
use Rattle.tta_tac.proofs.InitialLines.{data_line, added}
use Rattle.tta_tac.proofs.initial.InitialData.add.Goals as goal

-- the address is new, so its word goes last
pub returns : goal.returns
returns c =
    let m = c.self.inside.by_address in
    let free : has_address (map data_line m.entries) c.args.address ≡ false = rw c.self.view_is c.requires in
    let new = added m c.args.address (record { value = c.args.value; line = c.args.line }) c.insert.new.self.entries
    c.in_ok-insert.ensures.entries free in
    rw c.self.view_is at new
