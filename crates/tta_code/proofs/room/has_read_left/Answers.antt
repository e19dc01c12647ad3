use Rattle.std.proofs.Common.{ap, ◌∙◌}
use Rattle.tta_list.proofs.Lists.{item_there}
use Rattle.tta_code.specs.Cited.{Machine}
use Rattle.tta_code.proofs.room.has_read_left.Goals as goal

pub returns-in-Some : goal.returns-in-Some
returns-in-Some c =
    let item = c.in-Some.ensures.lookup in
    let files = c.as_slice.ensures ∙ ap (λ (m : Machine). m.files) c.m.view_is in
    rw (c.in-Reg.is, item_there _ _ _ _ _ files c.from.ensures item.0 item.1, c.file_reads.ensures, c.from-in-Some.ensures)

pub returns-in-Imm : goal.returns-in-Imm
returns-in-Imm c = rw (c.in-Imm.is, c.imm_reads.ensures)
