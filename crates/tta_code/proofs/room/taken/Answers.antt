use Rattle.std.proofs.Common.{refl}
use Rattle.tta_list.proofs.Lists.{item_there}
use Rattle.tta_code.proofs.room.taken.Goals as goal

pub returns-in-Some-get : goal.returns-in-Some-get
returns-in-Some-get c =
    let item = c.in-Some-get.ensures.lookup in
    rw (c.in-Some.is, item_there _ _ _ _ _ refl c.from.ensures item.0 item.1)
