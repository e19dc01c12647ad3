-- What a list ends as, where a `&mut` to one of its values is returned.
use Rattle.std.specs.Prelude.{ℕ, List, slice_set}
use Rattle.std.specs.Borrow.{Lends, Fml, RattleType, MutBor}
use Rattle.tta_list.specs.contracts.items.Items.{the_row}

-- once the borrow r ends, the place has the last value written through r, and the other places are as they were
abbrev pub LendsItem : (T : RattleType) → MutBor (List T.Denot) → ℕ → MutBor T.Denot → Fml
LendsItem T s i r = Lends (the_row T) T s r (slice_set s.now i)
