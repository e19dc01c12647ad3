-- Addresses in the list of a block.
use Rattle.std.specs.Prelude.{ℕ, Bool, true, nat_lt}
use Rattle.tta_select.specs.Cited.{ItemSource, Port, Address}

-- whether a source is no address, or that of one of so many blocks
abbrev pub is_closed : (blocks : ℕ) → ItemSource → Bool
is_closed blocks (Port src) = true
is_closed blocks (Address b) = nat_lt b blocks
