use Rattle.std.proofs.Common.{ℕ, ◌+◌, ap}
use Rattle.tta_image.specs.Cited.{same_dest}
use Rattle.tta_arch.proofs.CodeLists.{place_or_len}
use Rattle.tta_image.proofs.fields.dest_code.Goals as goal

pub returns : goal.returns
returns c =
    ap (λ (n : ℕ). 1 + n)
    (place_or_len (same_dest c.args.dst) c.as_slice-dests.result.now c.args.bus.now.fields.now.dests _ _ c.as_slice-dests.ensures c.place_of_dest.ensures c.unwrap_or.ensures)
