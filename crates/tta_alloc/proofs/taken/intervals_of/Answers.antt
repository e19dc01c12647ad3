use Rattle.std.proofs.Common.{arith}
use Rattle.tta_alloc.proofs.WalkLemmas.{known_body}
use Rattle.tta_alloc.proofs.taken.intervals_of.Goals as goal

pub each-requires : goal.each-requires
each-requires c =
    known_body _ c.args.reached.now c.requires (λ k small. c.in_ok-row.ensures k (let e = c.len.ensures in omega arith))
