use Rattle.std.proofs.Common.{arith, sym, length}
use Rattle.std.specs.List.{range_with_len}
use Rattle.tta_moves.specs.Cited.{joins}
use Rattle.tta_moves.specs.Slots.{carried}
use Rattle.tta_moves.proofs.Buses.{joins_below, any_below, none_of}
use Rattle.tta_moves.proofs.lists.is_joined.Goals as goal

pub returns-in-Some : goal.returns-in-Some
returns-in-Some c =
    let e = rw c.carried-from.ensures.value at c.in-Some.ensures.joined in
    let low = joins_below c.args.m.now c.carried-from.ensures.rules c.in-Some.field-0 _ c.args.dst c.args.guard e in
    sym (any_below (λ bus. joins c.args.m.now bus (carried c.args.m.now c.args.src) c.args.dst c.args.guard) 0 _ c.in-Some.field-0 (omega arith) (omega arith) e)

pub returns-in-None : goal.returns-in-None
returns-in-None c =
    sym (none_of (λ bus. joins c.args.m.now bus (carried c.args.m.now c.args.src) c.args.dst c.args.guard) (range_with_len 0 (length c.args.m.now.buses))
    (λ k. rw (sym c.carried-from.ensures.value) (c.in-None.ensures.none k)))
