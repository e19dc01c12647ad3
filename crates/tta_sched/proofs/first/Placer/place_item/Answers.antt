use Rattle.std.proofs.Common.{◌≡◌, ◌+◌, ◌∙◌, true, sym, ap, subst, arith}
use Rattle.tta_sched.specs.Cited.{StandsFor, Stands, is_within}
use Rattle.tta_sched.specs.First.{Asks}
use Rattle.tta_sched.proofs.Within.{within_of}
use Rattle.tta_sched.proofs.Fitting.{is_found, no_control_cycle}
use Rattle.tta_sched.proofs.first.Placer.place_item.Goals as goal

pub least-from-requires : goal.least-from-requires
least-from-requires c = within_of c.args.on.now.machine.now c.requires.rules c.args.item.now c.requires.slot

pub place-requires-clause-within : goal.place-requires-clause-within
place-requires-clause-within c =
    let asks : Asks c.args.on.now.machine.now c.reserve.new.self c.args.placed.now c.args.item.now c.least-from.result
    = record { table = c.in_ok-reserve.ensures.kept c.args.on.now.machine.now c.args.placed.now c.requires.keeps.table; controls = c.requires.controls; from = c.least-from.ensures c.args.placed.now c.requires.keeps.bounds } in
    let s = c.in-Some.ensures c.args.placed.now asks in
    subst (λ v. is_within c.args.on.now.machine.now v ≡ true) (sym s.item) (within_of c.args.on.now.machine.now c.requires.rules c.args.item.now c.requires.slot)

pub place-requires-clause-last : goal.place-requires-clause-last
place-requires-clause-last c = c.requires.keeps.bounds.control ∙ no_control_cycle c.args.placed.now c.requires.controls

pub place-requires-clause-soon : goal.place-requires-clause-soon
place-requires-clause-soon c =
    let asks : Asks c.args.on.now.machine.now c.reserve.new.self c.args.placed.now c.args.item.now c.least-from.result
    = record { table = c.in_ok-reserve.ensures.kept c.args.on.now.machine.now c.args.placed.now c.requires.keeps.table; controls = c.requires.controls; from = c.least-from.ensures c.args.placed.now c.requires.keeps.bounds } in
    let s = (c.in-Some.ensures c.args.placed.now asks).within in
    let e = c.end-end.ensures c.args.on.now.machine.now c.args.placed.now c.requires.keeps.bounds in
    omega arith

pub book-requires : goal.book-requires
book-requires c =
    let asks : Asks c.args.on.now.machine.now c.reserve.new.self c.args.placed.now c.args.item.now c.least-from.result
    = record { table = c.in_ok-reserve.ensures.kept c.args.on.now.machine.now c.args.placed.now c.requires.keeps.table; controls = c.requires.controls; from = c.least-from.ensures c.args.placed.now c.requires.keeps.bounds } in
    let s = (c.in-Some.ensures c.args.placed.now asks).within in
    let r = c.in_ok-reserve.ensures.room in
    omega arith

pub unreachable-requires : goal.unreachable-requires
unreachable-requires c =
    let asks : Asks c.args.on.now.machine.now c.reserve.new.self c.args.placed.now c.args.item.now c.least-from.result
    = record { table = c.in_ok-reserve.ensures.kept c.args.on.now.machine.now c.args.placed.now c.requires.keeps.table; controls = c.requires.controls; from = c.least-from.ensures c.args.placed.now c.requires.keeps.bounds } in
    is_found c.args.on.now.machine.now c.requires.rules c.args.placed.now c.args.item.now (c.end-end.result + 1) c.requires.slot
    (ap (λ n. n + 1) (c.end-end.ensures c.args.on.now.machine.now c.args.placed.now c.requires.keeps.bounds))
    (c.in-None.ensures c.args.placed.now asks)

pub returns-clause-keeps : goal.returns-clause-keeps
returns-clause-keeps c =
    let asks : Asks c.args.on.now.machine.now c.reserve.new.self c.args.placed.now c.args.item.now c.least-from.result
    = record { table = c.in_ok-reserve.ensures.kept c.args.on.now.machine.now c.args.placed.now c.requires.keeps.table; controls = c.requires.controls; from = c.least-from.ensures c.args.placed.now c.requires.keeps.bounds } in
    let s = c.in-Some.ensures c.args.placed.now asks in
    record {
      bounds = subst (λ l. Stands c.place.new.self c.args.on.now.machine.now l) (sym c.in_ok-push-in-Some.ensures.ok) (c.place.ensures c.args.placed.now c.in-Some.x.slot c.requires.keeps.bounds);
      table = subst (λ l. StandsFor c.book.new.self c.args.on.now.machine.now l) (sym c.in_ok-push-in-Some.ensures.ok) (c.book.ensures c.args.placed.now asks.table s.first.fits);
    }

pub returns-clause-adds : goal.returns-clause-adds
returns-clause-adds c =
    let asks : Asks c.args.on.now.machine.now c.reserve.new.self c.args.placed.now c.args.item.now c.least-from.result
    = record { table = c.in_ok-reserve.ensures.kept c.args.on.now.machine.now c.args.placed.now c.requires.keeps.table; controls = c.requires.controls; from = c.least-from.ensures c.args.placed.now c.requires.keeps.bounds } in
    let s = c.in-Some.ensures c.args.placed.now asks in
    let e = c.end-end.ensures c.args.on.now.machine.now c.args.placed.now c.requires.keeps.bounds in
    let w = s.within in
    record {
      last = c.in-Some.x;
      item = s.item;
      first = s.first;
      soon = omega arith;
      longer = c.in_ok-push-in-Some.ensures.ok;
    }
