use Rattle.std.proofs.Common.{◌-◌, sym, ◌∙◌, arith}
use Rattle.std.specs.Prelude.{nat_le, slice_index}
use Rattle.std.proofs.lemmas.Bool.{le-leb, lt-leb}
use Rattle.tta_draw.proofs.FreeLanes.{first_lane-here, first_lane-next}
use Rattle.tta_draw.proofs.lanes.first_lane.Goals as goal

pub returns-then-free-lane-clause-is : goal.returns-then-free-lane-clause-is
returns-then-free-lane-clause-is c =
    let lane = c.lanes.lane in
    let test = c.lanes-test.true in
    let all = c.from-all.ensures in
    let few = c.requires in
    let free = le-leb (slice_index c.args.free.now lane) c.args.row c.if-free-lane.true in
    sym (first_lane-here (λ k. nat_le (slice_index c.args.free.now k) c.args.row) (c.args.lanes - 1) lane (omega arith) free) ∙ c.lanes.invariant.rest

pub lanes-preserved : goal.lanes-preserved
lanes-preserved c =
    let lane = c.lanes.lane in
    let test = c.lanes-test.true in
    let all = c.from-all.ensures in
    let few = c.requires in
    let taken = lt-leb (slice_index c.args.free.now lane) c.args.row c.if-free-lane.false in
    record {
      within = omega arith;
      rest = sym (first_lane-next (λ k. nat_le (slice_index c.args.free.now k) c.args.row) (c.args.lanes - 1) lane (omega arith) taken) ∙ c.lanes.invariant.rest;
    }
