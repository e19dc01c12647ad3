use Rattle.std.proofs.Common.{◌≤◌, IsTrue, length, map, refl, sym, subst, arith}
use Rattle.std.specs.List.{filter_map}
use Rattle.std.proofs.lemmas.List.{length-map}
use Rattle.tta_sim.specs.Results.{shown_by}
use Rattle.tta_sim.specs.Lines.{is_write_there, write_brought}
use Rattle.tta_sim.specs.Flat.{write_said}
use Rattle.tta_sim.specs.InPlace.{AreWritten}
use Rattle.tta_sim.proofs.Beginning.{all_at, take_past}
use Rattle.tta_sim.proofs.Flats.{within_said, at_said}
use Rattle.tta_sim.proofs.Placed.{next_known, next_written}
use Rattle.tta_sim.proofs.in_place.write_in_place.Goals as goal

pub write_one-requires-clause-there : goal.write_one-requires-clause-there
write_one-requires-clause-there c =
    let moves = c.args.moves.now in
    let k = c.loop-w.w-index in
    subst (λ w. IsTrue (is_write_there c.args.results.now.units w)) (sym (at_said write_said moves k _ _ c.loop-w-test.true refl))
    (all_at (λ w. IsTrue (is_write_there c.args.results.now.units w)) (map write_said moves) k _ c.requires.there (within_said write_said moves k c.loop-w-test.true))

pub write_one-requires-clause-known : goal.write_one-requires-clause-known
write_one-requires-clause-known c =
    let moves = c.args.moves.now in
    let k = c.loop-w.w-index in
    next_known c.args.places.now (shown_by c.args.results.now) (map write_said moves) k _ _ (within_said write_said moves k c.loop-w-test.true)
    (at_said write_said moves k _ _ c.loop-w-test.true refl) c.requires.order c.loop-w.places c.loop-w.invariant c.requires.known

pub loop-w-preserved : goal.loop-w-preserved
loop-w-preserved c =
    let moves = c.args.moves.now in
    let k = c.loop-w.w-index in
    next_written c.args.places.now (shown_by c.args.results.now) (map write_said moves) k _ _ (within_said write_said moves k c.loop-w-test.true)
    (at_said write_said moves k _ _ c.loop-w-test.true refl) c.requires.order c.loop-w.places c.loop-w.invariant c.write_one.new.places c.write_one.ensures

pub returns : goal.returns
returns c =
    let said = map write_said c.args.moves.now in
    let all : length said ≤ c.loop-w.w-index = omega (arith, c.loop-w-test.false, length-map c.args.moves.now write_said) in
    subst (λ ms. AreWritten c.args.places.now (filter_map (write_brought c.args.places.now (shown_by c.args.results.now)) ms) c.loop-w.places)
    (take_past said c.loop-w.w-index all) c.loop-w.invariant
