use Rattle.std.proofs.lemmas.Option.{slice_get-get_or}
use Rattle.tta_lower.specs.Lower.{Part, Entry}
use Rattle.tta_lower.proofs.Numbered.{numbers-more}
use Rattle.tta_lower.proofs.numbers.numbers_of.Goals as goal

pub loop-k-preserved : goal.loop-k-preserved
loop-k-preserved c =
    let none : Part = Entry 0 in
    numbers-more c.args.p.now c.args.parts.now c.loop-k.numbers c.write_number.new.numbers c.loop-k.k c.requires.once c.loop-k.invariant _
    (slice_get-get_or c.args.parts.now c.loop-k.k none c.loop-k-test.true) c.write_number.ensures
