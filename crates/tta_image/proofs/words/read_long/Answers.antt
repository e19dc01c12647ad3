use Rattle.tta_image.specs.Decoding.{bits_in}
use Rattle.std.proofs.Common.{drop}
use Rattle.tta_image.proofs.Walks.{long_refused}
use Rattle.tta_image.proofs.words.read_long.Goals as goal

pub returns-in-None : goal.returns-in-None
returns-in-None c =
    long_refused c.args.m.now c.args.word c.args.layout.now.buses c.args.template (drop c.args.at (bits_in c.args.bytes.now)) c.in-Some.template c.taken_by-taken.result
    c.least_bus.result c.long_value.result c.of_word.result c.in-Some.is c.taken_by-taken.ensures c.long_value.ensures c.in-None.is c.least_bus.ensures c.of_word.ensures
