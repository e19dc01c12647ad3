use Rattle.std.proofs.Common.{◌<◌, ◌^◌, ap, sym, Ok, Err, arith}
use Rattle.std.proofs.lemmas.Result.{err_from_is_err_and}
use Rattle.tta_image.specs.Cited.{Layout}
use Rattle.tta_image.proofs.ImageDecoded.{image_of_decoded, no_image}
use Rattle.tta_image.proofs.HeaderDecoded.{all_checked, small_bytes, section_there}
use Rattle.tta_image.proofs.PairsDecoded.{data_has}
use Rattle.tta_image.proofs.WordsRead.{words_room, words_few, image_answer, data_answer, header_answer}
use Rattle.tta_image.proofs.read.read_whole.Goals as goal

pub read_data-requires : goal.read_data-requires
read_data-requires c = λ some.
    let room = all_checked c.args.target.now.machine.now c.args.digest.now c.args.bytes.now c.in_ok-count.count (sym c.in_ok-count.ensures) in
    section_there c.args.bytes.now _ some room.long

pub body_of-requires-clause-number : goal.body_of-requires-clause-number
body_of-requires-clause-number c =
    let room = all_checked c.args.target.now.machine.now c.args.digest.now c.args.bytes.now c.in_ok-count.count (sym c.in_ok-count.ensures) in
    room.number

pub body_of-requires-clause-data : goal.body_of-requires-clause-data
body_of-requires-clause-data c =
    let room = all_checked c.args.target.now.machine.now c.args.digest.now c.args.bytes.now c.in_ok-count.count (sym c.in_ok-count.ensures) in
    let long = room.long in omega arith

pub read_words-requires-clause-few : goal.read_words-requires-clause-few
read_words-requires-clause-few c =
    let rules = c.rules.ensures in
    let room = all_checked c.args.target.now.machine.now c.args.digest.now c.args.bytes.now c.in_ok-count.count (sym c.in_ok-count.ensures) in
    let narrow : c.args.target.now.layout.now.width < 2 ^ 32 = omega arith in
    words_few c.args.target.now.machine.now c.args.digest.now c.args.bytes.now c.body_of.result.now c.in_ok-count.count c.args.target.now.layout.now.width rules room c.body_of.ensures
    (ap (λ (l : Layout). l.width) c.args.target.now.laid_out) narrow

pub read_words-requires-clause-room : goal.read_words-requires-clause-room
read_words-requires-clause-room c =
    let room = all_checked c.args.target.now.machine.now c.args.digest.now c.args.bytes.now c.in_ok-count.count (sym c.in_ok-count.ensures) in
    (words_room c.args.target.now.machine.now c.args.digest.now c.args.bytes.now c.body_of.result.now c.in_ok-count.count c.args.target.now.layout.now.width room c.body_of.ensures
    (ap (λ (l : Layout). l.width) c.args.target.now.laid_out)).0

pub read_words-requires-clause-short : goal.read_words-requires-clause-short
read_words-requires-clause-short c =
    let room = all_checked c.args.target.now.machine.now c.args.digest.now c.args.bytes.now c.in_ok-count.count (sym c.in_ok-count.ensures) in
    (words_room c.args.target.now.machine.now c.args.digest.now c.args.bytes.now c.body_of.result.now c.in_ok-count.count c.args.target.now.layout.now.width room c.body_of.ensures
    (ap (λ (l : Layout). l.width) c.args.target.now.laid_out)).1

-- the addresses of the data ascend
pub invariant_of-result : goal.invariant_of-result
invariant_of-result c =
    let room = all_checked c.args.target.now.machine.now c.args.digest.now c.args.bytes.now c.in_ok-count.count (sym c.in_ok-count.ensures) in
    let long = room.long in
    (data_has c.args.target.now.machine.now c.args.bytes.now c.in_ok-init.init (small_bytes c.args.bytes.now (λ i. (c.type_inv.bytes i).fits)) (omega arith) c.in_ok-init.ensures).rise

pub returns-clause-image : goal.returns-clause-image
returns-clause-image c =
    let rules = c.rules.ensures in
    image_of_decoded c.args.target.now.machine.now c.args.digest.now _ c.args.bytes.now rules c.told-digest (small_bytes c.args.bytes.now (λ i. (c.type_inv.bytes i).fits))
    (image_answer c.args.target.now.machine.now c.args.digest.now c.args.bytes.now c.body_of.result.now c.args.target.now.layout.now c.in_ok-count.count c.in_ok-init.init (Ok c.in_ok-words.words)
    c.args.target.now.laid_out c.body_of.ensures (sym c.in_ok-count.ensures) c.in_ok-init.ensures c.in_ok-words.ensures)

pub returns-clause-decoded : goal.returns-clause-decoded
returns-clause-decoded c =
    image_answer c.args.target.now.machine.now c.args.digest.now c.args.bytes.now c.body_of.result.now c.args.target.now.layout.now c.in_ok-count.count c.in_ok-init.init (Ok c.in_ok-words.words)
    c.args.target.now.laid_out c.body_of.ensures (sym c.in_ok-count.ensures) c.in_ok-init.ensures c.in_ok-words.ensures

pub returns-in_err-words-clause-decoded : goal.returns-in_err-words-clause-decoded
returns-in_err-words-clause-decoded c =
    let error = err_from_is_err_and c.from_residual-in_err-words.result c.from_residual-in_err-words.ensures.1 in
    rw (error.1, error.2) (image_answer c.args.target.now.machine.now c.args.digest.now c.args.bytes.now c.body_of.result.now c.args.target.now.layout.now c.in_ok-count.count c.in_ok-init.init (Err c.in_err-words.field-0.0)
    c.args.target.now.laid_out c.body_of.ensures (sym c.in_ok-count.ensures) c.in_ok-init.ensures c.in_err-words.ensures)

pub returns-in_err-count-clause-refused : goal.returns-in_err-count-clause-refused
returns-in_err-count-clause-refused c =
    let rules = c.rules.ensures in
    let error = err_from_is_err_and c.from_residual.result c.from_residual.ensures.1 in
    rw (error.1, error.2) (no_image c.args.target.now.machine.now c.args.digest.now c.args.bytes.now c.in_err-count.field-0.0 rules c.told-digest
    (header_answer c.args.target.now.machine.now c.args.digest.now c.args.bytes.now c.in_err-count.field-0.0 (sym c.in_err-count.ensures)))

pub returns-in_err-count-clause-decoded : goal.returns-in_err-count-clause-decoded
returns-in_err-count-clause-decoded c =
    let error = err_from_is_err_and c.from_residual.result c.from_residual.ensures.1 in
    rw (error.1, error.2) (header_answer c.args.target.now.machine.now c.args.digest.now c.args.bytes.now c.in_err-count.field-0.0 (sym c.in_err-count.ensures))

pub returns-in_err-init-clause-decoded : goal.returns-in_err-init-clause-decoded
returns-in_err-init-clause-decoded c =
    let error = err_from_is_err_and c.from_residual-in_err-init.result c.from_residual-in_err-init.ensures.1 in
    rw (error.1, error.2) (data_answer c.args.target.now.machine.now c.args.digest.now c.args.bytes.now c.in_ok-count.count c.in_err-init.field-0.0 (sym c.in_ok-count.ensures) c.in_err-init.ensures)

pub returns-in_err-init-clause-refused : goal.returns-in_err-init-clause-refused
returns-in_err-init-clause-refused c =
    let rules = c.rules.ensures in
    let error = err_from_is_err_and c.from_residual-in_err-init.result c.from_residual-in_err-init.ensures.1 in
    rw (error.1, error.2) (no_image c.args.target.now.machine.now c.args.digest.now c.args.bytes.now c.in_err-init.field-0.0 rules c.told-digest
    (data_answer c.args.target.now.machine.now c.args.digest.now c.args.bytes.now c.in_ok-count.count c.in_err-init.field-0.0 (sym c.in_ok-count.ensures) c.in_err-init.ensures))

pub returns-in_err-words-clause-refused : goal.returns-in_err-words-clause-refused
returns-in_err-words-clause-refused c =
    let rules = c.rules.ensures in
    let error = err_from_is_err_and c.from_residual-in_err-words.result c.from_residual-in_err-words.ensures.1 in
    rw (error.1, error.2) (no_image c.args.target.now.machine.now c.args.digest.now c.args.bytes.now c.in_err-words.field-0.0 rules c.told-digest
    (image_answer c.args.target.now.machine.now c.args.digest.now c.args.bytes.now c.body_of.result.now c.args.target.now.layout.now c.in_ok-count.count c.in_ok-init.init (Err c.in_err-words.field-0.0)
    c.args.target.now.laid_out c.body_of.ensures (sym c.in_ok-count.ensures) c.in_ok-init.ensures c.in_err-words.ensures))
