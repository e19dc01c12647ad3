use Rattle.std.proofs.Common.{length, sym, ap, ◌∙◌, arith}
use Rattle.std.proofs.lemmas.Bool.{ne_eqb}
use Rattle.std.proofs.lemmas.List.{length-drop}
use Rattle.tta_image.proofs.PairsRead.{some_told}
use Rattle.tta_image.proofs.pairs.read_data.Goals as goal

pub returns : goal.returns
returns c =
    some_told c.args.m.now c.args.bytes.now c.data_told-count.result c.pairs_in.result.now _ _ c.has_data.ensures c.if-not-has_data.false c.data_told-count.ensures (ne_eqb c.data_told-count.result 0 c.if-count-eq0.false)
    c.pairs_in.ensures (ap (λ m. m.data_words) c.m.view_is) c.read_pairs.ensures

pub read_pairs-requires : goal.read_pairs-requires
read_pairs-requires c =
    let size = ap length c.pairs_in.ensures ∙ length-drop 52 c.args.bytes.now in
    let room = c.requires (sym c.has_data.ensures ∙ c.if-not-has_data.false) in
    omega (arith, size, room, c.data_told-count.ensures)
