use Rattle.std.proofs.Common.{◌≡◌, take, arith, ap, sym, ◌∙◌, subst}
use Rattle.std.proofs.lemmas.List.{take_all}
use Rattle.std.specs.Prelude.{true}
use Rattle.std.specs.List.{list_all, flat_map}
use Rattle.tta_link.specs.Linked.{block_words, starts_from}
use Rattle.tta_link.specs.Put.{is_word_in}
use Rattle.tta_link.proofs.Places.{block_places}
use Rattle.tta_link.proofs.Whole.{linked_legal}
use Rattle.tta_link.proofs.row.link.Goals as goal

pub push_block-requires : goal.push_block-requires
push_block-requires c = block_places c.args.m.now c.addresses-have.ensures.rules c.args.blocks.now c.requires c.loop-p.p-index c.p-item.result c.as_slice.result.now (omega arith) c.p-item.is (c.as_slice.ensures.value ∙ c.in_ok-starts.ensures)

pub returns-clause-legal : goal.returns-clause-legal
returns-clause-legal c =
    let all : take c.loop-p.p-index c.args.blocks.now ≡ c.args.blocks.now = take_all c.loop-p.p-index c.args.blocks.now (omega arith) in
    let is : c.of.result ≡ flat_map (block_words c.args.m.now (starts_from 0 c.args.blocks.now)) c.args.blocks.now
    = c.of.ensures ∙ c.loop-p.invariant.value ∙ ap (λ l. flat_map (block_words c.args.m.now l) (take c.loop-p.p-index c.args.blocks.now)) c.in_ok-starts.ensures
    ∙ ap (flat_map (block_words c.args.m.now (starts_from 0 c.args.blocks.now))) all in
    linked_legal c.args.m.now c.addresses-have.ensures.rules c.args.blocks.now c.requires (record { words = c.of.result }) is (omega arith)
    (subst (λ l. list_all is_word_in l ≡ true) (sym c.of.ensures) c.loop-p.invariant.words)
