use Rattle.std.proofs.Common.{◌≡◌, ◌<◌, ◌^◌, true, List, ap, sym, ◌∙◌, length, subst, arith}
use Rattle.std.specs.List.{flat_map}
use Rattle.std.proofs.lemmas.List.Elements.{All-same}
use Rattle.tta_image.specs.Cited.{Instruction, Layout, Datum, Whole, rises}
use Rattle.tta_image.proofs.PairsDecoded.{few_data}
use Rattle.tta_image.proofs.Orders.{layout_in_order}
use Rattle.tta_image.specs.Bits.{instruction_bits}
use Rattle.tta_image.proofs.ImageLemmas.{parts_from, are_bytes_of_same, legal_slots}
use Rattle.tta_image.proofs.write.write_image.Goals as goal

pub pack_words-requires-clause-slots : goal.pack_words-requires-clause-slots
pack_words-requires-clause-slots c =
    All-same (λ (i : Instruction). length i.moves ≡ length c.args.m.now.buses) _ _ (c.as_slice.ensures ∙ ap (λ (w : Whole). w.code.words) c.whole.view_is) (legal_slots c.args.m.now c.args.whole.now.code.words c.requires.legal.words)

pub pack_words-requires-clause-order : goal.pack_words-requires-clause-order
pack_words-requires-clause-order c =
    let rules = c.rules.ensures in
    layout_in_order c.args.m.now c.in_ok-layout.layout rules c.in_ok-layout.ensures

pub push_parts-requires-clause-few : goal.push_parts-requires-clause-few
push_parts-requires-clause-few c =
    let rules = c.rules.ensures in
    let words = rules.limits.data_words in
    let small : c.args.m.now.data_words < 2 ^ 32 = omega arith in
    subst (λ (l : List Datum). length l < 2 ^ 32) (sym (c.as_slice-2.ensures ∙ ap (λ (w : Whole). w.init) c.whole.view_is))
    (few_data c.args.m.now.data_words c.args.whole.now.init small (subst (λ (w : Whole). rises w.init ≡ true) c.whole.view_is c.whole.invariant) c.requires.data)

pub returns : goal.returns
returns c = record {
  body = c.in_ok-body.body.items;
  parts = parts_from c.args.m.now c.args.digest.now (length c.args.whole.now.code.words) c.in_ok-layout.layout.width _ c.args.whole.now.init _ _ _ _
      c.in_ok-push_parts.ensures c.as_slice-3.ensures.value
      (c.as_slice-2.ensures ∙ ap (λ (w : Whole). w.init) c.whole.view_is) (ap (λ (l : Layout). l.width) c.in_ok-layout.ensures)
      (c.count_words.ensures.all ∙ ap (λ (w : Whole). length w.code.words) c.whole.view_is);
  words = are_bytes_of_same _ _ _ (ap (λ (l : List Instruction). flat_map (instruction_bits c.args.m.now) l) (c.as_slice.ensures ∙ ap (λ (w : Whole). w.code.words) c.whole.view_is)) c.in_ok-body.ensures;
  legal = c.requires.legal;
  rises = subst (λ (w : Whole). rises w.init ≡ true) c.whole.view_is c.whole.invariant;
  fits = c.requires.data;
}
