use Rattle.std.proofs.Common.{◌++◌}
use Rattle.std.specs.Prelude.{codes}
use Rattle.tta_list.proofs.Lists.{then_more}
use Rattle.tta_list.proofs.Results.{onward}
use Rattle.tta_rtl.specs.Cited.{text_of, write_line}
use Rattle.tta_rtl.specs.Memories.{stored}
use Rattle.tta_offers.specs.Offers.{places_of}
use Rattle.tta_rtl.proofs.spaces.push_store.Goals as goal

pub returns : goal.returns
unfolding write_line
returns c =
    let m = c.args.m.now in
    let port = stored c.args.size (places_of c.args.stores.now) in
    let name = c.args.name.now in
    let r6 = codes "] <= " ++ (text_of m port.word ++ codes ";\n") in
    let r5 = text_of m port.address ++ r6 in
    let r4 = codes "[" ++ r5 in
    let r3 = name ++ r4 in
    onward c.push_text-6.result (λ last.
    then_more _ _ _ (codes "always @(posedge clk) if (") (text_of m port.enable ++ (codes ") " ++ r3)) c.in_ok-push_text.ensures
    (then_more _ _ _ (text_of m port.enable) (codes ") " ++ r3) c.in_ok-push_enable.ensures
    (then_more _ _ _ (codes ") ") r3 c.in_ok-push_text-2.ensures
    (then_more _ _ _ name r4 c.in_ok-push_text-3.ensures
    (then_more _ _ _ (codes "[") r5 c.in_ok-push_text-4.ensures
    (then_more _ _ _ (text_of m port.address) r6 c.in_ok-push_word_of_start.ensures
    (then_more _ _ _ (codes "] <= ") (text_of m port.word ++ codes ";\n") c.in_ok-push_text-5.ensures
    (then_more _ _ _ (text_of m port.word) (codes ";\n") c.in_ok-push_word_of_start-2.ensures last)))))))) c.push_text-6.ensures
