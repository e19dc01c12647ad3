use Rattle.std.proofs.lemmas.List.{get_or_default}
use Rattle.tta_arch.proofs.CodeLists.{pieces_more}
use Rattle.tta_rtl.specs.Cited.{first_line}
use Rattle.tta_rtl.proofs.spaces.push_words.Goals as goal

pub loop-k-preserved : goal.loop-k-preserved
loop-k-preserved c =
    pieces_more (λ o. first_line c.args.name.now 32 o.0 o.1) _ _ _ c.args.words.now c.loop-k.k _ c.loop-k-test.true
    (get_or_default c.args.words.now c.loop-k.k _ _ c.loop-k-test.true) c.in_ok-push_first.ensures c.loop-k.invariant
