use Rattle.std.proofs.Common.{◌++◌, length, arith, ap, sym, ◌∙◌}
use Rattle.tta_link.proofs.Places.{begun, block_step, step_slot, step_words}
use Rattle.tta_link.specs.Put.{is_word_in}
use Rattle.tta_link.proofs.row.push_block.Goals as goal

pub loop-k-init : goal.loop-k-init
loop-k-init c = record {
  words = c.in_ok-push_empty.ensures.words;
  value = c.in_ok-push_empty.ensures.value ∙ ap (λ l. c.args.words.now.items ++ l) (sym (begun c.args.m.now c.args.starts.now c.args.p.now.length (length c.as_slice-items.result.now) c.len.result c.as_slice-items.result.now (omega arith) (cc)));
}

pub put-requires-clause-slot : goal.put-requires-clause-slot
put-requires-clause-slot c = step_slot c.args.m.now c.args.starts.now c.args.words.now.items c.loop-k.words.items c.args.p.now.length c.len-start.result c.loop-k.k c.as_slice-items.result.now _ c.index_mut.result.now c.loop-k.invariant.value (omega arith) (omega arith) (omega arith) (rw c.as_slice-items.ensures c.requires) c.index_mut.ensures.value

pub loop-k-preserved : goal.loop-k-preserved
loop-k-preserved c = record {
  words = λ h. step_words is_word_in c.args.m.now c.args.starts.now c.args.words.now.items c.loop-k.words.items c.args.p.now.length c.len-start.result c.loop-k.k c.as_slice-items.result.now _ c.index_mut.result.now c.put.new.word c.loop-k.invariant.value (omega arith) (omega arith) (omega arith) (rw c.as_slice-items.ensures c.requires) c.index_mut.ensures.value c.put.ensures.word (c.loop-k.invariant.words h);
  value = block_step c.args.m.now c.args.starts.now c.args.words.now.items c.loop-k.words.items c.args.p.now.length c.len-start.result c.loop-k.k c.as_slice-items.result.now _ c.index_mut.result.now c.put.new.word c.loop-k.invariant.value (omega arith) (omega arith) (omega arith) (rw c.as_slice-items.ensures c.requires) c.index_mut.ensures.value c.put.ensures.value;
}
