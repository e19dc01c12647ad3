use Rattle.std.proofs.Common.{◌≡◌, take, true}
use Rattle.std.specs.List.{list_all, flat_map}
use Rattle.tta_link.specs.Linked.{block_words}
use Rattle.tta_link.proofs.row.link.Given as goal
use Rattle.tta_link.specs.Put.{is_word_in}

abbrev pub invariant-loop-p : goal.invariant-loop-p
invariant-loop-p l = record {
  value : l.code.items ≡ flat_map (block_words l.m l.starts.items) (take l.p-index l.blocks);
  words : list_all is_word_in l.code.items ≡ true;
}
