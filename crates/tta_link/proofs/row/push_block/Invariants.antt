use Rattle.std.proofs.Common.{◌≡◌, ◌++◌, map, drop, true}
use Rattle.std.specs.List.{list_all, range_with_len}
use Rattle.tta_link.specs.Cited.{in_cycle}
use Rattle.tta_link.specs.Linked.{instruction_of}
use Rattle.tta_link.proofs.row.push_block.Given as goal
use Rattle.tta_link.specs.Put.{is_word_in}

abbrev pub invariant-loop-k : goal.invariant-loop-k
invariant-loop-k l = record {
  value : l.words.items ≡ l.fn.words.items ++ map (λ c. instruction_of l.m l.starts (in_cycle c (drop l.k l.items))) (range_with_len 0 l.p.length);
  words : list_all is_word_in l.fn.words.items ≡ true → list_all is_word_in l.words.items ≡ true;
}
