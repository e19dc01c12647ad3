use Rattle.std.proofs.Common.{◌≡◌, ◌++◌, replicate, None, true}
use Rattle.std.specs.List.{list_all}
use Rattle.tta_link.proofs.row.push_empty.Given as goal
use Rattle.tta_link.specs.Put.{is_word_in}

abbrev pub invariant-loop-cycle : goal.invariant-loop-cycle
invariant-loop-cycle l = record {
  value : l.words.items ≡ l.fn.words.items ++ replicate l._cycle (record { moves = replicate l.buses None; long = None });
  words : list_all is_word_in l.fn.words.items ≡ true → list_all is_word_in l.words.items ≡ true;
}
