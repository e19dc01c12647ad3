use Rattle.std.proofs.Common.{◌≡◌, ◌++◌, drop, take, length}
use Rattle.tta_draw.specs.ImmediateWord.{learned}
use Rattle.tta_draw.proofs.targets.learn.Given as goal

abbrev pub invariant-loop-place : goal.invariant-loop-place
invariant-loop-place l = record {
  size : length l.known.items ≡ length l.initial.known.items;
  rest : take l.place l.known.items ++ learned l.news (drop l.place l.known.items) ≡ learned l.news l.initial.known.items;
}
