use Rattle.std.proofs.Common.{◌≡◌, Bool, List, [], false, true, sym, ap, ◌∙◌, length, replicate, drop, arith}
use Rattle.std.specs.Prelude.{slice_set}
use Rattle.std.proofs.lemmas.List.{drop_all}
use Rattle.tta_optim.specs.Notes.{wanted_behind}
use Rattle.tta_optim.proofs.wanted.LiveOperands.end.Goals as goal

pub loop-first-init : goal.loop-first-init
loop-first-init c =
    let none : drop (length c.args.live.now) c.args.live.now ≡ [] = drop_all (length c.args.live.now) c.args.live.now (omega arith) in
    record {
      within = omega arith;
      so_far = c.set.ensures ∙ ap (λ (w : List Bool). slice_set w 640 true) c.begin.ensures ∙ ap (λ l. wanted_behind l (replicate 641 false)) (sym none);
    }

pub returns : goal.returns
returns c =
    let none : c.loop-first.first ≡ 0 = omega arith in
    c.loop-first.invariant.so_far ∙ ap (λ k. wanted_behind (drop k c.args.live.now) (replicate 641 false)) none
