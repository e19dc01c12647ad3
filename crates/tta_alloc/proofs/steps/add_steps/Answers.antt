use Rattle.std.proofs.Common.{refl, ◌∙◌, ap, inl, inr, arith}
use Rattle.std.specs.Prelude.{◌==◌, ◌&&◌, ◌||◌}
use Rattle.tta_alloc.specs.Cited.{is_listed}
use Rattle.tta_alloc.proofs.StepLemmas.{range_none, range_more, range_end}
use Rattle.tta_alloc.proofs.steps.add_steps.Goals as goal

pub loop-at-init : goal.loop-at-init
loop-at-init c = record {
  near = inr refl;
  size = refl;
  all = λ k p small. range_none c.args.block.first c.args.block.owner k p (is_listed c.args.table.now k p);
}

pub loop-at-preserved : goal.loop-at-preserved
loop-at-preserved c =
    let before = c.loop-at.invariant in
    let b = c.args.block in
    record {
      near = inl (omega arith);
      size = c.in_ok-add.ensures.size ∙ before.size;
      all = λ k p small.
          range_more b.first c.loop-at.at b.owner k p (is_listed c.args.table.now k p) (is_listed c.add.new.self k p) c.loop-at.auto.at
          (c.in_ok-add.ensures.all k p (let s = before.size in omega arith) ∙ ap (λ r. r || (c.loop-at.at == p && b.owner == k)) (before.all k p small));
    }

pub returns : goal.returns
returns c = record {
  size = c.loop-at.invariant.size;
  all = λ k p small.
      range_end c.args.block.first c.args.block.last c.loop-at.at c.args.block.owner k p (is_listed c.args.table.now k p)
      (is_listed c.loop-at.table k p) c.loop-at-test.false c.loop-at.invariant.near (c.loop-at.invariant.all k p small);
}
