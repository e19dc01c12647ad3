use Rattle.std.proofs.Common.{ℕ, ◌∙◌, ap, refl, length, arith}
use Rattle.tta_tac.specs.Cited.{texts}
use Rattle.tta_tac.proofs.params.numbered.Goals as goal
use Rattle.tta_tac.proofs.Twice.{is_twice_none, is_twice_step, is_twice_fresh, numbered_step}

pub loop-word-init : goal.loop-word-init
loop-word-init c = record {
  rest = rw c.new-vars.ensures refl;
  once = rw c.new-vars.ensures (is_twice_none ℕ (texts c.args.words.now) ∙ c.requires.once);
  index = ap length c.new-vars.ensures;
}

pub loop-word-preserved : goal.loop-word-preserved
loop-word-preserved c =
    let vars = c.loop-word.vars in
    let words = c.args.words.now in
    let i = c.loop-word.word-index in
    let below = c.loop-word-test.true in
    let added = rw c.len-number.ensures at c.in_ok-add.ensures.ok in
    record {
      rest = numbered_step vars c.add.new.self words i _ below added ∙ c.loop-word.invariant.rest;
      once =
          is_twice_step vars c.add.new.self _ words i _ below c.in_ok-add.ensures.ok
          (is_twice_fresh vars words i _ below c.loop-word.invariant.once)
          ∙ c.loop-word.invariant.once;
      index = omega (arith, c.in_ok-add.ensures.len, c.loop-word.invariant.index);
    }
