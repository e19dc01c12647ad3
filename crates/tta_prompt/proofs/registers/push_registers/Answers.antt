use Rattle.std.proofs.Common.{◌≡◌, suc, ◌+◌, ◌-◌, ◌++◌, ap, ◌∙◌, arith}
use Rattle.tta_prompt.specs.Texts.{register_word, register_line}
use Rattle.tta_prompt.proofs.Shown.{line_more}
use Rattle.tta_prompt.proofs.registers.push_registers.Goals as goal

pub registers-preserved : goal.registers-preserved
registers-preserved c =
    let test = c.registers-test.true in
    record {
      most = omega arith;
      put = λ s stands.
          let less : c.args.size - c.registers.index ≡ suc (c.args.size - (c.registers.index + 1)) = omega arith in
          line_more c.args.name.now (register_word s c.args.file) _ _ _ c.registers.index _ _ less
          (c.in_ok-push_register.ensures ∙ ap (λ w. c.registers.out.items ++ register_line c.args.name.now c.registers.index w) (c.reg.ensures s stands)) (c.registers.invariant.put s stands);
    }
