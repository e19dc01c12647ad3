use Rattle.std.proofs.Common.{length, sym, ap, ◌∙◌, subst}
use Rattle.tta_net_command.specs.Cited.{laid_by, IsLegalCode, CodePair}
use Rattle.tta_net_command.proofs.files.put_together.Goals as goal
use Rattle.tta_list.proofs.Sets.{over-length}

pub returns-clause-load : goal.returns-clause-load
returns-clause-load c = record {
  legal = subst (λ (p : CodePair). IsLegalCode p.file.machine p.whole.code) (sym c.pair.view_is) c.requires.legal;
  size =
      ap length c.lay.ensures ∙ over-length (laid_by c.as_slice.result.now) c.args.words.items ∙ c.requires.size
      ∙ ap (λ (p : CodePair). p.file.machine.data_words) (sym c.pair.view_is);
}
