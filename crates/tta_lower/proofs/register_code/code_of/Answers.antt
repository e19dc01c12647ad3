use Rattle.std.proofs.Common.{◌∙◌, ap, sym, subst, List, length, ◌<◌, ◌^◌}
use Rattle.tta_lower.specs.Cited.{count_of, RBlock}
use Rattle.tta_lower.specs.Lower.{Part}
use Rattle.tta_lower.specs.Tables.{StandOnce}
use Rattle.tta_lower.specs.Laid.{AreParts}
use Rattle.tta_lower.proofs.Facts.{fits-all, parts-once, parts-few, are-parts, code-is}
use Rattle.tta_lower.proofs.SameHomes.{answers_know}
use Rattle.tta_lower.proofs.register_code.code_of.Goals as goal

pub numbers_of-requires-clause-once : goal.numbers_of-requires-clause-once
numbers_of-requires-clause-once c =
    let plan = c.args.plan.now in
    let known = answers_know _ (count_of plan.homes.now) c.args.blocks.now plan.live.now plan.homes.now c.requires.sound c.requires.flow c.requires.live c.requires.homes in
    subst StandOnce (sym (c.as_slice.ensures.value ∙ c.in_ok-parts.ensures)) (parts-once _ c.requires.sound _ _ known)

pub numbers_of-requires-clause-few : goal.numbers_of-requires-clause-few
numbers_of-requires-clause-few c =
    let plan = c.args.plan.now in
    let known = answers_know _ (count_of plan.homes.now) c.args.blocks.now plan.live.now plan.homes.now c.requires.sound c.requires.flow c.requires.live c.requires.homes in
    subst (λ (l : List Part). length l < 2 ^ 32) (sym (c.as_slice.ensures.value ∙ c.in_ok-parts.ensures)) (parts-few _ c.requires.sound _ _ known)

pub blocks_for-requires-clause-parts : goal.blocks_for-requires-clause-parts
blocks_for-requires-clause-parts c =
    let plan = c.args.plan.now in
    let known = answers_know _ (count_of plan.homes.now) c.args.blocks.now plan.live.now plan.homes.now c.requires.sound c.requires.flow c.requires.live c.requires.homes in
    subst (AreParts c.args.plan.now.p.now) (sym (c.as_slice-2.ensures.value ∙ c.in_ok-parts.ensures)) (are-parts _ c.requires.sound _ _ known)

pub blocks_for-requires-clause-fits : goal.blocks_for-requires-clause-fits
blocks_for-requires-clause-fits c = fits-all _ c.requires.sound

pub returns : goal.returns
returns c =
    let plan = c.args.plan.now in
    let known = answers_know _ (count_of plan.homes.now) c.args.blocks.now plan.live.now plan.homes.now c.requires.sound c.requires.flow c.requires.live c.requires.homes in
    ap (λ (l : List RBlock). record { blocks = l }) (
    c.of.ensures ∙ c.in_ok-blocks.ensures
    ∙ code-is _ c.requires.sound _ _ known _ _ _ (c.as_slice.ensures.value ∙ c.in_ok-parts.ensures) c.in_ok-numbers.ensures
    (c.as_slice-2.ensures.value ∙ c.in_ok-parts.ensures))
