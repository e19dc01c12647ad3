use Rattle.std.proofs.Common.{ap, ◌∙◌, Option}
use Rattle.tta_parse.specs.Steps.{◌>>?◌}
use Rattle.tta_asm.specs.declared.parts.Part.{Part}
use Rattle.tta_asm.specs.Resolving.{template_at}
use Rattle.tta_asm.proofs.TemplateNames.{template_found}
use Rattle.tta_asm.proofs.resolving.template_named.Goals as goal

pub returns-clause-there : goal.returns-clause-there
returns-clause-there g c =
    template_found c.args.target.now.machine.now c.args.name.now c.template_at.result
    (c.template_at.ensures ∙ ap (λ (o : Option Part). o >>? template_at) c.in_ok-part.ensures)
