use Rattle.std.proofs.Common.{ℕ, ap, ◌∙◌, Vec, Global}
use Rattle.tta_parse.specs.Names.{named_in}
use Rattle.tta_parse.proofs.Declared.{named_in-lookup}
use Rattle.tta_parse.proofs.names.Names.get.Goals as goal

-- the first entry with the name's bytes is the first such name
pub returns : goal.returns
returns g c =
    c.copied.ensures ∙ c.get.ensures.value
    ∙ named_in-lookup (λ (k : Vec ℕ Global). k.items) c.args.name.now c.self.inside.by_name.entries
    ∙ ap (λ names. named_in names c.args.name.now) c.self.view_is
