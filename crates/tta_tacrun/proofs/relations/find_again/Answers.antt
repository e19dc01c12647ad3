use Rattle.std.proofs.Common.{Some, ap, sym, ◌∙◌}
use Rattle.std.proofs.lemmas.Slice.Eq.{bytes_eq-Decides}
use Rattle.tta_tacrun.specs.Cited.{stated}
use Rattle.tta_ops.proofs.Named.{get_named}
use Rattle.tta_tacrun.proofs.relations.find_again.Goals as goal

pub returns-then-eq : goal.returns-then-eq
returns-then-eq g c =
    let U = stated (λ v. (goal.OpUnit-dyn g v).unit_meaning v.1) c.args.units.now in
    let same = (bytes_eq-Decides c.as_bytes.result.now c.args.name.now).0 (sym c.if-eq.ensures) in
    sym (get_named U c.args.name.now c.args.last.now.0 (c.name.ensures.at ∙ ap Some (sym c.as_bytes.ensures.value ∙ same)))
