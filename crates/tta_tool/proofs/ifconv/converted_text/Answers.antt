use Rattle.tta_tool.specs.Cited.{stated}
use Rattle.tta_ifconv.proofs.Unique.{stands_over}
use Rattle.tta_tool.proofs.Convertings.{converted_text}
use Rattle.tta_tool.proofs.ifconv.converted_text.Goals as goal

pub printed_text-requires : goal.printed_text-requires
printed_text-requires g c = stands_over _ c.args.program.now _ c.in-Ok.ensures.converted c.requires

pub returns-in-Ok : goal.returns-in-Ok
returns-in-Ok g c =
    let U = stated (λ v. (goal.OpUnit-dyn g v).unit_meaning v.1) c.args.units.now in
    converted_text U c.args.program.now c.in-Ok.converted (λ v. v.items) c.printed_text.result c.in-Ok.ensures.converted c.printed_text.ensures
