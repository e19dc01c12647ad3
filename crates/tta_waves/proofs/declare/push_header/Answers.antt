use Rattle.tta_waves.proofs.Headers.{header_is}
use Rattle.tta_waves.proofs.declare.push_header.Goals as goal

pub returns : goal.returns
returns c =
    header_is c.args.m.now c.args.signals.now _ _ _ _ c.requires c.in_ok-extend_from_slice.ensures.items c.in_ok-push_declarations.ensures
    c.in_ok-extend_from_slice-2.ensures.items
