use Rattle.std.proofs.Common.{None, Some, option_map, false, ap, sym, ◌∙◌}
use Rattle.tta_list.proofs.Lists.{item_there, item_past}
use Rattle.tta_sim.specs.Cited.{KeptImm}
use Rattle.tta_sim.specs.declared.decoded.DecodedSource.TheVariants.{Word}
use Rattle.tta_sim.specs.Places.{number_of}
use Rattle.tta_sim.specs.Decoded.{long_decoded}
use Rattle.tta_sim.proofs.decode.write_long.Goals as goal

pub returns-in-Some-get : goal.returns-in-Some-get
returns-in-Some-get c =
    let item = c.in-Some-get.ensures.lookup in
    let templates = c.as_slice.ensures ∙ ap (λ m. m.templates) c.m.view_is in
    let word = Word c.in-Some.l.value in
    ap (λ n. Some (record { reading = record { guard = None; src = word }; place = n; narrow = false })) c.immediate.ensures
    ∙ ap (λ o. option_map (λ t. record { reading = record { guard = None; src = word }; place = number_of (KeptImm t.imm t.reg); narrow = false }) o)
    (sym (item_there _ _ _ _ _ templates c.from.ensures item.0 item.1))
    ∙ ap (long_decoded c.args.m.now) (sym c.in-Some.is)

pub returns-in-None : goal.returns-in-None
returns-in-None c =
    let item = c.in-None.ensures.lookup in
    let templates = c.as_slice.ensures ∙ ap (λ m. m.templates) c.m.view_is in
    let word = Word c.in-Some.l.value in
    ap (λ o. option_map (λ t. record { reading = record { guard = None; src = word }; place = number_of (KeptImm t.imm t.reg); narrow = false }) o)
    (sym (item_past _ _ _ _ templates c.from.ensures item.0))
    ∙ ap (long_decoded c.args.m.now) (sym c.in-Some.is)
