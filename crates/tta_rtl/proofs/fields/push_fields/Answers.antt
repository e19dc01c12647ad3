use Rattle.std.proofs.Common.{ℕ, List, [], ◌∷◌, ◌++◌, length, sym, ap, ◌∙◌}
use Rattle.std.specs.List.{flat_map}
use Rattle.tta_list.proofs.Lists.{then_more}
use Rattle.tta_list.proofs.Results.{onward}
use Rattle.tta_rtl.specs.Cited.{numbers, template_width, TemplateOf, LongOf, bus_fields, with_bits}
use Rattle.tta_rtl.specs.Parts.{fields_text}
use Rattle.tta_rtl.proofs.Texts.{all_fields_text}
use Rattle.tta_rtl.proofs.fields.push_fields.Goals as goal

pub returns : goal.returns
returns c =
    let m = c.args.on.now.m.now in
    let buses = fields_text m (flat_map (bus_fields m) (numbers (length m.buses))) in
    let template = fields_text m (with_bits (template_width m) TemplateOf) in
    let long = fields_text m (LongOf ∷ []) in
    let old = c.args.out.now.items in
    let first = c.push_all_buses.new.out.items in
    let second = c.push_template_wire.new.out.items in
    let last = c.push_long_wire.new.out.items in
    onward c.push_long_wire.result (λ put.
    then_more old first last buses (template ++ long) c.in_ok-push_all_buses.ensures
    (then_more first second last template long c.in_ok-push_template_wire.ensures put)
    ∙ ap (λ (t : List ℕ). old ++ t) (sym (all_fields_text m))) c.push_long_wire.ensures
