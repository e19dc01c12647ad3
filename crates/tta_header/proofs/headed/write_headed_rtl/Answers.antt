use Rattle.std.proofs.Common.{◌≡◌, ℕ, List, [], ◌++◌, ap, ◌∙◌}
use Rattle.tta_list.proofs.Lists.{then_more}
use Rattle.tta_ops.specs.Set.{stated}
use Rattle.tta_arch.specs.declared.parts.Op.TheVariants.{Out, Take}
use Rattle.tta_rtl.specs.Module.{offers}
use Rattle.tta_header.specs.Header.{module_of, ports_line, source_lines}
use Rattle.tta_header.proofs.headed.write_headed_rtl.Goals as goal

pub returns : goal.returns
returns g c =
    let U = stated (λ v. (goal.OpUnit-dyn g v).unit_meaning v.1) c.args.units.now in
    let m = c.args.of.now.m.now in
    let whole = c.args.of.now.whole.now in
    let image = c.in_ok-image.image.items in
    let source : List ℕ → List ℕ = λ i. source_lines m c.args.of.now.digest.now c.args.rom c.args.features.faults i whole in
    let ports = ports_line c.args.features.faults (offers m Out) (offers m Take) in
    let rtl = module_of U m c.args.rom c.args.features whole in
    let first : c.push_source_lines.new.out.items ≡ [] ++ source image =
    c.in_ok-push_source_lines.ensures ∙ ap (λ (o : List ℕ). o ++ source c.as_slice.result.now) c.new-out.ensures.items
    ∙ ap source c.as_slice.ensures.value in
    let last : c.push_text.new.out.items ≡ c.push_ports_of.new.out.items ++ rtl =
    c.in_ok-push_text.ensures ∙ ap (λ (t : List ℕ). c.push_ports_of.new.out.items ++ t) (c.as_slice-2.ensures.value ∙ c.in_ok-text.ensures) in
    record {
      image = image;
      image_is = c.in_ok-image.ensures;
      is = then_more [] _ _ (source image) (ports ++ rtl) first (then_more _ _ _ ports rtl c.in_ok-push_ports_of.ensures last);
    }
