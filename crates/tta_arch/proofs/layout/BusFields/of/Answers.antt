use Rattle.std.proofs.Common.{ℕ, ◌+◌, List, filter, max, ap, ◌∙◌}
use Rattle.tta_arch.specs.declared.ends.Source.{Source}
use Rattle.tta_arch.specs.declared.ends.Dest.{Dest}
use Rattle.tta_arch.specs.Machine.{Machine}
use Rattle.tta_arch.specs.Joins.{is_dest_on}
use Rattle.tta_arch.specs.Fields.{width_for}
use Rattle.tta_arch.specs.Layout.{has_source_socket}
use Rattle.tta_arch.proofs.BusSources.{sources_by_socket}
use Rattle.tta_arch.proofs.Layouts.{fields_from_parts, short_width-read}
use Rattle.tta_arch.proofs.layout.BusFields.of.Goals as goal

pub returns-clause-value : goal.returns-clause-value
returns-clause-value c =
    let m = c.args.m.now in let bus = c.args.bus in
    let joined = λ (l : List Source). filter (has_source_socket m bus) l in
    let reached = λ (l : List Dest). filter (is_dest_on m bus) l in
    let codes = λ (n : ℕ). width_for (1 + n) in
    fields_from_parts m bus c.of-guards.result c.of-sources.result c.of-dests.result _ _ _ _
    (c.of-guards.ensures ∙ c.in_ok-guards.ensures)
    (c.of-sources.ensures ∙ c.in_ok-sources.ensures ∙ ap joined c.requires.sources ∙ sources_by_socket m bus)
    (c.of-dests.ensures ∙ c.in_ok-dests.ensures ∙ ap reached c.requires.dests)
    (c.width_for-guard_width.ensures.least ∙ ap codes c.len.ensures)
    (c.from-short_width.ensures ∙ short_width-read m c.as_slice.result.now bus c.index-as_slice-bus.result (c.as_slice.ensures ∙ ap (λ (x : Machine). x.buses) c.m.view_is) c.requires.within)
    (c.max-payload_width.ensures ∙ ap (λ (w : ℕ). max c.from-short_width.result w) (c.width_for.ensures.least ∙ ap width_for c.len-2.ensures))
    (c.width_for-dest_width.ensures.least ∙ ap codes c.len-3.ensures)
