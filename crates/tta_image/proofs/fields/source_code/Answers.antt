use Rattle.tta_image.specs.Cited.{same_source}
use Rattle.tta_arch.proofs.CodeLists.{place_or_len}
use Rattle.tta_image.proofs.fields.source_code.Goals as goal

pub returns : goal.returns
returns c =
    place_or_len (same_source c.args.src) c.as_slice-sources.result.now c.args.bus.now.fields.now.sources _ _ c.as_slice-sources.ensures c.place_of_source.ensures c.unwrap_or.ensures
