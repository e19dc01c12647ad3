use Rattle.std.proofs.Common.{map}
use Rattle.tta_arch.specs.Fields.{numbers}
use Rattle.tta_arch.specs.declared.ends.Dest.TheVariants as dest
use Rattle.tta_arch.proofs.CodeLists.{pieces_more}
use Rattle.tta_arch.proofs.codes.push_all_written.Goals as goal

pub loop-file-preserved : goal.loop-file-preserved
loop-file-preserved c =
    pieces_more (λ f. map (dest.Reg f.0) (numbers f.1.size)) _ _ _ c.args.files.now c.loop-file.file c.index-files-file.result c.loop-file-test.true c.index-files-file.is c.in_ok-push_written.ensures.ok c.loop-file.invariant
