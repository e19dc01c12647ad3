use Rattle.tta_rtl.specs.Cited.{code_words}
use Rattle.tta_rtl.proofs.Filled.{reads_alike}
use Rattle.tta_rtl.proofs.laws.file_reads_alike.Goals as goal

pub returns : goal.returns
returns c m code address = reads_alike (code_words m code) _ address
