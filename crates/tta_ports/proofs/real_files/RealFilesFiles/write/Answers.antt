use Rattle.std.proofs.Common.{rules}
use Rattle.tta_ports.proofs.real_files.RealFilesFiles.write.Goals as goal

pub returns-in-Err-clause-blame : goal.returns-in-Err-clause-blame
returns-in-Err-clause-blame g c = search rules
