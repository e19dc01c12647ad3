use Rattle.std.proofs.Common.{rules}
use Rattle.tta_ports.proofs.real_files.RealFilesFiles.read.Goals as goal

pub returns-in-Err-Failed-clause-blame : goal.returns-in-Err-Failed-clause-blame
returns-in-Err-Failed-clause-blame g c = search rules
