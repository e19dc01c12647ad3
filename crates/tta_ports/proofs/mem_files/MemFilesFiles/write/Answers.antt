use Rattle.std.proofs.Common.{rules}
use Rattle.tta_ports.proofs.mem_files.MemFilesFiles.write.Goals as goal

pub returns-then-must_fail-clause-exact : goal.returns-then-must_fail-clause-exact
returns-then-must_fail-clause-exact c = search rules

pub returns-then-must_fail-clause-written : goal.returns-then-must_fail-clause-written
returns-then-must_fail-clause-written c = search rules
