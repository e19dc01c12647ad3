use Rattle.std.proofs.Common.{rules, ap}
use Rattle.tta_ports.specs.Store.{file_at}
use Rattle.tta_ports.specs.Disk.{Disk}
use Rattle.tta_ports.proofs.Found.{file_at-found, file_at-missing}
use Rattle.tta_ports.proofs.mem_files.MemFiles.get.Goals as goal

pub returns-in-Some : goal.returns-in-Some
returns-in-Some c =
    let store = ap (λ (d : Disk). file_at d.store c.args.name.now) c.self.view_is in
    let found = file_at-found c.self.inside.files.items c.args.name.now c.in-Some.at
    c.index.result.now (search rules) in
    let value = c.deref-in-Some.ensures.value in
    let index = c.index.ensures in
    cc

pub returns-in-None : goal.returns-in-None
returns-in-None c =
    let store = ap (λ (d : Disk). file_at d.store c.args.name.now) c.self.view_is in
    let missing = file_at-missing c.self.inside.files.items c.args.name.now (search rules) in
    cc
