use Rattle.std.proofs.Common.{rules, ap, ◌∙◌}
use Rattle.tta_ports.specs.Store.{Store, file_at}
use Rattle.tta_ports.specs.Entries.{store_of}
use Rattle.tta_ports.specs.Disk.{Disk}
use Rattle.tta_ports.proofs.StoreLemmas.{file_at-with_file, file_at-with_file-other}
use Rattle.tta_ports.proofs.mem_files.MemFiles.add.Goals as goal

pub returns-clause-held : goal.returns-clause-held
returns-clause-held c =
    ap (λ (s : Store). file_at s c.args.name.now) (search rules)
    ∙ file_at-with_file (store_of c.self.inside.files.items) c.args.name.now c.args.bytes.now

pub returns-clause-others : goal.returns-clause-others
returns-clause-others c = λ other apart.
    ap (λ (s : Store). file_at s other) (search rules)
    ∙ file_at-with_file-other (store_of c.self.inside.files.items)
    c.args.name.now c.args.bytes.now other apart
    ∙ ap (λ (d : Disk). file_at d.store other) c.self.view_is
