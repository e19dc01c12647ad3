-- Files in memory, as they are kept.
use Rattle.std.specs.Prelude.{ℕ, List, map}
use Rattle.std.specs.FinMap.{from_entries}
use Rattle.tta_ports.specs.declared.mem_files.File.{File}
use Rattle.tta_ports.specs.Store.{Store}

-- a file as a name and its bytes
abbrev pub entry_of : File → List ℕ × List ℕ
entry_of f = (f.name, f.bytes.items)

-- what a list of files holds. The first of a name counts
abbrev pub store_of : List File → Store
store_of files = from_entries (map entry_of files)
