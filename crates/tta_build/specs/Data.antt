-- The data of a program as the data of its code.
use Rattle.tta_build.specs.Cited.{DataLine, Datum}

-- a line of data without its line number
abbrev pub datum_in : DataLine → Datum
datum_in d = record { address = d.address; value = d.value }
