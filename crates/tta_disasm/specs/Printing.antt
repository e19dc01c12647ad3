-- How the canonical text is put together, slot by slot.
use Rattle.std.specs.Prelude.{List, ◌++◌, Option, codes, ℕ}
use Rattle.tta_disasm.specs.Cited.{Units, Machine, Move}
use Rattle.tta_disasm.specs.Canonical.{slot_text}

-- a slot that is not the first, with the comma before it
abbrev pub later_slot_text : Units → Machine → Option Move → List ℕ
later_slot_text u m slot = codes " , " ++ slot_text u m slot
