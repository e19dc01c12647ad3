-- What the picture of code writes into its cells.
use Rattle.std.specs.Prelude.{List, ℕ, ◌++◌, codes, decimal}
use Rattle.tta_draw.specs.Cited.{Units, Machine, Move, Long, template_name}
use Rattle.tta_disasm.specs.Canonical.{move_text}

-- a move, as assembly has it
unfoldable pub written_move : Units → Machine → Move → List ℕ
written_move u m v = move_text u m v

-- a long immediate: its template and its word
unfoldable pub written_long : Machine → Long → List ℕ
written_long m l = template_name m l.template ++ (codes "=" ++ decimal l.value)
