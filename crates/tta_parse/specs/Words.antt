-- What a single word of a line can be.
use Rattle.std.specs.Prelude.{ℕ, Bool, true, false, ◌&&◌, if◌then◌else◌, List, Option, Some, None}
use Rattle.std.specs.Str.{bytes_eq}
use Rattle.tta_parse.specs.Cited.{Kind, Name, Number, Negative, Mark, number_of, negative_of}
use Rattle.tta_parse.specs.Lines.{Lexeme}

-- the kind of a name
abbrev pub is_name_kind : Kind → Bool
is_name_kind Name = true
is_name_kind kind = false

-- the kind of a mark
abbrev pub is_mark_kind : Kind → Bool
is_mark_kind Mark = true
is_mark_kind kind = false

-- a certain word of the language
abbrev pub is_keyword : List ℕ → Lexeme → Bool
is_keyword word w = is_name_kind w.kind && bytes_eq w.text word

-- a certain mark
abbrev pub is_mark : List ℕ → Lexeme → Bool
is_mark mark w = is_mark_kind w.kind && bytes_eq w.text mark

-- a name
abbrev pub name_of : Lexeme → Option (List ℕ)
name_of w = if is_name_kind w.kind then Some w.text else None

-- the value of a number
abbrev pub value_of : Lexeme → Option ℕ
value_of w = of w.kind where
  of : Kind → Option ℕ
  of Number = number_of w.text
  of kind = None

-- the value of a constant: a number or a negative
abbrev pub constant_of : Lexeme → Option ℕ
constant_of w = of w.kind where
  of : Kind → Option ℕ
  of Number = number_of w.text
  of Negative = negative_of w.text
  of kind = None
