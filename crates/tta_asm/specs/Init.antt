-- The data that an assembly text begins with.
use Rattle.std.specs.Prelude.{ℕ, ◌+◌, Bool, false, ◌&&◌, ◌||◌, nat_lt, nat_le, if◌then◌else◌, List, [], ◌∷◌, ◌++◌, drop, is_some, Result, Ok, Err, codes}
use Rattle.tta_asm.specs.Cited.{is_keyword, value_of, constant_of, refuse_if, Datum}
use Rattle.tta_parse.specs.Steps.{◌>>=◌}
use Rattle.tta_asm.specs.declared.refusal.AsmRefusal.TheVariants as refusal
use Rattle.tta_asm.specs.Refusals.{Refusal, fitting}
use Rattle.tta_asm.specs.Pieces.{Placed, Piece}
use Rattle.tta_asm.specs.Labels.{is_semicolon}
use Rattle.tta_asm.specs.Syntax.{next_word, line_of}

-- whether words begin a declaration of data: the word 'data', and directly after it a number
abbrev pub begins_datum : List Placed → Bool
begins_datum (first ∷ second ∷ ws) = is_keyword (codes "data") first.word && is_some (value_of second.word)
begins_datum ws = false

-- whether a piece is a declaration of data, where one can stand
abbrev pub is_declaration : Piece → Bool
is_declaration p = begins_datum p.words

-- a datum after which no word is left, and which a semicolon closes
abbrev pub closed_datum : Piece → List Placed → Datum → Result Datum ℕ
closed_datum p [] d = if is_semicolon p.close then Ok d else Err p.line
closed_datum p (w ∷ ws) d = Err w.line

-- the datum of a declaration: after its first word an address and a constant, and nothing more
unfoldable pub datum_form : Piece → Result Datum ℕ
datum_form p =
    next_word value_of p.line (drop 1 p.words) >>= λ address.
    next_word constant_of p.line address.rest >>= λ value.
    closed_datum p value.rest (record { address = address.value; value = value.value })

-- The datum of a declaration in a data space of so many words. Its address is one of these, and no less than a least one;
-- else it is refused, on the line of its first word.
unfoldable pub datum_of : (words least : ℕ) → Piece → Result Datum Refusal
datum_of words least p =
    fitting (datum_form p) >>= λ d.
    refuse_if (nat_lt d.address least || nat_le words d.address) (line_of p.line p.words, refusal.Data) (Ok d)

-- The data that pieces begin with, after those before, each address above the one before it. The first declaration that
-- is refused is reported.
abbrev pub data_from : (words least : ℕ) → (before : List Datum) → List Piece → Result (List Datum) Refusal
data_from words least before [] = Ok before
data_from words least before (p ∷ ps) =
    if is_declaration p
    then (datum_of words least p >>= λ d. data_from words (d.address + 1) (before ++ d ∷ []) ps)
    else Ok before

-- the pieces after the declarations of data
abbrev pub behind_data : List Piece → List Piece
behind_data [] = []
behind_data (p ∷ ps) = if is_declaration p then behind_data ps else p ∷ ps
