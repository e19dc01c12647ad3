-- The lines of a printed text are those that it was printed from.
use Rattle.std.proofs.Common.{◌≡◌, ℕ, ◌+◌, ◌<◌, ◌^◌, Bool, true, false, List, [], ◌∷◌, ◌++◌, length, length-append, refl, sym, ap, ◌∙◌}
use Rattle.std.specs.Prelude.{Some, None, codes, decimal, map}
use Rattle.std.specs.List.{flat_map, AllByRecursion}
use Rattle.std.proofs.lemmas.List.{append_assoc, append-nil}
use Rattle.tta_text.specs.declared.lexeme.Kind.{Kind}
use Rattle.tta_roundtrip.specs.Cited.{Name, Number, Negative, Mark, Eol, Bad, is_newline, is_word_byte, first_is, is_name, token, piece_at, tokens_from, tokens_of, Lexeme, Line, is_line_end, lines_from, lines_of}
use Rattle.tta_parse.proofs.TextNames.{slice-between}
use Rattle.tta_parse.proofs.Scanned.{IsScanned, name_scanned, number_scanned, equals_scanned, colon_scanned}
use Rattle.tta_pretty.specs.Printed.{Printed, Words, Label, spaced, line_text, word}
use Rattle.tta_text.proofs.ShownWords.{tokens-front}

-- the lines of what is left of a text after these bytes, the first of them with these words
abbrev pub lines_at : (before : List ℕ) (is_open : Bool) (line : ℕ) → Line → (rest : List ℕ) → List Line
lines_at before is_open line words rest = lines_from (before ++ rest) words (tokens_from 0 is_open line (length before) rest)

-- the text stays the same, and so does the place
shift : (before word after : List ℕ) (is_open : Bool) (line : ℕ) (words : Line)
    → lines_from (before ++ (word ++ after)) words (tokens_from 0 is_open line (length before + length word) after)
    ≡ lines_at (before ++ word) is_open line words after
shift before word after is_open line words = rw (append_assoc before word after, length-append before word) refl

-- a word whose bytes are known
word-step : (before : List ℕ) (is_open : Bool) (line : ℕ) (words : Line) (kind : Kind) (byte : ℕ) (others after : List ℕ)
    → is_newline byte ≡ false
    → piece_at byte (others ++ after) ≡ token kind (length (byte ∷ others))
    → is_line_end kind ≡ false
    → lines_at before is_open line words (byte ∷ (others ++ after))
    ≡ lines_at (before ++ byte ∷ others) true line (words ++ record { kind = kind; text = byte ∷ others } ∷ []) after
word-step before is_open line words kind byte others after newline piece inside =
    let front = tokens-front byte others after is_open line (length before) (Some kind) piece in
    let cut = slice-between before (byte ∷ others) after in
    let next = shift before (byte ∷ others) after true line (words ++ record { kind = kind; text = byte ∷ others } ∷ []) in
    rw (front, inside, cut, newline) next

-- a word is put after the words before it
lines_at-word : (before : List ℕ) (is_open : Bool) (line : ℕ) (words : Line) (kind : Kind) (text after : List ℕ)
    → IsScanned kind text after
    → lines_at before is_open line words (text ++ after) ≡ lines_at (before ++ text) true line (words ++ record { kind = kind; text = text } ∷ []) after
lines_at-word before is_open line words kind text after s =
    rw s.whole (word-step before is_open line words kind s.byte s.others after s.line s.piece s.inside)

-- a blank is passed over
lines_at-blank : (before : List ℕ) (is_open : Bool) (line : ℕ) (words : Line) (after : List ℕ)
    → lines_at before is_open line words (32 ∷ after) ≡ lines_at (before ++ 32 ∷ []) true line words after
unfolding piece_at
lines_at-blank before is_open line words after =
    let front = tokens-front 32 [] after is_open line (length before) None refl in
    rw front (shift before (32 ∷ []) after true line words)

-- the end of a line ends it, and the next line begins
lines_at-newline : (before : List ℕ) (is_open : Bool) (line : ℕ) (words : Line) (after : List ℕ)
    → lines_at before is_open line words (10 ∷ after) ≡ words ∷ lines_at (before ++ 10 ∷ []) false (line + 1) [] after
unfolding piece_at
lines_at-newline before is_open line words after =
    let front = tokens-front 10 [] after is_open line (length before) (Some Eol) refl in
    rw front (ap (λ ls. words ∷ ls) (shift before (10 ∷ []) after false (line + 1) []))

-- where nothing is left there is no line
lines_at-end : (before : List ℕ) (line : ℕ) → lines_at before false line [] [] ≡ []
unfolding tokens_from
lines_at-end before line = refl

-- ---- printed lines

-- a word that can be printed: a name, a number, or the mark of an assignment
abbrev pub IsWord : Lexeme → Type 0
IsWord w = by w.kind w.text where
  by : Kind → List ℕ → Type 0
  by Name text = is_name text ≡ true
  by Number text = (n : ℕ) × (text ≡ decimal n) × (n < 2 ^ 32)
  by Mark text = text ≡ codes "="
  by kind text = ⊥

-- such a word is scanned
word_scanned : (kind : Kind) (text after : List ℕ) → IsWord (record { kind = kind; text = text }) → first_is is_word_byte after ≡ false → IsScanned kind text after
word_scanned Name text after is stop = name_scanned text after is stop
word_scanned Number text after is stop = rw is.1 (number_scanned is.0 after is.2 stop)
word_scanned Mark text after is stop = rw is (equals_scanned after)
word_scanned Negative text after is stop = absurd is
word_scanned Eol text after is stop = absurd is
word_scanned Bad text after is stop = absurd is

abbrev pub AreWords : Line → Type 0
AreWords line = AllByRecursion IsWord line

-- words with a blank between two are read as these words
spaced_read : (line : Line) (before : List ℕ) (is_open : Bool) (at : ℕ) (words : Line) (after : List ℕ) → AreWords line
    → lines_at before is_open at words (spaced line ++ 10 ∷ after) ≡ (words ++ line) ∷ lines_at (before ++ (spaced line ++ 10 ∷ [])) false (at + 1) [] after
spaced_read [] before is_open at words after are =
    lines_at-newline before is_open at words after ∙ ap (λ w. w ∷ lines_at (before ++ 10 ∷ []) false (at + 1) [] after) (sym (append-nil words))
spaced_read (w ∷ []) before is_open at words after are =
    let first = lines_at-word before is_open at words w.kind w.text (10 ∷ after) (word_scanned w.kind w.text (10 ∷ after) are.0 refl) in
    let last = lines_at-newline (before ++ w.text) true at (words ++ w ∷ []) after in
    first ∙ last ∙ ap (λ b. (words ++ w ∷ []) ∷ lines_at b false (at + 1) [] after) (append_assoc before w.text (10 ∷ []))
spaced_read (w ∷ v ∷ ws) before is_open at words after are =
    let more = spaced (v ∷ ws) in
    let whole : (w.text ++ (32 ∷ more)) ++ 10 ∷ after ≡ w.text ++ (32 ∷ (more ++ 10 ∷ after)) = append_assoc w.text (32 ∷ more) (10 ∷ after) in
    let first = lines_at-word before is_open at words w.kind w.text (32 ∷ (more ++ 10 ∷ after)) (word_scanned w.kind w.text (32 ∷ (more ++ 10 ∷ after)) are.0 refl) in
    let blank = lines_at-blank (before ++ w.text) true at (words ++ w ∷ []) (more ++ 10 ∷ after) in
    let rest = spaced_read (v ∷ ws) ((before ++ w.text) ++ 32 ∷ []) true at (words ++ w ∷ []) after are.1 in
    let texts : ((before ++ w.text) ++ 32 ∷ []) ++ (more ++ 10 ∷ []) ≡ before ++ ((w.text ++ (32 ∷ more)) ++ 10 ∷ [])
    = append_assoc (before ++ w.text) (32 ∷ []) (more ++ 10 ∷ []) ∙ append_assoc before w.text (32 ∷ (more ++ 10 ∷ []))
    ∙ ap (λ x. before ++ x) (sym (append_assoc w.text (32 ∷ more) (10 ∷ []))) in
    ap (lines_at before is_open at words) whole ∙ first ∙ blank ∙ rest
    ∙ ap (λ l. l ∷ lines_at (((before ++ w.text) ++ 32 ∷ []) ++ (more ++ 10 ∷ [])) false (at + 1) [] after) (append_assoc words (w ∷ []) (v ∷ ws))
    ∙ ap (λ b. (words ++ w ∷ v ∷ ws) ∷ lines_at b false (at + 1) [] after) texts

-- the words of a printed line
abbrev pub words_of : Printed → Line
words_of (Words line) = line
words_of (Label name) = word name ∷ record { kind = Mark; text = codes ":" } ∷ []

-- a line that can be printed
abbrev pub CanBePrinted : Printed → Type 0
CanBePrinted (Words line) = AreWords line
CanBePrinted (Label name) = is_name name ≡ true

-- a printed line is read as its words
line_read : (l : Printed) (before : List ℕ) (at : ℕ) (after : List ℕ) → CanBePrinted l
    → lines_at before false at [] (line_text l ++ after) ≡ words_of l ∷ lines_at (before ++ line_text l) false (at + 1) [] after
line_read (Words line) before at after are =
    ap (lines_at before false at []) (append_assoc (spaced line) (10 ∷ []) after) ∙ spaced_read line before false at [] after are
line_read (Label name) before at after is =
    let whole : (name ++ (58 ∷ 10 ∷ [])) ++ after ≡ name ++ (58 ∷ 10 ∷ after) = append_assoc name (58 ∷ 10 ∷ []) after in
    let first = lines_at-word before false at [] Name name (58 ∷ 10 ∷ after) (name_scanned name (58 ∷ 10 ∷ after) is refl) in
    let colon = lines_at-word (before ++ name) true at (word name ∷ []) Mark (codes ":") (10 ∷ after) (colon_scanned (10 ∷ after)) in
    let last = lines_at-newline ((before ++ name) ++ codes ":") true at (word name ∷ record { kind = Mark; text = codes ":" } ∷ []) after in
    let texts : ((before ++ name) ++ codes ":") ++ 10 ∷ [] ≡ before ++ (name ++ (58 ∷ 10 ∷ []))
    = append_assoc (before ++ name) (codes ":") (10 ∷ []) ∙ append_assoc before name (58 ∷ 10 ∷ []) in
    ap (lines_at before false at []) whole ∙ first ∙ colon ∙ last
    ∙ ap (λ b. (word name ∷ record { kind = Mark; text = codes ":" } ∷ []) ∷ lines_at b false (at + 1) [] after) texts

-- all printed lines are read as their words
lines_read : (ls : List Printed) (before : List ℕ) (at : ℕ) → AllByRecursion CanBePrinted ls
    → lines_at before false at [] (flat_map line_text ls) ≡ map words_of ls
lines_read [] before at are = lines_at-end before at
lines_read (l ∷ ls) before at are =
    line_read l before at (flat_map line_text ls) are.0
    ∙ ap (λ x. words_of l ∷ x) (lines_read ls (before ++ line_text l) (at + 1) are.1)

-- the lines of a printed text
pub lines_of_printed : (ls : List Printed) → AllByRecursion CanBePrinted ls → lines_of (flat_map line_text ls) ≡ map words_of ls
unfolding lines_of tokens_of
lines_of_printed ls are = lines_read ls [] 1 are
