-- What the tokens of a text are, said of the text alone. Each token is as long as any kind allows,
-- and nothing but blanks and comments stands between two of them. Nothing here is made of the
-- scanner's definition.
use Rattle.std.specs.Prelude.{◌≡◌, ℕ, ◌+◌, ◌==◌, Bool, true, false, ◌&&◌, ◌||◌, not, if◌then◌else◌, List, [], ◌∷◌, ◌++◌, length, fold}
use Rattle.std.specs.List.{list_all}
use Rattle.tta_text.specs.declared.lexeme.Kind.{Kind}
use Rattle.tta_text.specs.declared.lexeme.Kind.TheVariants.{Eol}
use Rattle.tta_text.specs.declared.lexeme.Token.{Token}
use Rattle.tta_text.specs.Words.{is_blank, is_of_kind}

-- how many lines end in these bytes
abbrev pub newlines : List ℕ → ℕ
newlines bytes = fold (λ count byte. if byte == 10 then count + 1 else count) 0 bytes

-- bytes stand after the last newline
abbrev pub is_open : List ℕ → Bool
is_open bytes = fold (λ _ byte. not (byte == 10)) false bytes

-- These bytes of a text, between those before and the rest, are a token. It gives its place and its
-- line, and no longer part of the text from its place on is a token of any kind.
pub record IsToken (before word rest : List ℕ) (token : Token) : Type 0 where
  pub start : token.start ≡ length before
  pub end : token.end ≡ length before + length word
  pub line : token.line ≡ newlines before + 1
  pub kind : is_of_kind token.kind word ≡ true
  pub longest : (kind : Kind) (more after : List ℕ) → rest ≡ more ++ after
      → is_of_kind kind (word ++ more) ≡ true → more ≡ []

-- the line ends here
abbrev pub ends_line : List ℕ → Bool
ends_line [] = true
ends_line (byte ∷ bytes) = byte == 10

-- bytes that are no token's: blanks, and then maybe a comment, which goes to the end of its line
abbrev pub is_gap : (gap rest : List ℕ) → Bool
is_gap [] rest = true
is_gap (byte ∷ gap) rest =
    (is_blank byte && is_gap gap rest)
    || (byte == 35 && list_all (λ byte. not (byte == 10)) gap && ends_line rest)

-- the next token of what is left of a text after some bytes, after blanks and comments
pub record IsNext (before left : List ℕ) (token : Token) : Type 0 where
  pub gap : List ℕ
  pub word : List ℕ
  pub rest : List ℕ
  pub whole : left ≡ gap ++ (word ++ rest)
  pub between : is_gap gap (word ++ rest) ≡ true
  pub is_token : IsToken (before ++ gap) word rest token

-- these tokens follow one another in what is left of a text, and at last only blanks and comments are left
abbrev pub Follow : (before left : List ℕ) → List Token → Type 0
Follow before left [] = is_gap left [] ≡ true
Follow before left (token ∷ tokens) =
    (next : IsNext before left token) × Follow (before ++ (next.gap ++ next.word)) next.rest tokens

-- the end of a last line that has no newline, a token with no bytes
abbrev pub last_end : List ℕ → List Token
last_end text =
    if is_open text
    then record { line = newlines text + 1; start = length text; end = length text; kind = Eol } ∷ []
    else []

-- The tokens of a text follow one another, from its first byte on, and the end of an open last line
-- comes after them.
pub record Covers (text : List ℕ) (tokens : List Token) : Type 0 where
  pub bodies : List Token
  pub follow : Follow [] text bodies
  pub all : tokens ≡ bodies ++ last_end text
