-- Small texts and their lines, and small lists of names, computed.
use Rattle.std.proofs.Common.{◌≡◌, ℕ, [], ◌∷◌, ◌++◌, refl}
use Rattle.std.specs.Prelude.{codes, Some, None}
use Rattle.tta_parse.specs.Cited.{Kind, Name, Mark, Bad, tokens_of, tokens_from, piece_at, mark_piece}
use Rattle.tta_parse.specs.Lines.{Lexeme, lines_of}
use Rattle.tta_parse.specs.Names.{Declared, named_in}

-- a word of one byte
word : Kind → ℕ → Lexeme
word kind byte = record { kind = kind; text = byte ∷ [] }

-- an empty text has no line
no_text : lines_of [] ≡ []
unfolding lines_of tokens_of tokens_from
no_text = refl

-- a newline alone ends a line without words
blank : lines_of (10 ∷ []) ≡ [] ∷ []
unfolding lines_of tokens_of tokens_from piece_at
blank = refl

-- a comment is no word; a blank line counts; the last line needs no newline
lines : lines_of (codes "a. # b" ++ 10 ∷ 10 ∷ codes "c ~") ≡ (word Name 97 ∷ word Mark 46 ∷ []) ∷ [] ∷ (word Name 99 ∷ word Bad 126 ∷ []) ∷ []
unfolding lines_of tokens_of tokens_from piece_at mark_piece word
lines = refl

-- two names, of which one is a prefix of the other
two : Declared ℕ
two = (codes "alu", 7) ∷ (codes "al", 8) ∷ []

second : named_in two (codes "al") ≡ Some 8
unfolding two
second = refl

missing : named_in two (codes "a") ≡ None
unfolding two
missing = refl
