-- The names among the words of a text's lines are names by the text's own rule.
use Rattle.std.proofs.Common.{◌≡◌, ℕ, ◌+◌, ◌-◌, Bool, true, false, List, [], ◌∷◌, ◌++◌, length, append_assoc, refl, sym, ap, subst, ◌∙◌, arith}
use Rattle.std.specs.Prelude.{Some, slice_range, if◌then◌else◌}
use Rattle.std.specs.List.{AllByRecursion}
use Rattle.std.proofs.lemmas.List.{take_at, drop_at}
use Rattle.tta_list.proofs.Lists.{all_append, all_push}
use Rattle.tta_parse.specs.Cited.{Kind, Name, Number, Negative, Mark, Eol, Bad, Token, is_name, is_of_kind, tokens_of, is_open, newlines, IsToken, Follow, last_end}
use Rattle.tta_text.proofs.Covering.{tokens_of-covers}
use Rattle.tta_parse.specs.Lines.{Lexeme, Line, is_line_end, lexeme_of, lines_from, lines_of}
use Rattle.tta_parse.specs.Words.{name_of}

-- the bytes between two others
pub slice-between : (a b c : List ℕ) → slice_range (a ++ (b ++ c)) (length a) (length a + length b) ≡ b
slice-between a b c =
    let n : length a + length b - length a ≡ length b = omega arith in
    rw (n, drop_at a (b ++ c) (length a) refl) (take_at b c (length b) refl)

-- where a word is a name, it is one by the rule of names
abbrev pub NamesToken : Lexeme → Type 0
NamesToken w = (name : List ℕ) → name_of w ≡ Some name → is_name name ≡ true

-- all words of a line are so
abbrev pub LineNames : Line → Type 0
LineNames line = AllByRecursion NamesToken line

-- a word whose bytes are of its kind is so
names-kind : (kind : Kind) (bytes : List ℕ) → is_of_kind kind bytes ≡ true → NamesToken (record { kind = kind; text = bytes })
names-kind Name bytes is name e = let same : bytes ≡ name = cc in subst (λ b. is_name b ≡ true) same is
names-kind Number bytes is name e = cc
names-kind Negative bytes is name e = cc
names-kind Mark bytes is name e = cc
names-kind Eol bytes is name e = cc
names-kind Bad bytes is name e = cc

-- a token of a text is a word whose name is a name
token-names : (text before word rest : List ℕ) (t : Token) → text ≡ before ++ (word ++ rest)
    → IsToken before word rest t → NamesToken (lexeme_of text t)
token-names text before word rest t whole is =
    let bytes : slice_range text t.start t.end ≡ word =
    rw (whole, is.start, is.end) (slice-between before word rest) in
    names-kind t.kind (slice_range text t.start t.end) (rw bytes is.kind)

-- tokens that follow one another are such words
follow-names : (text before left : List ℕ) (tokens : List Token) → text ≡ before ++ left → Follow before left tokens
    → AllByRecursion (λ t. NamesToken (lexeme_of text t)) tokens
follow-names text before left [] whole follow = tt
follow-names text before left (t ∷ tokens) whole follow =
    let next = follow.0 in
    let here : text ≡ (before ++ next.gap) ++ (next.word ++ next.rest) =
    whole ∙ ap (λ l. before ++ l) next.whole ∙ sym (append_assoc before next.gap (next.word ++ next.rest)) in
    let later : text ≡ (before ++ (next.gap ++ next.word)) ++ next.rest =
    here ∙ sym (append_assoc (before ++ next.gap) next.word next.rest)
    ∙ ap (λ l. l ++ next.rest) (append_assoc before next.gap next.word) in (
      token-names text (before ++ next.gap) next.word next.rest t here next.is_token,
      follow-names text (before ++ (next.gap ++ next.word)) next.rest tokens later follow.1,
    )

-- the end of a last line is no name
last-names : (text all : List ℕ) (b : Bool) → AllByRecursion (λ t. NamesToken (lexeme_of all t))
    (if b then record { line = newlines text + 1; start = length text; end = length text; kind = Eol } ∷ [] else [])
last-names text all true = ((λ name e. cc), tt)
last-names text all false = tt

-- all tokens of a text are such words
tokens-names : (text : List ℕ) → AllByRecursion (λ t. NamesToken (lexeme_of text t)) (tokens_of text)
tokens-names text =
    let covers = tokens_of-covers text in
    subst (AllByRecursion (λ t. NamesToken (lexeme_of text t))) (sym covers.all)
    (all_append (λ t. NamesToken (lexeme_of text t)) covers.bodies (last_end text)
    (follow-names text [] text covers.bodies refl covers.follow) (last-names text text (is_open text)))

-- lines of such words are such lines
lines-names : (text : List ℕ) (before : Line) (tokens : List Token) → LineNames before
    → AllByRecursion (λ t. NamesToken (lexeme_of text t)) tokens → AllByRecursion LineNames (lines_from text before tokens)
lines-names text before [] were are = tt
lines-names text before (t ∷ tokens) were are =
    by (is_line_end t.kind) (lines-names text [] tokens tt are.1)
    (lines-names text (before ++ lexeme_of text t ∷ []) tokens (all_push NamesToken before (lexeme_of text t) were are.0) are.1)
  where
    by : (b : Bool) → AllByRecursion LineNames (lines_from text [] tokens)
        → AllByRecursion LineNames (lines_from text (before ++ lexeme_of text t ∷ []) tokens)
        → AllByRecursion LineNames
        (if b then before ∷ lines_from text [] tokens else lines_from text (before ++ lexeme_of text t ∷ []) tokens)
    by true ended goes_on = (were, ended)
    by false ended goes_on = goes_on

-- all lines of a text are so
pub text_names : (text : List ℕ) → AllByRecursion LineNames (lines_of text)
unfolding lines_of
text_names text = lines-names text [] (tokens_of text) tt (tokens-names text)
