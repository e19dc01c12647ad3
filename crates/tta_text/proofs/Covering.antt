-- The tokens of a text are those that the law asks for.
use Rattle.std.proofs.Common.{◌≡◌, ℕ, zero, suc, ◌+◌, ◌≤◌, Bool, true, false, not, ◌==◌, List, [], ◌∷◌, ◌++◌, length, length-append, append_assoc, drop, refl, sym, ◌∙◌, ap, subst, inl, inr, arith, le_refl}
use Rattle.std.specs.Prelude.{Option, Some, None, if◌then◌else◌, fold}
use Rattle.std.proofs.lemmas.Bool.{cases_Bool}
use Rattle.std.proofs.lemmas.List.{append-nil, drop_at}
use Rattle.std.proofs.lemmas.List.Sums.{fold-append}
use Rattle.tta_text.specs.declared.lexeme.Kind.{Kind}
use Rattle.tta_text.specs.declared.lexeme.Kind.TheVariants.{Eol}
use Rattle.tta_text.specs.declared.lexeme.Token.{Token}
use Rattle.tta_text.specs.Tokens.{piece_at, with_token, line_after, tokens_from, tokens_of}
use Rattle.tta_text.specs.Covers.{newlines, is_open, IsToken, IsNext, Follow, last_end, Covers}
use Rattle.tta_text.proofs.Turns.{tokens_from-piece-cons}
use Rattle.tta_text.proofs.Fronts.{Stands, Front}
use Rattle.tta_text.proofs.Marks.{front_of}

-- lines are counted part by part
newlines_from : (count : ℕ) (bytes : List ℕ)
    → fold (λ count byte. if byte == 10 then count + 1 else count) count bytes ≡ count + newlines bytes
newlines_from count [] = omega arith
newlines_from count (byte ∷ bytes) =
    elim (cases_Bool (byte == 10)) [
      | inl newline ↦ rw (newline, newlines_from (count + 1) bytes, newlines_from 1 bytes) (omega arith)
      | inr other ↦ rw (other, newlines_from count bytes) refl
    ]

newlines-append : (before bytes : List ℕ) → newlines (before ++ bytes) ≡ newlines before + newlines bytes
newlines-append before bytes = rw fold-append (newlines_from (newlines before) bytes)

is_open-append : (before : List ℕ) (byte : ℕ) (others : List ℕ) → is_open (before ++ byte ∷ others) ≡ is_open (byte ∷ others)
is_open-append before byte others = rw fold-append refl

line_after-front : (byte lines : ℕ) → line_after byte (lines + 1) ≡ lines + (if byte == 10 then 1 else 0) + 1
line_after-front byte lines =
    elim (cases_Bool (byte == 10)) [
      | inl newline ↦ rw newline (omega arith)
      | inr other ↦ rw other (omega arith)
    ]

-- the tokens of what is left of a text, where a piece stands at the start
turn : (byte : ℕ) (rest : List ℕ) (front : Front byte rest) (open_line : Bool) (line at : ℕ)
    → tokens_from 0 open_line line at (byte ∷ rest)
    ≡ with_token front.kind line at (at + length (byte ∷ front.others))
    (tokens_from 0 (not (byte == 10)) (line_after byte line) (at + length (byte ∷ front.others)) front.after)
turn byte rest front open_line line at =
    let len : (piece_at byte rest).len ≡ length (byte ∷ front.others) = ap (λ p. p.len) front.piece in
    let kind : (piece_at byte rest).kind ≡ front.kind = ap (λ p. p.kind) front.piece in
    let fits : length rest ≡ length front.others + length front.after = ap length front.whole ∙ length-append front.others front.after in
    let left : drop (length (byte ∷ front.others)) (byte ∷ rest) ≡ front.after =
    rw front.whole (drop_at (byte ∷ front.others) front.after (length (byte ∷ front.others)) refl) in
    let step = tokens_from-piece-cons byte rest open_line line at (omega (arith, len)) (omega (arith, len, fits)) in
    rw (kind, len, left) at step

-- what is left of a text after some bytes is read as the law asks
record IsCovered (before left : List ℕ) : Type 0 where
  bodies : List Token
  follow : Follow before left bodies
  all : tokens_from 0 (is_open before) (newlines before + 1) (length before) left ≡ bodies ++ last_end (before ++ left)

-- a blank or a comment goes before what follows
Follow-gap : (before : List ℕ) (byte : ℕ) (others after rest : List ℕ) (tokens : List Token) → rest ≡ others ++ after
    → Stands None byte others after → Follow (before ++ byte ∷ others) after tokens → Follow before (byte ∷ rest) tokens
Follow-gap before byte others after rest [] whole gap follow =
    rw whole (gap after [] (sym (append-nil after)) follow)
Follow-gap before byte others after rest (token ∷ tokens) whole gap (next, more) =
    let front = byte ∷ (others ++ next.gap) in
    let place : (before ++ byte ∷ others) ++ next.gap ≡ before ++ front = append_assoc before (byte ∷ others) next.gap in
    let read : (before ++ byte ∷ others) ++ (next.gap ++ next.word) ≡ before ++ (front ++ next.word) =
    append_assoc before (byte ∷ others) (next.gap ++ next.word)
    ∙ ap (λ t. before ++ byte ∷ t) (sym (append_assoc others next.gap next.word)) in (
      record {
        gap = front;
        word = next.word;
        rest = next.rest;
        whole = ap (λ t. byte ∷ t) (whole ∙ ap (λ t. others ++ t) next.whole ∙ sym (append_assoc others next.gap (next.word ++ next.rest)));
        between = gap next.gap (next.word ++ next.rest) next.whole next.between;
        is_token = subst (λ b. IsToken b next.word next.rest token) place next.is_token;
      },
      subst (λ b. Follow b next.rest tokens) read more,
    )

-- the token that these bytes are after others
abbrev token_at : (before word : List ℕ) → Kind → Token
token_at before word kind =
    record { line = newlines before + 1; start = length before; end = length before + length word; kind = kind }

-- a token stands before what follows
Follow-token : (before : List ℕ) (byte : ℕ) (others after rest : List ℕ) (kind : Kind) (tokens : List Token) → rest ≡ others ++ after
    → Stands (Some kind) byte others after → Follow (before ++ byte ∷ others) after tokens
    → Follow before (byte ∷ rest) (token_at before (byte ∷ others) kind ∷ tokens)
Follow-token before byte others after rest kind tokens whole (of_kind, longest) follow =
    let next : IsNext before (byte ∷ rest) (token_at before (byte ∷ others) kind) = record {
      gap = [];
      word = byte ∷ others;
      rest = after;
      whole = ap (λ t. byte ∷ t) whole;
      between = refl;
      is_token = rw append-nil (record { start = refl; end = refl; line = refl; kind = of_kind; longest = longest });
    } in
    (next, follow)

-- one piece more
IsCovered-piece : (before : List ℕ) (byte : ℕ) (rest others after : List ℕ) (kind : Option Kind) → rest ≡ others ++ after
    → Stands kind byte others after → (bodies : List Token) → Follow (before ++ byte ∷ others) after bodies
    → tokens_from 0 (is_open before) (newlines before + 1) (length before) (byte ∷ rest)
    ≡ with_token kind (newlines before + 1) (length before) (length before + length (byte ∷ others))
    (bodies ++ last_end (before ++ byte ∷ rest))
    → IsCovered before (byte ∷ rest)
IsCovered-piece before byte rest others after None whole stands bodies follow turn =
    record { bodies = bodies; follow = Follow-gap before byte others after rest bodies whole stands follow; all = turn }
IsCovered-piece before byte rest others after (Some kind) whole stands bodies follow turn =
    record { bodies = token_at before (byte ∷ others) kind ∷ bodies; follow = Follow-token before byte others after rest kind bodies whole stands follow; all = turn }

IsCovered-front : (before : List ℕ) (byte : ℕ) (rest : List ℕ) (front : Front byte rest)
    → IsCovered (before ++ byte ∷ front.others) front.after → IsCovered before (byte ∷ rest)
IsCovered-front before byte rest front covered =
    let read = byte ∷ front.others in
    let opens : not (byte == 10) ≡ is_open (before ++ read) = sym (is_open-append before byte front.others ∙ front.opens) in
    let lines : line_after byte (newlines before + 1) ≡ newlines (before ++ read) + 1 =
    rw (newlines-append before read, front.lines) (line_after-front byte (newlines before)) in
    let place : length before + length read ≡ length (before ++ read) = sym (length-append before read) in
    let text : (before ++ read) ++ front.after ≡ before ++ byte ∷ rest =
    append_assoc before read front.after ∙ ap (λ t. before ++ byte ∷ t) (sym front.whole) in
    let after : tokens_from 0 (not (byte == 10)) (line_after byte (newlines before + 1)) (length before + length read) front.after
    ≡ covered.bodies ++ last_end (before ++ byte ∷ rest) = rw (opens, lines, place, ← text) covered.all in
    let step = turn byte rest front (is_open before) (newlines before + 1) (length before)
    ∙ ap (with_token front.kind (newlines before + 1) (length before) (length before + length read)) after in
    IsCovered-piece before byte rest front.others front.after front.kind front.whole front.stands covered.bodies covered.follow step

-- nothing is left
IsCovered-end : (before : List ℕ) → IsCovered before []
unfolding tokens_from
IsCovered-end before =
    record {
      bodies = [];
      follow = refl;
      all = rw append-nil (
          elim (is_open before) as
          (λ o. tokens_from 0 o (newlines before + 1) (length before) [] ≡ (if o then record { line = newlines before + 1; start = length before; end = length before; kind = Eol } ∷ [] else [])) [
            | true ↦ refl
            | false ↦ refl
          ]
          );
    }

covered : (most : ℕ) (before left : List ℕ) → length left ≤ most → IsCovered before left
covered most before [] h = IsCovered-end before
covered zero before (byte ∷ rest) h = absurd (omega arith)
covered (suc most) before (byte ∷ rest) h =
    let front = front_of byte rest in
    let fits : length rest ≡ length front.others + length front.after = ap length front.whole ∙ length-append front.others front.after in
    IsCovered-front before byte rest front (covered most (before ++ byte ∷ front.others) front.after (omega (arith, fits)))

pub tokens_of-covers : (text : List ℕ) → Covers text (tokens_of text)
unfolding tokens_of
tokens_of-covers text =
    let whole = covered (length text) [] text (le_refl (length text)) in
    record { bodies = whole.bodies; follow = whole.follow; all = whole.all }
