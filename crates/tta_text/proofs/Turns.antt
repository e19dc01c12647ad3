-- Tokens of a text, one piece after another.
use Rattle.std.proofs.Common.{◌≡◌, ℕ, zero, suc, ◌+◌, ◌-◌, ◌==◌, ◌<◌, ◌≤◌, Bool, true, false, not, List, [], ◌∷◌, length, get_or, drop, refl, arith, add-zero, ap, inl, inr}
use Rattle.std.proofs.lemmas.Bool.{cases_Bool}
use Rattle.std.proofs.lemmas.List.{drop_more, drop-drop, drop_all}
use Rattle.std.proofs.lemmas.Bool.Decides.{nat_tests}
use Rattle.tta_text.specs.Bytes.{is_newline, is_blank, is_name_start, run_len}
use Rattle.tta_text.specs.Tokens.{token, piece_at, piece_of, with_token, line_after, tokens_from}
use Rattle.tta_text.specs.declared.lexeme.Kind.TheVariants.{Name, Eol}

-- a newline is a piece of its own
pub piece_at-newline : (byte : ℕ) (rest : List ℕ) → is_newline byte ≡ true → piece_at byte rest ≡ token Eol 1
unfolding piece_at
piece_at-newline byte rest h = rw h refl

-- a name goes on to the end of its run
pub piece_at-name : (byte : ℕ) (rest : List ℕ) → is_name_start byte ≡ true → piece_at byte rest ≡ token Name (1 + run_len rest)
unfolding piece_at
piece_at-name byte rest h =
    let newline : is_newline byte ≡ false = grind (arith, nat_tests) in
    let blank : is_blank byte ≡ false = grind (arith, nat_tests) in
    let comment : (byte == 35) ≡ false = grind (arith, nat_tests) in
    rw (newline, blank, comment, h) refl

-- bytes of an open line that are passed over
pub tokens_from-skip : (skip : ℕ) (is_open : Bool) (line at : ℕ) (bytes : List ℕ) → skip ≤ length bytes
    → (0 < skip → is_open ≡ true)
    → tokens_from skip is_open line at bytes ≡ tokens_from 0 is_open line (at + skip) (drop skip bytes)
unfolding tokens_from
tokens_from-skip zero is_open line at bytes h o = rw add-zero refl
tokens_from-skip (suc skip) is_open line at [] h o = absurd (omega arith)
tokens_from-skip (suc skip) is_open line at (byte ∷ rest) h o =
    let next = tokens_from-skip skip true line (at + 1) rest (omega arith) (λ _. refl) in
    let place : at + 1 + skip ≡ at + suc skip = omega arith in
    rw (o (omega arith)) (rw place at next)

-- an open line stays open over a piece that is longer than its first byte
stays_open : (byte : ℕ) (rest : List ℕ) → 0 < (piece_at byte rest).len - 1 → not (is_newline byte) ≡ true
stays_open byte rest h =
    elim (cases_Bool (is_newline byte)) [
      | inl newline ↦ let alone = rw (piece_at-newline byte rest newline) at h in absurd (omega arith)
      | inr other ↦ rw other refl
    ]

drop_rest : (n byte : ℕ) (rest : List ℕ) → 0 < n → drop (n - 1) rest ≡ drop n (byte ∷ rest)
drop_rest zero byte rest h = absurd (omega arith)
drop_rest (suc n) byte rest h = let less : suc n - 1 ≡ n = omega arith in rw less refl

-- one piece of bytes: its token, if it is one, and then the tokens of what is left
pub tokens_from-piece-cons : (byte : ℕ) (rest : List ℕ) (is_open : Bool) (line at : ℕ)
    → 0 < (piece_at byte rest).len
    → (piece_at byte rest).len ≤ length (byte ∷ rest)
    → tokens_from 0 is_open line at (byte ∷ rest)
    ≡ with_token (piece_at byte rest).kind line at (at + (piece_at byte rest).len)
    (tokens_from 0 (not (is_newline byte)) (line_after byte line)
    (at + (piece_at byte rest).len) (drop (piece_at byte rest).len (byte ∷ rest)))
unfolding tokens_from
tokens_from-piece-cons byte rest is_open line at some fits =
    let piece = piece_at byte rest in
    let skipped = tokens_from-skip (piece.len - 1) (not (is_newline byte)) (line_after byte line) (at + 1) rest (omega arith) (stays_open byte rest) in
    let place : at + 1 + (piece.len - 1) ≡ at + piece.len = omega arith in
    let left : drop (piece.len - 1) rest ≡ drop piece.len (byte ∷ rest) = drop_rest piece.len byte rest some in
    ap (with_token piece.kind line at (at + piece.len)) (rw (place, left) at skipped)

-- the same within a text
pub tokens_from-piece : (text : List ℕ) (is_open : Bool) (line at : ℕ) → at < length text
    → 0 < (piece_of (drop at text)).len
    → (piece_of (drop at text)).len ≤ length (drop at text)
    → tokens_from 0 is_open line at (drop at text)
    ≡ with_token (piece_of (drop at text)).kind line at (at + (piece_of (drop at text)).len)
    (tokens_from 0 (not (is_newline (get_or text at 0))) (line_after (get_or text at 0) line)
    (at + (piece_of (drop at text)).len) (drop (at + (piece_of (drop at text)).len) text))
tokens_from-piece text is_open line at within some fits =
    let byte = get_or text at 0 in
    let rest = drop (at + 1) text in
    let cut : drop at text ≡ byte ∷ rest = drop_more text at 0 within in
    let piece = piece_at byte rest in
    let left : drop piece.len (byte ∷ rest) ≡ drop (at + piece.len) text = rw (← cut) (drop-drop piece.len at text) in
    rw cut (rw (← left) (tokens_from-piece-cons byte rest is_open line at (rw cut at some) (rw cut at fits)))

-- a line that is not open has no end at the end of the text
pub tokens_from-closed : (text : List ℕ) (line at : ℕ) → length text ≤ at → tokens_from 0 false line at (drop at text) ≡ []
unfolding tokens_from
tokens_from-closed text line at h = rw (drop_all at text h) refl

-- an open line ends with the text
pub tokens_from-open : (text : List ℕ) (line at : ℕ) → length text ≤ at
    → tokens_from 0 true line at (drop at text) ≡ record { line = line; start = at; end = at; kind = Eol } ∷ []
unfolding tokens_from
tokens_from-open text line at h = rw (drop_all at text h) refl
