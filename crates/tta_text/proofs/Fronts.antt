-- What stands at the start of some bytes, as the law of tokens sees it.
use Rattle.std.proofs.Common.{◌≡◌, ℕ, ◌+◌, Bool, true, false, not, ◌==◌, List, [], ◌∷◌, ◌++◌, length, refl, sym, ◌∙◌, ap, inl, inr, one-add}
use Rattle.std.specs.Prelude.{Option, Some, None, if◌then◌else◌, fold}
use Rattle.std.specs.List.{list_all, prefix_len}
use Rattle.std.proofs.lemmas.Bool.{cases_Bool, and_parts, and_from, not-true}
use Rattle.tta_text.specs.declared.lexeme.Kind.{Kind}
use Rattle.tta_text.specs.Tokens.{piece_at}
use Rattle.tta_text.specs.Words.{first_is, is_of_kind}
use Rattle.tta_text.specs.Covers.{is_gap, newlines, is_open}
use Rattle.tta_text.proofs.Longest.{IsLongest}

-- the bytes at the start that pass a test, and what comes then
pub record Split (test : ℕ → Bool) (bytes : List ℕ) : Type 0 where
  pub front : List ℕ
  pub after : List ℕ
  pub whole : bytes ≡ front ++ after
  pub len : prefix_len test bytes ≡ length front
  pub pass : list_all test front ≡ true
  pub stops : first_is test after ≡ false

pub split : (test : ℕ → Bool) (bytes : List ℕ) → Split test bytes
split test [] = record { front = []; after = []; whole = refl; len = refl; pass = refl; stops = refl }
split test (byte ∷ bytes) =
    elim (cases_Bool (test byte)) [
      | inl pass ↦
          let more = split test bytes in
          record {
            front = byte ∷ more.front;
            after = more.after;
            whole = ap (λ t. byte ∷ t) more.whole;
            len = rw (pass, more.len, one-add) refl;
            pass = and_from (test byte) (list_all test more.front) pass more.pass;
            stops = more.stops;
          }
      | inr fails ↦ record { front = []; after = byte ∷ bytes; whole = refl; len = rw fails refl; pass = refl; stops = fails }
    ]

-- what a piece is: a token as long as can be, or a blank or a comment before any others
abbrev pub Stands : Option Kind → (byte : ℕ) (others after : List ℕ) → Type 0
Stands (Some kind) byte others after =
    (is_of_kind kind (byte ∷ others) ≡ true) × IsLongest (byte ∷ others) after
Stands None byte others after =
    (gap rest : List ℕ) → after ≡ gap ++ rest → is_gap gap rest ≡ true
    → is_gap (byte ∷ (others ++ gap)) rest ≡ true

-- the piece at the start: its bytes, and the lines that end in it
pub record Front (byte : ℕ) (rest : List ℕ) : Type 0 where
  pub kind : Option Kind
  pub others : List ℕ
  pub after : List ℕ
  pub whole : rest ≡ others ++ after
  pub piece : piece_at byte rest ≡ record { kind = kind; len = length (byte ∷ others) }
  pub lines : newlines (byte ∷ others) ≡ (if byte == 10 then 1 else 0)
  pub opens : is_open (byte ∷ others) ≡ not (byte == 10)
  pub stands : Stands kind byte others after

-- bytes in which no line ends
newlines_from-none : (count : ℕ) (bytes : List ℕ) → list_all (λ byte. not (byte == 10)) bytes ≡ true
    → fold (λ count byte. if byte == 10 then count + 1 else count) count bytes ≡ count
newlines_from-none count [] h = refl
newlines_from-none count (byte ∷ bytes) h =
    let parts = and_parts (not (byte == 10)) (list_all (λ byte. not (byte == 10)) bytes) h in
    rw (not-true (byte == 10) parts.0) (newlines_from-none count bytes parts.1)

opens_from-some : (before : Bool) (byte : ℕ) (bytes : List ℕ) → list_all (λ byte. not (byte == 10)) (byte ∷ bytes) ≡ true
    → fold (λ _ byte. not (byte == 10)) before (byte ∷ bytes) ≡ true
opens_from-some before byte [] h = (and_parts (not (byte == 10)) true h).0
opens_from-some before byte (next ∷ bytes) h =
    opens_from-some true next bytes (and_parts (not (byte == 10)) _ h).1

-- a piece in which no line ends
pub quiet : (byte : ℕ) (rest : List ℕ) (kind : Option Kind) (others after : List ℕ) → rest ≡ others ++ after
    → piece_at byte rest ≡ record { kind = kind; len = length (byte ∷ others) }
    → list_all (λ byte. not (byte == 10)) (byte ∷ others) ≡ true
    → Stands kind byte others after → Front byte rest
quiet byte rest kind others after whole piece none stands =
    let line : not (byte == 10) ≡ true = (and_parts (not (byte == 10)) _ none).0 in
    record {
      kind = kind;
      others = others;
      after = after;
      whole = whole;
      piece = piece;
      lines = rw (not-true (byte == 10) line, newlines_from-none 0 others (and_parts (not (byte == 10)) _ none).1) refl;
      opens = opens_from-some false byte others none ∙ sym line;
      stands = stands;
    }
