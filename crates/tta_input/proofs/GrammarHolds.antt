-- The reader's definition and the file said of its bytes are one.
use Rattle.std.proofs.Common.{◌≡◌, ℕ, suc, ◌+◌, ◌-◌, ◌≤◌, ◌<◌, ◌==◌, Bool, true, false, ◌&&◌, if◌then◌else◌, List, [], ◌∷◌, ◌++◌, map, length, replicate, Result, Ok, Err, refl, sym, ap, ◌∙◌, arith, inl, inr}
use Rattle.std.proofs.lemmas.Bool.{and_parts, eqb-true}
use Rattle.std.specs.Prelude.{◌↔◌, min, nat_lt}
use Rattle.std.specs.List.{list_all, prefix_len}
use Rattle.std.specs.Char.{is_ascii_hexdigit}
use Rattle.tta_input.specs.Lines.{is_newline, is_return, begins_with_newline, onto_first, lines_of}
use Rattle.tta_input.specs.Input.{is_word, value_of, words_taken, memory_of, input_of}
use Rattle.tta_input.specs.Grammar.{IsLineEnd, IsLine, AreLines, IsInput}
use Rattle.tta_input.proofs.Cuts.{lines_of-newline}

-- ---- from the lines of bytes to the bytes

-- a first line, what ends it, and what is after it
record First (line : List ℕ) (lines : List (List ℕ)) (bytes : List ℕ) : Type 0 where
  ending : List ℕ
  behind : List ℕ
  whole : bytes ≡ line ++ (ending ++ behind)
  ends : IsLineEnd ending behind
  others : lines_of behind ≡ lines

-- the first of some lines, or an empty one where there is none
abbrev head_of : List (List ℕ) → List ℕ
head_of [] = []
head_of (line ∷ lines) = line

-- the lines after the first one
abbrev tail_of : List (List ℕ) → List (List ℕ)
tail_of [] = []
tail_of (line ∷ lines) = lines

module _ (byte : ℕ) (bytes : List ℕ) where
  no_line : (ends skips : Bool) → (is_return byte && begins_with_newline bytes) ≡ skips → (lines_of bytes ≡ [] → bytes ≡ []) → (lines : List (List ℕ)) → lines_of bytes ≡ lines
      → (if ends then [] ∷ lines else if skips then lines else onto_first byte lines) ≡ [] → byte ∷ bytes ≡ []
  no_line true skips is_skip rest lines is h = cc h
  no_line false true is_skip rest lines is h =
      let begins = (and_parts (is_return byte) (begins_with_newline bytes) is_skip).1 in
      let none = rest (is ∙ h) in
      let never : false ≡ true = ap begins_with_newline (sym none) ∙ begins in
      cc never
  no_line false false is_skip rest [] is h = cc h
  no_line false false is_skip rest (line ∷ lines) is h = cc h

lines_of-empty : (bytes : List ℕ) → lines_of bytes ≡ [] → bytes ≡ []
unfolding lines_of
lines_of-empty [] none = refl
lines_of-empty (byte ∷ bytes) none =
    no_line byte bytes (is_newline byte) (is_return byte && begins_with_newline bytes) refl (lines_of-empty bytes) (lines_of bytes) refl none

-- a carriage return and a newline end an empty line
returned : (byte : ℕ) (bytes : List ℕ) → is_return byte ≡ true → begins_with_newline bytes ≡ true
    → (line : List ℕ) (lines : List (List ℕ)) → lines_of bytes ≡ line ∷ lines → First line lines (byte ∷ bytes)
returned byte [] is begins line lines h = cc begins
returned byte (next ∷ bytes) is begins line lines h =
    let newline = eqb-true next 10 begins in
    let e : [] ∷ lines_of bytes ≡ line ∷ lines = sym (lines_of-newline next bytes newline) ∙ h in
    record {
      ending = 13 ∷ 10 ∷ [];
      behind = bytes;
      whole = rw (eqb-true byte 13 is, newline) (ap (λ l. l ++ (13 ∷ 10 ∷ bytes)) (ap head_of e));
      ends = inr (inl refl);
      others = ap tail_of e;
    }

module _ (byte : ℕ) (bytes : List ℕ) where
  -- a byte of the first line
  put : (lines' : List (List ℕ)) → lines_of bytes ≡ lines' → ((line : List ℕ) (lines : List (List ℕ)) → lines_of bytes ≡ line ∷ lines → First line lines bytes)
      → (line : List ℕ) (lines : List (List ℕ)) → onto_first byte lines' ≡ line ∷ lines → First line lines (byte ∷ bytes)
  unfolding lines_of
  put [] is rest line lines h = record {
    ending = [];
    behind = [];
    whole = ap (λ b. byte ∷ b) (lines_of-empty bytes is) ∙ ap (λ l. l ++ []) (ap head_of h);
    ends = inr (inr (refl, refl));
    others = ap tail_of h;
  }
  put (line' ∷ lines') is rest line lines h =
      let f = rest line' lines' is in
      record {
        ending = f.ending;
        behind = f.behind;
        whole = ap (λ b. byte ∷ b) f.whole ∙ ap (λ l. l ++ (f.ending ++ f.behind)) (ap head_of h);
        ends = f.ends;
        others = f.others ∙ ap tail_of h;
      }

  turn : (ends skips : Bool) → is_newline byte ≡ ends → (is_return byte && begins_with_newline bytes) ≡ skips
      → ((line : List ℕ) (lines : List (List ℕ)) → lines_of bytes ≡ line ∷ lines → First line lines bytes)
      → (line : List ℕ) (lines : List (List ℕ))
      → (if ends then [] ∷ lines_of bytes else if skips then lines_of bytes else onto_first byte (lines_of bytes)) ≡ line ∷ lines
      → First line lines (byte ∷ bytes)
  turn true skips is_end is_skip rest line lines h = record {
    ending = 10 ∷ [];
    behind = bytes;
    whole = ap (λ b. b ∷ bytes) (eqb-true byte 10 is_end) ∙ ap (λ l. l ++ (10 ∷ bytes)) (ap head_of h);
    ends = inl refl;
    others = ap tail_of h;
  }
  turn false true is_end is_skip rest line lines h =
      let both = and_parts (is_return byte) (begins_with_newline bytes) is_skip in
      returned byte bytes both.0 both.1 line lines h
  turn false false is_end is_skip rest line lines h = put (lines_of bytes) refl rest line lines h

first : (bytes line : List ℕ) (lines : List (List ℕ)) → lines_of bytes ≡ line ∷ lines → First line lines bytes
unfolding lines_of
first [] line lines is = cc is
first (byte ∷ bytes) line lines is =
    turn byte bytes (is_newline byte) (is_return byte && begins_with_newline bytes) refl refl (first bytes) line lines is

-- lines that are all words are the words on lines of their own
words_on_lines : (lines : List (List ℕ)) (bytes : List ℕ) → lines_of bytes ≡ lines → list_all is_word lines ≡ true
    → AreLines (map value_of lines) bytes
unfolding is_word value_of
words_on_lines [] bytes is all = lines_of-empty bytes is
words_on_lines (line ∷ lines) bytes is all =
    let f = first bytes line lines is in
    let parts = and_parts (is_word line) (list_all is_word lines) all in
    let word = and_parts (length line == 8) (list_all is_ascii_hexdigit line) parts.0 in (
      f.behind,
      record {
        digits = line;
        ending = f.ending;
        written = record { eight = eqb-true (length line) 8 word.0; hexadecimal = word.1; value = refl };
        ends = f.ends;
        whole = f.whole;
      },
      words_on_lines lines f.behind f.others parts.1,
    )

-- ---- and back

lines_of-plain : (byte : ℕ) (bytes : List ℕ) → is_newline byte ≡ false → is_return byte ≡ false
    → lines_of (byte ∷ bytes) ≡ onto_first byte (lines_of bytes)
unfolding lines_of
lines_of-plain byte bytes plain other = rw (plain, other) refl

no_newline : (byte : ℕ) → is_ascii_hexdigit byte ≡ true → is_newline byte ≡ false
no_newline byte digit = grind (arith)

no_return : (byte : ℕ) → is_ascii_hexdigit byte ≡ true → is_return byte ≡ false
no_return byte digit = grind (arith)

last_byte : (byte : ℕ) (ending behind : List ℕ) → IsLineEnd ending behind → onto_first byte (lines_of (ending ++ behind)) ≡ (byte ∷ []) ∷ lines_of behind
unfolding lines_of
last_byte byte ending behind (inl newline) = rw newline refl
last_byte byte ending behind (inr (inl both)) = rw both refl
last_byte byte ending behind (inr (inr none)) = rw (none.0, none.1) refl

-- digits and the end of their line are a line
lines_of-line : (digits ending behind : List ℕ) → list_all is_ascii_hexdigit digits ≡ true → 0 < length digits → IsLineEnd ending behind
    → lines_of (digits ++ (ending ++ behind)) ≡ digits ∷ lines_of behind
lines_of-line [] ending behind all some ends = absurd (omega arith)
lines_of-line (byte ∷ []) ending behind all some ends =
    let digit = (and_parts (is_ascii_hexdigit byte) true all).0 in
    lines_of-plain byte (ending ++ behind) (no_newline byte digit) (no_return byte digit) ∙ last_byte byte ending behind ends
lines_of-line (byte ∷ next ∷ digits) ending behind all some ends =
    let parts = and_parts (is_ascii_hexdigit byte) (list_all is_ascii_hexdigit (next ∷ digits)) all in
    lines_of-plain byte ((next ∷ digits) ++ (ending ++ behind)) (no_newline byte parts.0) (no_return byte parts.0)
    ∙ ap (onto_first byte) (lines_of-line (next ∷ digits) ending behind parts.1 (omega arith) ends)

-- words on lines of their own are all the lines
record All (words : List ℕ) (lines : List (List ℕ)) : Type 0 where
  all : list_all is_word lines ≡ true
  values : map value_of lines ≡ words

module _ (word : ℕ) (words bytes behind : List ℕ) (l : IsLine word bytes behind) where
  one_more : All words (lines_of behind) → All (word ∷ words) (lines_of bytes)
  unfolding is_word value_of
  one_more rest =
      let cut = ap lines_of l.whole ∙ lines_of-line l.digits l.ending behind l.written.hexadecimal (omega (arith, l.written.eight)) l.ends in
      rw cut (record {
        all = rw (l.written.eight, l.written.hexadecimal) rest.all;
        values = rw (l.written.value, rest.values) refl;
      })

lines_are_words : (words bytes : List ℕ) → AreLines words bytes → All words (lines_of bytes)
unfolding lines_of
lines_are_words [] bytes none = rw none (record { all = refl; values = refl })
lines_are_words (word ∷ words) bytes (behind, l, rest) = one_more word words bytes behind l (lines_are_words words behind rest)

-- ---- the memory

-- the memory that the lines of an input fill, or no words where a line was refused
abbrev memory_in : Result (List ℕ) ℕ → List ℕ
memory_in (Ok memory) = memory
memory_in (Err line) = []

-- a memory is given exactly where all lines are words and have room
record Given (space : ℕ) (lines : List (List ℕ)) (memory : List ℕ) : Type 0 where
  all : list_all is_word lines ≡ true
  room : length lines ≤ space
  filled : memory ≡ map value_of lines ++ replicate (space - length lines) 0

all_taken : (lines : List (List ℕ)) → length lines ≤ prefix_len is_word lines → list_all is_word lines ≡ true
all_taken [] few = refl
all_taken (line ∷ lines) few = by (is_word line) (all_taken lines) few
  where
    by : (b : Bool) → (length lines ≤ prefix_len is_word lines → list_all is_word lines ≡ true)
        → suc (length lines) ≤ (if b then 1 + prefix_len is_word lines else 0) → (b && list_all is_word lines) ≡ true
    by true rest few = rest (omega arith)
    by false rest few = absurd (omega arith)

all_long : (lines : List (List ℕ)) → list_all is_word lines ≡ true → prefix_len is_word lines ≡ length lines
all_long [] all = refl
all_long (line ∷ lines) all =
    let parts = and_parts (is_word line) (list_all is_word lines) all in
    rw parts.0 (omega (arith, all_long lines parts.1))

given : (space : ℕ) (lines : List (List ℕ)) (memory : List ℕ) → memory_of space lines ≡ Ok memory → Given space lines memory
unfolding memory_of words_taken
given space lines memory is = by (nat_lt (min (prefix_len is_word lines) space) (length lines)) refl is
  where
    by : (b : Bool) → nat_lt (min (prefix_len is_word lines) space) (length lines) ≡ b
        → (if b then Err (min (prefix_len is_word lines) space + 1) else Ok (map value_of lines ++ replicate (space - length lines) 0)) ≡ Ok memory
        → Given space lines memory
    by true left h = cc h
    by false left h =
        let enough : length lines ≤ min (prefix_len is_word lines) space = grind (arith) in
        record {
          all = all_taken lines (omega arith);
          room = omega arith;
          filled = sym (ap (λ r. memory_in r) h);
        }

given-back : (space : ℕ) (lines : List (List ℕ)) (memory : List ℕ) → Given space lines memory → memory_of space lines ≡ Ok memory
unfolding memory_of words_taken
given-back space lines memory g =
    let long = all_long lines g.all in
    let room = g.room in
    let none : nat_lt (min (prefix_len is_word lines) space) (length lines) ≡ false = grind (arith) in
    rw (none, g.filled) refl

length-values : (lines : List (List ℕ)) → length (map value_of lines) ≡ length lines
length-values [] = refl
length-values (line ∷ lines) = ap suc (length-values lines)

pub input_of-grammar : (space : ℕ) (bytes memory : List ℕ) → (input_of space bytes ≡ Ok memory) ↔ IsInput space bytes memory
unfolding input_of
input_of-grammar space bytes memory = (
  λ is. let g = given space (lines_of bytes) memory is in
      record {
        words = map value_of (lines_of bytes);
        lines = words_on_lines (lines_of bytes) bytes refl g.all;
        room = rw (length-values (lines_of bytes)) g.room;
        filled = rw (length-values (lines_of bytes)) g.filled;
      },
  λ i. let a = lines_are_words i.words bytes i.lines in
      let n : length (lines_of bytes) ≡ length i.words = sym (length-values (lines_of bytes)) ∙ ap (λ l. length l) a.values in
      given-back space (lines_of bytes) memory (record {
        all = a.all;
        room = rw n i.room;
        filled = rw (n, a.values) i.filled;
      }),
)
