-- What the data are that a text begins with: their addresses ascend in the data space, and the pieces after them are left.
use Rattle.std.proofs.Common.{◌≡◌, ℕ, ◌+◌, ◌^◌, Bool, true, false, if◌then◌else◌, nat_le, List, [], ◌∷◌, ◌++◌, length, drop, Result, Ok, Err, refl, sym, ◌∙◌, subst}
use Rattle.std.specs.Prelude.{◌&&◌, ◌||◌, nat_lt}
use Rattle.std.proofs.lemmas.Bool.{and_from, or_parts, le-leb, lt-ltb, leb-false, ltb-false}
use Rattle.std.proofs.lemmas.List.{append_assoc, append-nil}
use Rattle.tta_asm.specs.Cited.{value_of, constant_of, refuse_if, Datum, rises_from, fits}
use Rattle.tta_parse.specs.Steps.{◌>>=◌}
use Rattle.tta_parse.proofs.Steps.{same_ok, then-ok, some-ok, refuse_if-ok}
use Rattle.tta_parse.proofs.Constants.{constant_word}
use Rattle.tta_asm.specs.declared.refusal.AsmRefusal.TheVariants as refusal
use Rattle.tta_asm.specs.Refusals.{fitting}
use Rattle.tta_asm.specs.Pieces.{Placed, Piece}
use Rattle.tta_asm.specs.Labels.{is_semicolon}
use Rattle.tta_asm.specs.Syntax.{Read, read, next_word, line_of}
use Rattle.tta_asm.specs.Init.{is_declaration, closed_datum, datum_form, datum_of, data_from, behind_data}

-- ---- one datum

-- words that fit
fitting-ok : {A : Type 0} (r : Result A ℕ) (x : A) → fitting r ≡ Ok x → r ≡ Ok x
fitting-ok (Ok y) x h = cc
fitting-ok (Err line) x h = absurd cc

-- a constant that was read is a word
read_word : (end : ℕ) (ws : List Placed) (r : Read ℕ) → next_word constant_of end ws ≡ Ok r → nat_lt r.value (2 ^ 32) ≡ true
read_word end [] r h = absurd cc
read_word end (w ∷ ws) r h =
    let it = some-ok w.line (constant_of w.word) (λ n. read n ws) r h in
    let same : record { value = it.0; rest = ws } ≡ r = same_ok (record { value = it.0; rest = ws }) r it.2 in
    subst (λ (r : Read ℕ). nat_lt r.value (2 ^ 32) ≡ true) same (constant_word w.word.kind w.word.text it.0 it.1)

-- a declaration that was closed gives its datum
closed-ok : (p : Piece) (ws : List Placed) (d d' : Datum) → closed_datum p ws d ≡ Ok d' → d ≡ d'
closed-ok p [] d d' h = by (is_semicolon p.close) h where
  by : (b : Bool) → (if b then Ok d else Err p.line) ≡ Ok d' → d ≡ d'
  by true h = same_ok d d' h
  by false h = absurd cc
closed-ok p (w ∷ ws) d d' h = absurd cc

-- the value of a declaration is a word
form_word : (p : Piece) (d : Datum) → datum_form p ≡ Ok d → nat_lt d.value (2 ^ 32) ≡ true
unfolding datum_form
form_word p d h =
    let address = then-ok (next_word value_of p.line (drop 1 p.words))
    (λ address. next_word constant_of p.line address.rest >>= λ value. closed_datum p value.rest (record { address = address.value; value = value.value })) d h in
    let value = then-ok (next_word constant_of p.line address.0.rest)
    (λ value. closed_datum p value.rest (record { address = address.0.value; value = value.value })) d address.2 in
    let same = closed-ok p value.0.rest (record { address = address.0.value; value = value.0.value }) d value.2 in
    subst (λ (d : Datum). nat_lt d.value (2 ^ 32) ≡ true) same (read_word p.line address.0.rest value.0 value.1)

-- a datum that was not refused
record IsTaken (words least : ℕ) (d : Datum) : Type 0 where
  pub low : nat_le least d.address ≡ true
  pub below : nat_lt d.address words ≡ true
  pub word : nat_lt d.value (2 ^ 32) ≡ true

-- a datum that was read was not refused
is_taken : (words least : ℕ) (p : Piece) (d : Datum) → datum_of words least p ≡ Ok d → IsTaken words least d
unfolding datum_of
is_taken words least p d made =
    let form = then-ok (fitting (datum_form p))
    (λ d. refuse_if (nat_lt d.address least || nat_le words d.address) (line_of p.line p.words, refusal.Data) (Ok d)) d made in
    let test = refuse_if-ok (nat_lt form.0.address least || nat_le words form.0.address) (line_of p.line p.words, refusal.Data) (Ok form.0) d form.2 in
    let parts = or_parts (nat_lt form.0.address least) (nat_le words form.0.address) test.0 in
    subst (IsTaken words least) (same_ok form.0 d test.1) (record {
      low = le-leb least form.0.address (ltb-false form.0.address least parts.0);
      below = lt-ltb form.0.address words (leb-false words form.0.address parts.1);
      word = form_word p form.0 (fitting-ok (datum_form p) form.0 form.1);
    })

-- ---- all data

-- the data that pieces begin with, and that they are as many as the pieces before the others
pub record Front (words least : ℕ) (before : List Datum) (ps : List Piece) (all : List Datum) : Type 0 where
  pub more : List Datum
  pub whole : all ≡ before ++ more
  pub rises : rises_from least more ≡ true
  pub fits : fits words more ≡ true
  pub behind : drop (length more) ps ≡ behind_data ps

-- where no data come
no_more : (words least : ℕ) (before : List Datum) (ps : List Piece) (all : List Datum) → ps ≡ behind_data ps → before ≡ all → Front words least before ps all
no_more words least before ps all rest same = record { more = []; whole = sym same ∙ sym (append-nil before); rises = refl; fits = refl; behind = rest }

-- one datum, and more after it
one_more : (words least : ℕ) (before : List Datum) (p : Piece) (ps : List Piece) (d : Datum) (all : List Datum) → is_declaration p ≡ true → IsTaken words least d
    → Front words (d.address + 1) (before ++ d ∷ []) ps all → Front words least before (p ∷ ps) all
one_more words least before p ps d all is t f = record {
  more = d ∷ f.more;
  whole = f.whole ∙ append_assoc before (d ∷ []) f.more;
  rises = and_from (nat_le least d.address) (rises_from (d.address + 1) f.more) t.low f.rises;
  fits = and_from (nat_lt d.address words && nat_lt d.value (2 ^ 32)) (fits words f.more) (and_from (nat_lt d.address words) (nat_lt d.value (2 ^ 32)) t.below t.word) f.fits;
  behind = rw is f.behind;
}

-- the data that were read
pub data_front : (words least : ℕ) (before : List Datum) (ps : List Piece) (all : List Datum) → data_from words least before ps ≡ Ok all → Front words least before ps all
data_front words least before [] all made = no_more words least before [] all refl (same_ok before all made)
data_front words least before (p ∷ ps) all made =
    by (is_declaration p) refl (λ d. data_front words (d.address + 1) (before ++ d ∷ []) ps all)
  where
    by : (b : Bool) → is_declaration p ≡ b
        → ((d : Datum) → data_from words (d.address + 1) (before ++ d ∷ []) ps ≡ Ok all → Front words (d.address + 1) (before ++ d ∷ []) ps all)
        → Front words least before (p ∷ ps) all
    by false is others = no_more words least before (p ∷ ps) all (rw is refl) (same_ok before all (rw is at made))
    by true is others =
        let one = then-ok (datum_of words least p) (λ d. data_from words (d.address + 1) (before ++ d ∷ []) ps) all (rw is at made) in
        one_more words least before p ps one.0 all is (is_taken words least p one.0 one.1) (others one.0 one.2)
