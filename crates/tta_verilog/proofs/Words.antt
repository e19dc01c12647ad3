-- Names and numbers are told by their bytes, up to what follows them.
use Rattle.std.proofs.Common.{◌≡◌, ℕ, ◌<◌, ◌^◌, ◌==◌, Bool, true, false, not, ◌&&◌, List, [], ◌∷◌, ◌++◌, length, Option, Some, None, refl, ap, ◌∙◌, arith}
use Rattle.std.specs.Prelude.{if◌then◌else◌, decimal}
use Rattle.std.specs.List.{list_all, AllByRecursion}
use Rattle.std.specs.Str.{bytes_eq}
use Rattle.std.specs.Str.Parse.{AllDigits}
use Rattle.std.specs.Char.{digit_value}
use Rattle.std.proofs.lemmas.Bool.{and_parts, and_from, ltb-true, false≢true, eq-eqb}
use Rattle.std.proofs.lemmas.Bool.Decides.{nat_tests}
use Rattle.std.proofs.lemmas.Fmt.{decimal_is_IsNumeral, decimal_injective}
use Rattle.std.proofs.lemmas.Slice.Eq.{bytes_eq-Decides}
use Rattle.std.proofs.lemmas.Str.Parse.{digit_from_value}
use Rattle.tta_verilog.specs.Expressions.{Names}
use Rattle.tta_verilog.specs.Spelling.{Token, SignalName, MemoryName, OperationName, Number, is_word_byte, is_name, Scope, has_token, AreNames}

-- ---- bytes up to a mark

-- whether no letter begins a text
abbrev pub stops : List ℕ → Bool
stops [] = true
stops (b ∷ t) = not (is_word_byte b)

-- a text in two
abbrev pub cut : (word rest : List ℕ) → List ℕ × List ℕ
cut word rest = (word, rest)

-- the letters that a text begins with, and what is left
abbrev pub run : List ℕ → List ℕ × List ℕ
run [] = cut [] []
run (b ∷ t) = if is_word_byte b then cut (b ∷ (run t).0) (run t).1 else cut [] (b ∷ t)

stopped : (t : List ℕ) → stops t ≡ true → run t ≡ cut [] t
stopped [] h = refl
stopped (b ∷ t) h = by (is_word_byte b) h where
  by : (c : Bool) → not c ≡ true → (if c then cut (b ∷ (run t).0) (run t).1 else cut [] (b ∷ t)) ≡ cut [] (b ∷ t)
  by true h = absurd (false≢true h)
  by false h = refl

-- letters before a mark are all of the run
pub run_is : (w t : List ℕ) → list_all is_word_byte w ≡ true → stops t ≡ true → run (w ++ t) ≡ cut w t
run_is [] t all h = stopped t h
run_is (b ∷ bs) t all h =
    let p = and_parts (is_word_byte b) (list_all is_word_byte bs) all in
    ap (λ c. if c then cut (b ∷ (run (bs ++ t)).0) (run (bs ++ t)).1 else cut [] (b ∷ (bs ++ t))) p.0
    ∙ ap (λ (q : List ℕ × List ℕ). cut (b ∷ q.0) q.1) (run_is bs t p.1 h)

-- ---- numbers

digit_is_letter : (c : ℕ) → digit_value c < 10 → is_word_byte c ≡ true
digit_is_letter c h = let range = digit_from_value c h in grind (arith, nat_tests)

digits_are_letters : (ds : List ℕ) → AllDigits 10 ds → list_all is_word_byte ds ≡ true
digits_are_letters [] h = refl
digits_are_letters (c ∷ cs) h = and_from (is_word_byte c) (list_all is_word_byte cs) (digit_is_letter c h.0) (digits_are_letters cs h.1)

digits_are_name : (ds : List ℕ) → 0 < length ds → AllDigits 10 ds → is_name ds ≡ true
digits_are_name [] some h = absurd (omega (arith, some))
digits_are_name (c ∷ cs) some h = digits_are_letters (c ∷ cs) h

-- a number is spelled as a name is
pub number_is_name : (n : ℕ) → n < 2 ^ 64 → is_name (decimal n) ≡ true
number_is_name n small = let d = decimal_is_IsNumeral n small in digits_are_name (decimal n) d.0.0 d.0.1

-- all bytes of a name are letters
pub name_letters : (w : List ℕ) → is_name w ≡ true → list_all is_word_byte w ≡ true
name_letters [] h = refl
name_letters (b ∷ bs) h = h

-- ---- tokens

module _ {N M : Type 0} (names : Names N M) where
  -- what a token is spelled as
  abbrev pub spelled : Token N M → List ℕ
  spelled (SignalName n) = names.signal n
  spelled (MemoryName m) = names.memory m
  spelled (OperationName op) = names.op op
  spelled (Number n) = decimal n

  -- the kind of a token
  abbrev pub kind_of : Token N M → ℕ
  kind_of (SignalName n) = 0
  kind_of (MemoryName m) = 1
  kind_of (OperationName op) = 2
  kind_of (Number n) = 3

  -- the first of some tokens that is of a kind, and spelled so
  abbrev pub found : List (Token N M) → (kind : ℕ) → (word : List ℕ) → Option (Token N M)
  found [] kind word = None
  found (t ∷ ts) kind word = if kind_of t == kind && bytes_eq (spelled t) word then Some t else found ts kind word

  module _ (scope : Scope N M) (good : AreNames names scope) where
    -- what a token is spelled as is a name
    pub token_is_name : (t : Token N M) → has_token scope t ≡ true → is_name (spelled t) ≡ true
    token_is_name (SignalName n) h = good.signals n h
    token_is_name (MemoryName m) h = good.memories m h
    token_is_name (OperationName op) h = good.operations op h
    token_is_name (Number n) h = number_is_name n (ltb-true n (2 ^ 64) h)

    -- two tokens of one kind are one if they are spelled as one
    pub one_token : (s t : Token N M) → has_token scope s ≡ true → has_token scope t ≡ true → (kind_of s == kind_of t) ≡ true
        → spelled s ≡ spelled t → s ≡ t
    one_token (SignalName n) (SignalName k) p q like is = ap SignalName (good.one_signal n k p q is)
    one_token (MemoryName m) (MemoryName k) p q like is = ap MemoryName (good.one_memory m k p q is)
    one_token (OperationName op) (OperationName k) p q like is = ap OperationName (good.one_operation op k p q is)
    one_token (Number n) (Number k) p q like is =
        ap Number (decimal_injective n k (ltb-true n (2 ^ 64) p) (ltb-true k (2 ^ 64) q) is)
    one_token s t p q like is = absurd (false≢true like)

    -- a token is found by its kind and bytes
    abbrev pub IsFound : List (Token N M) → Token N M → Type 0
    IsFound ts t = found ts (kind_of t) (spelled t) ≡ Some t

    alike_itself : (t : Token N M) → (kind_of t == kind_of t) ≡ true
    alike_itself t = eq-eqb (kind_of t) (kind_of t) refl

    -- among more tokens before it
    found_after : (s : Token N M) (ts : List (Token N M)) (t : Token N M) → has_token scope s ≡ true → has_token scope t ≡ true
        → IsFound ts t → IsFound (s ∷ ts) t
    found_after s ts t p q is = by (kind_of s == kind_of t && bytes_eq (spelled s) (spelled t)) refl where
      by : (c : Bool) → (kind_of s == kind_of t && bytes_eq (spelled s) (spelled t)) ≡ c
          → (if c then Some s else found ts (kind_of t) (spelled t)) ≡ Some t
      by true h =
          let both = and_parts (kind_of s == kind_of t) (bytes_eq (spelled s) (spelled t)) h in
          ap Some (one_token s t p q both.0 ((bytes_eq-Decides (spelled s) (spelled t)).0 both.1))
      by false h = is

    found_first : (t : Token N M) (ts : List (Token N M)) → IsFound (t ∷ ts) t
    found_first t ts =
        ap (λ c. if c then Some t else found ts (kind_of t) (spelled t))
        (and_from (kind_of t == kind_of t) (bytes_eq (spelled t) (spelled t)) (alike_itself t) ((bytes_eq-Decides (spelled t) (spelled t)).1 refl))

    abbrev IsIn : Token N M → Type 0
    IsIn t = has_token scope t ≡ true

    all_found_after : (s : Token N M) (ts us : List (Token N M)) → IsIn s → AllByRecursion IsIn us
        → AllByRecursion (IsFound ts) us → AllByRecursion (IsFound (s ∷ ts)) us
    all_found_after s ts [] p all are = tt
    all_found_after s ts (u ∷ us) p all are = (found_after s ts u p all.0 are.0, all_found_after s ts us p all.1 are.1)

    -- all tokens of a list are found in it
    pub all_found : (ts : List (Token N M)) → AllByRecursion IsIn ts → AllByRecursion (IsFound ts) ts
    all_found [] all = tt
    all_found (t ∷ ts) all = (found_first t ts, all_found_after t ts ts all.0 all.1 (all_found ts all.1))

-- what holds of all items of two lists in a row
pub all_halves : {A : Type 0} (P : A → Type 0) (xs ys : List A) → AllByRecursion P (xs ++ ys) → AllByRecursion P xs × AllByRecursion P ys
all_halves P [] ys all = (tt, all)
all_halves P (x ∷ xs) ys all = let t = all_halves P xs ys all.1 in ((all.0, t.0), t.1)
