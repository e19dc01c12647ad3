-- The text of a sample, as lines that can be printed.
use Rattle.std.proofs.Common.{◌≡◌, ℕ, zero, suc, ◌+◌, ◌<◌, ◌^◌, ◌%◌, ◌/◌, ◌==◌, Bool, true, false, List, [], ◌∷◌, ◌++◌, length, refl, sym, ap, ◌∙◌, arith}
use Rattle.std.specs.Prelude.{codes, decimal, if◌then◌else◌, ◌||◌}
use Rattle.std.specs.Fmt.{digits}
use Rattle.std.specs.List.{flat_map, AllByRecursion}
use Rattle.std.proofs.Math.Nat.{mod-lt}
use Rattle.std.proofs.lemmas.List.{append_assoc, append-nil}
use Rattle.std.proofs.lemmas.List.Concat.{flat_map-append}
use Rattle.tta_sample_laws.specs.Cited.{is_name, is_reserved, Printed, Words, Label, word, number, equals, var_name, line_text, next_number, kind_of, first_of, second_of, assigned_of, copied_of, constant_of, of_two, of_one, put_out, copy_constant, load, store, when, skipped, late_line, middle_line, kind_line, body, head, tail, sample_text}

-- what a number draws: the lines of a sample's body, by the numbers of their variables, their constants and their labels
pub data Drawn : Type 0 where
  Two : (op : List ℕ) (d a b : ℕ) → Drawn
  One : (op : List ℕ) (d a c : ℕ) → Drawn
  Shown : (a : ℕ) → Drawn
  Fixed : (d c : ℕ) → Drawn
  Loaded : (d c : ℕ) → Drawn
  Stored : (c a : ℕ) → Drawn
  Chosen : (a b d s : ℕ) → Drawn
  Skipped : (label a b d : ℕ) → Drawn

-- the name of a label
abbrev pub label_of : ℕ → List ℕ
label_of k = codes "L" ++ decimal k

-- its lines
abbrev pub printed_of : Drawn → List Printed
printed_of (Two op d a b) = Words (word (var_name d) ∷ equals ∷ word op ∷ word (var_name a) ∷ word (var_name b) ∷ []) ∷ []
printed_of (One op d a c) = Words (word (var_name d) ∷ equals ∷ word op ∷ word (var_name a) ∷ number c ∷ []) ∷ []
printed_of (Shown a) = Words (word (codes "out") ∷ word (var_name a) ∷ []) ∷ []
printed_of (Fixed d c) = Words (word (var_name d) ∷ equals ∷ number c ∷ []) ∷ []
printed_of (Loaded d c) = Words (word (var_name d) ∷ equals ∷ word (codes "load") ∷ number c ∷ []) ∷ []
printed_of (Stored c a) = Words (word (codes "store") ∷ number c ∷ word (var_name a) ∷ []) ∷ []
printed_of (Chosen a b d s) =
    Words (word (codes "when") ∷ word (codes "ltu") ∷ word (var_name a) ∷ word (var_name b) ∷ word (var_name d) ∷ equals ∷ word (var_name s) ∷ []) ∷ []
printed_of (Skipped label a b d) =
    Words (word (codes "if") ∷ word (codes "lt") ∷ word (var_name a) ∷ word (var_name b) ∷ word (codes "goto") ∷ word (label_of label) ∷ [])
    ∷ Words (word (var_name d) ∷ equals ∷ word (codes "add") ∷ word (var_name d) ∷ number 1 ∷ []) ∷ Label (label_of label) ∷ []

-- an operation that a line can name
abbrev pub IsOp : List ℕ → Type 0
IsOp op = (is_name op ≡ true) × (is_reserved op ≡ false)

-- one of eight variables, constants that are words, and labels that fit
abbrev pub IsDrawn : Drawn → Type 0
IsDrawn (Two op d a b) = IsOp op × (d < 8) × (a < 8) × (b < 8)
IsDrawn (One op d a c) = IsOp op × (d < 8) × (a < 8) × (c < 64)
IsDrawn (Shown a) = a < 8
IsDrawn (Fixed d c) = (d < 8) × (c < 64)
IsDrawn (Loaded d c) = (d < 8) × (c < 64)
IsDrawn (Stored c a) = (c < 64) × (a < 8)
IsDrawn (Chosen a b d s) = (a < 8) × (b < 8) × (d < 8) × (s < 8)
IsDrawn (Skipped label a b d) = (label < 2 ^ 32) × (a < 8) × (b < 8) × (d < 8)

-- the text of lines
abbrev pub text_of : List Printed → List ℕ
text_of ls = flat_map line_text ls

-- ---- a line of the body

-- a text that is one of these lines
record IsLine (text : List ℕ) : Type 0 where
  line : Drawn
  drawn : IsDrawn line
  is : text ≡ text_of (printed_of line)

either : (b : Bool) (one other : List ℕ) → IsLine one → IsLine other → IsLine (if b then one else other)
either true one other is is_not = is
either false one other is is_not = is_not

-- the names of operations that lines have
adds : IsOp (codes "add")
unfolding is_reserved
adds = (refl, refl)

subs : IsOp (codes "sub")
unfolding is_reserved
subs = (refl, refl)

xors : IsOp (codes "xor")
unfolding is_reserved
xors = (refl, refl)

ands : IsOp (codes "and")
unfolding is_reserved
ands = (refl, refl)

muls : IsOp (codes "mul")
unfolding is_reserved
muls = (refl, refl)

-- ---- texts, put together from the left and from the right

two_text : (a op f s : List ℕ) → ((((((a ++ codes " = ") ++ op) ++ codes " ") ++ f) ++ codes " ") ++ s) ++ codes "\n"
    ≡ ((a ++ (32 ∷ 61 ∷ 32 ∷ (op ++ (32 ∷ (f ++ (32 ∷ s)))))) ++ codes "\n") ++ []
two_text a op f s = simp (append_assoc, append-nil) refl

set_text : (a c : List ℕ) → ((a ++ codes " = ") ++ c) ++ codes "\n" ≡ ((a ++ (32 ∷ 61 ∷ 32 ∷ c)) ++ codes "\n") ++ []
set_text a c = simp (append_assoc, append-nil) refl

load_text : (a c : List ℕ) → ((a ++ codes " = load ") ++ c) ++ codes "\n" ≡ ((a ++ (32 ∷ 61 ∷ 32 ∷ 108 ∷ 111 ∷ 97 ∷ 100 ∷ 32 ∷ c)) ++ codes "\n") ++ []
load_text a c = simp (append_assoc, append-nil) refl

store_text : (c a : List ℕ) → ((codes "store " ++ c) ++ codes " " ++ a) ++ codes "\n" ≡ ((codes "store " ++ (c ++ (32 ∷ a))) ++ codes "\n") ++ []
store_text c a = simp (append_assoc, append-nil) refl

put_text : (a : List ℕ) → (codes "out " ++ a) ++ codes "\n" ≡ ((codes "out " ++ a) ++ codes "\n") ++ []
put_text a = simp (append_assoc, append-nil) refl

when_text : (a b d s : List ℕ) → (((((((codes "when ltu " ++ a) ++ codes " ") ++ b) ++ codes " ") ++ d) ++ codes " = ") ++ s) ++ codes "\n"
    ≡ ((codes "when ltu " ++ (a ++ (32 ∷ (b ++ (32 ∷ (d ++ (32 ∷ 61 ∷ 32 ∷ s))))))) ++ codes "\n") ++ []
when_text a b d s = simp (append_assoc, append-nil) refl

skip_text : (a b k d : List ℕ)
    → ((((((((((codes "if lt " ++ a) ++ codes " ") ++ b) ++ codes " goto L") ++ k) ++ codes "\n") ++ d) ++ codes " = add ") ++ d) ++ codes " 1\nL" ++ k) ++ codes ":\n"
    ≡ ((codes "if lt " ++ (a ++ (32 ∷ (b ++ (codes " goto " ++ (codes "L" ++ k)))))) ++ codes "\n")
    ++ (((d ++ (32 ∷ 61 ∷ 32 ∷ 97 ∷ 100 ∷ 100 ∷ 32 ∷ (d ++ (32 ∷ codes "1")))) ++ codes "\n") ++ (((codes "L" ++ k) ++ codes ":\n") ++ []))
skip_text a b k d = simp (append_assoc, append-nil) refl

-- by its digit
one_digit : decimal 1 ≡ codes "1"
unfolding digits
one_digit = refl

-- a drawn variable is one of eight, and a drawn constant is below 64
small : (y : ℕ) → y % 8 < 8
small y = mod-lt y (omega arith)

low : (x : ℕ) → constant_of x < 64
low x = mod-lt x (omega arith)

two_line : (op : List ℕ) (x : ℕ) → IsOp op → IsLine (of_two op x)
two_line op x is = record {
  line = Two op (assigned_of x) (first_of x) (second_of x);
  drawn = (is, small (x / 2 ^ 16), small (x / 2 ^ 24), small (x / 2 ^ 20));
  is = two_text (var_name (assigned_of x)) op (var_name (first_of x)) (var_name (second_of x));
}

one_line : (op : List ℕ) (x : ℕ) → IsOp op → IsLine (of_one op x)
one_line op x is = record {
  line = One op (assigned_of x) (first_of x) (constant_of x);
  drawn = (is, small (x / 2 ^ 16), small (x / 2 ^ 24), low x);
  is = two_text (var_name (assigned_of x)) op (var_name (first_of x)) (decimal (constant_of x));
}

shown_line : (a : ℕ) → a < 8 → IsLine (put_out a)
shown_line a is = record { line = Shown a; drawn = is; is = put_text (var_name a) }

fixed_line : (x : ℕ) → IsLine (copy_constant x)
fixed_line x = record { line = Fixed (assigned_of x) (constant_of x); drawn = (small (x / 2 ^ 16), low x); is = set_text (var_name (assigned_of x)) (decimal (constant_of x)) }

loaded_line : (x : ℕ) → IsLine (load x)
loaded_line x = record { line = Loaded (assigned_of x) (constant_of x); drawn = (small (x / 2 ^ 16), low x); is = load_text (var_name (assigned_of x)) (decimal (constant_of x)) }

stored_line : (x : ℕ) → IsLine (store x)
stored_line x = record { line = Stored (constant_of x) (first_of x); drawn = (low x, small (x / 2 ^ 24)); is = store_text (decimal (constant_of x)) (var_name (first_of x)) }

chosen_line : (x : ℕ) → IsLine (when x)
chosen_line x = record {
  line = Chosen (first_of x) (second_of x) (assigned_of x) (copied_of x);
  drawn = (small (x / 2 ^ 24), small (x / 2 ^ 20), small (x / 2 ^ 16), small (x / 2 ^ 12));
  is = when_text (var_name (first_of x)) (var_name (second_of x)) (var_name (assigned_of x)) (var_name (copied_of x));
}

skipped_line : (k x : ℕ) → k < 2 ^ 32 → IsLine (skipped k x)
skipped_line k x fits = record {
  line = Skipped k (first_of x) (second_of x) (assigned_of x);
  drawn = (fits, small (x / 2 ^ 24), small (x / 2 ^ 20), small (x / 2 ^ 16));
  is = rw one_digit (skip_text (var_name (first_of x)) (var_name (second_of x)) (decimal k) (var_name (assigned_of x)));
}

-- by its kind
late_is : (n x : ℕ) → IsLine (late_line n x)
late_is n x =
    either (n == 10 || n == 11) _ _ (two_line (codes "mul") x muls) (
    either (n == 12) _ _ (one_line (codes "add") x adds) (
    either (n == 13) _ _ (shown_line (assigned_of x) (small (x / 2 ^ 16))) (
    either (n == 14) _ _ (two_line (codes "add") x adds) (one_line (codes "xor") x xors))))

middle_is : (n k x : ℕ) → k < 2 ^ 32 → IsLine (middle_line n k x)
middle_is n k x fits =
    either (n == 5) _ _ (loaded_line x) (
    either (n == 6) _ _ (stored_line x) (
    either (n == 7) _ _ (shown_line (first_of x) (small (x / 2 ^ 24))) (
    either (n == 8) _ _ (chosen_line x) (
    either (n == 9) _ _ (skipped_line k x fits) (late_is n x)))))

kind_is : (n k x : ℕ) → k < 2 ^ 32 → IsLine (kind_line n k x)
kind_is n k x fits =
    either (n == 0) _ _ (two_line (codes "add") x adds) (
    either (n == 1) _ _ (two_line (codes "sub") x subs) (
    either (n == 2) _ _ (two_line (codes "xor") x xors) (
    either (n == 3) _ _ (two_line (codes "and") x ands) (
    either (n == 4) _ _ (fixed_line x) (middle_is n k x fits)))))

-- ---- the whole text

-- the lines of a body
pub record IsBody (text : List ℕ) (n : ℕ) : Type 0 where
  pub lines : List Drawn
  pub drawn : AllByRecursion IsDrawn lines
  pub count : length lines ≡ n
  pub is : text ≡ text_of (flat_map printed_of lines)

body_is : (k x n : ℕ) → k + n < 2 ^ 32 → IsBody (body k x n) n
body_is k x zero fits = record { lines = []; drawn = tt; count = refl; is = refl }
body_is k x (suc n) fits =
    let first = kind_is (kind_of (next_number x)) k (next_number x) (omega arith) in
    let others = body_is (k + 1) (next_number x) n (omega arith) in
    record {
      lines = first.line ∷ others.lines;
      drawn = (first.drawn, others.drawn);
      count = ap suc others.count;
      is = ap (λ t. t ++ body (k + 1) (next_number x) n) first.is ∙ ap (λ t. text_of (printed_of first.line) ++ t) others.is
          ∙ sym (flat_map-append line_text (printed_of first.line) (flat_map printed_of others.lines));
    }

-- a variable gets its first value
abbrev sets : (name : List ℕ) (value : ℕ) → Printed
sets name value = Words (word name ∷ equals ∷ number value ∷ [])

-- the lines before and after the body
abbrev pub before_lines : List Printed
before_lines =
    Words (word (codes "proc") ∷ word (codes "main") ∷ [])
    ∷ sets (codes "v0") 1 ∷ sets (codes "v1") 2 ∷ sets (codes "v2") 3 ∷ sets (codes "v3") 4 ∷ sets (codes "v4") 5 ∷ sets (codes "v5") 6
    ∷ sets (codes "v6") 7 ∷ sets (codes "v7") 8 ∷ sets (codes "n") 16 ∷ Label (codes "T") ∷ []

abbrev puts : (name : List ℕ) → Printed
puts name = Words (word (codes "out") ∷ word name ∷ [])

abbrev pub after_lines : List Printed
after_lines =
    Words (word (codes "n") ∷ equals ∷ word (codes "sub") ∷ word (codes "n") ∷ number 1 ∷ [])
    ∷ Words (word (codes "if") ∷ word (codes "ne") ∷ word (codes "n") ∷ number 0 ∷ word (codes "goto") ∷ word (codes "T") ∷ [])
    ∷ puts (codes "v0") ∷ puts (codes "v1") ∷ puts (codes "v2") ∷ puts (codes "v3") ∷ puts (codes "v4") ∷ puts (codes "v5") ∷ puts (codes "v6")
    ∷ puts (codes "v7") ∷ Words (word (codes "halt") ∷ []) ∷ Words (word (codes "end") ∷ []) ∷ []

-- all lines of a sample
abbrev pub sample_lines : List Drawn → List Printed
sample_lines ls = before_lines ++ (flat_map printed_of ls ++ after_lines)

-- the lines that a sample is made of
pub record IsSample (text : List ℕ) (n : ℕ) : Type 0 where
  pub lines : List Drawn
  pub drawn : AllByRecursion IsDrawn lines
  pub count : length lines ≡ n
  pub is : text ≡ text_of (sample_lines lines)

head_is : head ≡ text_of before_lines
unfolding digits
head_is = refl

tail_is : tail ≡ text_of after_lines
unfolding digits
tail_is = refl

pub sample_is : (seed n : ℕ) → n < 2 ^ 32 → IsSample (sample_text seed n) n
sample_is seed n fits =
    let b = body_is 0 seed n (omega arith) in
    record {
      lines = b.lines;
      drawn = b.drawn;
      count = b.count;
      is = append_assoc head (body 0 seed n) tail
          ∙ ap (λ t. t ++ (body 0 seed n ++ tail)) head_is
          ∙ ap (λ t. text_of before_lines ++ (t ++ tail)) b.is
          ∙ ap (λ t. text_of before_lines ++ (text_of (flat_map printed_of b.lines) ++ t)) tail_is
          ∙ ap (λ t. text_of before_lines ++ t) (sym (flat_map-append line_text (flat_map printed_of b.lines) after_lines))
          ∙ sym (flat_map-append line_text before_lines (flat_map printed_of b.lines ++ after_lines));
    }
