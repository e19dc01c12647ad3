-- What the lines of a sample say.
use Rattle.std.proofs.Common.{◌≡◌, ℕ, ◌<◌, ◌^◌, false, List, [], ◌∷◌, ◌++◌, refl, ap, ◌∙◌, arith}
use Rattle.std.specs.Prelude.{codes, decimal}
use Rattle.std.specs.Fmt.{digits}
use Rattle.std.specs.List.{flat_map, AllByRecursion}
use Rattle.tta_list.proofs.Lists.{all_append}
use Rattle.tta_sample_laws.specs.Cited.{number_of, digits_of, value_below, lines_of, is_reserved, Var, Word, Ne, Lt, Ltu, Form, Named, Constant, ProcForm, LabelForm, CopyForm, ApplyForm, LoadForm, StoreForm, PutForm, IfForm, WhenForm, HaltForm, EndForm, form_of, proc_form, if_form, put_form, named_form, assign_form, said_from, word, number, var_name, label_name}
use Rattle.tta_roundtrip.proofs.ScannedLines.{CanBePrinted, lines_of_printed}
use Rattle.tta_roundtrip.proofs.Forms.{assign_read, copy_read, load_read, two_read, store_read, put_read, if_read, when_read, label_read}
use Rattle.tta_roundtrip.proofs.Said.{AreRead, read_append, numbered_from, said_read}
use Rattle.tta_roundtrip.proofs.Reading.{var_named, label_named}
use Rattle.tta_sample_laws.proofs.Drawn.{Drawn, Two, One, Shown, Fixed, Loaded, Stored, Chosen, Skipped, IsDrawn, printed_of, before_lines, after_lines, sample_lines, IsSample}

-- ---- forms

-- what a line of the body says
abbrev pub forms_of : Drawn → List Form
forms_of (Two op d a b) = ApplyForm (var_name d) op (Named (var_name a) ∷ Named (var_name b) ∷ []) ∷ []
forms_of (One op d a c) = ApplyForm (var_name d) op (Named (var_name a) ∷ Constant c ∷ []) ∷ []
forms_of (Shown a) = PutForm (Named (var_name a)) ∷ []
forms_of (Fixed d c) = CopyForm (var_name d) (Constant c) ∷ []
forms_of (Loaded d c) = LoadForm (var_name d) (Constant c) ∷ []
forms_of (Stored c a) = StoreForm (Constant c) (Named (var_name a)) ∷ []
forms_of (Chosen a b d s) = WhenForm Ltu (Named (var_name a)) (Named (var_name b)) (var_name d) (Named (var_name s)) ∷ []
forms_of (Skipped label a b d) =
    IfForm Lt (Named (var_name a)) (Named (var_name b)) (label_name label)
    ∷ ApplyForm (var_name d) (codes "add") (Named (var_name d) ∷ Constant 1 ∷ []) ∷ LabelForm (label_name label) ∷ []

-- the lines of the procedure before and after the body
abbrev pub before_forms : List Form
before_forms =
    CopyForm (codes "v0") (Constant 1) ∷ CopyForm (codes "v1") (Constant 2) ∷ CopyForm (codes "v2") (Constant 3) ∷ CopyForm (codes "v3") (Constant 4)
    ∷ CopyForm (codes "v4") (Constant 5) ∷ CopyForm (codes "v5") (Constant 6) ∷ CopyForm (codes "v6") (Constant 7) ∷ CopyForm (codes "v7") (Constant 8)
    ∷ CopyForm (codes "n") (Constant 16) ∷ LabelForm (codes "T") ∷ []

abbrev pub after_forms : List Form
after_forms =
    ApplyForm (codes "n") (codes "sub") (Named (codes "n") ∷ Constant 1 ∷ []) ∷ IfForm Ne (Named (codes "n")) (Constant 0) (codes "T")
    ∷ PutForm (Named (codes "v0")) ∷ PutForm (Named (codes "v1")) ∷ PutForm (Named (codes "v2")) ∷ PutForm (Named (codes "v3"))
    ∷ PutForm (Named (codes "v4")) ∷ PutForm (Named (codes "v5")) ∷ PutForm (Named (codes "v6")) ∷ PutForm (Named (codes "v7"))
    ∷ HaltForm ∷ EndForm ∷ []

-- what a sample says: one procedure
abbrev pub procedure_forms : List Drawn → List Form
procedure_forms ls = before_forms ++ (flat_map forms_of ls ++ after_forms)

abbrev pub sample_forms : List Drawn → List Form
sample_forms ls = ProcForm (codes "main") [] ∷ procedure_forms ls

-- ---- lines that are read

-- variables are small numbers
fits : (d : ℕ) → d < 8 → d < 2 ^ 32
fits d small = omega arith

-- a line of the body can be printed
line_printed : (l : Drawn) → IsDrawn l → AllByRecursion CanBePrinted (printed_of l)
line_printed (Two op d a b) is = ((var_named d (fits d is.1), (refl, (is.0.0, (var_named a (fits a is.2), (var_named b (fits b is.3), tt))))), tt)
line_printed (One op d a c) is = ((var_named d (fits d is.1), (refl, (is.0.0, (var_named a (fits a is.2), ((c, refl, let e = is.3 in omega arith), tt))))), tt)
line_printed (Shown a) is = ((refl, (var_named a (fits a is), tt)), tt)
line_printed (Fixed d c) is = ((var_named d (fits d is.0), (refl, ((c, refl, let e = is.1 in omega arith), tt))), tt)
line_printed (Loaded d c) is = ((var_named d (fits d is.0), (refl, (refl, ((c, refl, let e = is.1 in omega arith), tt)))), tt)
line_printed (Stored c a) is = ((refl, ((c, refl, let e = is.0 in omega arith), (var_named a (fits a is.1), tt))), tt)
line_printed (Chosen a b d s) is =
    ((refl, (refl, (var_named a (fits a is.0), (var_named b (fits b is.1), (var_named d (fits d is.2), (refl, (var_named s (fits s is.3), tt))))))), tt)
line_printed (Skipped label a b d) is = (
  (refl, (refl, (var_named a (fits a is.1), (var_named b (fits b is.2), (refl, (label_named label is.0, tt)))))),
  ((var_named d (fits d is.3), (refl, (refl, (var_named d (fits d is.3), ((1, refl, omega arith), tt))))), (label_named label is.0, tt)),
)

body_printed : (ls : List Drawn) → AllByRecursion IsDrawn ls → AllByRecursion CanBePrinted (flat_map printed_of ls)
body_printed [] are = tt
body_printed (l ∷ ls) are = all_append CanBePrinted (printed_of l) (flat_map printed_of ls) (line_printed l are.0) (body_printed ls are.1)

-- a number of a line before or after the body
constant : (n : ℕ) → n < 2 ^ 32 → (k : ℕ) × (decimal n ≡ decimal k) × (k < 2 ^ 32)
constant n small = (n, refl, small)

before_printed : AllByRecursion CanBePrinted before_lines
before_printed = (
  (refl, (refl, tt)),
  (
    (refl, (refl, (constant 1 (omega arith), tt))),
    (
      (refl, (refl, (constant 2 (omega arith), tt))),
      (
        (refl, (refl, (constant 3 (omega arith), tt))),
        (
          (refl, (refl, (constant 4 (omega arith), tt))),
          (
            (refl, (refl, (constant 5 (omega arith), tt))),
            (
              (refl, (refl, (constant 6 (omega arith), tt))),
              ((refl, (refl, (constant 7 (omega arith), tt))), ((refl, (refl, (constant 8 (omega arith), tt))), ((refl, (refl, (constant 16 (omega arith), tt))), (refl, tt)))),
            ),
          ),
        ),
      ),
    ),
  ),
)

after_printed : AllByRecursion CanBePrinted after_lines
after_printed = (
  (refl, (refl, (refl, (refl, (constant 1 (omega arith), tt))))),
  (
    (refl, (refl, (refl, (constant 0 (omega arith), (refl, (refl, tt)))))),
    (
      (refl, (refl, tt)),
      ((refl, (refl, tt)), ((refl, (refl, tt)), ((refl, (refl, tt)), ((refl, (refl, tt)), ((refl, (refl, tt)), ((refl, (refl, tt)), ((refl, (refl, tt)), ((refl, tt), ((refl, tt), tt))))))))),
    ),
  ),
)

added : is_reserved (codes "add") ≡ false
unfolding is_reserved
added = refl

-- a line of the body says its form
line_read : (l : Drawn) → IsDrawn l → AreRead (printed_of l) (forms_of l)
line_read (Two op d a b) is = (assign_read d (word op ∷ word (var_name a) ∷ word (var_name b) ∷ []) _ (two_read d op (Var a) (Var b) is.0.1 tt tt), tt)
line_read (One op d a c) is = (assign_read d (word op ∷ word (var_name a) ∷ number c ∷ []) _ (two_read d op (Var a) (Word c) is.0.1 tt (let e = is.3 in omega arith)), tt)
line_read (Shown a) is = (put_read (Var a) tt, tt)
line_read (Fixed d c) is = (assign_read d (number c ∷ []) _ (copy_read d (Word c) (let e = is.1 in omega arith)), tt)
line_read (Loaded d c) is = (assign_read d (word (codes "load") ∷ number c ∷ []) _ (load_read d (Word c) (let e = is.1 in omega arith)), tt)
line_read (Stored c a) is = (store_read (Word c) (Var a) (let e = is.0 in omega arith) tt, tt)
line_read (Chosen a b d s) is = (when_read Ltu (Var a) (Var b) d (Var s) tt tt tt, tt)
line_read (Skipped label a b d) is = (
  if_read Lt (Var a) (Var b) label tt tt,
  (assign_read d (word (codes "add") ∷ word (var_name d) ∷ number 1 ∷ []) _ (two_read d (codes "add") (Var d) (Word 1) added tt (omega arith)), (label_read label, tt)),
)

body_read : (ls : List Drawn) → AllByRecursion IsDrawn ls → AreRead (flat_map printed_of ls) (flat_map forms_of ls)
body_read [] are = tt
body_read (l ∷ ls) are = read_append (printed_of l) (flat_map printed_of ls) (forms_of l) (flat_map forms_of ls) (line_read l are.0) (body_read ls are.1)

before_read : AreRead before_lines (ProcForm (codes "main") [] ∷ before_forms)
unfolding form_of proc_form named_form assign_form is_reserved number_of digits_of value_below digits
before_read = (refl, (refl, (refl, (refl, (refl, (refl, (refl, (refl, (refl, (refl, (refl, tt)))))))))))

after_read : AreRead after_lines after_forms
unfolding form_of if_form put_form named_form assign_form is_reserved number_of digits_of value_below digits
after_read = (refl, (refl, (refl, (refl, (refl, (refl, (refl, (refl, (refl, (refl, (refl, (refl, tt))))))))))))

-- a sample says its forms
pub sample_said : (text : List ℕ) (n : ℕ) (s : IsSample text n) → said_from 1 (lines_of text) ≡ numbered_from 1 (sample_forms s.lines)
sample_said text n s =
    let printed = all_append CanBePrinted before_lines (flat_map printed_of s.lines ++ after_lines) before_printed
    (all_append CanBePrinted (flat_map printed_of s.lines) after_lines (body_printed s.lines s.drawn) after_printed) in
    let read = read_append before_lines (flat_map printed_of s.lines ++ after_lines) (ProcForm (codes "main") [] ∷ before_forms) (flat_map forms_of s.lines ++ after_forms) before_read
    (read_append (flat_map printed_of s.lines) after_lines (flat_map forms_of s.lines) after_forms (body_read s.lines s.drawn) after_read) in
    ap (said_from 1) (ap lines_of s.is ∙ lines_of_printed (sample_lines s.lines) printed) ∙ said_read (sample_lines s.lines) (sample_forms s.lines) 1 read
