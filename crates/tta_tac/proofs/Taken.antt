-- What a line that was taken made of the draft: a procedure begins, data are laid, a label is put, or a step is made.
use Rattle.std.proofs.Common.{◌≡◌, ℕ, ◌+◌, ◌<◌, ◌≤◌, false, List, [], ◌∷◌, ◌++◌, length, Some, Ok, refl}
use Rattle.std.specs.Prelude.{◌||◌, ◌&&◌, nat_lt, is_some, codes}
use Rattle.std.specs.Str.{bytes_eq}
use Rattle.std.proofs.lemmas.Bool.{or_parts, leb-false, ltb-false}
use Rattle.tta_tac.specs.Cited.{named_in, Units}
use Rattle.tta_parse.proofs.Steps.{same_ok, refuse_if-ok, some-ok}
use Rattle.tta_tac.specs.declared.refusal.Refusal.TheVariants.{Syntax, UnknownOp, Arity, Twice, TooMany}
use Rattle.tta_tac.specs.Forms.{Form, ProcForm, DataForm, LabelForm}
use Rattle.tta_tac.specs.Draft.{Unlinked, ProcDraft, Draft}
use Rattle.tta_tac.specs.FirstPass.{vars_after, lacks_op, has_wrong_arity, has_many_args, has_twice, is_full, step_of, is_end, close_if, with_step, take_proc, with_fresh, has_address, with_datum, take_data, take_label, take_step, take_inside, take_form}

-- ---- procedures

-- what the tests of such a line have found
pub record ProcTaken (d e : Draft) (line : ℕ) (name : List ℕ) (params : List (List ℕ)) : Type 0 where
  pub closed : is_some d.begun ≡ false
  pub bare_main : (bytes_eq name (codes "main") && nat_lt 0 (length params)) ≡ false
  pub free : is_some (named_in d.names name) ≡ false
  pub once : has_twice params ≡ false
  pub room : d.lines < 65536
  pub few : length params ≤ 8
  pub made : with_fresh d line name params ≡ e

proc_taken : (d e : Draft) (line : ℕ) (name : List ℕ) (params : List (List ℕ)) → take_proc d line name params ≡ Ok e → ProcTaken d e line name params
proc_taken d e line name params taken =
    let p1 = refuse_if-ok (is_some d.begun) Syntax _ e taken in
    let p2 = refuse_if-ok (bytes_eq name (codes "main") && nat_lt 0 (length params)) Arity _ e p1.1 in
    let p3 = refuse_if-ok (is_some (named_in d.names name) || has_twice params) Twice _ e p2.1 in
    let p4 = refuse_if-ok (is_full d || nat_lt 8 (length params)) TooMany _ e p3.1 in
    let apart = or_parts (is_some (named_in d.names name)) (has_twice params) p3.0 in
    let tests = or_parts (is_full d) (nat_lt 8 (length params)) p4.0 in
    record {
      closed = p1.0;
      bare_main = p2.0;
      free = apart.0;
      once = apart.1;
      room = leb-false 65536 d.lines tests.0;
      few = ltb-false 8 (length params) tests.1;
      made = same_ok (with_fresh d line name params) e p4.1;
    }

-- ---- data

-- no procedure has begun, the address is free, and there is room
pub record DatumTaken (d e : Draft) (line address value : ℕ) : Type 0 where
  pub closed : is_some d.begun ≡ false
  pub free : has_address d.init address ≡ false
  pub room : d.lines < 65536
  pub made : with_datum d (record { address = address; value = value; line = line }) ≡ e

datum_taken : (d e : Draft) (line address value : ℕ) → take_data d line address value ≡ Ok e → DatumTaken d e line address value
datum_taken d e line address value taken =
    let p1 = refuse_if-ok (is_some d.begun) Syntax _ e taken in
    let p2 = refuse_if-ok (has_address d.init address) Twice _ e p1.1 in
    let p3 = refuse_if-ok (is_full d) TooMany _ e p2.1 in
    record {
      closed = p1.0;
      free = p2.0;
      room = leb-false 65536 d.lines p3.0;
      made = same_ok (with_datum d (record { address = address; value = value; line = line })) e p3.1;
    }

-- ---- labels

-- a procedure with a label more, of its next step
abbrev pub with_label : ProcDraft → (name : List ℕ) → ProcDraft
with_label q name = record q { labels = q.labels ++ (name, length q.steps) ∷ [] }

-- no label of the procedure has its name, and there is room for it
pub record LabelTaken (d e : Draft) (q : ProcDraft) (name : List ℕ) : Type 0 where
  pub free : is_some (named_in q.labels name) ≡ false
  pub room : d.lines < 65536
  pub made : record d { begun = Some (with_label q name); lines = d.lines + 1 } ≡ e

label_taken : (d e : Draft) (q : ProcDraft) (name : List ℕ) → take_label d q name ≡ Ok e → LabelTaken d e q name
label_taken d e q name taken =
    let p1 = refuse_if-ok (is_some (named_in q.labels name)) Twice _ e taken in
    let p2 = refuse_if-ok (is_full d) TooMany _ e p1.1 in
    record {
      free = p1.0;
      room = leb-false 65536 d.lines p2.0;
      made = same_ok (record d { begun = Some (with_label q name); lines = d.lines + 1 }) e p2.1;
    }

-- ---- steps

-- there is such a step, its operation is there and takes these words, and there is room for it and its variables
pub record StepTaken (u : Units) (d e : Draft) (q : ProcDraft) (line : ℕ) (f : Form) : Type 0 where
  pub step : Unlinked
  pub is : step_of u (vars_after q.vars f) f ≡ Some step
  pub offered : lacks_op u f ≡ false
  pub fits : has_wrong_arity u f ≡ false
  pub args : has_many_args f ≡ false
  pub room : d.lines < 65536
  pub few : length (vars_after q.vars f) ≤ 4096
  pub made : close_if (is_end f) (record d { lines = d.lines + 1 }) (with_step q (vars_after q.vars f) step line) ≡ e

pub step_taken : (u : Units) (d e : Draft) (q : ProcDraft) (line : ℕ) (f : Form) → take_step u d q line f ≡ Ok e → StepTaken u d e q line f
step_taken u d e q line f taken =
    let p1 = refuse_if-ok (lacks_op u f) UnknownOp _ e taken in
    let p2 = refuse_if-ok (has_wrong_arity u f) Arity _ e p1.1 in
    let p3 = refuse_if-ok (is_full d || has_many_args f || nat_lt 4096 (length (vars_after q.vars f))) TooMany _ e p2.1 in
    let s = some-ok Syntax (step_of u (vars_after q.vars f) f) _ e p3.1 in
    let tests = or_parts (is_full d || has_many_args f) (nat_lt 4096 (length (vars_after q.vars f))) p3.0 in
    let sizes = or_parts (is_full d) (has_many_args f) tests.0 in
    record {
      step = s.0;
      is = s.1;
      offered = p1.0;
      fits = p2.0;
      args = sizes.1;
      room = leb-false 65536 d.lines sizes.0;
      few = ltb-false 4096 (length (vars_after q.vars f)) tests.1;
      made = same_ok (close_if (is_end f) (record d { lines = d.lines + 1 }) (with_step q (vars_after q.vars f) s.0 line)) e s.2;
    }

-- ---- any line that is not blank

-- which of the four it is
pub data Taken (u : Units) (d e : Draft) (line : ℕ) (f : Form) : Type 0 where
  ProcBegins : (name : List ℕ) (params : List (List ℕ)) → f ≡ ProcForm name params → ProcTaken d e line name params → Taken u d e line f
  DatumIsLaid : (address value : ℕ) → f ≡ DataForm address value → DatumTaken d e line address value → Taken u d e line f
  LabelIsPut : (q : ProcDraft) (name : List ℕ) → d.begun ≡ Some q → f ≡ LabelForm name → LabelTaken d e q name → Taken u d e line f
  StepIsMade : (q : ProcDraft) → d.begun ≡ Some q → StepTaken u d e q line f → Taken u d e line f

inside_taken : (u : Units) (d e : Draft) (q : ProcDraft) (line : ℕ) (f : Form) → d.begun ≡ Some q → take_inside u d q line f ≡ Ok e → Taken u d e line f
inside_taken u d e q line (LabelForm name) begun taken = LabelIsPut q name begun refl (label_taken d e q name taken)
inside_taken u d e q line f begun taken = StepIsMade q begun (step_taken u d e q line f taken)

pub form_taken : (u : Units) (d e : Draft) (line : ℕ) (f : Form) → take_form u d line f ≡ Ok e → Taken u d e line f
form_taken u d e line (ProcForm name params) taken = ProcBegins name params refl (proc_taken d e line name params taken)
form_taken u d e line (DataForm address value) taken = DatumIsLaid address value refl (datum_taken d e line address value taken)
form_taken u d e line f taken = let q = some-ok Syntax d.begun _ e taken in inside_taken u d e q.0 line f q.1 q.2
