-- Lines that keep the rules of texts are all taken: a text that the grammar describes is a program.
use Rattle.std.proofs.Common.{◌≡◌, ℕ, ◌+◌, ◌≤◌, Bool, true, false, not, List, [], ◌∷◌, ◌++◌, length, map, Option, Some, None, Ok, refl, sym, ◌∙◌, ap, subst, arith, append_assoc}
use Rattle.std.specs.Prelude.{◌&&◌, ◌==◌, nat_lt, is_some}
use Rattle.std.specs.List.{list_all, list_any}
use Rattle.std.proofs.lemmas.Bool.{and_parts, or_parts, or_from, lt-leb, le-ltb, ne_eqb, eqb-false, not-true}
use Rattle.tta_list.proofs.Tests.{none_from_is_some}
use Rattle.tta_tac.specs.Cited.{Lexeme, Line, Declared, named_in, or_refuse, Units, are_apart, DataLine}
use Rattle.tta_parse.specs.Steps.{◌>>=◌}
use Rattle.tta_tac.specs.declared.refusal.Refusal.TheVariants.{Syntax}
use Rattle.tta_tac.specs.Forms.{Form, ProcForm, DataForm, LabelForm, CallForm, ReturnForm, form_of}
use Rattle.tta_tac.specs.Draft.{Unlinked, ProcDraft, Draft, nothing}
use Rattle.tta_tac.specs.FirstPass.{vars_after, lacks_op, has_wrong_arity, has_many_args, is_full, step_of, is_end, close_if, with_step, with_fresh, has_address, with_datum, take_step, take_form, take_line}
use Rattle.tta_tac.specs.Text.{take_lines}
use Rattle.tta_tac.specs.Grammar.{Said, said_from, is_line, proc_in, datum_in, are_nested, Block, up_to_end, blocks, data_said, vars_said, is_fit, label_in, label_names, KeepsRules}
use Rattle.tta_tac.proofs.Taken.{with_label}
use Rattle.tta_tac.proofs.StepsKept.{grows_form}
use Rattle.tta_tac.proofs.Twice.{is_twice_after, is_twice_more, is_twice_none}
use Rattle.tta_tac.proofs.Following.{IsBodyOf, Follows}

-- variables only grow from line to line
vars_grow : (vars : Declared ℕ) (xs : List Said) → length vars ≤ length (vars_said vars xs)
vars_grow vars [] = omega arith
vars_grow vars (x ∷ xs) =
    let first = (grows_form vars x.1).longer in
    let rest = vars_grow (vars_after vars x.1) xs in
    omega arith

-- an address that is apart from all after it is none of those before
address_free : (init : List DataLine) (datum : DataLine) (more : List DataLine) → are_apart (init ++ datum ∷ more) ≡ true
    → has_address init datum.address ≡ false
address_free [] datum more apart = refl
address_free (d ∷ ds) datum more apart =
    let parts = and_parts (not (list_any (λ e. e.address == d.address) (ds ++ datum ∷ more))) (are_apart (ds ++ datum ∷ more)) apart in
    or_from (d.address == datum.address) (list_any (λ e. e.address == datum.address) ds) (other ds (not-true (list_any (λ e. e.address == d.address) (ds ++ datum ∷ more)) parts.0)) (address_free ds datum more parts.1) where
      other : (es : List DataLine) → list_any (λ e. e.address == d.address) (es ++ datum ∷ more) ≡ false → (d.address == datum.address) ≡ false
      other [] free =
          let first = or_parts (datum.address == d.address) (list_any (λ e. e.address == d.address) more) free in
          ne_eqb d.address datum.address (λ same. eqb-false datum.address d.address first.0 (sym same))
      other (e ∷ es) free = other es (or_parts (e.address == d.address) (list_any (λ e. e.address == d.address) (es ++ datum ∷ more)) free).1

module _ (u : Units) where
  -- a line is taken, and the rest keeps the rules after it
  record IsTaken (d : Draft) (line : ℕ) (f : Form) (rest : List Said) : Type 0 where
    pub next : Draft
    pub taken : take_form u d line f ≡ Ok next
    pub follows : Follows u next rest
    pub nested : are_nested (is_some next.begun) rest ≡ true

  -- there is room for a line more
  has_room : (d : Draft) (x : Said) (xs : List Said) → d.lines + length (x ∷ xs) ≤ 65536 → is_full d ≡ false
  has_room d x xs most = lt-leb 65536 d.lines (omega (arith, most))

  -- a procedure begins
  proc_is_taken : (d : Draft) (line : ℕ) (name : List ℕ) (params : List (List ℕ)) (rest : List Said) → Follows u d ((line, ProcForm name params) ∷ rest)
      → are_nested (is_some d.begun) ((line, ProcForm name params) ∷ rest) ≡ true → IsTaken d line (ProcForm name params) rest
  proc_is_taken d line name params rest k nested =
      let n = and_parts (not (is_some d.begun)) (are_nested true rest) nested in
      let names = map (λ (b : Block). b.name) (blocks rest) in
      let once = or_parts (is_some (named_in d.names name)) (is_twice_after (d.names ++ (name, length d.procs) ∷ []) names)
      (sym (is_twice_more d.names name (length d.procs) names) ∙ k.names) in
      let block = k.procs.0 in
      let shut : is_some d.begun ≡ false = not-true (is_some d.begun) n.0 in
      let room = has_room d (line, ProcForm name params) rest k.most in
      let few = le-ltb 8 (length params) block.few in
      record {
        next = with_fresh d line name params;
        taken = rw (shut, block.bare_main, once.0, block.params, room, few) refl;
        follows = record {
          most = let most = k.most in omega arith;
          fit = k.fit;
          names = once.1;
          begun = record { labels = is_twice_none ℕ (label_names (up_to_end rest)) ∙ block.labels; vars = block.vars };
          procs = k.procs.1;
          apart = k.apart;
        };
        nested = n.1;
      }

  -- a word of data
  datum_is_taken : (d : Draft) (line address value : ℕ) (rest : List Said) → Follows u d ((line, DataForm address value) ∷ rest)
      → are_nested (is_some d.begun) ((line, DataForm address value) ∷ rest) ≡ true → IsTaken d line (DataForm address value) rest
  datum_is_taken d line address value rest k nested =
      let datum : DataLine = record { address = address; value = value; line = line } in
      let n = and_parts (not (is_some d.begun)) (are_nested false rest) nested in
      let shut : is_some d.begun ≡ false = not-true (is_some d.begun) n.0 in
      let none = none_from_is_some d.begun shut in
      let free = address_free d.init datum (data_said rest) k.apart in
      let room = has_room d (line, DataForm address value) rest k.most in
      record {
        next = with_datum d datum;
        taken = rw (shut, free, room) refl;
        follows = record {
          most = let most = k.most in omega arith;
          fit = k.fit;
          names = k.names;
          begun = rw none tt;
          procs = k.procs;
          apart = ap are_apart (append_assoc d.init (datum ∷ []) (data_said rest)) ∙ k.apart;
        };
        nested = rw none n.1;
      }

  -- a label
  label_is_taken : (d : Draft) (q : ProcDraft) (line : ℕ) (name : List ℕ) (rest : List Said) → d.begun ≡ Some q → Follows u d ((line, LabelForm name) ∷ rest)
      → are_nested true ((line, LabelForm name) ∷ rest) ≡ true → IsTaken d line (LabelForm name) rest
  label_is_taken d q line name rest begun k nested =
      let names = label_names (up_to_end rest) in
      let body : IsBodyOf q ((line, LabelForm name) ∷ up_to_end rest) = rw begun at k.begun in
      let once = or_parts (is_some (named_in q.labels name)) (is_twice_after (q.labels ++ (name, length q.steps) ∷ []) names)
      (sym (is_twice_more q.labels name (length q.steps) names) ∙ body.labels) in
      let room = has_room d (line, LabelForm name) rest k.most in
      record {
        next = record d { begun = Some (with_label q name); lines = d.lines + 1 };
        taken = rw (begun, once.0, room) refl;
        follows = record {
          most = let most = k.most in omega arith;
          fit = k.fit;
          names = k.names;
          begun = record { labels = once.1; vars = body.vars };
          procs = k.procs;
          apart = k.apart;
        };
        nested = nested;
      }

  -- a form of a step: where a procedure has begun, it is taken as one
  record IsStepForm (f : Form) : Type 0 where
    pub proc : proc_in f ≡ None
    pub datum : (line : ℕ) → datum_in line f ≡ None
    pub label : label_in f ≡ None
    pub made : (vars : Declared ℕ) → is_some (step_of u vars f) ≡ true
    pub taken : (d : Draft) (line : ℕ) → take_form u d line f ≡ (or_refuse Syntax d.begun >>= λ q. take_step u d q line f)

  -- a step that there is
  step_there : (o : Option Unlinked) → is_some o ≡ true → (s : Unlinked) × (o ≡ Some s)
  step_there None there = absurd cc
  step_there (Some s) there = (s, refl)

  -- a step is taken where no test refuses it
  takes_step : (d : Draft) (q : ProcDraft) (line : ℕ) (f : Form) (s : Unlinked) → d.begun ≡ Some q → lacks_op u f ≡ false → has_wrong_arity u f ≡ false
      → has_many_args f ≡ false → is_full d ≡ false → nat_lt 4096 (length (vars_after q.vars f)) ≡ false → step_of u (vars_after q.vars f) f ≡ Some s
      → (or_refuse Syntax d.begun >>= λ q. take_step u d q line f)
      ≡ Ok (close_if (is_end f) (record d { lines = d.lines + 1 }) (with_step q (vars_after q.vars f) s line))
  takes_step d q line f s begun offered fits args room small made = rw (begun, offered, fits, args, room, small, made) refl

  -- a step
  step_is_taken : (d : Draft) (q : ProcDraft) (line : ℕ) (f : Form) (rest : List Said) → IsStepForm f → d.begun ≡ Some q
      → Follows u d ((line, f) ∷ rest) → are_nested (not (is_end f)) rest ≡ true → IsTaken d line f rest
  step_is_taken d q line f rest kind begun k nested = by (is_end f) refl where
    vars : Declared ℕ
    vars = vars_after q.vars f

    made : (s : Unlinked) × (step_of u vars f ≡ Some s)
    made = step_there (step_of u vars f) (kind.made vars)

    fits : (lacks_op u f ≡ false) × (has_wrong_arity u f ≡ false) × (has_many_args f ≡ false)
    fits =
        let first = and_parts (is_fit u (line, f)) (list_all (is_fit u) rest) k.fit in
        let all = and_parts (not (lacks_op u f) && not (has_wrong_arity u f)) (not (has_many_args f)) first.0 in
        let op = and_parts (not (lacks_op u f)) (not (has_wrong_arity u f)) all.0 in
        (not-true (lacks_op u f) op.0, not-true (has_wrong_arity u f) op.1, not-true (has_many_args f) all.1)

    fit_rest : list_all (is_fit u) rest ≡ true
    fit_rest = (and_parts (is_fit u (line, f)) (list_all (is_fit u) rest) k.fit).1

    body : IsBodyOf q (up_to_end ((line, f) ∷ rest))
    body = rw begun at k.begun

    next : (ends : Bool) → Draft
    next ends = close_if ends (record d { lines = d.lines + 1 }) (with_step q vars made.0 line)

    step_taken : length vars ≤ 4096 → take_form u d line f ≡ Ok (next (is_end f))
    step_taken few =
        let room = has_room d (line, f) rest k.most in
        let small = le-ltb 4096 (length vars) few in
        kind.taken d line ∙ takes_step d q line f made.0 begun fits.0 fits.1 fits.2 room small made.1

    by : (ends : Bool) → is_end f ≡ ends → IsTaken d line f rest
    by true at =
        let last : IsBodyOf q ((line, f) ∷ []) = rw at at body in
        let few : length vars ≤ 4096 = last.vars in
        record {
          next = next true;
          taken = subst (λ e. take_form u d line f ≡ Ok (next e)) at (step_taken few);
          follows = record {
            most = let most = k.most in omega arith;
            fit = fit_rest;
            names = rw kind.proc at k.names;
            begun = tt;
            procs = rw kind.proc at k.procs;
            apart = rw (kind.datum line) at k.apart;
          };
          nested = rw at at nested;
        }
    by false at =
        let more : IsBodyOf q ((line, f) ∷ up_to_end rest) = rw at at body in
        let few : length vars ≤ 4096 = let grown = vars_grow vars (up_to_end rest) in let most = more.vars in omega arith in
        record {
          next = next false;
          taken = subst (λ e. take_form u d line f ≡ Ok (next e)) at (step_taken few);
          follows = record {
            most = let most = k.most in omega arith;
            fit = fit_rest;
            names = rw kind.proc at k.names;
            begun = record { labels = rw kind.label at more.labels; vars = more.vars };
            procs = rw kind.proc at k.procs;
            apart = rw (kind.datum line) at k.apart;
          };
          nested = rw at at nested;
        }

  -- a line inside of a procedure is a label or a step
  inside_is_taken : (d : Draft) (line : ℕ) (f : Form) (rest : List Said) → IsStepForm f → Follows u d ((line, f) ∷ rest)
      → are_nested (is_some d.begun) ((line, f) ∷ rest) ≡ true → IsTaken d line f rest
  inside_is_taken d line f rest kind k nested = by d.begun refl where
    plain : (is_some d.begun && are_nested (not (is_end f)) rest) ≡ true
    plain = rw (kind.proc, kind.datum line) at nested

    by : (o : Option ProcDraft) → d.begun ≡ o → IsTaken d line f rest
    by None at = let none : (false && are_nested (not (is_end f)) rest) ≡ true = rw at at plain in absurd cc
    by (Some q) at = let some : are_nested (not (is_end f)) rest ≡ true = rw at at plain in step_is_taken d q line f rest kind at k some

  -- any line that is not blank
  said_is_taken : (d : Draft) (line : ℕ) (f : Form) (rest : List Said) → Follows u d ((line, f) ∷ rest)
      → are_nested (is_some d.begun) ((line, f) ∷ rest) ≡ true → IsTaken d line f rest
  said_is_taken d line (ProcForm name params) rest k nested = proc_is_taken d line name params rest k nested
  said_is_taken d line (DataForm address value) rest k nested = datum_is_taken d line address value rest k nested
  said_is_taken d line (LabelForm name) rest k nested = by d.begun refl where
    by : (o : Option ProcDraft) → d.begun ≡ o → IsTaken d line (LabelForm name) rest
    by None at = let none : (false && are_nested true rest) ≡ true = rw at at nested in absurd cc
    by (Some q) at = label_is_taken d q line name rest at k (rw at at nested)
  said_is_taken d line (CallForm (Some x) callee args) rest k nested =
      inside_is_taken d line (CallForm (Some x) callee args) rest (record { proc = refl; datum = λ l. refl; label = refl; made = λ v. refl; taken = λ d l. refl }) k nested
  said_is_taken d line (CallForm None callee args) rest k nested =
      inside_is_taken d line (CallForm None callee args) rest (record { proc = refl; datum = λ l. refl; label = refl; made = λ v. refl; taken = λ d l. refl }) k nested
  said_is_taken d line (ReturnForm (Some s)) rest k nested =
      inside_is_taken d line (ReturnForm (Some s)) rest (record { proc = refl; datum = λ l. refl; label = refl; made = λ v. refl; taken = λ d l. refl }) k nested
  said_is_taken d line (ReturnForm None) rest k nested =
      inside_is_taken d line (ReturnForm None) rest (record { proc = refl; datum = λ l. refl; label = refl; made = λ v. refl; taken = λ d l. refl }) k nested
  said_is_taken d line f rest k nested =
      inside_is_taken d line f rest (record { proc = refl; datum = λ l. refl; label = refl; made = λ v. refl; taken = λ d l. refl }) k nested

  -- ---- texts

  -- a line and then the others
  line_then : (line : ℕ) (d next e : Draft) (key : Lexeme) (words : Line) (lines : List Line) (f : Form) → form_of key words ≡ Some f
      → take_form u d line f ≡ Ok next → take_lines u (line + 1) next lines ≡ Ok e → take_lines u line d ((key ∷ words) ∷ lines) ≡ Ok e
  unfolding take_line
  line_then line d next e key words lines f form taken rest = rw (form, taken) rest

  -- all lines are taken
  pub lines_are_taken : (lines : List Line) (line : ℕ) (d : Draft) → list_all is_line lines ≡ true → Follows u d (said_from line lines)
      → are_nested (is_some d.begun) (said_from line lines) ≡ true → (e : Draft) × (take_lines u line d lines ≡ Ok e)
  unfolding take_line
  lines_are_taken [] line d all k nested =
      let none = none_from_is_some d.begun (not-true (is_some d.begun) nested) in (d, rw none refl)
  lines_are_taken ([] ∷ lines) line d all k nested = lines_are_taken lines (line + 1) d all k nested
  lines_are_taken ((key ∷ words) ∷ lines) line d all k nested = by (lines_are_taken lines (line + 1)) (form_of key words) refl where
    by : ((d : Draft) → list_all is_line lines ≡ true → Follows u d (said_from (line + 1) lines)
        → are_nested (is_some d.begun) (said_from (line + 1) lines) ≡ true → (e : Draft) × (take_lines u (line + 1) d lines ≡ Ok e))
        → (o : Option Form) → form_of key words ≡ o → (e : Draft) × (take_lines u line d ((key ∷ words) ∷ lines) ≡ Ok e)
    by others_taken None at = let none : false ≡ true = rw at at (and_parts (is_some (form_of key words)) (list_all is_line lines) all).0 in absurd cc
    by others_taken (Some f) at =
        let others = (and_parts (is_some (form_of key words)) (list_all is_line lines) all).1 in
        let rest = said_from (line + 1) lines in
        let t = said_is_taken d line f rest (rw at at k) (rw at at nested) in
        let more = others_taken t.next others t.follows t.nested in
        (more.0, line_then line d t.next more.0 key words lines f at t.taken more.1)

  -- the rules of all lines are those of lines that follow no draft
  pub rules_follow : (xs : List Said) → KeepsRules u xs → Follows u nothing xs
  rules_follow xs k = record {
    most = omega (arith, k.most);
    fit = k.fit;
    names = is_twice_none ℕ (map (λ (b : Block). b.name) (blocks xs)) ∙ k.names;
    begun = tt;
    procs = k.procs;
    apart = k.apart;
  }
