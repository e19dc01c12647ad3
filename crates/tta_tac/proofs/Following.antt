-- Lines that a draft took one after another keep the rules of texts, together with those that made the draft.
use Rattle.std.proofs.Common.{◌≡◌, ℕ, ◌+◌, ◌≤◌, Bool, true, false, not, List, [], ◌∷◌, ◌++◌, length, map, Some, None, Ok, refl, sym, ◌∙◌, ap, subst, arith, append-nil, append_assoc}
use Rattle.std.specs.Prelude.{◌&&◌, ◌||◌}
use Rattle.std.specs.Option.{IfSome}
use Rattle.std.specs.List.{list_all, AllByRecursion}
use Rattle.std.proofs.lemmas.Bool.{and_from, not_from_false}
use Rattle.tta_list.proofs.Tests.{none_from_is_some}
use Rattle.tta_tac.specs.Cited.{Line, at_line, Units, are_apart, DataLine}
use Rattle.tta_parse.proofs.Steps.{then-ok, some-ok, at_line-ok}
use Rattle.tta_tac.specs.declared.refusal.Refusal.TheVariants.{Syntax}
use Rattle.tta_tac.specs.Forms.{Form, ProcForm, DataForm, LabelForm, form_of}
use Rattle.tta_tac.specs.Draft.{ProcDraft, Draft, nothing}
use Rattle.tta_tac.specs.FirstPass.{vars_after, lacks_op, has_wrong_arity, has_many_args, is_end, close_if, with_step, with_fresh, with_datum, take_line}
use Rattle.tta_tac.specs.Text.{take_lines}
use Rattle.tta_tac.specs.Kept.{IsKept}
use Rattle.tta_tac.specs.Grammar.{Said, said_from, Block, up_to_end, blocks, data_said, vars_said, is_fit, label_names, IsBlock, KeepsRules}
use Rattle.tta_tac.proofs.Grammatical.{IsStep, is_step}
use Rattle.tta_tac.proofs.Taken.{with_label, Taken, ProcTaken, LabelTaken, StepTaken, ProcBegins, DatumIsLaid, LabelIsPut, StepIsMade, form_taken}
use Rattle.tta_tac.proofs.TextsKept.{closed}
use Rattle.tta_tac.proofs.Twice.{is_twice_after, is_twice_more, is_twice_none}

-- the lines of a procedure after those that were read
pub record IsBodyOf (q : ProcDraft) (body : List Said) : Type 0 where
  pub labels : is_twice_after q.labels (label_names body) ≡ false
  pub vars : length (vars_said q.vars body) ≤ 4096

module _ (u : Units) where
  -- the lines after a draft keep the rules together with those that made it
  pub record Follows (d : Draft) (xs : List Said) : Type 0 where
    pub most : d.lines + length xs ≤ 65536
    pub fit : list_all (is_fit u) xs ≡ true
    pub names : is_twice_after d.names (map (λ b. b.name) (blocks xs)) ≡ false
    pub begun : IfSome d.begun (λ q. IsBodyOf q (up_to_end xs))
    pub procs : AllByRecursion IsBlock (blocks xs)
    pub apart : are_apart (d.init ++ data_said xs) ≡ true

  -- no line is left
  none_follows : (d : Draft) → IsKept d → d.begun ≡ None → Follows d []
  none_follows d kept none = record {
    most = let most = kept.most in omega arith;
    fit = refl;
    names = refl;
    begun = rw none tt;
    procs = tt;
    apart = ap are_apart (append-nil d.init) ∙ kept.apart;
  }

  -- a procedure begins
  proc_follows : (d e : Draft) (line : ℕ) (name : List ℕ) (params : List (List ℕ)) (rest : List Said) → d.begun ≡ None
      → ProcTaken d e line name params → Follows (with_fresh d line name params) rest → Follows d ((line, ProcForm name params) ∷ rest)
  proc_follows d e line name params rest none t k =
      let names = map (λ (b : Block). b.name) (blocks rest) in
      let body = k.begun in
      record {
        most = let most = k.most in omega arith;
        fit = k.fit;
        names = is_twice_more d.names name (length d.procs) names
            ∙ ap (λ b. b || is_twice_after (d.names ++ (name, length d.procs) ∷ []) names) t.free ∙ k.names;
        begun = rw none tt;
        procs = (
          record {
            few = t.few;
            bare_main = t.bare_main;
            params = t.once;
            labels = sym (is_twice_none ℕ (label_names (up_to_end rest))) ∙ body.labels;
            vars = body.vars;
          },
          k.procs,
        );
        apart = k.apart;
      }

  -- a word of data
  datum_follows : (d : Draft) (line address value : ℕ) (rest : List Said) → d.begun ≡ None
      → Follows (with_datum d (record { address = address; value = value; line = line })) rest → Follows d ((line, DataForm address value) ∷ rest)
  datum_follows d line address value rest none k =
      let datum : DataLine = record { address = address; value = value; line = line } in
      record {
        most = let most = k.most in omega arith;
        fit = k.fit;
        names = k.names;
        begun = rw none tt;
        procs = k.procs;
        apart = ap are_apart (sym (append_assoc d.init (datum ∷ []) (data_said rest))) ∙ k.apart;
      }

  -- a label
  label_follows : (d e : Draft) (q : ProcDraft) (line : ℕ) (name : List ℕ) (rest : List Said) → d.begun ≡ Some q → LabelTaken d e q name
      → Follows (record d { begun = Some (with_label q name); lines = d.lines + 1 }) rest → Follows d ((line, LabelForm name) ∷ rest)
  label_follows d e q line name rest begun t k =
      let names = label_names (up_to_end rest) in
      let body = k.begun in
      let labels : is_twice_after q.labels (name ∷ names) ≡ false = is_twice_more q.labels name (length q.steps) names
      ∙ ap (λ b. b || is_twice_after (q.labels ++ (name, length q.steps) ∷ []) names) t.free ∙ body.labels in
      record {
        most = let most = k.most in omega arith;
        fit = k.fit;
        names = k.names;
        begun = rw begun (record { labels = labels; vars = body.vars });
        procs = k.procs;
        apart = k.apart;
      }

  -- a step
  step_follows : (d e : Draft) (q : ProcDraft) (line : ℕ) (f : Form) (rest : List Said) → d.begun ≡ Some q → (t : StepTaken u d e q line f)
      → Follows (close_if (is_end f) (record d { lines = d.lines + 1 }) (with_step q (vars_after q.vars f) t.step line)) rest
      → Follows d ((line, f) ∷ rest)
  step_follows d e q line f rest begun t k = by (is_end f) refl k where
    kind : IsStep u f
    kind = is_step u (vars_after q.vars f) f t.step t.is

    fits : is_fit u (line, f) ≡ true
    fits =
        let op = and_from (not (lacks_op u f)) (not (has_wrong_arity u f)) (not_from_false (lacks_op u f) t.offered) (not_from_false (has_wrong_arity u f) t.fits) in
        and_from (not (lacks_op u f) && not (has_wrong_arity u f)) (not (has_many_args f)) op (not_from_false (has_many_args f) t.args)

    by : (ends : Bool) → is_end f ≡ ends
        → Follows (close_if ends (record d { lines = d.lines + 1 }) (with_step q (vars_after q.vars f) t.step line)) rest
        → Follows d ((line, f) ∷ rest)
    by true at k = record {
      most = let most = k.most in omega arith;
      fit = and_from (is_fit u (line, f)) (list_all (is_fit u) rest) fits k.fit;
      names = rw kind.proc k.names;
      begun = rw (begun, at) (record { labels = rw kind.label refl; vars = t.few });
      procs = rw kind.proc k.procs;
      apart = rw (kind.datum line) k.apart;
    }
    by false at k =
        let body = k.begun in
        record {
          most = let most = k.most in omega arith;
          fit = and_from (is_fit u (line, f)) (list_all (is_fit u) rest) fits k.fit;
          names = rw kind.proc k.names;
          begun = rw (begun, at) (record { labels = rw kind.label body.labels; vars = body.vars });
          procs = rw kind.proc k.procs;
          apart = rw (kind.datum line) k.apart;
        }

  -- any line that is not blank
  taken_follows : (d next : Draft) (line : ℕ) (f : Form) (rest : List Said) → Taken u d next line f → Follows next rest → Follows d ((line, f) ∷ rest)
  taken_follows d next line f rest (ProcBegins name params is t) k =
      subst (λ g. Follows d ((line, g) ∷ rest)) (sym is)
      (proc_follows d next line name params rest (none_from_is_some d.begun t.closed) t (subst (λ x. Follows x rest) (sym t.made) k))
  taken_follows d next line f rest (DatumIsLaid address value is t) k =
      subst (λ g. Follows d ((line, g) ∷ rest)) (sym is)
      (datum_follows d line address value rest (none_from_is_some d.begun t.closed) (subst (λ x. Follows x rest) (sym t.made) k))
  taken_follows d next line f rest (LabelIsPut q name begun is t) k =
      subst (λ g. Follows d ((line, g) ∷ rest)) (sym is)
      (label_follows d next q line name rest begun t (subst (λ x. Follows x rest) (sym t.made) k))
  taken_follows d next line f rest (StepIsMade q begun t) k =
      step_follows d next q line f rest begun t (subst (λ x. Follows x rest) (sym t.made) k)

  -- all lines
  lines_follow : (lines : List Line) (line : ℕ) (d e : Draft) → IsKept e → take_lines u line d lines ≡ Ok e → Follows d (said_from line lines)
  unfolding take_line
  lines_follow [] line d e kept taken =
      let c = closed u line d.names d.procs d.begun d.init d.lines e taken in none_follows d (subst IsKept (sym c.0) kept) c.1
  lines_follow ([] ∷ lines) line d e kept taken = lines_follow lines (line + 1) d e kept taken
  lines_follow ((key ∷ words) ∷ lines) line d e kept taken =
      let c = then-ok (at_line line (take_line u line d (key ∷ words))) _ e taken in
      let f = some-ok Syntax (form_of key words) _ c.0 (at_line-ok line (take_line u line d (key ∷ words)) c.0 c.1) in
      rw f.1 (taken_follows d c.0 line f.0 (said_from (line + 1) lines) (form_taken u d c.0 line f.0 f.2) (lines_follow lines (line + 1) c.0 e kept c.2))

  -- lines that follow no draft keep the rules, and only they do
  nothing_follows : (xs : List Said) → Follows nothing xs → KeepsRules u xs
  nothing_follows xs k = record {
    most = omega (arith, k.most);
    fit = k.fit;
    names = sym (is_twice_none ℕ (map (λ (b : Block). b.name) (blocks xs))) ∙ k.names;
    procs = k.procs;
    apart = k.apart;
  }

  -- the rules of the lines of a text that were all taken
  pub lines_keep_rules : (lines : List Line) (e : Draft) → IsKept e → take_lines u 1 nothing lines ≡ Ok e → KeepsRules u (said_from 1 lines)
  lines_keep_rules lines e kept taken = nothing_follows (said_from 1 lines) (lines_follow lines 1 nothing e kept taken)
