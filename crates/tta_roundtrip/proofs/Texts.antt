-- Each program that a text is can be read again.
use Rattle.std.proofs.Common.{◌≡◌, ◌≤◌, ℕ, suc, ◌+◌, Bool, true, false, List, [], ◌∷◌, length, length-append, map, refl, sym, ap, ◌∙◌, subst, arith}
use Rattle.std.specs.Prelude.{Ok}
use Rattle.std.specs.List.{list_all, AllByRecursion}
use Rattle.std.proofs.lemmas.Bool.{and_from}
use Rattle.tta_list.proofs.Tests.{and_left, and_right}
use Rattle.tta_roundtrip.specs.Cited.{lines_of, Units, Proc, DataLine, Draft, numbered, link_steps, link_proc, link_procs, Said, said_from, Block, blocks, proc_said, draft_said, is_fit}
use Rattle.tta_parse.specs.Steps.{◌>>=◌}
use Rattle.tta_parse.proofs.Steps.{same_ok, then-ok}
use Rattle.tta_tac.proofs.Described.{program_said}
use Rattle.tta_pretty.specs.Printed.{data_lines, proc_lines, step_lines}
use Rattle.tta_roundtrip.specs.Readable.{is_named}
use Rattle.tta_roundtrip.specs.Statement.{TextsAreReadable}
use Rattle.tta_roundtrip.proofs.Nesting.{is_inner}
use Rattle.tta_roundtrip.proofs.Kept.{count, count_lines}
use Rattle.tta_roundtrip.proofs.InOrder.{HasOperands, lines_count, procs_in_order}
use Rattle.tta_roundtrip.proofs.Applied.{is_applied, text_applied}
use Rattle.tta_roundtrip.proofs.NestedTexts.{size, nested, blocks_all}
use Rattle.tta_roundtrip.proofs.LinkedTexts.{operands_of, body_named, body_free, linked}
use Rattle.tta_roundtrip.proofs.LabelCounts.{hits_labels, count_hits, body_size}

module _ (u : Units) (main : ℕ) (d : Draft) where
  record ProcFits (b : Block) (q : Proc) : Type 0 where
    lines : length (step_lines u main q.steps 0 q.steps) ≤ length b.body
    named_ : list_all (is_named u) q.steps ≡ true

  proc_fits : (b : Block) (q : Proc) → AllByRecursion (λ x. is_inner x.1 ≡ true) b.body → AllByRecursion (λ x. is_applied x.1 ≡ true) b.body → AllByRecursion (λ x. is_fit u x ≡ true) b.body
      → link_proc d (proc_said u b) ≡ Ok q → ProcFits b q
  unfolding count
  proc_fits b q inner applied fits e =
      let vars = numbered 0 b.params in
      let p = proc_said u b in
      let w = then-ok (link_steps d p.labels p.steps p.lines) (λ steps. Ok (record { params = p.params; vars = length p.vars; steps = steps; lines = p.lines })) q e in
      let same = same_ok (record { params = p.params; vars = length p.vars; steps = w.0; lines = p.lines }) q w.2 in
      let some = lines_count u vars b.body inner in
      let l = linked u d p.labels p.steps p.lines w.0 some (body_free u vars b.body) w.1 in
      let counted = count_lines u main w.0 0 w.0 in
      let hit = count_hits w.0 p.labels (length w.0) l.found_ in
      let most = hits_labels p.labels (length w.0) in
      let whole = body_size 0 b.body in
      let many = l.many in
      let here : count w.0 (0 + length w.0) ≡ count w.0 (length w.0) = ap (count w.0) (let z : 0 + length w.0 ≡ length w.0 = omega arith in z) in
      subst (λ x. ProcFits b x) same (record { lines = omega arith; named_ = l.names_ (body_named u vars b.body applied fits) })

  procs_fit : (k : ℕ) (bs : List Block) (qs : List Proc) → AllByRecursion (λ b. AllByRecursion (λ x. is_inner x.1 ≡ true) b.body) bs → AllByRecursion (λ b. AllByRecursion (λ x. is_applied x.1 ≡ true) b.body) bs
      → AllByRecursion (λ b. AllByRecursion (λ x. is_fit u x ≡ true) b.body) bs → link_procs d (map (proc_said u) bs) ≡ Ok qs
      → (length (proc_lines u main k qs) ≤ size bs) × (list_all (λ q. list_all (is_named u) q.steps) qs ≡ true)
  procs_fit k [] qs inner applied fits e =
      let same = same_ok [] qs e in
      (subst (λ x. length (proc_lines u main k x) ≤ 0) same (omega arith), ap (list_all (λ (q : Proc). list_all (is_named u) q.steps)) (sym same))
  procs_fit k (b ∷ bs) qs inner applied fits e =
      let first = then-ok (link_proc d (proc_said u b)) (λ f. link_procs d (map (proc_said u) bs) >>= λ rest. Ok (f ∷ rest)) qs e in
      let rest = then-ok (link_procs d (map (proc_said u) bs)) (λ r. Ok (first.0 ∷ r)) qs first.2 in
      let same = same_ok (first.0 ∷ rest.0) qs rest.2 in
      let here = proc_fits b first.0 inner.0 applied.0 fits.0 first.1 in
      let after = procs_fit (k + 1) bs rest.0 inner.1 applied.1 fits.1 rest.1 in
      let long = length-append (step_lines u main first.0.steps 0 first.0.steps) (proc_lines u main (k + 1) rest.0) in
      let lines = here.lines in
      let more = after.0 in (
        subst (λ x. length (proc_lines u main k x) ≤ size (b ∷ bs)) same (omega arith),
        ap (list_all (λ (q : Proc). list_all (is_named u) q.steps)) (sym same)
            ∙ and_from (list_all (is_named u) first.0.steps) (list_all (λ (q : Proc). list_all (is_named u) q.steps) rest.0) here.named_ after.1,
      )

data_size : (init : List DataLine) → length (data_lines init) ≡ length init
data_size [] = refl
data_size (x ∷ xs) = ap suc (data_size xs)

all_true : {A : Type 0} (test : A → Bool) (xs : List A) → list_all test xs ≡ true → AllByRecursion (λ x. test x ≡ true) xs
all_true test [] e = tt
all_true test (x ∷ xs) e = (and_left (test x) (list_all test xs) e, all_true test xs (and_right (test x) (list_all test xs) e))

operands_all : (xs : List Said) → AllByRecursion (λ x. is_applied x.1 ≡ true) xs → AllByRecursion (λ x. HasOperands x.1) xs
operands_all [] all = tt
operands_all (x ∷ xs) all = (operands_of x.1 all.0, operands_all xs all.1)

pub texts_are_readable_holds : TextsAreReadable
texts_are_readable_holds u text p is =
    let g = program_said u text p is in
    let xs = said_from 1 (lines_of text) in
    let n = nested false xs g.nested in
    let applied = text_applied text in
    let fits = all_true (is_fit u) xs g.rules.fit in
    let procs = procs_fit u p.main (draft_said u xs) 0 (blocks xs) p.procs n.blocks_in (blocks_all (λ x. is_applied x.1 ≡ true) xs applied) (blocks_all (λ x. is_fit u x ≡ true) xs fits) g.procs in
    record {
      order = procs_in_order u (draft_said u xs) (blocks xs) p.procs n.blocks_in (blocks_all (λ x. HasOperands x.1) xs (operands_all xs applied)) g.procs;
      named = procs.1;
      lines =
          let long = length-append (data_lines p.init) (proc_lines u p.main 0 p.procs) in
          let data_ = data_size p.init ∙ ap length g.init in
          let most = g.rules.most in
          let lines = n.lines in
          let fewer = procs.0 in
          omega arith;
    }
