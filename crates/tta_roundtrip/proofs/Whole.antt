-- A printed text is a text of the printed program.
use Rattle.std.proofs.Common.{◌≡◌, ◌≤◌, ℕ, zero, suc, ◌+◌, ◌<◌, ◌^◌, ◌==◌, Bool, true, false, List, [], ◌∷◌, ◌++◌, length, map, refl, sym, ap, ◌∙◌, subst, arith, append-nil}
use Rattle.std.specs.Prelude.{Some, codes, not, nat_lt, ◌&&◌, ◌||◌, slice_get, Ok}
use Rattle.std.specs.Option.{option_map_or}
use Rattle.std.specs.List.{list_any, list_all, AllByRecursion}
use Rattle.std.specs.Str.{bytes_eq}
use Rattle.std.proofs.lemmas.Bool.{eqb-true, and_from}
use Rattle.std.proofs.lemmas.List.Folds.{list_all-append}
use Rattle.tta_roundtrip.specs.Cited.{AllPairs, lines_of, named_in, Units, Proc, DataLine, Program, datum_of, IsProgram, IsProc, ends_once, are_apart, calls_proc, Reaches, ByCall, ByMore, StandsOver, is_over, Draft, numbered, has_twice, params_of, link_procs, with_main, Said, said_from, is_line, are_nested, Block, blocks, data_said, proc_said, draft_said, is_fit, IsBlock, KeepsRules, IsProgramText, vars_said}
use Rattle.tta_list.proofs.Tests.{and_left, and_right}
use Rattle.tta_list.proofs.Lists.{all_weaker}
use Rattle.tta_tac.proofs.Described.{said_program}
use Rattle.tta_pretty.specs.Printed.{printed, lines_printed, proc_name, var_names}
use Rattle.tta_roundtrip.specs.Readable.{IsReadable, is_in_order}
use Rattle.tta_roundtrip.specs.Statement.{IsSameProc, ReadsBack, PrintedIsRead}
use Rattle.tta_roundtrip.proofs.Names.{main_named}
use Rattle.tta_roundtrip.proofs.Said.{steps_form, procs_form, data_form, program_form, numbered_from, numbered_append, numbered_length, said_read, lines_are, count_read}
use Rattle.tta_roundtrip.proofs.Reading.{program_read, printed_lines}
use Rattle.tta_pretty.proofs.Pushing.{steps_short}
use Rattle.tta_roundtrip.proofs.Nesting.{relined, blocks_form, procs_nested, procs_blocks, procs_data, data_nested, data_blocks, data_data}
use Rattle.tta_roundtrip.proofs.Variables.{vars, vars_length}
use Rattle.tta_roundtrip.proofs.Unlinking.{vars_in, names_in, labels_once}
use Rattle.tta_roundtrip.proofs.Linked.{proc_names, proc_found, main_found, procs_once, vars_once, names_length, block_names, block_params, proc_again, procs_again, procs_linked}
use Rattle.tta_roundtrip.proofs.FitLines.{data_fit, procs_fit}
use Rattle.tta_program.proofs.Mains.{main-below as main_within}

-- ---- the rules of procedures

module _ (u : Units) (p : Program) where
  main_bare : (k : ℕ) (q : Proc) → (k ≡ p.main → q.params ≡ 0) → (bytes_eq (proc_name p.main k) (codes "main") && nat_lt 0 (length (var_names 0 q.params))) ≡ false
  main_bare k q bare = ap (λ b. b && nat_lt 0 (length (var_names 0 q.params))) (main_named p.main k) ∙ by (k == p.main) refl where
    by : (b : Bool) → (k == p.main) ≡ b → (b && nat_lt 0 (length (var_names 0 q.params))) ≡ false
    by true e = ap (λ n. nat_lt 0 n) (names_length q.params 0 ∙ bare (eqb-true k p.main e))
    by false e = refl

  blocks_are : (k line : ℕ) (qs : List Proc) → ((i : ℕ) (q : Proc) → slice_get qs i ≡ Some q → k + i ≡ p.main → q.params ≡ 0) → AllByRecursion (λ q. length q.steps < 2 ^ 32) qs
      → AllByRecursion (IsProc p) qs → list_all (λ q. list_all (is_over u) q.steps) qs ≡ true → list_all is_in_order qs ≡ true → AllByRecursion IsBlock (blocks_form u p.main k line qs)
  blocks_are k line [] bare short rules over order = tt
  blocks_are k line (q ∷ qs) bare short rules over order =
      let body = numbered_from (line + 1) (steps_form u p.main q.steps 0 q.steps) in
      let params = rules.0.params in
      let length_params = names_length q.params 0 in
      let variables = vars_in u p.main q.steps q.params q.vars (line + 1) 0 q.steps (and_left (list_all (is_over u) q.steps) (list_all (λ q. list_all (is_over u) q.steps) qs) over) (and_left (is_in_order q) (list_all is_in_order qs) order) rules.0.vars in
      let size : length (vars_said (vars q.params) body) ≡ q.vars = ap length variables ∙ vars_length q.vars in
      let small = short.0 in (
        record {
          few = omega arith;
          bare_main = main_bare k q (λ same. bare 0 q refl (let e : k + 0 ≡ p.main = omega (arith, same) in e));
          params = vars_once q.params 0 (omega arith);
          labels = ap has_twice (names_in u p.main q.steps (line + 1) 0 q.steps) ∙ labels_once q.steps 0 q.steps (omega arith);
          vars = let few = rules.0.vars in omega (arith, size);
        },
        blocks_are (k + 1) ((line + 1) + length (steps_form u p.main q.steps 0 q.steps)) qs (λ i x there same. bare (suc i) x there (let e : k + suc i ≡ p.main = omega (arith, same) in e)) short.1 rules.1
            (and_right (list_all (is_over u) q.steps) (list_all (λ q. list_all (is_over u) q.steps) qs) over) (and_right (is_in_order q) (list_all is_in_order qs) order),
      )

-- ---- data

any_address : (a line : ℕ) (init : List DataLine) → list_any (λ e. e.address == a) (relined line init) ≡ list_any (λ e. e.address == a) init
any_address a line [] = refl
any_address a line (d ∷ ds) = ap (λ b. d.address == a || b) (any_address a (line + 1) ds)

apart_again : (line : ℕ) (init : List DataLine) → are_apart (relined line init) ≡ are_apart init
apart_again line [] = refl
apart_again line (d ∷ ds) =
    ap (λ b. not b && are_apart (relined (line + 1) ds)) (any_address d.address (line + 1) ds)
    ∙ ap (λ b. not (list_any (λ e. e.address == d.address) ds) && b) (apart_again (line + 1) ds)

data_again : (line : ℕ) (init : List DataLine) → map datum_of (relined line init) ≡ map datum_of init
data_again line [] = refl
data_again line (d ∷ ds) = ap (λ xs. datum_of d ∷ xs) (data_again (line + 1) ds)

-- ---- the program again

-- procedures with new lines
abbrev pub relined_procs : Units → (main line : ℕ) → List Proc → List Proc
relined_procs u main line [] = []
relined_procs u main line (q ∷ qs) = proc_again u main line q ∷ relined_procs u main ((line + 1) + length (steps_form u main q.steps 0 q.steps)) qs

same_procs : (u : Units) (main line : ℕ) (qs : List Proc) → AllPairs IsSameProc qs (relined_procs u main line qs)
same_procs u main line [] = tt
same_procs u main line (q ∷ qs) = (record { params = refl; vars = refl; steps = refl }, same_procs u main ((line + 1) + length (steps_form u main q.steps 0 q.steps)) qs)

calls_again : (u : Units) (main line : ℕ) (qs : List Proc) (i callee : ℕ)
    → option_map_or (λ q. list_any (calls_proc callee) q.steps) (slice_get (relined_procs u main line qs) i) false ≡ option_map_or (λ q. list_any (calls_proc callee) q.steps) (slice_get qs i) false
calls_again u main line [] i callee = refl
calls_again u main line (q ∷ qs) zero callee = refl
calls_again u main line (q ∷ qs) (suc i) callee = calls_again u main ((line + 1) + length (steps_form u main q.steps 0 q.steps)) qs i callee

reaches_again : (u : Units) (p : Program) (line : ℕ) {from to : ℕ} → Reaches (with_main (relined_procs u p.main line p.procs) 0) from to → Reaches p from to
reaches_again u p line (ByCall from to call) = ByCall from to (sym (calls_again u p.main line p.procs from to) ∙ call)
reaches_again u p line (ByMore from via to call more) = ByMore from via to (sym (calls_again u p.main line p.procs from via) ∙ call) (reaches_again u p line more)

-- main has no parameters
main_params : (p : Program) → IsProgram p → (i : ℕ) (q : Proc) → slice_get p.procs i ≡ Some q → 0 + i ≡ p.main → q.params ≡ 0
main_params p rules i q there same =
    let at : slice_get p.procs p.main ≡ Some q = ap (slice_get p.procs) (let e : p.main ≡ i = omega (arith, same) in e) ∙ there in
    eqb-true q.params 0 (sym (ap (λ o. option_map_or (λ x. x.params == 0) o false) at) ∙ rules.main)

module _ (u : Units) (p : Program) (rules : IsProgram p) (over : StandsOver u p) (readable : IsReadable u p) where
  xs : List Said
  xs = numbered_from 1 (program_form u p)

  -- the line of the first procedure
  first : ℕ
  first = 1 + length (data_form p.init)

  rest : List Said
  rest = numbered_from first (procs_form u p.main 0 p.procs)

  xs_split : xs ≡ numbered_from 1 (data_form p.init) ++ rest
  unfolding xs rest first
  xs_split = numbered_append 1 (data_form p.init) (procs_form u p.main 0 p.procs)

  said_is : said_from 1 (lines_of (printed u p)) ≡ xs
  unfolding xs
  said_is = ap (said_from 1) (printed_lines u p rules readable) ∙ said_read (lines_printed u p) (program_form u p) 1 (program_read u p rules over)

  short : AllByRecursion (λ q. length q.steps < 2 ^ 32) p.procs
  short = all_weaker (λ (q : Proc). length q.steps ≤ 65536) (λ (q : Proc). length q.steps < 2 ^ 32) p.procs (λ q le. omega arith) (steps_short p.procs 65536 (omega (arith, rules.lines)))

  ends : AllByRecursion (λ q. ends_once q.steps ≡ true) p.procs
  ends = all_weaker (IsProc p) (λ (q : Proc). ends_once q.steps ≡ true) p.procs (λ q r. r.ends) rules.procs

  blocks_is : blocks xs ≡ blocks_form u p.main 0 first p.procs
  unfolding rest
  blocks_is = ap blocks xs_split ∙ data_blocks u p.main 1 p.init rest ∙ procs_blocks u p.main 0 first p.procs ends

  data_is : data_said xs ≡ relined 1 p.init
  unfolding rest
  data_is = ap data_said xs_split ∙ data_data u p.main 1 p.init rest ∙ ap (λ l. relined 1 p.init ++ l) (procs_data u p.main 0 first p.procs ends) ∙ append-nil (relined 1 p.init)

  nested_is : are_nested false xs ≡ true
  unfolding rest
  nested_is = ap (are_nested false) xs_split ∙ data_nested u p.main 1 p.init rest ∙ procs_nested u p.main 0 first p.procs ends

  names_is : map (λ b. b.name) (blocks xs) ≡ proc_names p.main 0 (length p.procs)
  names_is = ap (map (λ (b : Block). b.name)) blocks_is ∙ block_names u p.main 0 first p.procs

  most_procs : length p.procs ≤ 65536
  most_procs = omega (arith, rules.lines)

  rules_kept : KeepsRules u xs
  unfolding xs rest first
  rules_kept = record {
    most = let e = numbered_length 1 (program_form u p) in let f = count_read (lines_printed u p) (program_form u p) (program_read u p rules over) in let m = readable.lines in omega arith;
    fit = ap (list_all (is_fit u)) xs_split ∙ list_all-append (is_fit u) (numbered_from 1 (data_form p.init)) rest
        ∙ and_from (list_all (is_fit u) (numbered_from 1 (data_form p.init))) (list_all (is_fit u) rest) (data_fit u 1 p.init) (procs_fit u p 0 first p.procs rules.procs rules.procs over.steps);
    names = ap has_twice names_is ∙ procs_once p.main (length p.procs) 0 (let m = most_procs in omega arith);
    procs = subst (AllByRecursion IsBlock) (sym blocks_is) (blocks_are u p 0 first p.procs (main_params p rules) short rules.procs over.steps readable.order);
    apart = ap are_apart data_is ∙ apart_again 1 p.init ∙ rules.apart;
  }

  draft : Draft
  draft = draft_said u xs

  named_there : (callee : ℕ) → callee < length p.procs → named_in draft.names (proc_name p.main callee) ≡ Some callee
  unfolding draft
  named_there callee below =
      ap (λ ns. named_in (numbered 0 ns) (proc_name p.main callee)) names_is
      ∙ proc_found p.main (length p.procs) 0 callee (omega arith) (omega arith) (let m = most_procs in omega arith)

  params_there : (callee : ℕ) → params_of draft.procs callee ≡ option_map_or (λ q. q.params) (slice_get p.procs callee) 0
  unfolding draft
  params_there callee = ap (λ bs. params_of (map (proc_said u) bs) callee) blocks_is ∙ block_params u p.main 0 first p.procs callee

  again_same : (line : ℕ) (qs : List Proc) → procs_again u p draft named_there params_there line qs ≡ relined_procs u p.main line qs
  again_same line [] = refl
  again_same line (q ∷ qs) = ap (λ l. proc_again u p.main line q ∷ l) (again_same ((line + 1) + length (steps_form u p.main q.steps 0 q.steps)) qs)

  again : Program
  again = record { procs = relined_procs u p.main first p.procs; main = p.main; init = relined 1 p.init }

  is_text : IsProgramText u (lines_of (printed u p)) again
  unfolding again draft
  is_text =
      let back = said_is in
      record {
        all = ap (list_all is_line) (printed_lines u p rules readable) ∙ lines_are (lines_printed u p) (program_form u p) (program_read u p rules over);
        nested = ap (are_nested false) back ∙ nested_is;
        rules = subst (KeepsRules u) (sym back) rules_kept;
        procs = ap (λ ys. link_procs (draft_said u ys) (draft_said u ys).procs) back
            ∙ ap (λ bs. link_procs (draft_said u xs) (map (proc_said u) bs)) blocks_is
            ∙ procs_linked u p draft named_there params_there 0 first p.procs short rules.procs over.steps readable.order
            ∙ ap Ok (again_same first p.procs);
        acyclic = λ k leads. rules.acyclic k (reaches_again u p first leads);
        main = ap (λ ys. named_in (draft_said u ys).names (codes "main")) back ∙ ap (λ ns. named_in (numbered 0 ns) (codes "main")) names_is
            ∙ main_found p.main (length p.procs) 0 (omega arith) (let m = main_within p rules in omega arith);
        init = sym data_is ∙ sym (ap data_said back);
      }

  pub reads_back : ReadsBack u p
  unfolding again
  reads_back = record {
    again = again;
    same = record { procs = same_procs u p.main first p.procs; main = refl; laid = data_again 1 p.init };
    text = said_program u (printed u p) again is_text;
  }

pub printed_is_read_holds : PrintedIsRead
printed_is_read_holds u p rules over readable = reads_back u p rules over readable
