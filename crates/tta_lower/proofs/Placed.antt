-- The register code of a program has its blocks where they belong.
use Rattle.std.proofs.Common.{◌≡◌, ◌<◌, ◌≤◌, ◌+◌, ◌-◌, ◌==◌, not, ◌++◌, ◌∷◌, [], ℕ, Bool, List, Option, Some, None, true, false, length, take, slice_get, option_map, refl, sym, ap, ◌∙◌, subst, arith, inl, inr, add-zero, length-append, append-nil}
use Rattle.std.specs.Prelude.{if◌then◌else◌}
use Rattle.std.specs.Option.{option_map_or}
use Rattle.std.specs.List.{flat_map, list_any, sum_by}
use Rattle.std.proofs.lemmas.Bool.{eq-eqb, ne_eqb, eqb-true, cases_eq, le-ltb, and_from, false≢true}
use Rattle.std.proofs.lemmas.Option.{slice_get-map, slice_get_within}
use Rattle.std.proofs.lemmas.List.Concat.{flat_map-append}
use Rattle.std.proofs.lemmas.List.Sums.{sum_by-cons, sum_by-append, sum_by-take-le}
use Rattle.tta_list.proofs.Lists.{slice_get-back}
use Rattle.tta_lower.specs.Cited.{Src, Step, Proc, Program, step_count, IsProgram, step_at, Rir}
use Rattle.tta_program.specs.declared.step.Step.TheVariants.{Invoke}
use Rattle.tta_lower.specs.Liveness.{LoweringInput, Block, Has, IsFlow}
use Rattle.tta_lower.specs.Layout.{vars_of}
use Rattle.tta_lower.specs.Shape.{BlockFor, ReturnFor, EntryFor, IsLowered, StartsAt, AtEntry, AtFirst, may_fall}
use Rattle.tta_lower.specs.Lower.{numbers, code_order, spans_of, Part, Entry, Steps, Returned, return_after, span_parts, has_entry, entry_parts, proc_parts, parts, procs_before, spans_before, entry_number, number_of, is_home_of, homes_of, block_of, lowered, steps_in, InOrder, Answers}
use Rattle.tta_lower.proofs.Steps.{step_of}
use Rattle.tta_lower.proofs.AfterSteps.{return-none, live-past, return-steps}
use Rattle.tta_lower.proofs.Callers.{live-below, live-after-below}
use Rattle.tta_lower.proofs.Lists.{In, in-has, filter-in, has-in, in-filter, in-any, in-numbers, part-at, procs-split, spans-split, spans-same, spans-next, begins-behind}
use Rattle.tta_lower.proofs.Sums.{sum-more, sum-rises, sum-flat_map, code-order-sum}

module _ (p : Program) (known : LoweringInput) (homes : ℕ)
    (sound : IsProgram p) (flow : IsFlow p known.blocks) (answers : Answers p known homes) where
  abbrev all : List Part
  all = parts p known.blocks known.first

  -- the number of the block that holds a step
  abbrev number : ℕ → ℕ → ℕ
  number = number_of p known.blocks known.first

  -- the number of an entry block
  abbrev entry : ℕ → ℕ
  entry = entry_number p known.blocks known.first

  -- the register code
  abbrev code : Rir
  code = lowered p known homes

  -- how many steps of the program stand in the parts before one
  abbrev pub before : ℕ → ℕ
  before k = sum_by steps_in (take k all)

  -- ---- where a part stands

  -- each procedure is in the order of the code
  owner-in : (owner : ℕ) → owner < length p.procs → In owner (code_order p)
  owner-in owner lt = elim (cases_eq owner p.main) as (λ c. In owner (code_order p)) [
    | inl e ↦ inl e
    | inr ne ↦ inr (in-filter (λ o. not (o == p.main)) (numbers 0 (length p.procs)) owner (in-numbers 0 (length p.procs) owner (omega arith) (omega (arith, lt))) (rw (ne_eqb owner p.main ne) refl))
  ]

  -- a part of a procedure stands after its entry number
  pub proc-there : (owner j : ℕ) (x : Part) → owner < length p.procs → slice_get (proc_parts p known.blocks known.first owner) j ≡ Some x → slice_get all (entry owner + j) ≡ Some x
  proc-there owner j x lt is =
      let split = procs-split p known.blocks known.first owner (code_order p) (owner-in owner lt) in
      part-at (proc_parts p known.blocks known.first) (code_order p) (procs_before p known.blocks known.first owner (code_order p)) split.0 owner j x split.1 is

  -- the owner of a block is a procedure
  owner-below : (b : Block) → Has known.blocks b → b.owner < length p.procs
  owner-below b has =
      let last = flow.last b has in
      let of_step = step_of p sound b.owner b.last last.st last.there in
      slice_get_within p.procs b.owner of_step.proc of_step.is

  -- a block is one of its procedure
  pub span-in : (b : Block) → Has known.blocks b → In b (spans_of known.blocks b.owner)
  span-in b has = in-filter (λ c. c.owner == b.owner) known.blocks b (has-in known.blocks has.0 b has.1) (eq-eqb b.owner b.owner refl)

  -- a block begins before it ends
  pub span-rises : (owner : ℕ) (c : Block) → In c (spans_of known.blocks owner) → c.first ≤ c.last
  span-rises owner c is = flow.rises c (in-has known.blocks c (filter-in (λ c. c.owner == owner) known.blocks c is).0)

  -- a part of a block stands at the block's number
  pub span-there : (b : Block) → Has known.blocks b → (j : ℕ) (x : Part) → slice_get (span_parts p b) j ≡ Some x → slice_get all (number b.owner b.first + j) ≡ Some x
  span-there b has j x is =
      let split = spans-split p known.blocks known.first (spans_of known.blocks b.owner) b b.first (span-rises b.owner) (answers.order b.owner) (span-in b has) (omega arith) (flow.rises b has) in
      let prefixes = spans_before p known.blocks known.first b.first (spans_of known.blocks b.owner) in
      let entries = entry_parts p known.blocks known.first b.owner in
      let within = part-at (span_parts p) (spans_of known.blocks b.owner) prefixes split.0 b j x split.1 is in
      let after_it : slice_get (proc_parts p known.blocks known.first b.owner) (length entries + (length (flat_map (span_parts p) prefixes) + j)) ≡ Some x =
      slice_get-back entries (flat_map (span_parts p) (spans_of known.blocks b.owner)) (length (flat_map (span_parts p) prefixes) + j) ∙ within in
      ap (slice_get all) (sums (entry b.owner) (length entries) (length (flat_map (span_parts p) prefixes)) j)
      ∙ proc-there b.owner (length entries + (length (flat_map (span_parts p) prefixes) + j)) x (owner-below b has) after_it where
        sums : (a b c d : ℕ) → a + b + c + d ≡ a + (b + (c + d))
        sums a b c d = omega arith

  -- the number after a block
  next-number : (b : Block) → Has known.blocks b → number b.owner (b.last + 1) ≡ number b.owner b.first + length (span_parts p b)
  next-number b has =
      let next = spans-next p known.blocks known.first (spans_of known.blocks b.owner) b (span-rises b.owner) (answers.order b.owner) (span-in b has) in
      let prefixes = spans_before p known.blocks known.first b.first (spans_of known.blocks b.owner) in
      let longer : length (flat_map (span_parts p) (prefixes ++ b ∷ [])) ≡ length (flat_map (span_parts p) prefixes) + length (span_parts p b) =
      ap length (flat_map-append (span_parts p) prefixes (b ∷ [])) ∙ length-append (flat_map (span_parts p) prefixes) (span_parts p b ++ [])
      ∙ ap (λ l. length (flat_map (span_parts p) prefixes) + length l) (append-nil (span_parts p b)) in
      ap (λ l. entry b.owner + length (entry_parts p known.blocks known.first b.owner) + length (flat_map (span_parts p) l)) next
      ∙ ap (λ n. entry b.owner + length (entry_parts p known.blocks known.first b.owner) + n) longer
      ∙ sums (entry b.owner) (length (entry_parts p known.blocks known.first b.owner)) (length (flat_map (span_parts p) prefixes)) (length (span_parts p b)) where
        sums : (a b c d : ℕ) → a + b + (c + d) ≡ a + b + c + d
        sums a b c d = omega arith

  -- the block at a part's place
  block-there : (k : ℕ) (x : Part) → slice_get all k ≡ Some x → slice_get code.blocks k ≡ Some (block_of p known homes x)
  block-there k x is = slice_get-map (block_of p known homes) all k ∙ ap (option_map (block_of p known homes)) is

  -- ---- home registers that stay

  -- the home of a live variable stays
  homes-kept : (owner x k : ℕ) (test : ℕ → Bool) → x < vars_of p owner → test x ≡ true → known.home owner x ≡ Some k
      → list_any (λ l. l == k) (homes_of p known homes owner test) ≡ true
  homes-kept owner x k test within passes is =
      in-any (λ l. l == k) (homes_of p known homes owner test) k
      (in-filter (λ k. list_any (is_home_of p known homes owner test k) (numbers 0 (vars_of p owner))) (numbers 0 homes) k
      (in-numbers 0 homes k (omega arith) (omega (arith, answers.few owner x k is)))
      (in-any (is_home_of p known homes owner test k) (numbers 0 (vars_of p owner)) x (in-numbers 0 (vars_of p owner) x (omega arith) (omega (arith, within)))
      (and_from (test x) _ passes (rw is (eq-eqb k k refl)))))
      (eq-eqb k k refl)

  -- ---- the facts

  -- a block of steps stands where it belongs
  block : (b : Block) → Has known.blocks b → (st : Step) → step_at p b.owner b.last ≡ Some st → BlockFor p known code number entry before b st
  block b has st there = record {
    code = block_of p known homes (Steps b);
    there = ap (slice_get code.blocks) (sym (add-zero (number b.owner b.first))) ∙ block-there (number b.owner b.first + 0) (Steps b) (span-there b has 0 (Steps b) refl);
    steps = refl;
    exit = rw there refl;
    kept = λ x k no_call alive is.
        ap (λ l. list_any (λ l. l == k) l) ((rw there refl) ∙ live-past p known homes b st no_call)
        ∙ homes-kept b.owner x k (known.after b.owner b.last) (live-after-below p sound b.owner x b.last alive) (answers.after_all b has x alive) is;
  }

  -- the next block follows one that falls through
  falls_through : (b : Block) → Has known.blocks b → (st : Step) → step_at p b.owner b.last ≡ Some st → may_fall st ≡ true → number b.owner (b.last + 1) ≡ number b.owner b.first + 1
  falls_through b has st there may =
      let one : length (span_parts p b) ≡ 1 = ap (λ l. length (Steps b ∷ l)) (ap (return_after b) there ∙ return-none b st may) in
      next-number b has ∙ ap (λ n. number b.owner b.first + n) one

  -- the next block follows a call without a destination
  called : (b : Block) → Has known.blocks b → (callee : ℕ) (args : List Src) → step_at p b.owner b.last ≡ Some (Invoke None callee args)
      → number b.owner (b.last + 1) ≡ number b.owner b.first + 1
  called b has callee args there =
      let one : length (span_parts p b) ≡ 1 = ap (λ o. length (Steps b ∷ return_after b o)) there in
      next-number b has ∙ ap (λ n. number b.owner b.first + n) one

  -- a return block follows a call with a destination
  returns : (b : Block) → Has known.blocks b → (d callee : ℕ) (args : List Src) → step_at p b.owner b.last ≡ Some (Invoke (Some d) callee args)
      → ReturnFor p known code number entry before b d callee
  returns b has d callee args there = record {
    code = block_of p known homes (Returned b d callee);
    there = block-there (number b.owner b.first + 1) (Returned b d callee) (span-there b has 1 (Returned b d callee) (ap (λ o. slice_get (return_after b o) 0) there));
    steps = refl;
    exit = refl;
    kept = λ x k alive is. homes-kept b.owner x k (known.after b.owner b.last) (live-after-below p sound b.owner x b.last alive) (answers.after_all b has x alive) is;
    onward =
        let two : length (span_parts p b) ≡ 2 = ap (λ o. length (Steps b ∷ return_after b o)) there in
        next-number b has ∙ ap (λ n. number b.owner b.first + n) two;
  }

  -- no block ends before step 0
  none-at_0 : (bs : List Block) → spans_before p known.blocks known.first 0 bs ≡ []
  none-at_0 [] = refl
  none-at_0 (b ∷ bs) = rw (le-ltb b.last 0 (omega arith)) refl

  -- an entry block stands where it belongs
  pub entry-block : (owner : ℕ) → owner < length p.procs → has_entry p known.blocks known.first owner ≡ true → EntryFor p known code number entry before owner
  entry-block owner lt has = record {
    code = block_of p known homes (Entry owner);
    there = ap (slice_get code.blocks) (sym (add-zero (entry owner))) ∙ block-there (entry owner + 0) (Entry owner) (proc-there owner 0 (Entry owner) lt (rw has refl));
    steps = refl;
    exit = refl;
    kept = λ x k alive is. homes-kept owner x k (known.first owner) (live-below p sound owner x 0 alive) (answers.first_all owner x alive) is;
    onward =
        let one : length (entry_parts p known.blocks known.first owner) ≡ 1 = rw has refl in
        ap (λ l. entry owner + length (entry_parts p known.blocks known.first owner) + length (flat_map (span_parts p) l)) (none-at_0 (spans_of known.blocks owner))
        ∙ ap (λ n. entry owner + n + 0) one ∙ omega arith;
  }

  -- main is there
  pub main-below : p.main < length p.procs
  main-below = by (slice_get p.procs p.main) refl sound.main where
    by : (q : Option Proc) → slice_get p.procs p.main ≡ q → option_map_or (λ q. q.params == 0) q false ≡ true → p.main < length p.procs
    by None is none = cc
    by (Some q) is none = slice_get_within p.procs p.main q is

  -- the code begins with main
  start : StartsAt p known code number entry before
  start = by (list_any (known.first p.main) (numbers 0 (vars_of p p.main))) refl where
    main_is : (p.main == p.main) ≡ true
    main_is = eq-eqb p.main p.main refl

    zero_entry : entry p.main ≡ 0
    zero_entry = rw main_is refl

    by : (b : Bool) → list_any (known.first p.main) (numbers 0 (vars_of p p.main)) ≡ b → StartsAt p known code number entry before
    by true some = AtEntry zero_entry (entry-block p.main main-below (rw (main_is, some) refl))
    by false none =
        let no_parts : length (entry_parts p known.blocks known.first p.main) ≡ 0 = rw (main_is, none) refl in
        AtFirst
        (ap (λ l. entry p.main + length (entry_parts p known.blocks known.first p.main) + length (flat_map (span_parts p) l)) (none-at_0 (spans_of known.blocks p.main))
        ∙ ap (λ n. n + length (entry_parts p known.blocks known.first p.main) + 0) zero_entry ∙ ap (λ n. 0 + n + 0) no_parts ∙ omega arith)
        (λ x alive. false≢true (sym none ∙ in-any (known.first p.main) (numbers 0 (vars_of p p.main)) x
        (in-numbers 0 (vars_of p p.main) x (omega arith) (omega (arith, live-below p sound p.main x 0 alive))) (answers.first_all p.main x alive)))

  -- ---- counts

  -- the steps before a block and in it
  counts : (b : Block) → Has known.blocks b → before (number b.owner b.first) + (b.last + 1 - b.first) ≤ before (number b.owner b.first + 1)
  counts b has =
      let there : slice_get all (number b.owner b.first) ≡ Some (Steps b) = ap (slice_get all) (sym (add-zero (number b.owner b.first))) ∙ span-there b has 0 (Steps b) refl in
      let more = sum-more steps_in all (number b.owner b.first) (Steps b) there in
      omega (arith, more)

  -- how many steps a procedure has
  abbrev pub steps_of_proc : ℕ → ℕ
  steps_of_proc o = option_map_or (λ q. length q.steps) (slice_get p.procs o) 0

  -- the steps of blocks in order
  spans-sum : (bs : List Block) (low high : ℕ) → InOrder bs → ((c : Block) → In c bs → c.first ≤ c.last) → ((c : Block) → In c bs → c.last < high) → ((c : Block) → In c bs → low ≤ c.first)
      → low ≤ high → sum_by (λ c. sum_by steps_in (span_parts p c)) bs + low ≤ high
  spans-sum [] low high order rises below above le = omega (arith, le)
  spans-sum (b ∷ bs) low high order rises below above le =
      let rest = spans-sum bs (b.last + 1) high order.1 (λ c is. rises c (inr is)) (λ c is. below c (inr is)) (λ c is. begins-behind b bs c order.0 is) (omega (arith, below b (inl refl))) in
      let one : sum_by steps_in (span_parts p b) ≡ b.last + 1 - b.first + 0 =
      sum_by-cons steps_in (Steps b) (return_after b (step_at p b.owner b.last)) ∙ ap (λ n. b.last + 1 - b.first + n) (return-steps b (step_at p b.owner b.last)) in
      rw (sum_by-cons (λ c. sum_by steps_in (span_parts p c)) b bs) (omega (arith, rest, one, rises b (inl refl), above b (inl refl)))

  -- a block ends within its procedure
  pub span-below : (owner : ℕ) (c : Block) → In c (spans_of known.blocks owner) → c.last < steps_of_proc owner
  span-below owner c is =
      let both = filter-in (λ c. c.owner == owner) known.blocks c is in
      let last = flow.last c (in-has known.blocks c both.0) in
      subst (λ o. c.last < steps_of_proc o) (eqb-true c.owner owner both.1) (by (slice_get p.procs c.owner) last.there) where
        by : {st : Step} (q : Option Proc) → option_map_or (λ q. slice_get q.steps c.last) q None ≡ Some st → c.last < option_map_or (λ q. length q.steps) q 0
        by None there = cc
        by {st = st} (Some q) there = slice_get_within q.steps c.last st there

  -- the steps of a procedure's parts
  proc-sum : (owner : ℕ) → sum_by steps_in (proc_parts p known.blocks known.first owner) ≤ steps_of_proc owner
  proc-sum owner =
      let spans = spans_of known.blocks owner in
      let entries : sum_by steps_in (entry_parts p known.blocks known.first owner) ≡ 0 = none (has_entry p known.blocks known.first owner) in
      let rest = spans-sum spans 0 (steps_of_proc owner) (answers.order owner) (span-rises owner) (span-below owner) (λ c is. omega arith) (omega arith) in
      rw (sum_by-append steps_in (entry_parts p known.blocks known.first owner) (flat_map (span_parts p) spans), sum-flat_map steps_in (span_parts p) spans) (omega (arith, entries, rest)) where
        none : (b : Bool) → sum_by steps_in (if b then Entry owner ∷ [] else []) ≡ 0
        none true = refl
        none false = refl

  -- the steps before a block are steps of the program
  all-counted : (k : ℕ) → before k ≤ step_count p
  all-counted k =
      let total = code-order-sum p (λ q. length q.steps) (λ o. sum_by steps_in (proc_parts p known.blocks known.first o)) main-below (λ o lt. proc-sum o) in
      let flat = sum-flat_map steps_in (proc_parts p known.blocks known.first) (code_order p) in
      omega (arith, total, flat, sum_by-take-le steps_in all k)

  -- the code has all its blocks where they belong
  pub is-lowered : IsLowered p known code number entry before
  is-lowered = record {
    block = block;
    same = λ b has.
        ap (λ l. entry b.owner + length (entry_parts p known.blocks known.first b.owner) + length (flat_map (span_parts p) l))
        (spans-same p known.blocks known.first (spans_of known.blocks b.owner) b b.last (span-rises b.owner) (answers.order b.owner) (span-in b has) (flow.rises b has) (omega arith));
    falls_through = falls_through;
    called = called;
    returns = returns;
    entries = λ owner q is other. entry-block owner (slice_get_within p.procs owner q is) (rw (ne_eqb owner p.main other) refl);
    start = start;
    live_at_entry = answers.first_only;
    all_live = answers.first_all;
    counts = counts;
    rising = sum-rises steps_in all;
    all_counted = all-counted;
  }
