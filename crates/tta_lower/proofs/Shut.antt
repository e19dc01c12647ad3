-- The register code of a program is closed.
use Rattle.std.proofs.Common.{◌≡◌, ◌≢◌, ◌<◌, ◌≤◌, ◌+◌, ◌-◌, ◌^◌, ◌==◌, ◌&&◌, ◌++◌, ◌∷◌, [], ℕ, zero, suc, Bool, List, Option, Some, None, true, false, length, map, slice_get, nat_lt, nat_le, is_none, refl, ap, ap₂, ◌∙◌, subst, arith, append-nil, length-append}
use Rattle.std.specs.Prelude.{if◌then◌else◌}
use Rattle.std.specs.Option.{option_map_or}
use Rattle.std.specs.List.{list_all}
use Rattle.std.proofs.lemmas.Bool.{eq-eqb, ne_eqb, and_from, lt-ltb, le-leb, or_left}
use Rattle.std.proofs.lemmas.List.{length-map}
use Rattle.std.proofs.lemmas.Option.{slice_get_within}
use Rattle.tta_list.proofs.Lists.{all_one}
use Rattle.tta_lower.specs.Cited.{Units, Src, Step, Load, Take, Store, When, End, Proc, Program, step_count, IsProgram, IsProc, step_at, RBlock, frame_need, block_passes, is_place, leads_within, is_closed_block, IsClosed, rrun}
use Rattle.tta_program.specs.declared.step.Step.TheVariants.{Copy, Apply, Put, If, Goto, Invoke, Return, Halt}
use Rattle.tta_lir.specs.declared.code.Place.TheVariants.{Frame}
use Rattle.tta_lir.specs.declared.code.Exit.TheVariants as exit
use Rattle.tta_lir.specs.declared.code.RStep.TheVariants as rstep
use Rattle.tta_lir.specs.declared.code.RSrc.TheVariants as rsrc
use Rattle.tta_lower.specs.Liveness.{LoweringInput, Block, Has, IsFlow, leads}
use Rattle.tta_lower.specs.Layout
use Rattle.tta_lower.specs.Layout.{vars_of, params_of, base, var_slot, value_slot, back_slot, place, place_by, exit_for, keeps_ra, sets_from, steps_for, code_from}
use Rattle.tta_lower.specs.Lower.{numbers, Part, Entry, Steps, Returned, parts, number_of, entry_number, homes_of, block_of, lowered, Answers}
use Rattle.tta_lower.proofs.Callers.{called, vars-are}
use Rattle.tta_lower.proofs.Frames.{other-own}
use Rattle.tta_lower.proofs.Lists.{filter-in, numbers-below}
use Rattle.tta_lower.proofs.Placed.{span-in, span-there, entry-block, span-below, steps_of_proc}
use Rattle.tta_lower.specs.Lower.{live_past}
use Rattle.tta_lower.proofs.Exits.{code_from-more}
use Rattle.tta_lower.proofs.Weighing.{few-blocks}
use Rattle.tta_lower.proofs.Shutting.{IsPartOf, parts-are, part-passes, all-mapped, all-in, frame-within, main-in}
use Rattle.tta_lower.proofs.Lengths.{one-of-sum, plain-length}
use Rattle.tta_lower.proofs.Procs.{proc-below, proc-by-var}
use Rattle.tta_lower.proofs.Lasts.{last-closed, set-apart}

module _ (p : Program) (known : LoweringInput) (homes frame_words : ℕ)
    (sound : IsProgram p) (flow : IsFlow p known.blocks) (answers : Answers p known homes) (need : frame_need p ≤ frame_words) where
  abbrev all : List Part
  all = parts p known.blocks known.first

  -- the block of a part
  abbrev block : Part → RBlock
  block = block_of p known homes

  -- the number of the block that holds a step
  abbrev number : ℕ → ℕ → ℕ
  number = number_of p known.blocks known.first

  -- the number of an entry block
  abbrev entry : ℕ → ℕ
  entry = entry_number p known.blocks known.first

  -- main is there
  main_below : p.main < length p.procs
  main_below = main-in p known homes sound flow answers

  -- ---- slots are there

  -- the slot of a variable is there
  var-within : (owner x : ℕ) → x < vars_of p owner → var_slot p owner x < frame_words
  var-within owner x lt =
      let q = proc-by-var p owner x lt in
      let end = frame-within p owner q.proc main_below q.is in
      omega (arith, end, lt, need)

  -- a slot of a procedure's own is there
  own-within : (owner k : ℕ) → owner < length p.procs → owner ≢ p.main → k < 2 → base p owner + k < frame_words
  own-within owner k lt ne few =
      let q = proc-below p owner lt in
      let end = frame-within p owner q.proc main_below q.is in
      omega (arith, end, other-own p owner ne, few, need)

  -- a place is there
  place-there : (owner x : ℕ) → x < vars_of p owner → is_place homes frame_words (place p known.home owner x) ≡ true
  place-there owner x lt = by (known.home owner x) refl where
    by : (o : Option ℕ) → known.home owner x ≡ o → is_place homes frame_words (place_by p known.home owner x o) ≡ true
    by (Some k) is = lt-ltb k homes (answers.few owner x k is)
    by None is = lt-ltb (var_slot p owner x) frame_words (var-within owner x lt)

  -- the places and slots of a block are there
  passes-there : (x : Part) → IsPartOf p known.blocks x → block_passes (is_place homes frame_words) (λ s. nat_lt s frame_words) (block x) ≡ true
  passes-there x is = part-passes p known homes sound flow answers (is_place homes frame_words) (λ s. nat_lt s frame_words)
      place-there (λ owner x lt. lt-ltb (var_slot p owner x) frame_words (var-within owner x lt))
      (λ owner lt ne. lt-ltb (value_slot p owner) frame_words (own-within owner 1 lt ne (omega arith)))
      (λ owner lt ne. let h = own-within owner 0 lt ne (omega arith) in lt-ltb (back_slot p owner) frame_words (omega (arith, h)))
      x is

  -- ---- registers that stay are there

  -- registers that stay are there
  homes-there : (owner : ℕ) (test : ℕ → Bool) → list_all (λ k. nat_lt k homes) (homes_of p known homes owner test) ≡ true
  homes-there owner test = all-in (λ k. nat_lt k homes) (homes_of p known homes owner test)
      (λ k is. lt-ltb k homes (omega (arith, numbers-below 0 homes k (filter-in _ (numbers 0 homes) k is).0)))

  -- the registers of a block's live_out are there
  live-there : (x : Part) → IsPartOf p known.blocks x → list_all (λ k. nat_lt k homes) (block x).live_out ≡ true
  live-there (Entry owner) is = homes-there owner (known.first owner)
  live-there (Returned b d callee) is = homes-there b.owner (known.after b.owner b.last)
  live-there (Steps b) is = by (step_at p b.owner b.last) where
    of : (st : Step) → list_all (λ k. nat_lt k homes) (live_past p known homes b st) ≡ true
    of (Invoke d callee args) = refl
    of st = homes-there b.owner (known.after b.owner b.last)

    by : (o : Option Step) → list_all (λ k. nat_lt k homes) (option_map_or (live_past p known homes b) o []) ≡ true
    by None = refl
    by (Some st) = of st

  -- ---- exits lead to blocks

  -- the number of a block is there
  number-within : (b : Block) → Has known.blocks b → number b.owner b.first < length all
  number-within b has =
      let there = span-there p known homes sound flow answers b has 0 (Steps b) refl in
      let lt = slice_get_within all (number b.owner b.first + 0) (Steps b) there in
      omega (arith, lt)

  -- the number of a target is there
  target-within : (b : Block) → Has known.blocks b → (st : Step) (to : ℕ) → step_at p b.owner b.last ≡ Some st → leads st b.last to ≡ true → number b.owner to < length all
  target-within b has st to there goes =
      let begins = flow.onward b has st to there goes in
      subst (λ n. n < length all) (ap₂ number begins.owned begins.from) (number-within begins.block begins.has)

  -- there is a block for each part
  count : length (lowered p known homes).blocks ≡ length all
  count = length-map all block

  -- an exit leads to a block
  exit-within : (b : Block) → Has known.blocks b → (st : Step) → step_at p b.owner b.last ≡ Some st → leads_within (length (map block all)) (exit_for p known.home number entry b.owner st) ≡ true
  exit-within b has (If rel a c to) there =
      lt-ltb (number b.owner to) (length (map block all)) (omega (arith, count, target-within b has (If rel a c to) to there (or_left (to == to) _ (eq-eqb to to refl))))
  exit-within b has (Goto to) there =
      lt-ltb (number b.owner to) (length (map block all)) (omega (arith, count, target-within b has (Goto to) to there (eq-eqb to to refl)))
  exit-within b has (Invoke d callee args) there =
      let of_call = called p sound b.owner b.last callee d args there in
      let e = entry-block p known homes sound flow answers callee (slice_get_within p.procs callee of_call.proc of_call.is) (rw (ne_eqb callee p.main of_call.other) refl) in
      lt-ltb (entry callee) (length (map block all)) (slice_get_within (map block all) (entry callee) e.code e.there)
  exit-within b has (Return s) there = by (b.owner == p.main) where
    by : (t : Bool) → leads_within (length (map block all)) (if t then exit.Halt else exit.Back (back_slot p b.owner)) ≡ true
    by true = refl
    by false = refl
  exit-within b has End there = by (b.owner == p.main) where
    by : (t : Bool) → leads_within (length (map block all)) (if t then exit.Halt else exit.Back (back_slot p b.owner)) ≡ true
    by true = refl
    by false = refl
  exit-within b has Halt there = refl
  exit-within b has (Copy d s) there = refl
  exit-within b has (Apply d op a c) there = refl
  exit-within b has (Load d a) there = refl
  exit-within b has (Take d) there = refl
  exit-within b has (Store a v) there = refl
  exit-within b has (Put v) there = refl
  exit-within b has (When rel a c d s) there = refl

  -- the exit of a block leads to a block
  leads-there : (x : Part) → IsPartOf p known.blocks x → leads_within (length (map block all)) (block x).exit ≡ true
  leads-there (Entry owner) is = refl
  leads-there (Returned b d callee) is = refl
  leads-there (Steps b) is =
      let last = flow.last b is in
      ap (λ o. leads_within (length (map block all)) (option_map_or (exit_for p known.home number entry b.owner) o exit.Halt)) last.there ∙ exit-within b is last.st last.there

  -- ---- blocks are short

  -- a step becomes at most 8 steps
  args-few : (b : Block) (st : Step) → step_at p b.owner b.last ≡ Some st → length (steps_for p known.home b.owner st) ≤ 8
  args-few b (Invoke d callee args) there =
      let of_call = called p sound b.owner b.last callee d args there in
      let most = (all_one (IsProc p) p.procs callee of_call.proc sound.procs of_call.is).params in
      omega (arith, of_call.count, most, pass-length 0 args) where
        pass-length : (x : ℕ) (args : List Src) → length (Layout.passes p known.home b.owner callee x args) ≡ length args
        pass-length x [] = refl
        pass-length x (s ∷ args) = ap suc (pass-length (x + 1) args)
  args-few b (Return (Some s)) there = by (b.owner == p.main) where
    by : (t : Bool) → length (if t then [] else rstep.Copy (Frame (value_slot p b.owner)) (Layout.source p known.home b.owner s) ∷ []) ≤ 8
    by true = omega arith
    by false = omega arith
  args-few b (Return None) there = by (b.owner == p.main) where
    by : (t : Bool) → length (if t then [] else rstep.Copy (Frame (value_slot p b.owner)) (rsrc.Word 0) ∷ []) ≤ 8
    by true = omega arith
    by false = omega arith
  args-few b End there = by (b.owner == p.main) where
    by : (t : Bool) → length (if t then [] else rstep.Copy (Frame (value_slot p b.owner)) (rsrc.Word 0) ∷ []) ≤ 8
    by true = omega arith
    by false = omega arith
  args-few b (If rel a c to) there = omega arith
  args-few b (Goto to) there = omega arith
  args-few b Halt there = omega arith
  args-few b (Copy d s) there = omega arith
  args-few b (Apply d op a c) there = omega arith
  args-few b (Load d a) there = omega arith
  args-few b (Take d) there = omega arith
  args-few b (Store a v) there = omega arith
  args-few b (Put v) there = omega arith
  args-few b (When rel a c d s) there = omega arith

  -- a procedure has at most the program's steps
  proc-steps : (owner : ℕ) → steps_of_proc p known homes sound flow answers owner ≤ step_count p
  proc-steps owner = by (slice_get p.procs owner) refl where
    by : (t : Option Proc) → slice_get p.procs owner ≡ t → option_map_or (λ q. length q.steps) t 0 ≤ step_count p
    by None is = omega arith
    by (Some q) is = one-of-sum (λ q. length q.steps) p.procs owner q is

  -- a block of steps is short
  block-length : (b : Block) → Has known.blocks b → length (code_from p known.home b.owner b.first (b.last + 1 - b.first)) ≤ 2 ^ 18
  block-length b has =
      let last = flow.last b has in
      let n = b.last - b.first in
      let rises = flow.rises b has in
      let e : b.last + 1 - b.first ≡ suc n = omega (arith, rises) in
      let l : b.first + n ≡ b.last = omega (arith, rises) in
      let plain = plain-length p known.home b.owner b.first n (λ i lo hi. flow.plain b has i lo (omega (arith, hi, l))) in
      let args = args-few b last.st last.there in
      let nil = ap length (append-nil (steps_for p known.home b.owner last.st)) in
      let cut = length-append (code_from p known.home b.owner b.first n) (steps_for p known.home b.owner last.st ++ []) in
      let code = ap length (code_from-more p known.home b.owner b.first n last.st (ap (step_at p b.owner) l ∙ last.there)) in
      let same = ap (λ k. length (code_from p known.home b.owner b.first k)) e in
      let below = span-below p known homes sound flow answers b.owner b (span-in p known homes sound flow answers b has) in
      omega (arith, plain, args, nil, cut, code, same, below, proc-steps b.owner, sound.lines)

  -- an entry block is short
  entry-length : (owner : ℕ) → owner < length p.procs → length (keeps_ra p known.home owner ++ sets_from p known.home (known.first owner) owner 0 (vars_of p owner)) ≤ 2 ^ 18
  entry-length owner lt =
      let q = proc-below p owner lt in
      let most = (all_one (IsProc p) p.procs owner q.proc sound.procs q.is).vars in
      let is = vars-are p owner q.proc q.is in
      let cut = length-append (keeps_ra p known.home owner) (sets_from p known.home (known.first owner) owner 0 (vars_of p owner)) in
      let one = ra (owner == p.main) in
      let all_sets = sets-length 0 (vars_of p owner) in
      omega (arith, most, is, cut, one, all_sets) where
        ra : (b : Bool) → length (if b then [] else rstep.SaveRa (back_slot p owner) ∷ []) ≤ 1
        ra true = omega arith
        ra false = omega arith

        sets-length : (x n : ℕ) → length (sets_from p known.home (known.first owner) owner x n) ≤ n
        sets-length x zero = omega arith
        sets-length x (suc n) =
            let rest = sets-length (x + 1) n in
            let one = by (known.first owner x) (nat_lt x (params_of p owner) && is_none (known.home owner x)) in
            let cut = length-append (if known.first owner x then Layout.sets p known.home owner x else []) (sets_from p known.home (known.first owner) owner (x + 1) n) in
            omega (arith, rest, one, cut) where
              by : (b c : Bool) → length (if b then (if c then [] else rstep.Copy (place p known.home owner x) (Layout.first_value p known.home owner x) ∷ []) else []) ≤ 1
              by true true = omega arith
              by true false = omega arith
              by false c = omega arith

  -- a block is short
  short : (x : Part) → IsPartOf p known.blocks x → nat_le (length (block x).steps) (2 ^ 18) ≡ true
  short (Entry owner) is = le-leb _ (2 ^ 18) (entry-length owner is)
  short (Steps b) is = le-leb _ (2 ^ 18) (block-length b is)
  short (Returned b d callee) is = refl

  -- ---- all of it

  -- the code is closed
  pub is-closed : (u : Units) → ((memory input : List ℕ) (n : ℕ) → (rrun u (lowered p known homes) memory input n).sound ≡ true)
      → IsClosed u (lowered p known homes) homes frame_words
  is-closed u meaning =
      let q = proc-below p p.main main_below in
      let begins = flow.entry p.main q.proc q.is in
      let first = number-within begins.block begins.has in
      let most = few-blocks p known homes sound flow answers in
      let big : 2 ^ 24 ≡ 16777216 = refl in
      record {
        blocks = all-mapped (is_closed_block homes frame_words (length (map block all))) block all (λ x is.
            let part = parts-are p known homes sound flow answers x is in
            and_from (block_passes (is_place homes frame_words) (λ s. nat_lt s frame_words) (block x)) _ (passes-there x part)
            (and_from (list_all (λ k. nat_lt k homes) (block x).live_out) _ (live-there x part)
            (and_from (leads_within (length (map block all)) (block x).exit) _ (leads-there x part) (short x part))));
        some = omega (arith, count, first);
        few = omega (arith, count, most, sound.lines, big);
        last = last-closed p known homes frame_words sound flow answers need;
        apart = set-apart p known homes frame_words sound flow answers need;
        meaning = meaning;
      }
