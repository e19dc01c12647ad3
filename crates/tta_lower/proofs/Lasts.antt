-- The last block of register code leads to no next one, and slots for return addresses are set apart.
use Rattle.std.proofs.Common.{◌≡◌, ◌≢◌, ◌<◌, ◌≤◌, ◌+◌, ◌-◌, ◌==◌, ◌&&◌, not, ◌++◌, ◌∷◌, [], ℕ, Bool, List, Option, Some, None, true, false, length, map, filter, slice_get, is_some, option_map, refl, sym, ap, ◌∙◌, subst, arith, ◌⊎◌, inl, inr, append-nil, length-append, append_assoc}
use Rattle.std.specs.Prelude.{if◌then◌else◌}
use Rattle.std.specs.Option.{option_map_or}
use Rattle.std.specs.List.{flat_map, list_all, list_any}
use Rattle.std.proofs.lemmas.Bool.{eq-eqb, ne_eqb, eqb-true, and_from, and_parts, false≢true, or_right, or_cases, not-true}
use Rattle.std.proofs.lemmas.List.{length-map}
use Rattle.std.proofs.lemmas.List.Concat.{flat_map-append}
use Rattle.std.proofs.lemmas.Option.{slice_get-map, slice_get_within}
use Rattle.tta_list.proofs.Lists.{slice_get-back, some_within}
use Rattle.tta_lower.specs.Cited.{Step, Load, Take, Store, When, End, Proc, Program, IsProgram, step_at, RBlock, frame_need, block_passes, is_not_slot, wants_next}
use Rattle.tta_program.specs.declared.step.Step.TheVariants.{Copy, Apply, Put, If, Goto, Invoke, Return, Halt}
use Rattle.tta_lir.specs.declared.code.Exit.TheVariants as exit
use Rattle.tta_lower.specs.Liveness.{LoweringInput, Block, Has, IsFlow, leads}
use Rattle.tta_lower.specs.Layout.{vars_of, own, base, var_slot, value_slot, back_slot, size, place, place_by, exit_for}
use Rattle.tta_lower.specs.Lower.{numbers, code_order, spans_of, Part, Steps, return_after, span_parts, entry_parts, proc_parts, parts, number_of, entry_number, block_of, EndsBefore, InOrder, Answers}
use Rattle.tta_lower.proofs.Slots.{one-frame}
use Rattle.tta_lower.proofs.Frames.{other-own}
use Rattle.tta_lower.proofs.Lists.{In, in-has, in-filter, filter-in, has-in, in-numbers, in-any, numbers-below}
use Rattle.tta_lower.proofs.Shutting.{all-pass, in-append, main-in, order-below}

-- a list that is not empty has a last value
last-of : {A : Type 0} (x : A) (xs : List A) → (prefix : List A) × (last : A) × (x ∷ xs ≡ prefix ++ last ∷ [])
last-of x [] = ([], x, refl)
last-of x (y ∷ ys) =
    let rest = last-of y ys in
    (x ∷ rest.0, rest.1, ap (λ l. x ∷ l) rest.2)

-- a block ends before a later one begins
numbers-order : (prefix : List Block) (c d : Block) → InOrder (prefix ++ c ∷ []) → In d prefix → d.last < c.first
numbers-order [] c d order is = absurd is
numbers-order (b ∷ prefix) c d order (inl e) = subst (λ x. x.last < c.first) (sym e) (ends prefix order.0) where
  ends : (prefix : List Block) → EndsBefore b (prefix ++ c ∷ []) → b.last < c.first
  ends [] h = h.0
  ends (a ∷ prefix) h = ends prefix h.1
numbers-order (b ∷ prefix) c d order (inr more) = numbers-order prefix c d order.1 more

module _ (p : Program) (known : LoweringInput) (homes frame_words : ℕ)
    (sound : IsProgram p) (flow : IsFlow p known.blocks) (answers : Answers p known homes) (need : frame_need p ≤ frame_words) where
  abbrev all : List Part
  all = parts p known.blocks known.first

  -- the block of a part
  abbrev block : Part → RBlock
  block = block_of p known homes

  -- the number of the block that holds a step
  abbrev number : ℕ → ℕ → ℕ
  number = number_of p known.blocks known.first

  -- the number of an entry block
  abbrev entry : ℕ → ℕ
  entry = entry_number p known.blocks known.first

  -- main is there
  main_below : p.main < length p.procs
  main_below = main-in p known homes sound flow answers

  -- a procedure that is there
  record ProcOf (owner : ℕ) : Type 0 where
    proc : Proc
    is : slice_get p.procs owner ≡ Some proc

  -- a procedure below their number
  proc-below : (owner : ℕ) → owner < length p.procs → ProcOf owner
  proc-below owner lt = by (slice_get p.procs owner) refl where
    by : (t : Option Proc) → slice_get p.procs owner ≡ t → ProcOf owner
    by None is = absurd (false≢true (sym (ap is_some is) ∙ some_within p.procs owner lt))
    by (Some q) is = record { proc = q; is = is }

  -- a procedure that has a variable
  proc-by-var : (owner x : ℕ) → x < vars_of p owner → ProcOf owner
  proc-by-var owner x lt = by (slice_get p.procs owner) refl where
    none : slice_get p.procs owner ≡ None → vars_of p owner ≡ 0
    none is = rw is refl

    by : (t : Option Proc) → slice_get p.procs owner ≡ t → ProcOf owner
    by None is = absurd (omega (arith, lt, none is))
    by (Some q) is = record { proc = q; is = is }

  -- ---- the last block

  -- a last step of a procedure's last block leads to no next one
  ends-so : (b : Block) → Has known.blocks b → (st : Step) → step_at p b.owner b.last ≡ Some st → (leads st b.last (b.last + 1) ≡ true → ⊥)
      → (return_after b (Some st) ≡ []) × (wants_next (exit_for p known.home number entry b.owner st) ≡ false)
  ends-so b has (If rel a c to) there no_more = absurd (no_more (or_right (to == b.last + 1) _ (eq-eqb (b.last + 1) (b.last + 1) refl)))
  ends-so b has (Invoke d callee args) there no_more = absurd (no_more (eq-eqb (b.last + 1) (b.last + 1) refl))
  ends-so b has (Copy d s) there no_more = absurd (no_more (eq-eqb (b.last + 1) (b.last + 1) refl))
  ends-so b has (Apply d op a c) there no_more = absurd (no_more (eq-eqb (b.last + 1) (b.last + 1) refl))
  ends-so b has (Load d a) there no_more = absurd (no_more (eq-eqb (b.last + 1) (b.last + 1) refl))
  ends-so b has (Take d) there no_more = absurd (no_more (eq-eqb (b.last + 1) (b.last + 1) refl))
  ends-so b has (Store a v) there no_more = absurd (no_more (eq-eqb (b.last + 1) (b.last + 1) refl))
  ends-so b has (Put v) there no_more = absurd (no_more (eq-eqb (b.last + 1) (b.last + 1) refl))
  ends-so b has (When rel a c d s) there no_more = absurd (no_more (eq-eqb (b.last + 1) (b.last + 1) refl))
  ends-so b has (Goto to) there no_more = (refl, refl)
  ends-so b has Halt there no_more = (refl, refl)
  ends-so b has (Return s) there no_more = (refl, by (b.owner == p.main)) where
    by : (t : Bool) → wants_next (if t then exit.Halt else exit.Back (back_slot p b.owner)) ≡ false
    by true = refl
    by false = refl
  ends-so b has End there no_more = (refl, by (b.owner == p.main)) where
    by : (t : Bool) → wants_next (if t then exit.Halt else exit.Back (back_slot p b.owner)) ≡ false
    by true = refl
    by false = refl

  -- the last block of a procedure leads to no next one
  last-span : (owner : ℕ) (prefix : List Block) (c : Block) → spans_of known.blocks owner ≡ prefix ++ c ∷ [] → Has known.blocks c → c.owner ≡ owner → (st : Step)
      → step_at p c.owner c.last ≡ Some st → leads st c.last (c.last + 1) ≡ true → ⊥
  last-span owner prefix c split has owned st there goes =
      let begins = flow.onward c has st (c.last + 1) there goes in
      let d = begins.block in
      let d_owner : (d.owner == owner) ≡ true = eq-eqb d.owner owner (begins.owned ∙ owned) in
      let inside : In d (prefix ++ c ∷ []) = subst (λ l. In d l) split (in-filter (λ b. b.owner == owner) known.blocks d (has-in known.blocks (begins.has).0 d (begins.has).1) d_owner) in
      let order = subst InOrder split (answers.order owner) in
      by d begins.from (flow.rises d begins.has) (in-append prefix (c ∷ []) d inside) order where
        by : (d : Block) → d.first ≡ c.last + 1 → d.first ≤ d.last → In d prefix ⊎ In d (c ∷ []) → InOrder (prefix ++ c ∷ []) → ⊥
        by d first rises (inl e) order = absurd (omega (arith, numbers-order prefix c d order e, first, rises, flow.rises c has))
        by d first rises (inr (inl e)) order =
            let same : d.first ≡ c.first = ap (λ x. x.first) e in
            absurd (omega (arith, same, first, flow.rises c has))
        by d first rises (inr (inr none)) order = none

  -- the last part of all
  record LastPart : Type 0 where
    prefix : List Part
    part : Part
    split : all ≡ prefix ++ part ∷ []
    done : wants_next (block part).exit ≡ false

  -- the last part
  last-part : LastPart
  last-part =
      let os = last-of p.main (filter (λ o. not (o == p.main)) (numbers 0 (length p.procs))) in
      let owner = os.1 in
      let in_order : In owner (code_order p) = subst (λ l. In owner l) (sym os.2) (in-end os.0 owner) in
      of-owner os.0 owner os.2 (order-below p known homes sound flow answers owner in_order) where
        in-end : {A : Type 0} (prefix : List A) (x : A) → In x (prefix ++ x ∷ [])
        in-end [] x = inl refl
        in-end (y ∷ prefix) x = inr (in-end prefix x)

        of-span : (procs : List ℕ) (owner : ℕ) → code_order p ≡ procs ++ owner ∷ [] → (prefix : List Block) (c : Block) → spans_of known.blocks owner ≡ prefix ++ c ∷ [] → LastPart
        of-span procs owner order prefix c split =
            let both = filter-in (λ b. b.owner == owner) known.blocks c (subst (λ l. In c l) (sym split) (in-end prefix c)) in
            let has = in-has known.blocks c both.0 in
            let owned = eqb-true c.owner owner both.1 in
            let last = flow.last c has in
            let ended = ends-so c has last.st last.there (last-span owner prefix c split has owned last.st last.there) in
            let one : span_parts p c ≡ Steps c ∷ [] = ap (λ o. Steps c ∷ return_after c o) last.there ∙ ap (λ l. Steps c ∷ l) ended.0 in
            let spans : flat_map (span_parts p) (spans_of known.blocks owner) ≡ flat_map (span_parts p) prefix ++ Steps c ∷ [] =
            ap (flat_map (span_parts p)) split ∙ flat_map-append (span_parts p) prefix (c ∷ [])
            ∙ ap (λ l. flat_map (span_parts p) prefix ++ l) (append-nil (span_parts p c) ∙ one) in
            let procs_all : all ≡ flat_map (proc_parts p known.blocks known.first) procs ++ (entry_parts p known.blocks known.first owner ++ (flat_map (span_parts p) prefix ++ Steps c ∷ [])) =
            ap (flat_map (proc_parts p known.blocks known.first)) order ∙ flat_map-append (proc_parts p known.blocks known.first) procs (owner ∷ [])
            ∙ ap (λ l. flat_map (proc_parts p known.blocks known.first) procs ++ l) (append-nil (proc_parts p known.blocks known.first owner) ∙ ap (λ l. entry_parts p known.blocks known.first owner ++ l) spans) in
            record {
              prefix = flat_map (proc_parts p known.blocks known.first) procs ++ (entry_parts p known.blocks known.first owner ++ flat_map (span_parts p) prefix);
              part = Steps c;
              split = procs_all
                  ∙ ap (λ l. flat_map (proc_parts p known.blocks known.first) procs ++ l) (sym (append_assoc (entry_parts p known.blocks known.first owner) (flat_map (span_parts p) prefix) (Steps c ∷ [])))
                  ∙ sym (append_assoc (flat_map (proc_parts p known.blocks known.first) procs) (entry_parts p known.blocks known.first owner ++ flat_map (span_parts p) prefix) (Steps c ∷ []));
              done = ap (λ o. wants_next (option_map_or (exit_for p known.home number entry c.owner) o exit.Halt)) last.there ∙ ended.1;
            }

        of-owner : (procs : List ℕ) (owner : ℕ) → code_order p ≡ procs ++ owner ∷ [] → owner < length p.procs → LastPart
        of-owner procs owner order lt =
            let q = proc-below owner lt in
            let begins = flow.entry owner q.proc q.is in
            let first = in-filter (λ b. b.owner == owner) known.blocks begins.block (has-in known.blocks (begins.has).0 begins.block (begins.has).1) (eq-eqb (begins.block).owner owner begins.owned) in
            some-spans begins.block (spans_of known.blocks owner) refl first where
              some-spans : (x : Block) (l : List Block) → spans_of known.blocks owner ≡ l → In x l → LastPart
              some-spans x [] is none = absurd none
              some-spans x (b ∷ bs) is here =
                  let cut = last-of b bs in
                  of-span procs owner order cut.0 cut.1 (is ∙ cut.2)

  -- the last block leads to no next one
  pub last-closed : option_map_or (λ b. wants_next b.exit) (slice_get (map block all) (length (map block all) - 1)) true ≡ false
  last-closed =
      let l = last-part in
      let size : length all ≡ length l.prefix + 1 = ap length l.split ∙ length-append l.prefix (l.part ∷ []) in
      let at : length (map block all) - 1 ≡ length l.prefix + 0 = omega (arith, length-map all block, size) in
      let there : slice_get all (length l.prefix + 0) ≡ Some l.part = ap (λ x. slice_get x (length l.prefix + 0)) l.split ∙ slice_get-back l.prefix (l.part ∷ []) 0 in
      ap (λ k. option_map_or (λ b. wants_next b.exit) (slice_get (map block all) k) true) at
      ∙ ap (λ o. option_map_or (λ b. wants_next b.exit) o true) (slice_get-map block all (length l.prefix + 0) ∙ ap (option_map block) there)
      ∙ l.done

  -- ---- slots for return addresses are set apart

  -- a slot is that of a procedure's return address
  abbrev is_back : ℕ → ℕ → Bool
  is_back s o = not (o == p.main) && back_slot p o == s

  -- then no place is that slot
  module _ (o : ℕ) (lt : o < length p.procs) (ne : o ≢ p.main) where
    other-slot : (owner k : ℕ) → owner < length p.procs → k < size p owner → (owner ≡ o → 0 < k) → base p owner + k ≢ back_slot p o
    other-slot owner k below few past e =
        let q = proc-below owner below in
        let t = proc-below o lt in
        let two = other-own p o ne in
        let same = one-frame p owner o (base p owner + k) q.proc t.proc q.is t.is (omega arith, omega (arith, few)) (omega (arith, e), omega (arith, e, two)) in
        let bases = ap (base p) same in
        omega (arith, e, bases, past same)

    not-var : (owner x : ℕ) → x < vars_of p owner → var_slot p owner x ≢ back_slot p o
    not-var owner x few e =
        let q = proc-by-var owner x few in
        other-slot owner (own p owner + x) (slice_get_within p.procs owner q.proc q.is) (omega (arith, few)) (λ same. omega (arith, ap (own p) same, other-own p o ne)) (omega arith ∙ e)

    not-value : (owner : ℕ) → owner < length p.procs → owner ≢ p.main → value_slot p owner ≢ back_slot p o
    not-value owner below other e = other-slot owner 1 below (omega (arith, other-own p owner other)) (λ same. omega arith) e

    differs : (f s : ℕ) → f ≢ s → not (f == s) ≡ true
    differs f s other = rw (ne_eqb f s other) refl

    no-place : (owner x : ℕ) → x < vars_of p owner → is_not_slot (back_slot p o) (place p known.home owner x) ≡ true
    no-place owner x few = by (known.home owner x) where
      by : (h : Option ℕ) → is_not_slot (back_slot p o) (place_by p known.home owner x h) ≡ true
      by (Some k) = refl
      by None = differs (var_slot p owner x) (back_slot p o) (not-var owner x few)

    pub none-names : list_all (block_passes (is_not_slot (back_slot p o)) (λ t. true)) (map block all) ≡ true
    none-names = all-pass p known homes sound flow answers (is_not_slot (back_slot p o)) (λ t. true)
        no-place (λ owner x few. differs (var_slot p owner x) (back_slot p o) (not-var owner x few))
        (λ owner below other. differs (value_slot p owner) (back_slot p o) (not-value owner below other)) (λ owner below other. refl)

  -- a number that passes
  record AnyOf (t : ℕ → Bool) (xs : List ℕ) : Type 0 where
    found : ℕ
    is : In found xs
    passes : t found ≡ true

  -- one of some numbers passes
  any-of : (t : ℕ → Bool) (xs : List ℕ) → list_any t xs ≡ true → AnyOf t xs
  any-of t [] any = cc
  any-of t (x ∷ xs) any = by (or_cases (t x) (list_any t xs) any) (any-of t xs) where
    by : (t x ≡ true) ⊎ (list_any t xs ≡ true) → (list_any t xs ≡ true → AnyOf t xs) → AnyOf t (x ∷ xs)
    by (inl e) more = record { found = x; is = inl refl; passes = e }
    by (inr any) more = record { found = (more any).found; is = inr (more any).is; passes = (more any).passes }

  -- a slot that keeps a return address is no place
  pub set-apart : (s : ℕ) → list_all (block_passes (is_not_slot s) (λ t. true)) (map block all) ≡ false → list_all (block_passes (λ q. true) (λ t. not (t == s))) (map block all) ≡ true
  set-apart s named = by (list_any (is_back s) (numbers 0 (length p.procs))) refl where
    by : (b : Bool) → list_any (is_back s) (numbers 0 (length p.procs)) ≡ b → list_all (block_passes (λ q. true) (λ t. not (t == s))) (map block all) ≡ true
    by true any =
        let a = any-of (is_back s) (numbers 0 (length p.procs)) any in
        let parts = and_parts (not (a.found == p.main)) (back_slot p a.found == s) a.passes in
        let other : a.found ≢ p.main = λ e. false≢true (sym (not-true (a.found == p.main) parts.0) ∙ eq-eqb a.found p.main e) in
        let names = none-names a.found (omega (arith, numbers-below 0 (length p.procs) a.found a.is)) other in
        absurd (false≢true (sym named ∙ subst (λ n. list_all (block_passes (is_not_slot n) (λ t. true)) (map block all) ≡ true) (eqb-true (back_slot p a.found) s parts.1) names))
    by false none =
        all-pass p known homes sound flow answers (λ q. true) (λ t. not (t == s))
        (λ owner x few. refl) (λ owner x few. refl) (λ owner lt other. refl)
        (λ owner lt other. rw (ne_eqb (back_slot p owner) s (λ e. false≢true (sym none ∙ in-any (is_back s) (numbers 0 (length p.procs)) owner (in-numbers 0 (length p.procs) owner (omega arith) (omega (arith, lt)))
        (and_from (not (owner == p.main)) (back_slot p owner == s) (rw (ne_eqb owner p.main other) refl) (eq-eqb (back_slot p owner) s e))))) refl)
