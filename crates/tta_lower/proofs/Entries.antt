-- The entry block of a procedure, and the block after a call.
use Rattle.std.proofs.Common.{◌≡◌, ◌≢◌, ◌<◌, ◌+◌, ◌==◌, ◌++◌, ◌∷◌, [], ℕ, List, Option, Some, None, true, false, drop, slice_get, slice_index, nat_lt, refl, sym, ap, ◌∙◌, subst, ap₂, arith, inl, inr, append-nil}
use Rattle.std.specs.Option.{option_map_or}
use Rattle.std.specs.List.{list_all}
use Rattle.std.proofs.lemmas.Bool.{eq-eqb, ne_eqb, and_parts, cases_eq, ltb-true}
use Rattle.std.proofs.lemmas.Option.{none-some}
use Rattle.tta_lower.specs.Cited.{Units, Proc, Program, IsProgram, is_src, Running, step_at, enter, next, RStep, RBlock, Rir, Kept, Plain, put_reg, put_slot, found, plain, word, steps_of, walk, stay, leg, Place}
use Rattle.tta_program.specs.declared.step.Step.TheVariants.{Invoke}
use Rattle.tta_program.specs.Rules as rules
use Rattle.tta_program.specs.Sequential as program
use Rattle.tta_program.specs.Sequential.{Frame, returns}
use Rattle.tta_lir.specs.declared.code.Place.TheVariants as places
use Rattle.tta_lir.specs.declared.code.RSrc.TheVariants as rsrc
use Rattle.tta_lir.specs.declared.code.RStep.TheVariants as rstep
use Rattle.tta_lir.specs.declared.code.Exit.TheVariants as exit
use Rattle.tta_lir.specs.Meaning as code
use Rattle.tta_lir.specs.Meaning.{State, Return as ReturnTo}
use Rattle.tta_lower.specs.Liveness.{LoweringInput, LiveBefore, LiveAfter, After, Reached, IsFlow, IsHomes}
use Rattle.tta_lower.specs.Layout.{vars_of, params_of, var_slot, value_slot, back_slot, place, place_by, keeps_ra, sets_from}
use Rattle.tta_lower.specs.Shape.{Counts, StartsAt, ReturnFor, IsLowered, is_call, is_kept}
use Rattle.tta_lower.specs.Relation.{running, going, HeldBefore, KeepsBack, HasBack, Callers, next_block, AtBlock, AtEntry, AtReturn, Stands, BlockNext, EntryNext, ReturnNext, Untouched}
use Rattle.tta_lower.proofs.Lookups.{word-same, found-same, found-other, found-stay}
use Rattle.tta_lower.proofs.Steps.{step_of}
use Rattle.tta_lower.proofs.Callers.{outside, callers-stay, live-below, vars-are}
use Rattle.tta_lower.proofs.Exits.{fall}
use Rattle.tta_lower.proofs.Passing.{copy-place}
use Rattle.tta_lower.proofs.Frames.{frame-by-vars, other-own, not-main, back-own, enter-length, enter-zero}
use Rattle.tta_lower.specs.Shape
use Rattle.std.proofs.lemmas.Bool.{eqb-true}
use Rattle.tta_lower.proofs.Walks.{Walked, walked-after, walked-code}
use Rattle.tta_lower.proofs.Blocks.{walk-from}
use Rattle.tta_lower.proofs.SettingUp.{set-up}
use Rattle.tta_list.proofs.Lists.{drop-there}
use Rattle.tta_list.proofs.Tests.{some_same}

-- the return address is kept in a slot
save-ra : (u : Units) (at : ℕ) (regs : List (ℕ × ℕ)) (frame : List (ℕ × Kept)) (ra : Option ℕ) (memory input output : List ℕ) (slot to : ℕ) → ra ≡ Some to
    → code.step u (going at regs frame ra memory input output Running) (rstep.SaveRa slot) ≡ going at regs ((slot, ReturnTo to) ∷ frame) ra memory input output Running
unfolding code.step
save-ra u at regs frame ra memory input output slot to is = rw is refl

module _ (u : Units) (p : Program) (known : LoweringInput) (r : Rir) (number : ℕ → ℕ → ℕ) (entry : ℕ → ℕ) (before : Counts)
    (flow : IsFlow p known.blocks) (homes : IsHomes p known.home) (sound : IsProgram p) (lowered : IsLowered p known r number entry before) where
  abbrev Goes : program.State → State → ℕ → Type 0
  Goes s t low = Walked u p known r number entry before s t low

  -- what stands at a place begins the walk
  walk-there : (at : ℕ) (c : RBlock) (t : State) → slice_get r.blocks at ≡ Some c → walk u (drop at r.blocks) t ≡ walk u (c ∷ drop (at + 1) r.blocks) t
  walk-there at c t is = ap (λ l. walk u l t) (drop-there r.blocks at c is)

  -- a block of the code that falls through leads to a block of the program, where the program makes no step
  falls-to : (f : Frame) (rest : List Frame) (at : ℕ) (c : RBlock) (regs regs_new : List (ℕ × ℕ)) (frame frame_new : List (ℕ × Kept)) (ra : Option ℕ) (k : ℕ) (memory input output : List ℕ)
      → slice_get r.blocks at ≡ Some c → c.exit ≡ exit.Next
      → steps_of u c.steps (going at regs frame ra memory input output Running) ≡ going at regs_new frame_new ra memory input output Running
      → AtBlock p known r number entry before f rest (at + 1) (stay c.live_out regs_new) frame_new
      → Goes (running k (f ∷ rest) memory input output Running) (walk u (drop at r.blocks) (going at regs frame ra memory input output Running)) (before at)
  falls-to f rest at c regs regs_new frame frame_new ra k memory input output is next steps stands =
      walked-code u p known r number entry before _ _ _ (before at)
      (walk-there at c _ is ∙ fall u c (drop (at + 1) r.blocks) at regs_new frame_new ra memory input output (going at regs frame ra memory input output Running) steps next)
      (walked-after u p known r number entry before 0 _ (running k (f ∷ rest) memory input output Running) _ (before at) (before (at + 1)) refl (omega (arith, lowered.rising at))
      (walk-from u p known r number entry before flow homes sound lowered (drop (at + 1) r.blocks) f rest (at + 1) (stay c.live_out regs_new) frame_new ra k memory input output stands refl))

  -- ---- the block after a call

  module _ (f : Frame) (rest : List Frame) (at : ℕ) (regs : List (ℕ × ℕ)) (frame : List (ℕ × Kept)) (ra : Option ℕ) (k : ℕ) (memory input output : List ℕ)
      (a : AtReturn p known r number entry before f rest at frame) where
    the_call : step_at p (a.block).owner (a.block).last ≡ Some (Invoke (Some a.d) a.callee a.args)
    the_call = ap (λ o. step_at p o (a.block).last) a.owned ∙ a.call

    ret : ReturnFor p known r number entry before a.block a.d a.callee
    ret = lowered.returns a.block a.has a.d a.callee a.args the_call

    w : ℕ
    w = slice_index f.vars a.d

    d : Place
    d = place p known.home f.proc a.d

    reached-here : Reached p f.proc (a.block).last
    reached-here = subst (λ o. Reached p o (a.block).last) a.owned (flow.reached a.block a.has (a.block).last (flow.rises a.block a.has) (omega arith))

    d-below : a.d < vars_of p f.proc
    d-below =
        let of_step = step_of p sound f.proc (a.block).last (Invoke (Some a.d) a.callee a.args) a.call in
        let q = of_step.proc in
        let vars_are = vars-are p f.proc q of_step.is in
        let test : nat_lt a.d q.vars ≡ true = (and_parts (nat_lt a.d q.vars) (list_all (is_src q.vars) a.args) (and_parts _ (rules.is_call p a.callee a.args) of_step.rules).0).0 in
        omega (arith, vars_are, ltb-true a.d q.vars test)

    return-steps : steps_of u (ret.code).steps (going at regs frame ra memory input output Running)
        ≡ going at (put_reg (place p known.home f.proc a.d) (slice_index f.vars a.d) regs) (put_slot (place p known.home f.proc a.d) (slice_index f.vars a.d) frame) ra memory input output Running
    return-steps =
        let all : (ret.code).steps ≡ rstep.Copy (place p known.home f.proc a.d) (rsrc.At (places.Frame (value_slot p a.callee))) ∷ [] =
        ret.steps ∙ ap (λ o. rstep.Copy (place p known.home o a.d) (rsrc.At (places.Frame (value_slot p a.callee))) ∷ []) a.owned in
        ap (λ l. steps_of u l (going at regs frame ra memory input output Running)) all
        ∙ rw (copy-place u at regs frame ra memory input output (place p known.home f.proc a.d) (rsrc.At (places.Frame (value_slot p a.callee))) (slice_index f.vars a.d) a.value) refl

    kept-here : (x j : ℕ) → LiveAfter p f.proc x (a.block).last → known.home f.proc x ≡ Some j → is_kept ret.code j ≡ true
    kept-here x j alive is =
        ret.kept x j (subst (λ o. LiveAfter p o x (a.block).last) (sym a.owned) alive) (ap (λ o. known.home o x) a.owned ∙ is)

    -- the destination, and every other variable that is live
    held-on : HeldBefore p known.home f (stay (ret.code).live_out (put_reg (place p known.home f.proc a.d) (slice_index f.vars a.d) regs)) (put_slot (place p known.home f.proc a.d) (slice_index f.vars a.d) frame) f.at
    held-on x alive = elim (cases_eq x a.d) as (λ c. word (stay (ret.code).live_out (put_reg (place p known.home f.proc a.d) (slice_index f.vars a.d) regs)) (put_slot (place p known.home f.proc a.d) (slice_index f.vars a.d) frame) (place p known.home f.proc x) ≡ Some (slice_index f.vars x)) [
      | inl e ↦
          stays (known.home f.proc x) refl
          ∙ ap (λ z. word (put_reg (place p known.home f.proc a.d) (slice_index f.vars a.d) regs) (put_slot (place p known.home f.proc a.d) (slice_index f.vars a.d) frame) (place p known.home f.proc z)) e
          ∙ word-same (place p known.home f.proc a.d) (slice_index f.vars a.d) regs frame ∙ ap (λ z. Some (slice_index f.vars z)) (sym e)
      | inr ne ↦ in-slot ne (known.home f.proc x) refl
    ] where
      after : LiveAfter p f.proc x (a.block).last
      after = After f.at (Invoke (Some a.d) a.callee a.args) a.call (rw (a.last) (eq-eqb f.at f.at refl)) alive

      stays : (o : Option ℕ) → known.home f.proc x ≡ o → word (stay (ret.code).live_out (put_reg (place p known.home f.proc a.d) (slice_index f.vars a.d) regs)) (put_slot (place p known.home f.proc a.d) (slice_index f.vars a.d) frame) (place_by p known.home f.proc x o)
          ≡ word (put_reg (place p known.home f.proc a.d) (slice_index f.vars a.d) regs) (put_slot (place p known.home f.proc a.d) (slice_index f.vars a.d) frame) (place_by p known.home f.proc x o)
      stays None is = refl
      stays (Some j) is = found-stay j (ret.code).live_out (put_reg (place p known.home f.proc a.d) (slice_index f.vars a.d) regs) (kept-here x j after is)

      in-slot : x ≢ a.d → (o : Option ℕ) → known.home f.proc x ≡ o → word (stay (ret.code).live_out (put_reg (place p known.home f.proc a.d) (slice_index f.vars a.d) regs)) (put_slot (place p known.home f.proc a.d) (slice_index f.vars a.d) frame) (place_by p known.home f.proc x o) ≡ Some (slice_index f.vars x)
      in-slot ne (Some j) is =
          absurd (none-some j (sym (homes.saved f.proc (a.block).last a.callee x (Some a.d) a.args reached-here a.call after (λ e. ne (some_same (sym e)))) ∙ is))
      in-slot ne None is = go (known.home f.proc a.d) ∙ a.saved x after (λ e. ne (some_same (sym e))) where
        go : (o : Option ℕ) → plain (found (var_slot p f.proc x) (put_slot (place_by p known.home f.proc a.d o) (slice_index f.vars a.d) frame)) ≡ plain (found (var_slot p f.proc x) frame)
        go (Some j) = refl
        go None = ap plain (found-other (var_slot p f.proc a.d) (var_slot p f.proc x) (Plain (slice_index f.vars a.d)) frame (λ e. ne (omega (arith, e))))

    return-untouched : Untouched p f.proc frame (put_slot (place p known.home f.proc a.d) (slice_index f.vars a.d) frame)
    return-untouched slot ne = go (known.home f.proc a.d) where
      go : (o : Option ℕ) → found slot (put_slot (place_by p known.home f.proc a.d o) (slice_index f.vars a.d) frame) ≡ found slot frame
      go (Some j) = refl
      go None = found-other (var_slot p f.proc a.d) slot (Plain (slice_index f.vars a.d)) frame (λ e. ne a.d d-below (sym e))

    pub return-walk : Goes (running k (f ∷ rest) memory input output Running) (walk u (drop at r.blocks) (going at regs frame ra memory input output Running)) (before at)
    return-walk =
        let of_step = step_of p sound f.proc (a.block).last (Invoke (Some a.d) a.callee a.args) a.call in
        let begins = flow.onward a.block a.has (Invoke (Some a.d) a.callee a.args) ((a.block).last + 1) the_call (eq-eqb ((a.block).last + 1) ((a.block).last + 1) refl) in
        let at_is : at ≡ number (a.block).owner (a.block).first + 1 = a.here ∙ ap (λ o. number o (a.block).first + 1) (sym a.owned) in
        let new_frame = put_slot (place p known.home f.proc a.d) (slice_index f.vars a.d) frame in
        falls-to f rest at ret.code regs (put_reg (place p known.home f.proc a.d) (slice_index f.vars a.d) regs) frame new_frame ra k memory input output
        (ap (slice_get r.blocks) at_is ∙ ret.there) ret.exit return-steps
        (record {
          block = begins.block;
          has = begins.has;
          owned = begins.owned ∙ a.owned;
          first = begins.from ∙ a.last;
          here = ap (λ n. n + 1) at_is ∙ omega arith ∙ sym ret.onward ∙ ap₂ number a.owned a.last;
          size = a.size;
          held = held-on;
          back = back-own p sound known.blocks number frame new_frame f.proc rest a.callers return-untouched a.back;
          callers = callers-stay p sound known.blocks number f.proc of_step.proc of_step.is frame new_frame (frame-by-vars p f.proc frame new_frame return-untouched)
              f.proc rest (outside p sound known.blocks number frame f.proc rest a.callers) a.callers;
        })

  -- ---- an entry block

  module _ (f : Frame) (rest : List Frame) (at : ℕ) (regs : List (ℕ × ℕ)) (frame : List (ℕ × Kept)) (ra : Option ℕ) (k : ℕ) (memory input output : List ℕ)
      (a : AtEntry p known r number entry before f rest at frame ra) where
    -- from a state in which the return address has been kept
    entry-from : (frame_kept : List (ℕ × Kept))
        → ((tail : List RStep) → steps_of u (keeps_ra p known.home f.proc ++ tail) (going at regs frame ra memory input output Running)
        ≡ steps_of u tail (going at regs frame_kept ra memory input output Running))
        → ((x : ℕ) → x < params_of p f.proc → plain (found (var_slot p f.proc x) frame_kept) ≡ Some (slice_index f.vars x))
        → KeepsBack p known.blocks number frame_kept f.proc rest → Callers p known.blocks number frame_kept f.proc rest
        → Goes (running k (f ∷ rest) memory input output Running) (walk u (drop at r.blocks) (going at regs frame ra memory input output Running)) (before at)
    entry-from frame_kept saved params kept callers =
        let c = (a.entry_block).code in
        let su = set-up u p known.home known.first homes f.proc (lowered.live_at_entry f.proc) at ra memory input output f.vars a.zeros
        (vars_of p f.proc) 0 regs frame_kept (omega arith) (λ y lt. absurd (omega (arith, lt))) params in
        let begins = flow.entry f.proc a.proc a.is in
        falls-to f rest at c regs su.regs_new frame su.frame_new ra k memory input output
        (ap (slice_get r.blocks) a.here ∙ (a.entry_block).there) (a.entry_block).exit
        (ap (λ l. steps_of u l (going at regs frame ra memory input output Running)) ((a.entry_block).steps)
        ∙ saved (sets_from p known.home (known.first f.proc) f.proc 0 (vars_of p f.proc))
        ∙ ap (λ l. steps_of u l (going at regs frame_kept ra memory input output Running)) (sym (append-nil (sets_from p known.home (known.first f.proc) f.proc 0 (vars_of p f.proc))))
        ∙ su.code [])
        (record {
          block = begins.block;
          has = begins.has;
          owned = begins.owned;
          first = begins.from ∙ sym a.first;
          here = ap (λ n. n + 1) a.here ∙ sym (a.entry_block).onward ∙ ap (number f.proc) (sym a.first);
          size = a.size;
          held = λ x alive.
              let first_alive = subst (λ i. LiveBefore p f.proc x i) a.first alive in
              stays c su.regs_new su.frame_new x (λ j is. (a.entry_block).kept x j first_alive is) (known.home f.proc x) refl
              ∙ su.below x (omega (arith, live-below p sound f.proc x 0 first_alive)) (lowered.all_live f.proc x first_alive);
          back = back-own p sound known.blocks number frame_kept su.frame_new f.proc rest callers su.untouched kept;
          callers = callers-stay p sound known.blocks number f.proc a.proc a.is frame_kept su.frame_new (frame-by-vars p f.proc frame_kept su.frame_new su.untouched)
              f.proc rest (outside p sound known.blocks number frame_kept f.proc rest callers) callers;
        }) where
          stays : (c : RBlock) (regs_new : List (ℕ × ℕ)) (frame_new : List (ℕ × Kept)) (x : ℕ) → ((j : ℕ) → known.home f.proc x ≡ Some j → is_kept c j ≡ true) → (o : Option ℕ) → known.home f.proc x ≡ o
              → word (stay c.live_out regs_new) frame_new (place_by p known.home f.proc x o) ≡ word regs_new frame_new (place_by p known.home f.proc x o)
          stays c regs_new frame_new x lasting None is = refl
          stays c regs_new frame_new x lasting (Some j) is = found-stay j c.live_out regs_new (lasting j is)

    -- main keeps no return address
    entry-main : rest ≡ [] → Goes (running k (f ∷ rest) memory input output Running) (walk u (drop at r.blocks) (going at regs frame ra memory input output Running)) (before at)
    entry-main none =
        let main : f.proc ≡ p.main = subst (λ l. Callers p known.blocks number frame f.proc l) none a.callers in
        entry-from frame (λ tail. rw (eq-eqb f.proc p.main main) refl) a.params
        (subst (λ l. KeepsBack p known.blocks number frame f.proc l) (sym none) tt) a.callers

    entry-called : (g : Frame) (more : List Frame) → rest ≡ g ∷ more
        → Goes (running k (f ∷ rest) memory input output Running) (walk u (drop at r.blocks) (going at regs frame ra memory input output Running)) (before at)
    entry-called g more some =
        let these : Callers p known.blocks number frame f.proc (g ∷ more) = subst (λ l. Callers p known.blocks number frame f.proc l) some a.callers in
        let other = not-main p sound known.blocks number frame f.proc g more these in
        let two = other-own p f.proc other in
        let address : ra ≡ Some (next_block p known.blocks number g) = subst (λ l. HasBack p known.blocks number ra l) some a.address in
        let slot = back_slot p f.proc in
        let frame_kept = (slot, ReturnTo (next_block p known.blocks number g)) ∷ frame in
        entry-from frame_kept
        (λ tail. rw (ne_eqb f.proc p.main other, save-ra u at regs frame ra memory input output slot (next_block p known.blocks number g) address) refl)
        (λ x lt. ap plain (found-other slot (var_slot p f.proc x) (ReturnTo (next_block p known.blocks number g)) frame (λ e. absurd (omega (arith, two, e)))) ∙ a.params x lt)
        (subst (λ l. KeepsBack p known.blocks number frame_kept f.proc l) (sym some) (found-same slot (ReturnTo (next_block p known.blocks number g)) frame))
        (callers-stay p sound known.blocks number f.proc a.proc a.is frame frame_kept
        (λ s notin. found-other slot s (ReturnTo (next_block p known.blocks number g)) frame (λ e. notin (omega (arith, e), omega (arith, two, e))))
        f.proc rest (outside p sound known.blocks number frame f.proc rest a.callers) a.callers)

    entry-by : (l : List Frame) → rest ≡ l → Goes (running k (f ∷ rest) memory input output Running) (walk u (drop at r.blocks) (going at regs frame ra memory input output Running)) (before at)
    entry-by [] is = entry-main is
    entry-by (g ∷ more) is = entry-called g more is

    pub entry-walk : Goes (running k (f ∷ rest) memory input output Running) (walk u (drop at r.blocks) (going at regs frame ra memory input output Running)) (before at)
    entry-walk = entry-by rest refl

  -- ---- a leg

  -- one leg from a state that stands
  pub one-leg : (f : Frame) (rest : List Frame) (at : ℕ) (regs : List (ℕ × ℕ)) (frame : List (ℕ × Kept)) (ra : Option ℕ) (k : ℕ) (memory input output : List ℕ)
      → Stands p known r number entry before f rest at regs frame ra
      → Goes (running k (f ∷ rest) memory input output Running) (leg u r (going at regs frame ra memory input output Running)) (before at)
  unfolding leg
  one-leg f rest at regs frame ra k memory input output (BlockNext a) =
      walk-from u p known r number entry before flow homes sound lowered (drop at r.blocks) f rest at regs frame ra k memory input output a refl
  one-leg f rest at regs frame ra k memory input output (EntryNext a) = entry-walk f rest at regs frame ra k memory input output a
  one-leg f rest at regs frame ra k memory input output (ReturnNext a) = return-walk f rest at regs frame ra k memory input output a

  -- ---- the start

  -- the first states stand together
  pub starts : (memory input : List ℕ) → Stands p known r number entry before (enter p p.main []) [] 0 [] [] None
  starts memory input = by (slice_get p.procs p.main) refl sound.main lowered.start where
    by : (q : Option Proc) → slice_get p.procs p.main ≡ q → option_map_or (λ q. q.params == 0) q false ≡ true → StartsAt p known r number entry before
        → Stands p known r number entry before (enter p p.main []) [] 0 [] [] None
    by None is none at = cc
    by (Some q) is none (Shape.AtEntry first block) = EntryNext (record {
      entry_block = block;
      proc = q;
      is = is;
      first = refl;
      here = sym first;
      size = enter-length p p.main [] q is (omega arith);
      params = λ x lt. absurd (omega (arith, lt, params_are q is, eqb-true q.params 0 none));
      zeros = λ x le. enter-zero p p.main [] q is (omega arith) x (omega arith);
      address = tt;
      callers = refl;
    }) where
      params_are : (q : Proc) → slice_get p.procs p.main ≡ Some q → params_of p p.main ≡ q.params
      params_are q is = rw is refl
    by (Some q) is none (Shape.AtFirst first dead) =
        let begins = flow.entry p.main q is in
        BlockNext (record {
          block = begins.block;
          has = begins.has;
          owned = begins.owned;
          first = begins.from;
          here = sym first;
          size = enter-length p p.main [] q is (omega arith);
          held = λ x alive. absurd (dead x alive);
          back = tt;
          callers = refl;
        })
