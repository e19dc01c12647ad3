-- A leg that ends with a return, or with the end of its procedure.
use Rattle.std.proofs.Common.{◌≡◌, ◌≢◌, ◌<◌, ◌≤◌, ◌+◌, ◌++◌, ◌∷◌, [], ℕ, List, Option, Some, None, true, slice_set, nat_lt, refl, sym, ap, ◌∙◌, subst, ap₂, arith, get_or-set_same, get_or-set_other, length-set}
use Rattle.std.specs.Option.{option_map_or}
use Rattle.std.specs.List.{list_all}
use Rattle.std.proofs.lemmas.Bool.{eq-eqb, ne_eqb, and_parts, ltb-true}
use Rattle.std.proofs.lemmas.Option.{none-some}
use Rattle.tta_lower.specs.Cited.{Units, Step, Program, IsProgram, is_src, Running, Halted, step_at, next, take_value, RSrc, RBlock, Rir, Kept, Plain, found, plain, word, steps_of, walk, stay}
use Rattle.tta_program.specs.declared.step.Step.TheVariants.{Invoke}
use Rattle.tta_program.specs.Rules as rules
use Rattle.tta_program.specs.Sequential as program
use Rattle.tta_program.specs.Sequential.{Frame, returns}
use Rattle.tta_lir.specs.Meaning as code
use Rattle.tta_lir.specs.Meaning.{State}
use Rattle.tta_lower.specs.Liveness.{LoweringInput, LiveAfter, After, Reached, Block, Has, IsFlow, IsHomes}
use Rattle.tta_lower.specs.Layout.{value_slot, back_slot, place_by, gives, back as back_exit}
use Rattle.tta_lower.specs.Shape.{Counts, BlockFor, IsLowered}
use Rattle.tta_lower.specs.Relation.{running, going, one_more, KeepsBack, Callers, next_block, BlockNext, ReturnNext}
use Rattle.tta_lower.proofs.Lookups.{found-same, found-other}
use Rattle.tta_lower.proofs.Steps.{step_of}
use Rattle.tta_lower.proofs.Callers.{outside, callers-stay, vars-are}
use Rattle.tta_lower.proofs.Exits.{back, halt}
use Rattle.tta_lower.proofs.Passing.{copy-slot}
use Rattle.tta_lower.proofs.Frames.{other-own, not-main}
use Rattle.tta_lower.proofs.Walks.{Walked, comes-now, ends-now}

module _ (u : Units) (p : Program) (known : LoweringInput) (r : Rir) (number : ℕ → ℕ → ℕ) (entry : ℕ → ℕ) (before : Counts) where
  module _ (flow : IsFlow p known.blocks) (homes : IsHomes p known.home) (sound : IsProgram p) (lowered : IsLowered p known r number entry before)
      (b : Block) (has : Has known.blocks b) (st : Step) (there : step_at p b.owner b.last ≡ Some st)
      (bf : BlockFor p known r number entry before b st) (bs : List RBlock) (rest : List Frame) where
    abbrev here : ℕ
    here = number b.owner b.first

    module _ (first_state : State) (vars : List ℕ) (regs : List (ℕ × ℕ)) (frame : List (ℕ × Kept)) (ra : Option ℕ) (k : ℕ) (memory input output : List ℕ)
        (kept : KeepsBack p known.blocks number frame b.owner rest) (callers : Callers p known.blocks number frame b.owner rest)
        (low : ℕ) (counted : low + 1 ≤ before (here + 1)) where
      abbrev now : State
      now = going here regs frame ra memory input output Running

      abbrev program_now : program.State
      program_now = running k (record { proc = b.owner; at = b.last; vars = vars } ∷ rest) memory input output Running

      abbrev Claim : Type 0
      Claim = Walked u p known r number entry before program_now (walk u (bf.code ∷ bs) first_state) low

      module _ (v : ℕ) (src : RSrc) (given : code.operand now src ≡ Some v)
          (by_steps : steps_of u (bf.code).steps first_state ≡ steps_of u (gives p known.home b.owner src ++ []) now)
          (by_exit : (bf.code).exit ≡ back_exit p known.home number entry b.owner)
          (by_program : next u p program_now ≡ returns p (one_more program_now) rest v) where
        -- main's return ends the run
        from-main : rest ≡ [] → Claim
        from-main none =
            let main : b.owner ≡ p.main = subst (λ l. Callers p known.blocks number frame b.owner l) none callers in
            let same = eq-eqb b.owner p.main main in
            ends-now u p known r number entry before program_now _ low (before (here + 1)) (k + 1) [] here (stay (bf.code).live_out regs) frame ra memory input output Halted
            counted (lowered.all_counted (here + 1)) refl
            (by_program ∙ ap (λ l. returns p (one_more program_now) l v) none)
            (halt u bf.code bs here regs frame ra memory input output first_state (by_steps ∙ rw same refl) (by_exit ∙ rw same refl))

        -- the frame after the value was given
        abbrev given_frame : List (ℕ × Kept)
        given_frame = (value_slot p b.owner, Plain v) ∷ frame

        module _ (g : Frame) (more : List Frame) (some : rest ≡ g ∷ more) where
          these : Callers p known.blocks number frame b.owner (g ∷ more)
          these = subst (λ l. Callers p known.blocks number frame b.owner l) some callers

          other : b.owner ≢ p.main
          other = not-main p sound known.blocks number frame b.owner g more these

          -- the calls below, with the value given
          still : Callers p known.blocks number given_frame b.owner (g ∷ more)
          still =
              let of_step = step_of p sound b.owner b.last st there in
              let two = other-own p b.owner other in
              callers-stay p sound known.blocks number b.owner of_step.proc of_step.is frame given_frame
              (λ slot notin. found-other (value_slot p b.owner) slot (Plain v) frame (λ e. notin (omega (arith, e), omega (arith, two, e))))
              b.owner (g ∷ more) (outside p sound known.blocks number frame b.owner (g ∷ more) these) these

          kept_back : found (back_slot p b.owner) given_frame ≡ Some (code.Return (next_block p known.blocks number g))
          kept_back =
              found-other (value_slot p b.owner) (back_slot p b.owner) (Plain v) frame (λ e. absurd (omega (arith, e)))
              ∙ subst (λ l. KeepsBack p known.blocks number frame b.owner l) some kept

          by_code : walk u (bf.code ∷ bs) first_state ≡ going (next_block p known.blocks number g) (stay (bf.code).live_out regs) given_frame ra memory input output Running
          by_code =
              let differs = ne_eqb b.owner p.main other in
              back u bf.code bs here regs given_frame ra memory input output first_state (back_slot p b.owner) (next_block p known.blocks number g)
              (by_steps ∙ rw (differs, copy-slot u here regs frame ra memory input output (value_slot p b.owner) src v given) refl)
              (by_exit ∙ rw differs refl) kept_back

          next-caller : (d : Option ℕ) → (still.0).d ≡ d → next u p program_now ≡ take_value (one_more program_now) g more v (Some (Invoke d b.owner (still.0).args))
          next-caller d is =
              by_program ∙ ap (λ l. returns p (one_more program_now) l v) some
              ∙ ap (take_value (one_more program_now) g more v) ((still.0).call ∙ ap (λ o. Some (Invoke o b.owner (still.0).args)) is)

          -- the caller's call, by the block that it ends
          block-call : step_at p ((still.0).block).owner ((still.0).block).last ≡ Some (Invoke (still.0).d b.owner (still.0).args)
          block-call = ap₂ (step_at p) (still.0).owned (still.0).last ∙ (still.0).call

          number-call : number g.proc g.at ≡ number ((still.0).block).owner ((still.0).block).first
          number-call = sym (ap₂ number (still.0).owned (still.0).last) ∙ lowered.same (still.0).block (still.0).has

          reached-call : Reached p g.proc g.at
          reached-call =
              subst (λ l. Reached p g.proc l) (still.0).last
              (subst (λ o. Reached p o ((still.0).block).last) (still.0).owned
              (flow.reached (still.0).block (still.0).has ((still.0).block).last (flow.rises (still.0).block (still.0).has) (omega arith)))

          to-caller : (still.0).d ≡ None → Claim
          to-caller none =
              let c = still.0 in
              let called_so = block-call ∙ ap (λ o. Some (Invoke o b.owner c.args)) none in
              let begins = flow.onward c.block c.has (Invoke c.d b.owner c.args) ((c.block).last + 1) block-call (eq-eqb ((c.block).last + 1) ((c.block).last + 1) refl) in
              comes-now u p known r number entry before program_now _ low (before (here + 1)) (k + 1) (record g { at = g.at + 1 }) more (next_block p known.blocks number g) (stay (bf.code).live_out regs) given_frame ra
              memory input output counted (lowered.all_counted (here + 1)) (next-caller None none) by_code
              (BlockNext (record {
                block = begins.block;
                has = begins.has;
                owned = begins.owned ∙ c.owned;
                first = begins.from ∙ ap (λ n. n + 1) c.last;
                here = ap (λ n. n + 1) number-call ∙ sym (lowered.called c.block c.has b.owner c.args called_so)
                    ∙ ap₂ (λ o l. number o (l + 1)) c.owned c.last;
                size = c.size;
                held = λ x alive.
                    let after = After (g.at + 1) (Invoke c.d b.owner c.args) c.call (eq-eqb (g.at + 1) (g.at + 1) refl) alive in
                    let ne : c.d ≢ Some x = λ e. none-some x (sym none ∙ e) in
                    let in_slot = homes.saved g.proc g.at b.owner x c.d c.args reached-call c.call after ne in
                    ap (λ o. word (stay (bf.code).live_out regs) given_frame (place_by p known.home g.proc x o)) in_slot ∙ c.saved x after ne;
                back = still.1;
                callers = still.2;
              }))

          to-return : (d : ℕ) → (still.0).d ≡ Some d → Claim
          to-return d is =
              let c = still.0 in
              let caller_step = step_of p sound g.proc g.at (Invoke c.d b.owner c.args) c.call in
              let vars_are = vars-are p g.proc caller_step.proc caller_step.is in
              let test : option_map_or (λ x. nat_lt x (caller_step.proc).vars) c.d true ≡ true = (and_parts _ (list_all (is_src (caller_step.proc).vars) c.args) (and_parts _ (rules.is_call p b.owner c.args) caller_step.rules).0).0 in
              let below : d < (caller_step.proc).vars = ltb-true d (caller_step.proc).vars (sym (ap (λ o. option_map_or (λ x. nat_lt x (caller_step.proc).vars) o true) is) ∙ test) in
              comes-now u p known r number entry before program_now _ low (before (here + 1)) (k + 1) (record g { at = g.at + 1; vars = slice_set g.vars d v }) more (next_block p known.blocks number g) (stay (bf.code).live_out regs) given_frame ra
              memory input output counted (lowered.all_counted (here + 1)) (next-caller (Some d) is) by_code
              (ReturnNext (record {
                block = c.block;
                has = c.has;
                owned = c.owned;
                last = ap (λ n. n + 1) c.last;
                d = d;
                callee = b.owner;
                args = c.args;
                call = ap (step_at p g.proc) c.last ∙ c.call ∙ ap (λ o. Some (Invoke o b.owner c.args)) is;
                here = ap (λ n. n + 1) (number-call ∙ ap (λ o. number o (c.block).first) c.owned);
                size = length-set g.vars d v ∙ c.size;
                saved = λ x alive ne.
                    c.saved x (subst (λ l. LiveAfter p g.proc x l) c.last alive) (λ e. ne (sym is ∙ e))
                    ∙ ap Some (sym (get_or-set_other g.vars d x v 0 (λ e. ne (ap Some (sym e)))));
                value = ap plain (found-same (value_slot p b.owner) (Plain v) frame) ∙ ap Some (sym (get_or-set_same g.vars d v 0 (omega (arith, below, vars_are, c.size))));
                back = still.1;
                callers = still.2;
              }))

          from-callee : (d : Option ℕ) → (still.0).d ≡ d → Claim
          from-callee None is = to-caller is
          from-callee (Some d) is = to-return d is

        pub last-return : (l : List Frame) → rest ≡ l → Claim
        last-return [] is = from-main is
        last-return (g ∷ more) is = from-callee g more is (still g more is).0.d refl
