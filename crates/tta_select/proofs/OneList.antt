-- The list of a block of constants runs as the block does.
use Rattle.std.proofs.Common.{◌≡◌, ℕ, zero, suc, true, false, List, [], ◌∷◌, ◌++◌, Some, None, refl, sym, ap, subst, ◌∙◌, map, append-nil, append_assoc}
use Rattle.std.specs.Prelude.{slice_index}
use Rattle.tta_select.specs.Cited.{Units, Out, Machine, Effect, Halts, op_at, Call, Port, Move, Held, Leaves, effect_of, does, lacks, does_all, means, Run, Leave, ToHalt, next_leg, begin, restart, leave_of, go_list, lrun, Rir, State, start, step, steps_of, leg, rrun, one_block}
use Rattle.tta_arch.specs.declared.ends.Source.TheVariants as source
use Rattle.tta_arch.specs.declared.ends.Dest.TheVariants as dest
use Rattle.tta_program.specs.Sequential as program
use Rattle.tta_list.specs.Legs as legs
use Rattle.tta_lir.specs.declared.code.RSrc.TheVariants as rsrc
use Rattle.tta_lir.specs.declared.code.RStep.TheVariants as rstep
use Rattle.tta_select.specs.Direct.{constants_out, direct_list}
use Rattle.tta_select.specs.Keeps as select
use Rattle.tta_select.proofs.OutputJoins.{CanOutput, can_output}

-- ---- the register code

module _ (u : Units) (memory input : List ℕ) where
  abbrev put_so_far : List ℕ → State
  put_so_far out = record (start memory input) { output = out }

  put_step : (out : List ℕ) (w : ℕ) → step u (put_so_far out) (rstep.Put (rsrc.Word w)) ≡ put_so_far (out ++ w ∷ [])
  unfolding step
  put_step out w = refl

  put_steps : (words out : List ℕ) → steps_of u (map (λ w. rstep.Put (rsrc.Word w)) words) (put_so_far out) ≡ put_so_far (out ++ words)
  put_steps [] out = ap put_so_far (sym (append-nil out))
  put_steps (w ∷ words) out = rw (put_step out w) (put_steps words (out ++ w ∷ []) ∙ ap put_so_far (append_assoc out (w ∷ []) words))

  module _ (words : List ℕ) where
    abbrev code : Rir
    code = record { blocks = one_block words ∷ [] }

    abbrev put_all : State
    put_all = record (start memory input) { output = words; outcome = program.Halted }

    first_leg : leg u code (start memory input) ≡ put_all
    unfolding leg
    first_leg = rw (put_steps words []) refl

    stays : leg u code put_all ≡ put_all
    unfolding leg
    stays = refl

    code_runs : (n : ℕ) → rrun u code memory input (suc n) ≡ put_all
    code_runs zero = first_leg
    code_runs (suc n) = ap (leg u code) (code_runs n) ∙ stays

-- ---- the list

module _ (u : Units) (m : Machine) (f : Call) (addr memory input : List ℕ) (back : ℕ) where
  abbrev held : List ℕ → Held
  held out = record (begin m memory input) { output = out }

  abbrev put_effect : ℕ → Effect
  put_effect w = effect_of addr (Move None (Port (source.Value w)) (dest.Trigger f.unit f.op))

  abbrev halt_effect : Effect
  halt_effect = effect_of addr (Move None (Port (source.Value 0)) dest.Halt)

  does_put : (latency : ℕ) → op_at m f.unit f.op ≡ Some (record { op = Out; arity = 1; latency = latency }) → (out : List ℕ) (w : ℕ) → does u m back (held out) (put_effect w) ≡ held (out ++ w ∷ [])
  unfolding does
  does_put latency there out w = rw there refl

  lacks_put : (latency : ℕ) → op_at m f.unit f.op ≡ Some (record { op = Out; arity = 1; latency = latency }) → (out : List ℕ) (w : ℕ) → lacks m (held out) (put_effect w) ≡ false
  unfolding lacks
  lacks_put latency there out w = rw there refl

  does_halt : (out : List ℕ) → does u m back (held out) halt_effect ≡ record (held out) { exit = Leaves Halts 0 }
  unfolding does
  does_halt out = refl

  lacks_halt : (out : List ℕ) → lacks m (held out) halt_effect ≡ false
  unfolding lacks
  lacks_halt out = refl

  -- the list outputs the words, and halts
  all_done : (words out : List ℕ) → CanOutput m f words → does_all u m back (held out) (map (effect_of addr) (constants_out f words)) ≡ record (held (out ++ words)) { exit = Leaves Halts 0 }
  all_done [] out o = does_halt out ∙ ap (λ (o : List ℕ). record (held o) { exit = Leaves Halts 0 }) (sym (append-nil out))
  all_done (w ∷ words) out o =
      ap (λ (h : Held). does_all u m back h (map (effect_of addr) (constants_out f words))) (does_put o.0 o.1 out w)
      ∙ all_done words (out ++ w ∷ []) (can_output m f words o) ∙ ap (λ (o : List ℕ). record (held o) { exit = Leaves Halts 0 }) (append_assoc out (w ∷ []) words)

  -- and it has a meaning
  all_mean : (words out : List ℕ) → CanOutput m f words → means u m back (held out) (map (effect_of addr) (constants_out f words)) ≡ true
  all_mean [] out o = rw (lacks_halt out) refl
  all_mean (w ∷ words) out o = rw (lacks_put o.0 o.1 out w, does_put o.0 o.1 out w) (all_mean words (out ++ w ∷ []) (can_output m f words o))

module _ (u : Units) (m : Machine) (f : Call) (addr memory input words : List ℕ) (can : CanOutput m f words) where
  abbrev ended : Held
  ended = restart [] (record (begin m memory input) { output = words; exit = Leaves Halts 0 })

  goes_so : go_list u m addr 0 (direct_list f words) (begin m memory input) ≡ (ended, ToHalt)
  goes_so =
      rw (all_mean u m f addr memory input (slice_index addr 1) words [] can)
      (ap (λ (h : Held). (restart [] h, leave_of addr h.exit)) (all_done u m f addr memory input (slice_index addr 1) words [] can))

  abbrev end : Run Held
  end = record { block = 0; state = ended; outcome = legs.Halted }

  -- one leg does it all
  list_runs : (n : ℕ) → lrun u m (direct_list f words ∷ []) addr memory input (suc n) ≡ end
  list_runs zero =
      ap (λ (g : Held × Leave). legs.after_block 0 (begin m memory input) g.0 g.1 (λ t. legs.leg (go_list u m addr) 1 [] t)) goes_so
  list_runs (suc n) = ap (next_leg (go_list u m addr) (direct_list f words ∷ [])) (list_runs n)

  -- the list runs as the block of register code
  pub alike : (n : ℕ) → select.EndAlike (rrun u (record { blocks = one_block words ∷ [] }) memory input n) (lrun u m (direct_list f words ∷ []) addr memory input n)
  alike zero = record { outcome = refl; memory = refl; rest = refl; output = refl }
  alike (suc n) =
      subst (λ (s : State). select.EndAlike s (lrun u m (direct_list f words ∷ []) addr memory input (suc n))) (sym (code_runs u memory input words n))
      (subst (λ (r : Run Held). select.EndAlike (put_all u memory input words) r) (sym (list_runs n))
      (record { outcome = refl; memory = refl; rest = refl; output = refl }))
