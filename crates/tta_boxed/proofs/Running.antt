-- A circuit that leaves operations to modules runs as the circuit that makes them itself.
use Rattle.std.proofs.Common.{◌≡◌, ℕ, zero, suc, ◌+◌, ◌-◌, ◌<◌, ◌⊎◌, inl, inr, Bool, true, false, ◌&&◌, ◌||◌, List, [], ◌∷◌, ◌++◌, slice_get, Option, Some, None, refl, sym, ap, ◌∙◌}
use Rattle.std.specs.Prelude.{if◌then◌else◌}
use Rattle.std.proofs.lemmas.Bool.{false≢true, or_left, or_from}
use Rattle.tta_boxed.specs.Cited.{Units, Machine, UnitOp, Set, op_at, Circuit, is_set, Store, IsReset, Goes, Asks, Puts, PutWord, IsDue, Due, Shows, IsFrom, Boxes, Hardware, held_after, signals_after, cycles_after, taken_after, put_after}
use Rattle.tta_circuit.specs.Meaning.{bit}
use Rattle.tta_circuit.specs.Modules.{taken_in}
use Rattle.tta_hardware.specs.Signals.{Signal as Named}
use Rattle.tta_hardware.proofs.Chained.{set_bit}
use Rattle.tta_boxed.specs.Boxed.{is_left, boxed}
use Rattle.tta_boxed.specs.Theorem.{given_to, AreServed, RunAlike, BoxedRuns, whole}
use Rattle.tta_boxed.proofs.Alike.{Same}
use Rattle.tta_boxed.proofs.Wholes.{IsWhole, wholes}
use Rattle.tta_boxed.proofs.Due.{DueAt, AreDue}
use Rattle.tta_boxed.proofs.Clock as clock
use Rattle.tta_boxed.proofs.Going as going
use Rattle.tta_boxed.proofs.Coming.{began, passed}
use Rattle.tta_boxed.proofs.Ports.{port_same}

-- a word that is taken, and one that is not
on_word : (b : Bool) (x y : ℕ) → b ≡ true → (if b then x else y) ≡ x
on_word b x y is = ap (λ c. if c then x else y) is

off_word : (b : Bool) (x y : ℕ) → b ≡ false → (if b then x else y) ≡ y
off_word b x y is = ap (λ c. if c then x else y) is

module _ (u : Units) (m : Machine) (leaves : ℕ → Bool) where
  -- what is known of a result that is due holds where nothing of it changes
  moved : (a b a' b' : Named → ℕ) (history history' : (unit : ℕ) → UnitOp → List (ℕ × ℕ)) (unit delay : ℕ)
      → a' (Due unit delay) ≡ a (Due unit delay) → b' (Due unit delay) ≡ b (Due unit delay)
      → ((op : ℕ) (o : UnitOp) → op_at m unit op ≡ Some o → is_left m leaves o ≡ true → delay < o.latency
      → a' (Boxes (IsFrom unit op delay)) ≡ a (Boxes (IsFrom unit op delay)))
      → ((o : UnitOp) → history' unit o ≡ history unit o)
      → DueAt u m leaves a b history unit delay → DueAt u m leaves a' b' history' unit delay
  moved a b a' b' history history' unit delay word word' flags given it = record {
    picked = λ op id o at left sets less is.
        let known = it.picked op id o at left sets less (ap is_set (sym (flags op o at left less)) ∙ is) in
        (known.0, (ap (λ l. slice_get l (o.latency - 1 - delay)) (given o) ∙ known.1.0, word' ∙ known.1.1));
    other = λ none. word' ∙ it.other (λ op o at left less. ap is_set (sym (flags op o at left less)) ∙ none op o at left less) ∙ sym word;
  }

  module _ (d : Circuit Named Store) (w : IsWhole m d) (h : Hardware) (inputs : ℕ → Named → ℕ) (starts : is_set (inputs 0 IsReset) ≡ true)
      (served : AreServed u m leaves (boxed m leaves d) h inputs) where
    abbrev c : Circuit Named Store
    c = boxed m leaves d

    -- what modules were given
    abbrev history : ℕ → (unit : ℕ) → UnitOp → List (ℕ × ℕ)
    history t unit o =
        taken_in (λ t. given_to unit o (signals_after u c h inputs t)) (λ t. is_set (signals_after u c h inputs t Goes)) t

    -- Both circuits hold the same but for what is due, and that is known, where a clock does not begin anew.
    record Alike (t : ℕ) : Type 0 where
      words : Same (held_after u c h inputs t).words (held_after u d h inputs t).words
      memories : (s : Store) → (held_after u c h inputs t).memories s ≡ (held_after u d h inputs t).memories s
      due : (is_set (inputs t IsReset) ≡ true)
          ⊎ AreDue u m leaves (held_after u c h inputs t).words (held_after u d h inputs t).words (history t)

    module _ (t : ℕ) (alike : Alike t) where
      abbrev hc : Hardware
      hc = held_after u c h inputs t

      abbrev hd : Hardware
      hd = held_after u d h inputs t

      abbrev env : Named → ℕ
      env = signals_after u c h inputs t

      abbrev env' : Named → ℕ
      env' = signals_after u d h inputs t

      abbrev after : Hardware
      after = held_after u c h inputs (suc t)

      abbrev after' : Hardware
      after' = held_after u d h inputs (suc t)

      -- the same signals
      alike_signals : Same env env'
      alike_signals = clock.signals u m leaves d w hc hd (inputs t) alike.words alike.memories

      reset_is : env IsReset ≡ inputs t IsReset
      reset_is = clock.reset_held u m leaves d w hc hd (inputs t) alike.words alike.memories

      -- a clock that begins anew
      module _ (reset : is_set (inputs t IsReset) ≡ true) where
        stands : is_set (env Goes) ≡ false
        stands = clock.stopped u m leaves d w hc hd (inputs t) alike.words alike.memories reset

        reset_words : Same after.words after'.words
        reset_words =
            clock.words_next u m leaves d w hc hd (inputs t) alike.words alike.memories
            (λ unit goes. absurd (false≢true (sym stands ∙ goes)))

        nothing_due : AreDue u m leaves after.words after'.words (history (suc t))
        nothing_due unit delay some soon is = absurd (false≢true (sym (ap is_set none) ∙ is)) where
          on : is_set (env IsReset) ≡ true
          on = ap is_set reset_is ∙ reset

          none : after.words (IsDue unit delay) ≡ 0
          none =
              clock.is_due_next u m leaves d w hc hd (inputs t) alike.words alike.memories unit delay some soon
              ∙ on_word (is_set (bit (is_set (env IsReset) || is_set (env Goes)))) _ (hc.words (IsDue unit delay))
              (set_bit (is_set (env IsReset) || is_set (env Goes)) ∙ or_left (is_set (env IsReset)) (is_set (env Goes)) on)
              ∙ on_word (is_set (env IsReset)) 0 _ on

      -- one that does not
      module _ (due : AreDue u m leaves hc.words hd.words (history t)) where
        shows : (unit op id : ℕ) (o : UnitOp) → op_at m unit op ≡ Some o → is_left m leaves o ≡ true → o.op ≡ Set (record { 0 = id })
            → (x : ℕ × ℕ) → slice_get (history t unit o) (o.latency - 1 - 1) ≡ Some x
            → inputs t (Boxes (Shows unit op)) ≡ u.value id x.0 x.1
        shows unit op id o at left sets x is = served unit op id o at left sets t x is

        next_words : Same after.words after'.words
        next_words =
            clock.words_next u m leaves d w hc hd (inputs t) alike.words alike.memories
            (λ unit goes. port_same u m leaves d w hc hd (inputs t) alike.words alike.memories (history t) due shows unit)

        -- that carries an instruction out
        going_due : is_set (env Goes) ≡ true → AreDue u m leaves after.words after'.words (history (suc t))
        going_due goes unit delay some soon is =
            moved after.words after'.words after.words after'.words
            (λ unit o. given_to unit o env ∷ history t unit o) (history (suc t)) unit delay refl refl (λ op o at left less. refl)
            (λ o. ap (λ b. if b then given_to unit o env ∷ history t unit o else history t unit o) goes)
            (by (going.started u m leaves d w hc hd (inputs t) alike.words alike.memories unit (delay + 1)) refl)
          where
            by : (o : Option (ℕ × UnitOp))
                → going.started u m leaves d w hc hd (inputs t) alike.words alike.memories unit (delay + 1) ≡ o
                → DueAt u m leaves after.words after'.words (λ unit o. given_to unit o env ∷ history t unit o) unit delay
            by (Some k) start =
                began u m leaves d w hc hd (inputs t) alike.words alike.memories (history t) goes due unit delay some soon k start
            by None start =
                passed u m leaves d w hc hd (inputs t) alike.words alike.memories (history t) goes due unit delay some soon start is

        -- that carries nothing out
        still_due : is_set (env IsReset) ≡ false → is_set (env Goes) ≡ false
            → AreDue u m leaves after.words after'.words (history (suc t))
        still_due quiet stands unit delay some soon is =
            moved hc.words hd.words after.words after'.words (history t) (history (suc t)) unit delay
            (clock.due_next u m leaves d w hc hd (inputs t) alike.words alike.memories unit delay some soon
            ∙ off_word (is_set (env Goes)) _ (hc.words (Due unit delay)) stands)
            (clock.due_next' u m leaves d w hc hd (inputs t) alike.words alike.memories unit delay some soon
            ∙ off_word (is_set (env' Goes)) _ (hd.words (Due unit delay)) (ap is_set (sym (alike_signals Goes refl)) ∙ stands))
            (λ op o at left less. clock.from_next_is u m leaves d w hc hd (inputs t) alike.words alike.memories unit op o at left delay some
            less ∙ off_word (is_set (bit (is_set (env IsReset) || is_set (env Goes)))) _ (hc.words (Boxes (IsFrom unit op delay))) off)
            (λ o. ap (λ b. if b then given_to unit o env ∷ history t unit o else history t unit o) stands)
            (due unit delay some soon (ap is_set (sym (clock.is_due_next u m leaves d w hc hd (inputs t) alike.words alike.memories
            unit delay some soon
            ∙ off_word (is_set (bit (is_set (env IsReset) || is_set (env Goes)))) _ (hc.words (IsDue unit delay)) off)) ∙ is))
          where
            off : is_set (bit (is_set (env IsReset) || is_set (env Goes))) ≡ false
            off = set_bit (is_set (env IsReset) || is_set (env Goes)) ∙ or_from (is_set (env IsReset)) (is_set (env Goes)) quiet stands

        next_due : is_set (env IsReset) ≡ false → AreDue u m leaves after.words after'.words (history (suc t))
        next_due quiet = by (is_set (env Goes)) refl where
          by : (b : Bool) → is_set (env Goes) ≡ b → AreDue u m leaves after.words after'.words (history (suc t))
          by true goes = going_due goes
          by false stands = still_due quiet stands

      alike_next : Alike (suc t)
      alike_next = by (is_set (inputs t IsReset)) refl alike.due where
        memories : (s : Store) → after.memories s ≡ after'.memories s
        memories = clock.memories_next u m leaves d w hc hd (inputs t) alike.words alike.memories

        by : (b : Bool) → is_set (inputs t IsReset) ≡ b
            → (is_set (inputs t IsReset) ≡ true) ⊎ AreDue u m leaves hc.words hd.words (history t) → Alike (suc t)
        by true reset due = record { words = reset_words reset; memories = memories; due = inr (nothing_due reset) }
        by false quiet (inl reset) = absurd (false≢true (sym quiet ∙ reset))
        by false quiet (inr due) =
            record { words = next_words due; memories = memories; due = inr (next_due due (ap is_set reset_is ∙ quiet)) }

    always : (t : ℕ) → Alike t
    always zero = record { words = λ n is. refl; memories = λ s. refl; due = inl starts }
    always (suc t) = alike_next t (always t)

    -- ---- the counts

    signals_alike : (t : ℕ) → Same (signals_after u c h inputs t) (signals_after u d h inputs t)
    signals_alike t = alike_signals t (always t)

    cycles_alike : (t : ℕ) → cycles_after u c h inputs t ≡ cycles_after u d h inputs t
    cycles_alike zero = refl
    cycles_alike (suc t) =
        ap (λ k. k + bit (is_set (signals_after u c h inputs t Goes))) (cycles_alike t)
        ∙ ap (λ k. cycles_after u d h inputs t + bit (is_set k)) (signals_alike t Goes refl)

    taken_alike : (t : ℕ) → taken_after u c h inputs t ≡ taken_after u d h inputs t
    taken_alike zero = refl
    taken_alike (suc t) =
        ap (λ k. k + bit (is_set (signals_after u c h inputs t Goes) && is_set (signals_after u c h inputs t Asks))) (taken_alike t)
        ∙ ap (λ k. taken_after u d h inputs t + bit (is_set k && is_set (signals_after u c h inputs t Asks))) (signals_alike t Goes refl)
        ∙ ap (λ k. taken_after u d h inputs t + bit (is_set (signals_after u d h inputs t Goes) && is_set k)) (signals_alike t Asks refl)

    put_alike : (t : ℕ) → put_after u c h inputs t ≡ put_after u d h inputs t
    put_alike zero = refl
    put_alike (suc t) =
        ap (λ l. l ++ (if is_set (signals_after u c h inputs t Puts) then signals_after u c h inputs t PutWord ∷ [] else [])) (put_alike t)
        ∙ ap (λ k. put_after u d h inputs t ++ (if is_set k then signals_after u c h inputs t PutWord ∷ [] else []))
        (signals_alike t Puts refl)
        ∙ ap (λ k. put_after u d h inputs t ++ (if is_set (signals_after u d h inputs t Puts) then k ∷ [] else []))
        (signals_alike t PutWord refl)

    pub runs_alike : (t : ℕ) → RunAlike u c d h inputs t
    runs_alike t = record {
      words = (always t).words;
      memories = (always t).memories;
      signals = signals_alike t;
      cycles = cycles_alike t;
      taken = taken_alike t;
      put = put_alike t;
    }

pub boxed_runs : BoxedRuns
boxed_runs u m leaves faults code memory h inputs rules starts served t =
    runs_alike u m leaves (whole faults m code memory) (wholes m rules code memory faults) h inputs starts served t
