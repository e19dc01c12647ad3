-- Circuits that stand for cores after clocks that begin anew.
use Rattle.std.proofs.Common.{◌≡◌, ℕ, zero, suc, ◌≤◌, Bool, true, List, [], ◌∷◌, ◌++◌, map, Option, Some, None, refl, sym, ap, ◌∙◌, subst, arith, append-nil}
use Rattle.std.specs.Prelude.{slice_get, replicate, if◌then◌else◌}
use Rattle.std.specs.Option.{option_map_or}
use Rattle.std.specs.List.{AllByRecursion}
use Rattle.tta_list.proofs.Lists.{all_one}
use Rattle.tta_board.specs.Cited.{Units, State, start, Held, is_set, settled, clocked, Code, Data, Frame, IsReset, PutWord, word_of, Hardware, StandsFor, Pin, same_pin, queue_of, HasInside, BeginUpTo, Core, NetworkCore, joined, output_of, cycles, cycles_given, first_states, IsCore, new_words}
use Rattle.tta_hardware.proofs.Circuits.{reset_is, goes_not, data_stays, frame_stays, rom_stays}
use Rattle.tta_queue.specs.Queue as queue
use Rattle.tta_queue.specs.Laws as buffer
use Rattle.tta_queue.proofs.Running.{none_inside, waited as waited_alone}
use Rattle.tta_joint.proofs.Joining.{first_queued}
use Rattle.tta_board.specs.Board.{Inputs, Powers, lines, core_first, core_after, board_at, put_by, came_by, AreBoardClocks}
use Rattle.tta_board.specs.Laws.{StandForCores, AreSpaces, BoardBegins}
use Rattle.tta_board.proofs.Entering.{quiet}
use Rattle.tta_board.proofs.Standing.{stands_anew}

-- a core before its first cycle
abbrev fresh : Core → List ℕ → NetworkCore State
fresh c memory = record { state = start c.machine memory []; taken = 0 }

fresh_at : (cores : List Core) (spaces : List (List ℕ)) (core : ℕ) (c : Core) (memory : List ℕ) → slice_get cores core ≡ Some c
    → slice_get spaces core ≡ Some memory → slice_get (joined (first_states cores spaces)) core ≡ Some (fresh c memory)
fresh_at [] spaces core c memory there space = absurd cc
fresh_at (x ∷ cores) [] core c memory there space = absurd cc
fresh_at (x ∷ cores) (y ∷ spaces) zero c memory there space =
    let one : x ≡ c = cc in
    let other : y ≡ memory = cc in
    ap (λ (z : Core). Some (fresh z y)) one ∙ ap (λ (z : List ℕ). Some (fresh c z)) other
fresh_at (x ∷ cores) (y ∷ spaces) (suc core) c memory there space = fresh_at cores spaces core c memory there space

fresh_none : (cores : List Core) (spaces : List (List ℕ)) (core : ℕ) → slice_get cores core ≡ None
    → slice_get (joined (first_states cores spaces)) core ≡ None
fresh_none [] spaces core none = refl
fresh_none (x ∷ cores) [] core none = refl
fresh_none (x ∷ cores) (y ∷ spaces) zero none = absurd cc
fresh_none (x ∷ cores) (y ∷ spaces) (suc core) none = fresh_none cores spaces core none

module _ (u : Units) (cores : List Core) (feeds : List (Option ℕ)) (memories : ℕ → List ℕ) (spaces : List (List ℕ)) (k : ℕ → ℕ)
    (sized : AreSpaces cores memories spaces) where
  abbrev starts : List (NetworkCore State)
  starts = joined (first_states cores spaces)

  -- what has come from outside makes no difference to what was put out
  pub silent : (core : ℕ) → output_of (cycles u cores feeds) starts core ≡ []
  silent core = by (slice_get cores core) refl where
    by : (o : Option Core) → slice_get cores core ≡ o → output_of (cycles u cores feeds) starts core ≡ []
    by None none = ap (λ (o : Option (NetworkCore State)). option_map_or (λ x. x.state.output) o []) (fresh_none cores spaces core none)
    by (Some c) there =
        ap (λ (o : Option (NetworkCore State)). option_map_or (λ x. x.state.output) o [])
        (fresh_at cores spaces core c (memories core) there (sized core c there).0)

  module _ (powers : Powers) (i : ℕ → Inputs) where
    abbrev held : (t core : ℕ) → Hardware
    held t core = (board_at u cores feeds memories k powers i t).cores core

    -- the queue before a core holds what it holds by itself, with these inputs
    queue_alone : (core t : ℕ)
        → (board_at u cores feeds memories k powers i t).queues core
        ≡ buffer.queue u (k core) 32 (powers.queues core) (λ t. (i t).queues core) t
    queue_alone core zero = refl
    queue_alone core (suc t) =
        ap (λ (h : Held Pin queue.Store). clocked same_pin queue.same_store u (queue_of (k core) 32)
        (settled same_pin u (queue_of (k core) 32) h ((i t).queues core)) h) (queue_alone core t)

    module _ (last : ℕ) (all : AllByRecursion IsCore cores) (clocks : AreBoardClocks u cores feeds memories k powers i last) where
      resets : (core : ℕ) (c : Core) → slice_get cores core ≡ Some c → (t : ℕ) → t ≤ last → is_set ((i t).cores core IsReset) ≡ true
      resets core c there t le = ((clocks.wired t).each core c there).reset ∙ clocks.reset t le

      anew : (core : ℕ) (c : Core) → slice_get cores core ≡ Some c → (t : ℕ) → t ≤ last
          → is_set (lines u cores feeds memories k (board_at u cores feeds memories k powers i t) (i t) core c IsReset) ≡ true
      anew core c there t le =
          ap is_set (reset_is u c.machine c.code (memories core) (held t core) ((i t).cores core)) ∙ resets core c there t le

      -- such clocks leave the memories as they are
      record HasWaited (core : ℕ) (c : Core) (t : ℕ) : Type 0 where
        pub words : (held t core).memories Data ≡ memories core
        pub frame : (held t core).memories Frame ≡ replicate c.machine.frame_words 0
        pub rom : (held t core).memories Code ≡ map (word_of c.machine) c.code.words

      waited : (core : ℕ) (c : Core) → slice_get cores core ≡ Some c → (t : ℕ) → t ≤ last → HasWaited core c t
      waited core c there zero le = record {
        words = ap (λ (o : Option Core). (core_first u cores feeds memories k powers core o).memories Data) there;
        frame = ap (λ (o : Option Core). (core_first u cores feeds memories k powers core o).memories Frame) there;
        rom = ap (λ (o : Option Core). (core_first u cores feeds memories k powers core o).memories Code) there;
      }
      waited core c there (suc t) le =
          let old : HasWaited core c t = waited core c there t (omega (arith, le)) in
          let board = board_at u cores feeds memories k powers i t in
          let stops =
          goes_not u c.machine c.code (memories core) (held t core) ((i t).cores core) (anew core c there t (omega (arith, le))) in
          record {
            words = ap (λ (o : Option Core). (core_after u cores feeds memories k board (i t) core o).memories Data) there
                ∙ data_stays u c.machine c.code (memories core) (held t core) ((i t).cores core) stops ∙ old.words;
            frame = ap (λ (o : Option Core). (core_after u cores feeds memories k board (i t) core o).memories Frame) there
                ∙ frame_stays u c.machine c.code (memories core) (held t core) ((i t).cores core) stops ∙ old.frame;
            rom = ap (λ (o : Option Core). (core_after u cores feeds memories k board (i t) core o).memories Code) there
                ∙ rom_stays u c.machine c.code (memories core) (held t core) ((i t).cores core) ∙ old.rom;
          }

      -- such clocks put nothing out
      pub put_none : (core : ℕ) (c : Core) → slice_get cores core ≡ Some c → (t : ℕ) → t ≤ suc last
          → put_by u cores feeds memories k powers i core c t ≡ []
      put_none core c there zero le = refl
      put_none core c there (suc t) le =
          let stops =
          goes_not u c.machine c.code (memories core) (held t core) ((i t).cores core) (anew core c there t (omega (arith, le))) in
          let none = quiet u c.machine c.code (memories core) (held t core) ((i t).cores core) stops in
          ap (λ (b : Bool). put_by u cores feeds memories k powers i core c t
          ++ (if b then lines u cores feeds memories k (board_at u cores feeds memories k powers i t)
          (i t) core c PutWord ∷ [] else [])) none
          ∙ append-nil (put_by u cores feeds memories k powers i core c t) ∙ put_none core c there t (omega (arith, le))

      begun : (core : ℕ) → BeginUpTo last (λ t. (i t).queues core)
      begun core = record {
        reset = λ t le. (clocks.wired t).reset core ∙ clocks.reset t le;
        on = λ t less. (clocks.wired t).reset core ∙ clocks.on t less;
      }

      empty : (core : ℕ) → HasInside (k core) ((board_at u cores feeds memories k powers i (suc last)).queues core) []
      empty core =
          subst (λ (h : Held Pin queue.Store). HasInside (k core) h []) (sym (queue_alone core (suc last)))
          (none_inside u (k core) 32 (powers.queues core) (λ t. (i t).queues core) last (begun core))

      -- the words that have come from outside are those that the queue by itself takes
      came_alone : (core t : ℕ)
          → came_by u cores feeds memories k powers i t core
          ≡ buffer.taken u (k core) 32 (powers.queues core) (λ t. (i t).queues core) t
      came_alone core zero = refl
      came_alone core (suc t) =
          ap (λ (h : Held Pin queue.Store). came_by u cores feeds memories k powers i t core
          ++ new_words (settled same_pin u (queue_of (k core) 32) h ((i t).queues core))) (queue_alone core t)
          ∙ ap (λ (ws : List ℕ). ws ++ new_words (buffer.pins u (k core) 32 (powers.queues core) (λ t. (i t).queues core) t))
          (came_alone core t)

      -- and none has come
      pub none_came : (core : ℕ) → came_by u cores feeds memories k powers i (suc last) core ≡ []
      none_came core =
          came_alone core (suc last)
          ∙ (waited_alone u (k core) 32 (powers.queues core) (λ t. (i t).queues core) last (begun core) (suc last) (omega arith)).untaken

      pub first_stand : StandForCores u cores feeds memories k (came_by u cores feeds memories k powers i (suc last))
          (board_at u cores feeds memories k powers i (suc last)) starts
      first_stand = record {
        each = λ core c there.
            let is = sized core c there in
            record {
              now = fresh c (memories core);
              there = fresh_at cores spaces core c (memories core) there is.0;
              stands = subst (λ (o : Option Core). StandsFor c.machine c.code
                  (core_after u cores feeds memories k (board_at u cores feeds memories k powers i last) (i last) core o)
                  (start c.machine (memories core) [])) (sym there)
                  (stands_anew u c.machine c.code (memories core) (held last core) ((i last).cores core) is.1
                  (all_one IsCore cores core c all there).legal (waited core c there last (omega arith)).words
                  (waited core c there last (omega arith)).frame (waited core c there last (omega arith)).rom
                  (anew core c there last (omega arith)));
              goes_on = refl;
              fine = refl;
            };
        none = fresh_none cores spaces;
        queued = first_queued (cycles_given u cores feeds (came_by u cores feeds memories k powers i (suc last)))
            (first_states cores spaces) silent none_came k (board_at u cores feeds memories k powers i (suc last)).queues empty;
      }

pub board_begins : BoardBegins
board_begins u cores feeds memories spaces k powers i last all sized clocks = (
  none_came u cores feeds memories spaces k sized powers i last all clocks,
  first_stand u cores feeds memories spaces k sized powers i last all clocks,
)
