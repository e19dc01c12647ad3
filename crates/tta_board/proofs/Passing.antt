-- What passes between wired circuits at one clock.
use Rattle.std.proofs.Common.{◌≡◌, ℕ, ◌+◌, Bool, true, false, ◌&&◌, List, [], ◌∷◌, Option, Some, None, refl, sym, ap, ◌∙◌, arith}
use Rattle.std.specs.Prelude.{slice_get, if◌then◌else◌}
use Rattle.std.specs.Option.{option_map_or}
use Rattle.std.proofs.lemmas.Bool.{and_right, and_parts}
use Rattle.tta_board.specs.Cited.{left, Units, State, is_set, IsReset, Asks, Goes, Puts, IsFed, Pin, InValid, OutReady, InReady, OutValid, OutData, takes, gives, Core, Network, feeder_of, cycles, is_among, seen}
use Rattle.tta_hardware.specs.Signals.{Signal as Named}
use Rattle.tta_hardware.proofs.Circuits.{reset_is}
use Rattle.tta_board.specs.Board.{Board, Inputs, lines, pins_of, AreWired}
use Rattle.tta_board.proofs.Going.{places_from, among_places}
use Rattle.tta_board.proofs.Entering.{Enters, enters, ready_for}
use Rattle.tta_board.proofs.Room.{fed_at, room_at}

-- what is left of what is seen
pub left_of : (valid ready asks : Bool) (word : ℕ) → ready ≡ asks
    → left asks (if valid then word ∷ [] else []) ≡ (if valid && ready then [] else (if valid then word ∷ [] else []))
left_of true ready true word is = sym (ap (λ b. if b then [] else word ∷ []) is)
left_of true ready false word is = sym (ap (λ b. if b then [] else word ∷ []) is)
left_of false ready true word is = refl
left_of false ready false word is = refl

module _ (u : Units) (cores : List Core) (feeds : List (Option ℕ)) (memories : ℕ → List ℕ) (k : ℕ → ℕ) (b : Board) (i : Inputs) where
  abbrev net : Network State
  net = cycles u cores feeds

  abbrev env : ℕ → Pin → ℕ
  env core = pins_of u cores feeds memories k b i core

  abbrev line : ℕ → Core → Named → ℕ
  line core c = lines u cores feeds memories k b i core c

  -- the cores that carry an instruction out
  abbrev pub goes_at : ℕ → Core → Bool
  goes_at core c = is_set (line core c Goes)

  abbrev pub going : List ℕ
  going = places_from goes_at 0 cores

  pub among_goes : (core : ℕ) (c : Core) → slice_get cores core ≡ Some c → is_among core going ≡ goes_at core c
  among_goes core c there = among_places goes_at core cores ∙ ap (λ o. option_map_or (goes_at core) o false) there

  module _ (wired : AreWired u cores feeds memories k b i) where
    -- ---- from a queue to its core

    pub not_reset : i.reset ≡ false → (core : ℕ) (c : Core) → slice_get cores core ≡ Some c → is_set (line core c IsReset) ≡ false
    not_reset on core c there =
        ap is_set (reset_is u c.machine c.code (memories core) (b.cores core) (i.cores core)) ∙ (wired.each core c there).reset ∙ on

    -- a core is fed what is seen of its queue
    pub fed : (core : ℕ) (c : Core) → slice_get cores core ≡ Some c → IsFed (line core c) (seen (env core))
    fed core c there is =
        let w = wired.each core c there in
        let e : Enters u c.machine c.code (memories core) (b.cores core) (i.cores core) =
        enters u c.machine c.code (memories core) (b.cores core) (i.cores core) in
        let valid : is_set (env core OutValid) ≡ true = sym w.offered ∙ ap is_set (sym e.offered) ∙ is in
        ap (λ (v : Bool). slice_get (if v then env core OutData ∷ [] else []) 0) valid
        ∙ ap (λ (w : ℕ). Some w) (sym (e.offer ∙ w.offer))

    -- a queue gives nothing where its core carries nothing out
    pub stays : (core : ℕ) → is_among core going ≡ false → gives (env core) ≡ false
    stays core out = and_right (is_set (env core OutValid)) (is_set (env core OutReady)) (by (slice_get cores core) refl) where
      by : (o : Option Core) → slice_get cores core ≡ o → is_set (i.queues core OutReady) ≡ false
      by None none = wired.unasked core none
      by (Some c) there =
          (wired.each core c there).asked ∙ ap (λ g. g && is_set (line core c Asks)) (sym (among_goes core c there) ∙ out)

    -- ---- from a core to the queues that it feeds

    pub not_taken : (core : ℕ) → is_set (i.queues core InValid) ≡ false → takes (env core) ≡ false
    not_taken core is = ap (λ v. v && is_set (env core InReady)) is

    -- a word that a core puts out finds room
    room : (core feeder : ℕ) (f : Core) → feeder_of net core ≡ Some feeder → slice_get cores feeder ≡ Some f
        → is_set (line feeder f Puts) ≡ true → is_set (env core InReady) ≡ true
    room core feeder f feeds_it there puts =
        let ready = ready_for u f.machine f.code (memories feeder) (b.cores feeder) (i.cores feeder) puts in
        let parts = and_parts (i.outside feeder) _ (sym (wired.each feeder f there).ready ∙ ready) in
        let here : 0 + core ≡ core = omega arith in
        sym (ap (λ other. is_set (env other InReady)) here)
        ∙ room_at (λ other. is_set (env other InReady)) feeder 0 core feeds parts.1 (fed_at feeds core feeder feeds_it)

    pub taken_where : (core feeder : ℕ) (f : Core) → feeder_of net core ≡ Some feeder → slice_get cores feeder ≡ Some f
        → takes (env core) ≡ is_set (line feeder f Puts)
    taken_where core feeder f feeds_it there =
        ap (λ v. v && is_set (env core InReady)) (wired.fed core feeder f feeds_it there).0
        ∙ by (is_set (line feeder f Puts)) refl
      where
        by : (p : Bool) → is_set (line feeder f Puts) ≡ p → (p && is_set (env core InReady)) ≡ p
        by true is = room core feeder f feeds_it there is
        by false is = refl
