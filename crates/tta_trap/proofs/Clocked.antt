-- A clock of a circuit that tells the first fault.
use Rattle.std.proofs.Common.{◌≡◌, ℕ, ◌<◌, ◌≤◌, Bool, true, false, ◌&&◌, ◌||◌, List, [], ◌∷◌, ◌++◌, length, Some, refl, sym, ap, ◌∙◌}
use Rattle.std.specs.Prelude.{if◌then◌else◌, slice_set, slice_index}
use Rattle.std.specs.List.{find, list_any, AllByRecursion}
use Rattle.std.proofs.lemmas.Bool.{or_left}
use Rattle.tta_circuit.specs.Meaning.{bit, registered, clocked}
use Rattle.tta_arch.specs.Rules.{same_op}
use Rattle.tta_arch.specs.declared.parts.Op.TheVariants.{Stw, Stf}
use Rattle.tta_trap.specs.Cited.{Units, Machine, IsMachine, Register, is_set, value, Store, same_signal, same_store, Pc, HasHalted, Underway, IsReset, Goes, NextPc, Watch, HasWord, IsPast, Watches, Either, register, register_names, longest, Hardware, HasClocked}
use Rattle.tta_code.specs.declared.code.Code.{Code as Program}
use Rattle.tta_circuit.specs.Circuit.{Signal as OfSignal}
use Rattle.tta_hardware.specs.Signals.{Signal as Named, Goal, Ends, Keeps, IsDue, Due, HasBegun, Raw, IsInside, Whole, Code, Data, Frame}
use Rattle.tta_hardware.specs.Registers.{restarts, becomes, enabled, next_of}
use Rattle.tta_hardware.specs.Hardware.{store_port}
use Rattle.tta_hardware.specs.Laws.{HasStored}
use Rattle.tta_hardware.proofs.Chained.{set_bit}
use Rattle.tta_hardware.proofs.Named.{signal_itself}
use Rattle.tta_hardware.proofs.Members.{alone_there, underway_there, is_due_there, due_there, load_there, place_there}
use Rattle.tta_hardware.proofs.WiresFit.{both_lists}
use Rattle.tta_hardware.proofs.PlainWires.{all_made}
use Rattle.tta_trap.specs.Memory.{watch_next, watch_register, watch_registers}
use Rattle.tta_trap.specs.Tells.{HasWatched}
use Rattle.tta_trap.proofs.Settled.{circuit, env, next_pc_is}
use Rattle.tta_trap.proofs.Kept.{plain, watching, register_at, watch_at, word_in, past_in}

module _ (u : Units) (m : Machine) (rules : IsMachine m) (code : Program) (memory : List ℕ) (h : Hardware) (inputs : Named → ℕ) where
  abbrev words : Named → ℕ
  words = env u m rules code memory h inputs

  abbrev pub after : Hardware
  after = clocked same_signal same_store u (circuit u m rules code memory h inputs) words h

  abbrev worth : (n : Named) → ℕ
  worth n = value u h.memories words (becomes m n)

  -- whether a register takes a word
  takes : (n : Named) → is_set (value u h.memories words (enabled n))
      ≡ (if restarts n then is_set (words IsReset) || is_set (words Goes) else is_set (words Goes))
  takes n = by (restarts n) where
    by : (b : Bool) → is_set (value u h.memories words (if b then Either (OfSignal IsReset) (OfSignal Goes) else OfSignal Goes))
        ≡ (if b then is_set (words IsReset) || is_set (words Goes) else is_set (words Goes))
    by true = set_bit (is_set (words IsReset) || is_set (words Goes))
    by false = refl

  becomes_it : (n : Named) → list_any (same_signal n) (register_names m) ≡ true → is_set (value u h.memories words (enabled n)) ≡ true
      → after.words n ≡ worth n
  becomes_it n any on =
      ap (λ r. registered same_signal u h.memories words r (h.words n)) (register_at m n any)
      ∙ ap (λ b. if b then worth n else h.words n) on

  -- what a register of the watch becomes
  watch_becomes : (w : Watch) → list_any (λ v. same_signal (Watches v) (Watches w)) (watch_registers m) ≡ true
      → (is_set (words IsReset) || is_set (words Goes)) ≡ true
      → after.words (Watches w) ≡ (if is_set (words IsReset) then 0 else value u h.memories words (watch_next m w))
  watch_becomes w any on =
      ap (λ r. registered same_signal u h.memories words r (h.words (Watches w))) (watch_at m rules w any)
      ∙ ap (λ b. if b then value u h.memories words (watch_register m w).next else h.words (Watches w))
      (set_bit (is_set (words IsReset) || is_set (words Goes)) ∙ on)

  -- ---- one that carries an instruction out

  module _ (goes : is_set (words Goes) ≡ true) (on : is_set (words IsReset) ≡ false) where
    taken : (n : Named) → is_set (value u h.memories words (enabled n)) ≡ true
    taken n = takes n ∙ ap (λ b. if restarts n then b || is_set (words Goes) else is_set (words Goes)) on
        ∙ ap (λ b. if restarts n then b else b) goes ∙ either (restarts n) where
          either : (b : Bool) → (if b then true else true) ≡ true
          either true = refl
          either false = refl

    next : (n : Named) → list_any (same_signal n) (register_names m) ≡ true → after.words n ≡ worth n
    next n any = becomes_it n any (taken n)

    -- what is no beginning anew
    unset : (w : ℕ) → (if is_set (words IsReset) then 0 else w) ≡ w
    unset w = ap (λ b. if b then 0 else w) on

    at_pc : after.words Pc ≡ words NextPc
    at_pc = next Pc (alone_there m Pc refl)

    pub has_clocked : HasClocked u m h words after.words
    has_clocked = record {
      places = λ p has. next (Keeps p) (place_there m p has);
      is_due = λ unit delay less some soon. next (IsDue unit delay) (is_due_there m unit delay less some soon)
          ∙ unset (value u h.memories words (next_of m (IsDue unit delay)));
      due = λ unit delay less some soon. next (Due unit delay) (due_there m unit delay less some soon);
      begun = λ unit op o here load. next (HasBegun unit op)
          (load_there m unit op o here load (HasBegun unit op)
          (or_left (same_signal (HasBegun unit op) (HasBegun unit op)) false (signal_itself (HasBegun unit op))));
      raw = λ unit op o here load. next (Raw unit op)
          (load_there m unit op o here load (Raw unit op)
          (or_left (same_signal (Raw unit op) (Raw unit op)) false (signal_itself (Raw unit op))));
      inside = λ unit op o here load. next (IsInside unit op)
          (load_there m unit op o here load (IsInside unit op)
          (or_left (same_signal (IsInside unit op) (IsInside unit op)) false (signal_itself (IsInside unit op))));
      pc = at_pc ∙ next_pc_is u m rules code memory h inputs ∙ unset (value u h.memories words (next_of m Pc));
      whole = next Whole (alone_there m Whole refl) ∙ ap (slice_index (h.memories Code)) (sym at_pc);
      halted = next HasHalted (alone_there m HasHalted refl) ∙ unset (value u h.memories words (next_of m HasHalted));
      goal = next Goal (alone_there m Goal refl);
      ends = next Ends (alone_there m Ends refl);
      underway = λ delay some most. next (Underway delay) (underway_there m delay some most)
          ∙ unset (value u h.memories words (next_of m (Underway delay)));
    }

    either_on : (is_set (words IsReset) || is_set (words Goes)) ≡ true
    either_on = ap (λ b. b || is_set (words Goes)) on ∙ goes

    pub has_watched : HasWatched u m h words after.words
    has_watched = record {
      has_word = λ p has. watch_becomes (HasWord p) (word_in m p has) either_on
          ∙ unset (value u h.memories words (watch_next m (HasWord p)));
      past = watch_becomes IsPast (past_in m) either_on ∙ unset (value u h.memories words (watch_next m IsPast));
    }

  -- ---- memories

  pub has_stored : HasStored u m h words after.memories
  has_stored = record {
    memory = refl;
    frame = refl;
    rom = refl;
  }

  -- ---- one that carries nothing out

  module _ (stops : is_set (words Goes) ≡ false) where
    off : (b : Bool) → is_set (bit (is_set (words Goes) && b)) ≡ false
    off b = set_bit (is_set (words Goes) && b) ∙ ap (λ x. x && b) stops

    -- registers of which none takes a word
    idle : (n : Named) (rs : List (Register Named Store)) (old : ℕ)
        → AllByRecursion (λ r. is_set (value u h.memories words r.enable) ≡ false) rs
        → registered same_signal u h.memories words (find (λ r. same_signal r.name n) rs) old ≡ old
    idle n [] old all = refl
    idle n (r ∷ rs) old all = by (same_signal r.name n) (idle n rs old all.1) where
      by : (b : Bool) → registered same_signal u h.memories words (find (λ r. same_signal r.name n) rs) old ≡ old
          → registered same_signal u h.memories words (if b then Some r else find (λ r. same_signal r.name n) rs) old ≡ old
      by true rest = ap (λ b. if b then value u h.memories words r.next else old) all.0
      by false rest = rest

    pub words_stay : is_set (words IsReset) ≡ false → (n : Named) → after.words n ≡ h.words n
    words_stay quiet n =
        idle n (plain m ++ watching m) (h.words n)
        (both_lists (λ r. is_set (value u h.memories words r.enable) ≡ false) (plain m) (watching m)
        (all_made (λ r. is_set (value u h.memories words r.enable) ≡ false) (register m) (register_names m) one)
        (all_made (λ r. is_set (value u h.memories words r.enable) ≡ false) (watch_register m) (watch_registers m)
        (λ w. set_bit (is_set (words IsReset) || is_set (words Goes)) ∙ ap (λ b. b || is_set (words Goes)) quiet ∙ stops)))
      where
        either : (b : Bool) → (if b then false else false) ≡ false
        either true = refl
        either false = refl

        one : (k : Named) → is_set (value u h.memories words (enabled k)) ≡ false
        one k = takes k ∙ ap (λ b. if restarts k then b || is_set (words Goes) else is_set (words Goes)) quiet
            ∙ ap (λ b. if restarts k then b else b) stops ∙ either (restarts k)

    pub data_stays : after.memories Data ≡ h.memories Data
    data_stays = has_stored.memory
        ∙ ap (λ b. if b then slice_set (h.memories Data) (value u h.memories words (store_port m m.data_words (same_op Stw)).address)
        (value u h.memories words (store_port m m.data_words (same_op Stw)).word) else h.memories Data) (off _)

    pub frame_stays : after.memories Frame ≡ h.memories Frame
    frame_stays = has_stored.frame
        ∙ ap (λ b. if b then slice_set (h.memories Frame) (value u h.memories words (store_port m m.frame_words (same_op Stf)).address)
        (value u h.memories words (store_port m m.frame_words (same_op Stf)).word) else h.memories Frame) (off _)

  -- ---- one that begins anew

  module _ (reset : is_set (words IsReset) ≡ true) where
    set : (n : Named) → list_any (same_signal n) (register_names m) ≡ true → restarts n ≡ true → after.words n ≡ worth n
    set n any is =
        becomes_it n any (takes n ∙ ap (λ b. if b then is_set (words IsReset) || is_set (words Goes) else is_set (words Goes)) is
        ∙ ap (λ b. b || is_set (words Goes)) reset)

    -- what begins with 0
    zero_word : (w : ℕ) → (if is_set (words IsReset) then 0 else w) ≡ 0
    zero_word w = ap (λ b. if b then 0 else w) reset

    pub pc_begins : after.words Pc ≡ 0
    pc_begins =
        set Pc (alone_there m Pc refl) refl ∙ next_pc_is u m rules code memory h inputs
        ∙ zero_word (value u h.memories words (next_of m Pc))

    pub whole_begins : after.words Whole ≡ slice_index (h.memories Code) (after.words Pc)
    whole_begins = set Whole (alone_there m Whole refl) refl
        ∙ ap (slice_index (h.memories Code)) (sym (set Pc (alone_there m Pc refl) refl))

    pub halted_begins : after.words HasHalted ≡ 0
    halted_begins = set HasHalted (alone_there m HasHalted refl) refl ∙ zero_word (value u h.memories words (next_of m HasHalted))

    pub underway_begins : (delay : ℕ) → 0 < delay → delay ≤ m.control.delay → after.words (Underway delay) ≡ 0
    underway_begins delay some most = set (Underway delay) (underway_there m delay some most) refl
        ∙ zero_word (value u h.memories words (next_of m (Underway delay)))

    pub is_due_begins : (unit delay : ℕ) → unit < length m.units → 0 < delay → delay < longest m unit → after.words (IsDue unit delay) ≡ 0
    is_due_begins unit delay less some soon =
        set (IsDue unit delay) (is_due_there m unit delay less some soon) refl
        ∙ zero_word (value u h.memories words (next_of m (IsDue unit delay)))

    pub watch_begins : (w : Watch) → list_any (λ v. same_signal (Watches v) (Watches w)) (watch_registers m) ≡ true
        → after.words (Watches w) ≡ 0
    watch_begins w any =
        watch_becomes w any (ap (λ b. b || is_set (words Goes)) reset) ∙ zero_word (value u h.memories words (watch_next m w))
