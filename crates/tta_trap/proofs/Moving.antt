-- Whether the move of a bus lacks a word: the circuit tells it as the machine does.
use Rattle.std.proofs.Common.{◌≡◌, ℕ, suc, ◌<◌, ◌==◌, Bool, true, false, not, ◌&&◌, ◌||◌, List, ◌∷◌, length, map, slice_get, Option, Some, None, refl, sym, ap, ◌∙◌, arith}
use Rattle.std.specs.Prelude.{is_none, if◌then◌else◌, nat_lt}
use Rattle.std.specs.Option.{option_map_or}
use Rattle.std.specs.List.{position_or_len}
use Rattle.std.proofs.lemmas.Bool.{and_parts, false≢true, ltb-true, lt-ltb, ne_eqb}
use Rattle.tta_list.proofs.Lists.{all_one}
use Rattle.tta_image.proofs.EndsLemmas.{same_source_true, source_kept, guard_kept}
use Rattle.tta_arch.proofs.Guards.{same_guard}
use Rattle.tta_arch.specs.declared.ends.Source.TheVariants as source
use Rattle.tta_circuit.specs.Circuit.{Signal as OfSignal}
use Rattle.tta_hardware.specs.Cited.{Units, File, Guard, GuardRef, Source, Machine, IsMachine, is_guard, joins, is_same_guard, is_source_on, is_dest_on, has_guard, has_source_socket, guards_on, sources_on, same_source, source_code, guard_code, guard_width, payload_width, dest_width, Place, KeptReg, KeptImm, KeptRa, KeptPort, kept, guard_word, is_active, is_register, is_port, has_unset_guard, has_unset, Move, Instruction, State, read_source, effect_of, reads_unset_register, reads_unset_port, port, dest_code, Const, Not, Equal, bit, is_set, value}
use Rattle.tta_hardware.specs.Signals.{GuardOf, IsShort, SourceOf, DestOf, Signal as Named, Fetched, Acts, HasWord, LacksRegister, LacksPort, Watches, Expression}
use Rattle.tta_hardware.specs.Fields.{slot_at, short_mark}
use Rattle.tta_hardware.specs.Chains.{pick_from}
use Rattle.tta_hardware.specs.Wires.{never}
use Rattle.tta_hardware.specs.Stands.{Hardware, IsSettled, HasWords, HasPorts, has_place, is_written}
use Rattle.tta_hardware.specs.Laws.{HasFetched}
use Rattle.tta_hardware.proofs.Bits.{guard_some, dest_some}
use Rattle.tta_hardware.proofs.Picked.{first_at, at_map, picked}
use Rattle.tta_hardware.proofs.Bringing.{reg_there, imm_there, unit_there, buses_bring}
use Rattle.tta_hardware.proofs.Chained.{set_bit}
use Rattle.tta_hardware.proofs.WiresFit.{all_from, kept_filter}
use Rattle.tta_trap.specs.Watches.{lacks, has_move, guard_lacks, register_lacks, port_lacks, acts_on}
use Rattle.tta_trap.specs.Tells.{Knows, IsWatched}
use Rattle.tta_trap.proofs.Tests.{not_some}

-- the register of each guard is there
guard_place : (m : Machine) → IsMachine m → (bus k : ℕ) (g : Guard) → slice_get (guards_on m bus) k ≡ Some g
    → has_place m (KeptReg g.on.file g.on.index) ≡ true
guard_place m rules bus k g at =
    all_one (λ (g : Guard). has_place m (KeptReg g.on.file g.on.index) ≡ true) (guards_on m bus) k g
    (kept_filter (λ (g : Guard). has_place m (KeptReg g.on.file g.on.index) ≡ true) (λ g. g.bus == bus) m.guards
    (all_from (λ (g : Guard). has_place m (KeptReg g.on.file g.on.index) ≡ true) (is_guard (length m.buses) m.files) m.guards rules.guards
    there))
    at
  where
    narrow : (on : GuardRef) (o : Option File) → option_map_or (λ f. f.width == 1 && nat_lt on.index f.size) o false ≡ true
        → option_map_or (λ f. nat_lt on.index f.size) o false ≡ true
    narrow on None is = absurd (false≢true is)
    narrow on (Some f) is = (and_parts (f.width == 1) (nat_lt on.index f.size) is).1

    there : (g : Guard) → is_guard (length m.buses) m.files g ≡ true → has_place m (KeptReg g.on.file g.on.index) ≡ true
    there g good =
        narrow g.on (slice_get m.files g.on.file)
        (and_parts (nat_lt g.bus (length m.buses))
        (option_map_or (λ f. f.width == 1 && nat_lt g.on.index f.size) (slice_get m.files g.on.file) false) good).1

and_both : (a b c : Bool) → (a && (b && c)) ≡ (a && b && c)
and_both true b c = refl
and_both false b c = refl

module _ (u : Units) (m : Machine) (count : ℕ) (rules : IsMachine m) (h : Hardware) (env : Named → ℕ) (s : State) (i : Instruction)
    (settled : IsSettled u m h env) (words : HasWords m h.words s) (ports : HasPorts m h.words s) (fetched : HasFetched m env i)
    (knows : Knows m h.words s) (watched : IsWatched u m count h env) (bus : ℕ) (there : bus < length m.buses) where
  -- whether an expression is a test that holds
  abbrev set : Expression → Bool
  set e = is_set (value u h.memories env e)

  -- a place lacks a word where none was written, and a port where none has shown
  place_lacks : (p : Place) → is_written p ≡ true → has_place m p ≡ true → set (lacks p) ≡ is_none (kept s.written p)
  place_lacks p can has =
      set_bit (not (is_set (env (Watches (HasWord p))))) ∙ ap (λ n. not (is_set n)) (watched.has_word p) ∙ ap not (knows.places p can has)
      ∙ not_some (kept s.written p)

  shown_lacks : (unit : ℕ) → unit < length m.units → set (lacks (KeptPort unit)) ≡ is_none (port s unit)
  shown_lacks unit has =
      set_bit (not (is_set (env (Watches (HasWord (KeptPort unit)))))) ∙ ap (λ n. not (is_set n)) (watched.has_word (KeptPort unit))
      ∙ ap not (knows.ports unit has) ∙ not_some (port s unit)

  -- ---- a bus without a move

  still : slot_at i bus ≡ None → set (has_move m bus) ≡ false
  still none = by (nat_lt 0 (dest_width m bus)) refl where
    by : (b : Bool) → nat_lt 0 (dest_width m bus) ≡ b
        → set (if b then Not (Equal (OfSignal (Fetched (DestOf bus))) (Const (dest_width m bus) 0)) else never) ≡ false
    by true some =
        ap (λ n. is_set (bit (not (is_set (bit (n == 0))))))
        (fetched.dest bus there (ltb-true 0 (dest_width m bus) some) ∙ ap (λ o. option_map_or (λ v. dest_code m bus v.dst) o 0) none)
    by false some = refl

  -- ---- a bus with one

  module _ (v : Move) (here : slot_at i bus ≡ Some v) (joined : joins m bus v.src v.dst v.guard ≡ true) where
    ends : ((is_source_on m bus v.src && is_dest_on m bus v.dst) ≡ true) × (has_guard m bus v.guard ≡ true)
    ends = and_parts (is_source_on m bus v.src && is_dest_on m bus v.dst) (has_guard m bus v.guard) joined

    on : (is_source_on m bus v.src ≡ true) × (is_dest_on m bus v.dst ≡ true)
    on = and_parts (is_source_on m bus v.src) (is_dest_on m bus v.dst) ends.0

    moves : set (has_move m bus) ≡ true
    moves =
        let some = dest_some m bus v.dst on.1 in
        ap (λ b. set (if b then Not (Equal (OfSignal (Fetched (DestOf bus))) (Const (dest_width m bus) 0)) else never))
        (lt-ltb 0 (dest_width m bus) some)
        ∙ ap (λ n. is_set (bit (not (is_set (bit (n == 0))))))
        (fetched.dest bus there some ∙ ap (λ o. option_map_or (λ v. dest_code m bus v.dst) o 0) here)
        ∙ ap (λ b. is_set (bit (not (is_set (bit b))))) (ne_eqb (dest_code m bus v.dst) 0 (λ e. omega (arith, e)))

    -- whether its guard has no word
    guard_told : set (guard_lacks m bus) ≡ has_unset_guard (read_source s) (effect_of v)
    guard_told = by v.guard refl ends.1 where
      choices : List Expression
      choices = never ∷ map (λ g. lacks (KeptReg g.on.file g.on.index)) (guards_on m bus)

      choice : Expression
      choice = pick_from (guard_width m bus) (OfSignal (Fetched (GuardOf bus))) 0 choices never

      code : 0 < guard_width m bus → value u h.memories env (OfSignal (Fetched (GuardOf bus))) ≡ guard_code m bus v.guard
      code some = fetched.guard bus v there some here

      alone : v.guard ≡ None → (b : Bool) → nat_lt 0 (guard_width m bus) ≡ b → set (if b then choice else never) ≡ false
      alone is true some =
          ap is_set (picked u h.memories env (guard_width m bus) (OfSignal (Fetched (GuardOf bus))) never choices 0 0 never
          (code (ltb-true 0 (guard_width m bus) some) ∙ ap (guard_code m bus) is) refl)
      alone is false none = refl

      by : (g : Option GuardRef) → v.guard ≡ g → has_guard m bus g ≡ true
          → set (guard_lacks m bus) ≡ option_map_or (λ g. is_none (guard_word (read_source s) g)) g false
      by None is has = alone is (nat_lt 0 (guard_width m bus)) refl
      by (Some ref) is has =
          let none : Guard = record { bus = bus; on = ref } in
          let one = first_at (λ (g : Guard). is_same_guard g.on ref) (guards_on m bus) none (guard_kept m bus ref has) in
          let place : ℕ = position_or_len (λ (g : Guard). is_same_guard g.on ref) (guards_on m bus) in
          let same : one.0.on ≡ ref = same_guard one.0.on ref one.1.1 in
          let bits = guard_some m bus ref has in
          ap (λ b. set (if b then choice else never)) (lt-ltb 0 (guard_width m bus) bits)
          ∙ ap is_set (picked u h.memories env (guard_width m bus) (OfSignal (Fetched (GuardOf bus))) never choices 0 (suc place)
          (lacks (KeptReg one.0.on.file one.0.on.index)) (code bits ∙ ap (guard_code m bus) is ∙ omega arith)
          (at_map (λ (g : Guard). lacks (KeptReg g.on.file g.on.index)) (guards_on m bus) place one.0 one.1.0))
          ∙ place_lacks (KeptReg one.0.on.file one.0.on.index) refl (guard_place m rules bus place one.0 one.1.0)
          ∙ ap (λ (r : GuardRef). is_none (guard_word (read_source s) r)) same

    -- whether its source has no word of a kind
    module _ (test : Source → Expression) (kind : Source → Bool)
        (tells : (src : Source) → has_source_socket m bus src ≡ true → set (test src) ≡ (kind src && is_none (read_source s src)))
        (quiet : (w : ℕ) → kind (source.Value w) ≡ false) where
      abbrev choices : List Expression
      choices = map test (sources_on m bus)

      abbrev choice : Expression
      choice = pick_from (payload_width m bus) (OfSignal (Fetched (SourceOf bus))) 0 choices never

      longer : (src : Source) → v.src ≡ src → has_source_socket m bus src ≡ true → short_mark src ≡ 0
          → (not (is_set (env (Fetched (IsShort bus)))) && set choice) ≡ (kind src && is_none (read_source s src))
      longer src is socket long =
          let one = first_at (same_source src) (sources_on m bus) src (source_kept m bus src socket) in
          let same : src ≡ one.0 = same_source_true src one.0 one.1.1 in
          ap (λ n. not (is_set n) && set choice) (fetched.tag bus v there here ∙ ap short_mark is ∙ long)
          ∙ ap is_set (picked u h.memories env (payload_width m bus) (OfSignal (Fetched (SourceOf bus))) never choices
          0 (source_code m bus src) (test one.0)
          (fetched.code bus v there here (ap short_mark is ∙ long) ∙ ap (source_code m bus) is ∙ omega arith)
          (at_map test (sources_on m bus) (source_code m bus src) one.0 one.1.0))
          ∙ ap (λ x. set (test x)) (sym same) ∙ tells src socket

      source_told : (not (is_set (env (Fetched (IsShort bus)))) && set choice) ≡ (kind v.src && is_none (read_source s v.src))
      source_told = by v.src refl on.0 where
        by : (src : Source) → v.src ≡ src → is_source_on m bus src ≡ true
            → (not (is_set (env (Fetched (IsShort bus)))) && set choice) ≡ (kind src && is_none (read_source s src))
        by (source.Reg file index) is socket = longer (source.Reg file index) is socket refl
        by (source.Imm unit index) is socket = longer (source.Imm unit index) is socket refl
        by (source.Shown unit) is socket = longer (source.Shown unit) is socket refl
        by source.Ra is socket = longer source.Ra is socket refl
        by (source.Value word) is socket =
            ap (λ n. not (is_set n) && set choice) (fetched.tag bus v there here ∙ ap short_mark is)
            ∙ ap (λ b. b && is_none (read_source s (source.Value word))) (sym (quiet word))

      -- and whether the move acts besides
      acts_told : set (acts_on m bus test) ≡ (is_set (env (Acts bus)) && (kind v.src && is_none (read_source s v.src)))
      acts_told =
          let short = is_set (bit (not (is_set (env (Fetched (IsShort bus)))))) in
          set_bit (is_set (env (Acts bus)) && is_set (bit (short && set choice)))
          ∙ ap (λ b. is_set (env (Acts bus)) && b)
          (set_bit (short && set choice) ∙ ap (λ b. b && set choice) (set_bit (not (is_set (env (Fetched (IsShort bus))))))
          ∙ source_told)

    acts_too : has_unset_guard (read_source s) (effect_of v) ≡ false → is_set (env (Acts bus)) ≡ is_active (read_source s) (effect_of v)
    acts_too = (buses_bring u m h env s i bus v rules settled words ports fetched there here joined).acts

    lacking : (kind : Source → Bool) → has_unset_guard (read_source s) (effect_of v) ≡ false
        → (is_set (env (Acts bus)) && (kind v.src && is_none (read_source s v.src))) ≡ has_unset (read_source s) kind (effect_of v)
    lacking kind guarded =
        ap (λ b. b && (kind v.src && is_none (read_source s v.src))) (acts_too guarded)
        ∙ and_both (is_active (read_source s) (effect_of v)) (kind v.src) (is_none (read_source s v.src))

    registers_told : (src : Source) → has_source_socket m bus src ≡ true
        → set (register_lacks src) ≡ (is_register src && is_none (read_source s src))
    registers_told (source.Reg file index) socket = place_lacks (KeptReg file index) refl (reg_there m bus file index socket)
    registers_told (source.Imm unit index) socket = place_lacks (KeptImm unit index) refl (imm_there m bus unit index socket)
    registers_told (source.Shown unit) socket = refl
    registers_told source.Ra socket = place_lacks KeptRa refl refl
    registers_told (source.Value word) socket = refl

    ports_told : (src : Source) → has_source_socket m bus src ≡ true → set (port_lacks src) ≡ (is_port src && is_none (read_source s src))
    ports_told (source.Reg file index) socket = refl
    ports_told (source.Imm unit index) socket = refl
    ports_told (source.Shown unit) socket = shown_lacks unit (unit_there m bus unit socket)
    ports_told source.Ra socket = refl
    ports_told (source.Value word) socket = refl

    either_told : (a b c d : Bool) → a ≡ c → (c ≡ false → b ≡ d) → is_set (bit (a || b)) ≡ (c || d)
    either_told a b true d same rest = ap (λ x. is_set (bit (x || b))) same
    either_told a b false d same rest = ap (λ x. is_set (bit (x || b))) same ∙ set_bit b ∙ rest refl

    -- whether the move reads a register without a word
    pub register_told : is_set (env (Watches (LacksRegister bus))) ≡ reads_unset_register s (effect_of v)
    register_told =
        let either = is_set (bit (set (guard_lacks m bus) || set (acts_on m bus register_lacks))) in
        ap is_set (watched.lacks_register bus there) ∙ set_bit (set (has_move m bus) && either) ∙ ap (λ b. b && either) moves
        ∙ either_told (set (guard_lacks m bus)) (set (acts_on m bus register_lacks)) (has_unset_guard (read_source s) (effect_of v))
        (has_unset (read_source s) is_register (effect_of v)) guard_told
        (λ guarded. acts_told register_lacks is_register registers_told (λ w. refl) ∙ lacking is_register guarded)

    -- and whether it reads a port without one, where its guard has a word
    pub port_told : has_unset_guard (read_source s) (effect_of v) ≡ false
        → is_set (env (Watches (LacksPort bus))) ≡ reads_unset_port s (effect_of v)
    port_told guarded =
        let reads = set (acts_on m bus port_lacks) in
        ap is_set (watched.lacks_port bus there) ∙ set_bit (set (has_move m bus) && reads) ∙ ap (λ b. b && reads) moves
        ∙ acts_told port_lacks is_port ports_told (λ w. refl) ∙ lacking is_port guarded

  -- where there is no move, neither is told
  pub no_register : slot_at i bus ≡ None → is_set (env (Watches (LacksRegister bus))) ≡ false
  no_register none =
      let either = is_set (bit (set (guard_lacks m bus) || set (acts_on m bus register_lacks))) in
      ap is_set (watched.lacks_register bus there) ∙ set_bit (set (has_move m bus) && either) ∙ ap (λ b. b && either) (still none)

  pub no_port : slot_at i bus ≡ None → is_set (env (Watches (LacksPort bus))) ≡ false
  no_port none =
      let reads = set (acts_on m bus port_lacks) in
      ap is_set (watched.lacks_port bus there) ∙ set_bit (set (has_move m bus) && reads) ∙ ap (λ b. b && reads) (still none)
