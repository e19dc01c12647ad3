-- What the buses bring.
use Rattle.std.proofs.Common.{◌≡◌, ℕ, zero, suc, ◌<◌, ◌==◌, Bool, true, false, not, ◌&&◌, List, [], ◌∷◌, length, map, slice_get, Option, Some, None, refl, sym, ap, ◌∙◌, subst, arith, ◌||◌, ◌*◌, ◌^◌, ◌+◌}
use Rattle.std.specs.Prelude.{is_some, is_none, if◌then◌else◌, option_and_then, nat_lt}
use Rattle.std.specs.Option.{option_map_or}
use Rattle.std.specs.List.{list_any, list_all, position_or_len}
use Rattle.std.proofs.lemmas.Option.{same_Some}
use Rattle.std.proofs.lemmas.Bool.{and_parts, false≢true, ltb-true, lt-ltb}
use Rattle.tta_hardware.specs.Cited.{Units, File, ImmUnit, Guard, GuardRef, Source, Machine, IsMachine, is_guard, joins, within, has_socket, is_same_guard, is_source_on, is_dest_on, has_guard, has_source_socket, guards_on, sources_on, same_source, source_code, guard_code, guard_width, payload_width, KeptReg, KeptImm, KeptRa, KeptPort, guard_word, passes, is_active, has_unset_guard, Move, Instruction, State, read_source, effect_of, Const, Join, bit, is_set, value}
use Rattle.tta_arch.specs.declared.parts.Unit.{Unit as OpUnit}
use Rattle.tta_arch.specs.declared.ends.Source.TheVariants as source
use Rattle.tta_arch.specs.Effects.{width_of}
use Rattle.tta_arch.proofs.Guards.{same_guard}
use Rattle.tta_image.proofs.EndsLemmas.{same_source_true, source_kept, guard_kept}
use Rattle.tta_circuit.specs.Circuit.{Signal as OfSignal}
use Rattle.tta_hardware.specs.Signals.{GuardOf, SourceOf, ShortOf, Signal as Named, Keeps, Fetched, Word, Acts, Expression}
use Rattle.tta_hardware.specs.Fields.{slot_at, short_mark}
use Rattle.tta_hardware.specs.Chains.{pick_from}
use Rattle.tta_hardware.specs.Wires.{bus_acts, bus_word, passing, source_word, never, nothing}
use Rattle.tta_hardware.specs.Stands.{fresh_in, Hardware, IsSettled, HasWords, HasPorts, has_place}
use Rattle.tta_hardware.specs.Laws.{HasFetched, BusesBring}
use Rattle.tta_hardware.proofs.Bits.{guard_some}
use Rattle.tta_hardware.proofs.Picked.{first_at, at_map, picked}
use Rattle.tta_hardware.proofs.Fresh.{fresh_value}

-- ---- places that there are

-- the register of a guard
guard_there : (buses bus : ℕ) (files : List File) (on : GuardRef) (gs : List Guard) → list_all (is_guard buses files) gs ≡ true
    → list_any (λ g. g.bus == bus && is_same_guard g.on on) gs ≡ true
    → option_map_or (λ f. nat_lt on.index f.size) (slice_get files on.file) false ≡ true
guard_there buses bus files on [] all some = absurd (false≢true some)
guard_there buses bus files on (g ∷ gs) all some =
    let parts = and_parts (is_guard buses files g) (list_all (is_guard buses files) gs) all in
    by (g.bus == bus && is_same_guard g.on on) refl some parts.0 (guard_there buses bus files on gs parts.1)
  where
    narrow : (o : Option File) → option_map_or (λ f. f.width == 1 && nat_lt on.index f.size) o false ≡ true
        → option_map_or (λ f. nat_lt on.index f.size) o false ≡ true
    narrow None is = absurd (false≢true is)
    narrow (Some f) is = (and_parts (f.width == 1) (nat_lt on.index f.size) is).1

    by : (b : Bool) → (g.bus == bus && is_same_guard g.on on) ≡ b → (b || list_any (λ g. g.bus == bus && is_same_guard g.on on) gs) ≡ true
        → is_guard buses files g ≡ true
        → (list_any (λ g. g.bus == bus && is_same_guard g.on on) gs ≡ true
        → option_map_or (λ f. nat_lt on.index f.size) (slice_get files on.file) false ≡ true)
        → option_map_or (λ f. nat_lt on.index f.size) (slice_get files on.file) false ≡ true
    by true is any good rest =
        let same : g.on ≡ on = same_guard g.on on (and_parts (g.bus == bus) (is_same_guard g.on on) is).1 in
        let file = (and_parts (nat_lt g.bus buses)
        (option_map_or (λ f. f.width == 1 && nat_lt g.on.index f.size) (slice_get files g.on.file) false) good).1 in
        narrow (slice_get files on.file)
        (subst (λ (r : GuardRef). option_map_or (λ f. f.width == 1 && nat_lt r.index f.size) (slice_get files r.file) false ≡ true) same
        file)
    by false is any good rest = rest any

-- a register whose file has a socket
pub reg_there : (m : Machine) (bus file index : ℕ) → has_source_socket m bus (source.Reg file index) ≡ true
    → has_place m (KeptReg file index)
    ≡ true
reg_there m bus file index on = by (slice_get m.files file) on where
  in_size : (f : File) (b : Bool) → has_socket m false (if b then Some f.out else None) bus ≡ true → b ≡ true
  in_size f true is = refl
  in_size f false is = absurd (false≢true is)

  by : (o : Option File) → has_socket m false (option_and_then (λ f. within index f.size f.out) o) bus ≡ true
      → option_map_or (λ f. nat_lt index f.size) o false ≡ true
  by None is = absurd (false≢true is)
  by (Some f) is = in_size f (nat_lt index f.size) is

-- an immediate register whose unit has one
pub imm_there : (m : Machine) (bus unit index : ℕ) → has_source_socket m bus (source.Imm unit index) ≡ true
    → has_place m (KeptImm unit index)
    ≡ true
imm_there m bus unit index on = by (slice_get m.imms unit) on where
  in_size : (f : ImmUnit) (b : Bool) → has_socket m false (if b then Some f.out else None) bus ≡ true → b ≡ true
  in_size f true is = refl
  in_size f false is = absurd (false≢true is)

  by : (o : Option ImmUnit) → has_socket m false (option_and_then (λ f. within index f.size f.out) o) bus ≡ true
      → option_map_or (λ f. nat_lt index f.size) o false ≡ true
  by None is = absurd (false≢true is)
  by (Some f) is = in_size f (nat_lt index f.size) is

-- what a list has stands within its length
pub within_list : {A : Type 0} (xs : List A) (k : ℕ) → is_some (slice_get xs k) ≡ true → k < length xs
within_list [] k is = absurd (false≢true is)
within_list (x ∷ xs) zero is = omega arith
within_list (x ∷ xs) (suc k) is = let rest = within_list xs k is in omega (arith, rest)

pub unit_there : (m : Machine) (bus unit : ℕ) → has_source_socket m bus (source.Shown unit) ≡ true → unit < length m.units
unit_there m bus unit on = within_list m.units unit (by (slice_get m.units unit) on) where
  by : (o : Option OpUnit) → has_socket m false (option_and_then (λ q. q.result) o) bus ≡ true → is_some o ≡ true
  by None is = absurd (false≢true is)
  by (Some q) is = refl

-- ---- one bus

module _ (u : Units) (m : Machine) (rules : IsMachine m) (h : Hardware) (env : Named → ℕ) (s : State) (i : Instruction)
    (settled : IsSettled u m h env)
    (words : HasWords m h.words s) (ports : HasPorts m h.words s) (fetched : HasFetched m env i) (bus : ℕ) (there : bus < length m.buses)
    (v : Move)
    (here : slot_at i bus ≡ Some v) (joined : joins m bus v.src v.dst v.guard ≡ true) where
  ends : ((is_source_on m bus v.src && is_dest_on m bus v.dst) ≡ true) × (has_guard m bus v.guard ≡ true)
  ends = and_parts (is_source_on m bus v.src && is_dest_on m bus v.dst) (has_guard m bus v.guard) joined

  not_not : (b : Bool) → is_set (bit (not (not b))) ≡ b
  not_not true = refl
  not_not false = refl

  -- a guard lets its move act, as its register says
  passed : (g : GuardRef) (w : ℕ) → env (Keeps (KeptReg g.file g.index)) ≡ w → is_set (value u h.memories env (passing g)) ≡ passes g w
  passed g w is = by g.inverted where
    by : (b : Bool) → is_set (value u h.memories env (passing (record g { inverted = b }))) ≡ passes (record g { inverted = b }) w
    by true = ap (λ n. is_set (bit (not (is_set n)))) is ∙ not_not (w == 0)
    by false = ap is_set is

  -- whether the move acts
  pub acts : has_unset_guard (read_source s) (effect_of v) ≡ false → is_set (env (Acts bus)) ≡ is_active (read_source s) (effect_of v)
  acts set = ap is_set (settled.acts bus there) ∙ by v.guard refl ends.1 set where
    code : 0 < guard_width m bus → value u h.memories env (OfSignal (Fetched (GuardOf bus))) ≡ guard_code m bus v.guard
    code some = fetched.guard bus v there some here

    choice : Expression
    choice =
        pick_from (guard_width m bus) (OfSignal (Fetched (GuardOf bus))) 0 (Const 1 1 ∷ map (λ g. passing g.on) (guards_on m bus)) never

    -- without a guard it does
    alone : v.guard ≡ None → (b : Bool) → nat_lt 0 (guard_width m bus) ≡ b
        → is_set (value u h.memories env (if b then choice else Const 1 1)) ≡ true
    alone is true some =
        ap is_set (picked u h.memories env (guard_width m bus) (OfSignal (Fetched (GuardOf bus))) never
        (Const 1 1 ∷ map (λ g. passing g.on) (guards_on m bus)) 0 0 (Const 1 1)
        (code (ltb-true 0 (guard_width m bus) some) ∙ ap (guard_code m bus) is) refl)
    alone is false none = refl

    word_of : (on : GuardRef) → has_guard m bus (Some on) ≡ true → (o : Option ℕ) → guard_word (read_source s) on ≡ o → is_none o ≡ false
        → is_set (value u h.memories env (passing on)) ≡ option_map_or (passes on) o false
    word_of on has None is some = absurd (false≢true (sym some))
    word_of on has (Some w) is some =
        passed on w (settled.places (KeptReg on.file on.index)
        ∙ words (KeptReg on.file on.index) w refl (guard_there (length m.buses) bus m.files on m.guards rules.guards has) is)

    by : (g : Option GuardRef) → v.guard ≡ g → has_guard m bus g ≡ true
        → option_map_or (λ g. is_none (guard_word (read_source s) g)) g false ≡ false
        → is_set (value u h.memories env (bus_acts m bus))
        ≡ option_map_or (λ g. option_map_or (passes g) (guard_word (read_source s) g) false) g true
    by None is has some = alone is (nat_lt 0 (guard_width m bus)) refl
    by (Some on) is has some =
        let none : Guard = record { bus = bus; on = on } in
        let one = first_at (λ (g : Guard). is_same_guard g.on on) (guards_on m bus) none (guard_kept m bus on has) in
        let place : ℕ = position_or_len (λ (g : Guard). is_same_guard g.on on) (guards_on m bus) in
        let same : one.0.on ≡ on = same_guard one.0.on on one.1.1 in
        let bits = guard_some m bus on has in
        ap (λ b. is_set (value u h.memories env (if b then choice else Const 1 1))) (lt-ltb 0 (guard_width m bus) bits)
        ∙ ap is_set (picked u h.memories env (guard_width m bus) (OfSignal (Fetched (GuardOf bus))) never
        (Const 1 1 ∷ map (λ g. passing g.on) (guards_on m bus)) 0 (suc place) (passing one.0.on)
        (code bits ∙ ap (guard_code m bus) is ∙ omega arith)
        (at_map (λ (g : Guard). passing g.on) (guards_on m bus) place one.0 one.1.0))
        ∙ ap (λ (r : GuardRef). is_set (value u h.memories env (passing r))) same
        ∙ word_of on has (guard_word (read_source s) on) refl some

  -- zeros above a word leave it
  wide : (b : Bool) (e : Expression) → value u h.memories env (if b then Join 1 (Const 31 0) e else e) ≡ value u h.memories env e
  wide true e = none (value u h.memories env e) where
    none : (x : ℕ) → 0 * 2 ^ 1 + x ≡ x
    none x = omega arith
  wide false e = refl

  -- the word of a source that is no short word
  source_has : (src : Source) (w : ℕ) → has_source_socket m bus src ≡ true → read_source s src ≡ Some w
      → value u h.memories env (source_word m src) ≡ w
  source_has (source.Reg file index) w on is = wide (width_of m file == 1) (OfSignal (Keeps (KeptReg file index)))
      ∙ settled.places (KeptReg file index) ∙ words (KeptReg file index) w refl (reg_there m bus file index on) is
  source_has (source.Imm unit index) w on is = settled.places (KeptImm unit index)
      ∙ words (KeptImm unit index) w refl (imm_there m bus unit index on) is
  source_has (source.Shown unit) w on is =
      settled.port unit (unit_there m bus unit on) ∙ fresh_value u m h env settled unit 1 (OfSignal (Keeps (KeptPort unit)))
      ∙ ap (fresh_in m h.words unit 1) (settled.places (KeptPort unit)) ∙ ports unit w (unit_there m bus unit on) is
  source_has source.Ra w on is = settled.places KeptRa ∙ words KeptRa w refl refl is
  source_has (source.Value word) w on is = absurd (false≢true on)

  -- the word of the bus, where it is no short word
  longer : (src : Source) → v.src ≡ src → has_source_socket m bus src ≡ true → short_mark src ≡ 0 → (w : ℕ) → read_source s src ≡ Some w
      → value u h.memories env (bus_word m bus) ≡ w
  longer src is on long w reads =
      let one = first_at (same_source src) (sources_on m bus) src (source_kept m bus src on) in
      let same : src ≡ one.0 = same_source_true src one.0 one.1.1 in
      ap (λ n. if is_set n then value u h.memories env (OfSignal (Fetched (ShortOf bus)))
      else value u h.memories env
      (pick_from (payload_width m bus) (OfSignal (Fetched (SourceOf bus))) 0 (map (source_word m) (sources_on m bus)) nothing))
      (fetched.tag bus v there here ∙ ap short_mark is ∙ long)
      ∙ picked u h.memories env (payload_width m bus) (OfSignal (Fetched (SourceOf bus))) nothing (map (source_word m) (sources_on m bus))
      0 (source_code m bus src) (source_word m one.0)
      (fetched.code bus v there here (ap short_mark is ∙ long) ∙ ap (source_code m bus) is ∙ omega arith)
      (at_map (source_word m) (sources_on m bus) (source_code m bus src) one.0 one.1.0)
      ∙ ap (λ x. value u h.memories env (source_word m x)) (sym same) ∙ source_has src w on reads

  -- the word of the bus
  pub bus_has : (w : ℕ) → read_source s v.src ≡ Some w → env (Word bus) ≡ w
  bus_has w reads = settled.word bus there
      ∙ by v.src refl (and_parts (is_source_on m bus v.src) (is_dest_on m bus v.dst) ends.0).0 reads where
        by : (src : Source) → v.src ≡ src → is_source_on m bus src ≡ true → read_source s src ≡ Some w
            → value u h.memories env (bus_word m bus) ≡ w
        by (source.Reg file index) is on reads = longer (source.Reg file index) is on refl w reads
        by (source.Imm unit index) is on reads = longer (source.Imm unit index) is on refl w reads
        by (source.Shown unit) is on reads = longer (source.Shown unit) is on refl w reads
        by source.Ra is on reads = longer source.Ra is on refl w reads
        by (source.Value word) is on reads =
            ap (λ n. if is_set n then value u h.memories env (OfSignal (Fetched (ShortOf bus)))
            else value u h.memories env
            (pick_from (payload_width m bus) (OfSignal (Fetched (SourceOf bus))) 0 (map (source_word m) (sources_on m bus)) nothing))
            (fetched.tag bus v there here ∙ ap short_mark is)
            ∙ fetched.short bus v word there here is ∙ same_Some word w reads

pub buses_bring : BusesBring
buses_bring u m h env s i bus v rules settled words ports fetched there here joined = record {
  acts = acts u m rules h env s i settled words ports fetched bus there v here joined;
  word = bus_has u m rules h env s i settled words ports fetched bus there v here joined;
}
