-- What the moves of an instruction read and bring is the same for what is held and for the state that it stands for.
use Rattle.std.proofs.Common.{◌≡◌, ℕ, ◌<◌, Bool, true, false, ◌&&◌, ◌||◌, IsTrue, List, [], ◌∷◌, ◌++◌, map, Option, Some, None, refl, sym, ap, ◌∙◌, subst, arith}
use Rattle.std.specs.Prelude.{is_none, slice_get, option_map, if◌then◌else◌}
use Rattle.std.specs.Option.{option_map_or}
use Rattle.std.specs.List.{list_any, filter_map, cons_option, AllByRecursion}
use Rattle.std.proofs.lemmas.Bool.{and_parts, ltb-true}
use Rattle.std.proofs.lemmas.List.Elements.{filter_map-append}
use Rattle.std.proofs.lemmas.List.Folds.{list_any-append}
use Rattle.std.proofs.Math.Bool.{or-false}
use Rattle.tta_sim.specs.Cited.{Template, GuardRef, Source, Machine, Imm, KeptReg, KeptImm, KeptRa, Effect, Reads, Brought, long_effect, passes, guard_word, is_active, moved, bring, is_register, is_port, has_unset_guard, has_unset, Move, Long, Instruction, Result', State, read_source, effect_of, effects_of, long_effects, reads_unset_register, reads_unset_port, latest}
use Rattle.tta_arch.specs.declared.ends.Source.TheVariants as source
use Rattle.tta_sim.specs.Places.{HasWritten}
use Rattle.tta_sim.specs.Results.{Results, AreResultsOf, shown_by}
use Rattle.tta_sim.specs.Moves.{is_readable, is_askable, is_reachable, is_possible, is_possible_slot, reads_of, lacks_register, effects_in, arrivals_of, brought_of}

-- ---- two ways to read

-- two readings agree on the guard and on the source of an effect
pub record Agree (r q : Reads) (e : Effect) : Type 0 where
  pub guard : (g : GuardRef) → e.guard ≡ Some g → r (source.Reg g.file g.index) ≡ q (source.Reg g.file g.index)
  pub src : r e.src ≡ q e.src

module _ (r q : Reads) (e : Effect) (same : Agree r q e) where
  active_same : is_active r e ≡ is_active q e
  active_same = by e.guard refl where
    by : (o : Option GuardRef) → e.guard ≡ o
        → option_map_or (λ g. option_map_or (passes g) (guard_word r g) false) o true ≡ option_map_or (λ g. option_map_or (passes g) (guard_word q g) false) o true
    by None is = refl
    by (Some g) is = ap (λ word. option_map_or (passes g) word false) (same.guard g is)

  unset_guard_same : has_unset_guard r e ≡ has_unset_guard q e
  unset_guard_same = by e.guard refl where
    by : (o : Option GuardRef) → e.guard ≡ o → option_map_or (λ g. is_none (guard_word r g)) o false ≡ option_map_or (λ g. is_none (guard_word q g)) o false
    by None is = refl
    by (Some g) is = ap is_none (same.guard g is)

  unset_same : (kind : Source → Bool) → has_unset r kind e ≡ has_unset q kind e
  unset_same kind = ap (λ b. b && kind e.src && is_none (r e.src)) active_same ∙ ap (λ word. is_active q e && kind e.src && is_none word) same.src

  lacks_same : lacks_register r e ≡ lacks_register q e
  lacks_same = ap (λ b. b || has_unset r is_register e) unset_guard_same ∙ ap (λ b. has_unset_guard q e || b) (unset_same is_register)

  bring_same : bring r e ≡ bring q e
  bring_same =
      let moves : moved r e ≡ moved q e = ap (λ b. if b then r e.src else None) active_same ∙ ap (λ word. if is_active q e then word else None) same.src in
      ap (λ o. option_map_or (λ word. Some (e.target, word)) o None) moves

-- ---- what is held and a state

pub port_is : (o : Option Result') → option_map (λ r. r.value) o ≡ option_map_or (λ r. Some r.value) o None
port_is None = refl
port_is (Some r) = refl

module _ (places : List (Option ℕ)) (r : Results) (s : State) (units : ℕ) (written : HasWritten places s.written) (results : AreResultsOf s.started s.cycle r)
    (size : r.units ≡ units) where
  pub read_same : (src : Source) → is_readable units src ≡ true → reads_of places (shown_by r) src ≡ read_source s src
  read_same (source.Reg file index) there = written (KeptReg file index) there
  read_same (source.Imm unit index) there = written (KeptImm unit index) there
  read_same (source.Shown unit) there =
      let within : unit < r.units = omega (arith, ltb-true unit units there, size) in
      results.shown unit within ∙ port_is (latest unit s.cycle s.started)
  read_same source.Ra there = written KeptRa refl
  read_same (source.Value word) there = refl

  agree : (v : Move) → is_possible units v ≡ true → Agree (reads_of places (shown_by r)) (read_source s) (effect_of v)
  agree v possible =
      let one = and_parts (is_askable v.guard) (is_readable units v.src && is_reachable units v.dst) possible in
      let two = and_parts (is_readable units v.src) (is_reachable units v.dst) one.1 in
      record {
        guard = λ g is. read_same (source.Reg g.file g.index) (subst (λ o. is_askable o ≡ true) is one.0);
        src = read_same v.src two.0;
      }

  -- each slot is empty, or has a move whose ends are there
  abbrev Possible : List (Option Move) → Type 0
  Possible slots = AllByRecursion (λ slot. IsTrue (is_possible_slot units slot)) slots

  lacks_in : (slots : List (Option Move)) → Possible slots → list_any (lacks_register (reads_of places (shown_by r))) (effects_in slots) ≡ list_any (reads_unset_register s) (effects_in slots)
  lacks_in [] possible = refl
  lacks_in (None ∷ slots) possible = lacks_in slots possible.1
  lacks_in (Some v ∷ slots) possible =
      let same = agree v possible.0 in
      rw (lacks_same (reads_of places (shown_by r)) (read_source s) (effect_of v) same, lacks_in slots possible.1) refl

  ports_in : (slots : List (Option Move)) → Possible slots → list_any (has_unset (reads_of places (shown_by r)) is_port) (effects_in slots) ≡ list_any (reads_unset_port s) (effects_in slots)
  ports_in [] possible = refl
  ports_in (None ∷ slots) possible = ports_in slots possible.1
  ports_in (Some v ∷ slots) possible =
      let same = agree v possible.0 in
      rw (unset_same (reads_of places (shown_by r)) (read_source s) (effect_of v) same is_port, ports_in slots possible.1) refl

  brings_in : (slots : List (Option Move)) → Possible slots → map brought_of (arrivals_of (reads_of places (shown_by r)) slots) ≡ filter_map (bring (read_source s)) (effects_in slots)
  brings_in [] possible = refl
  brings_in (None ∷ slots) possible = brings_in slots possible.1
  brings_in (Some v ∷ slots) possible =
      let reads = reads_of places (shown_by r) in
      let same = bring_same reads (read_source s) (effect_of v) (agree v possible.0) in
      let rest = brings_in slots possible.1 in
      one (moved reads (effect_of v)) ∙ ap (λ o. cons_option o (map brought_of (arrivals_of reads slots))) same ∙ ap (cons_option (bring (read_source s) (effect_of v))) rest
    where
      one : (o : Option ℕ) → map brought_of (cons_option (option_map (λ word. record { dst = v.dst; word = word }) o) (arrivals_of (reads_of places (shown_by r)) slots))
          ≡ cons_option (option_map_or (λ word. Some ((effect_of v).target, word)) o None) (map brought_of (arrivals_of (reads_of places (shown_by r)) slots))
      one None = refl
      one (Some word) = refl

-- ---- with the long immediate

-- what a long immediate brings
abbrev pub long_brought : Machine → Option Long → List Brought
long_brought m None = []
long_brought m (Some l) = option_map_or (λ t. (Imm t.imm t.reg, l.value) ∷ []) (slice_get m.templates l.template) []

module _ (m : Machine) (s : State) where
  -- it reads nothing, and always brings its word
  long_lacks : (long : Option Long) → list_any (reads_unset_register s) (long_effects m long) ≡ false
  long_lacks None = refl
  long_lacks (Some l) = by (slice_get m.templates l.template) where
    by : (o : Option Template) → list_any (reads_unset_register s) (option_map_or (λ t. long_effect t.imm t.reg l.value ∷ []) o []) ≡ false
    by None = refl
    by (Some t) = refl

  long_ports : (long : Option Long) → list_any (reads_unset_port s) (long_effects m long) ≡ false
  long_ports None = refl
  long_ports (Some l) = by (slice_get m.templates l.template) where
    by : (o : Option Template) → list_any (reads_unset_port s) (option_map_or (λ t. long_effect t.imm t.reg l.value ∷ []) o []) ≡ false
    by None = refl
    by (Some t) = refl

  long_brings : (long : Option Long) → filter_map (bring (read_source s)) (long_effects m long) ≡ long_brought m long
  long_brings None = refl
  long_brings (Some l) = by (slice_get m.templates l.template) where
    by : (o : Option Template) → filter_map (bring (read_source s)) (option_map_or (λ t. long_effect t.imm t.reg l.value ∷ []) o []) ≡ option_map_or (λ t. (Imm t.imm t.reg, l.value) ∷ []) o []
    by None = refl
    by (Some t) = refl

module _ (places : List (Option ℕ)) (r : Results) (s : State) (units : ℕ) (written : HasWritten places s.written) (results : AreResultsOf s.started s.cycle r)
    (size : r.units ≡ units) (m : Machine) (i : Instruction)
    (possible : AllByRecursion (λ slot. IsTrue (is_possible_slot units slot)) i.moves) where
  pub lacks_all : list_any (lacks_register (reads_of places (shown_by r))) (effects_in i.moves) ≡ list_any (reads_unset_register s) (effects_of m i)
  lacks_all =
      lacks_in places r s units written results size i.moves possible ∙ sym (or-false (list_any (reads_unset_register s) (effects_in i.moves)))
      ∙ ap (λ b. list_any (reads_unset_register s) (effects_in i.moves) || b) (sym (long_lacks m s i.long))
      ∙ sym (list_any-append (reads_unset_register s) (effects_in i.moves) (long_effects m i.long))

  pub ports_all : list_any (has_unset (reads_of places (shown_by r)) is_port) (effects_in i.moves) ≡ list_any (reads_unset_port s) (effects_of m i)
  ports_all =
      ports_in places r s units written results size i.moves possible ∙ sym (or-false (list_any (reads_unset_port s) (effects_in i.moves)))
      ∙ ap (λ b. list_any (reads_unset_port s) (effects_in i.moves) || b) (sym (long_ports m s i.long))
      ∙ sym (list_any-append (reads_unset_port s) (effects_in i.moves) (long_effects m i.long))

  pub brings_all : filter_map (bring (read_source s)) (effects_of m i) ≡ map brought_of (arrivals_of (reads_of places (shown_by r)) i.moves) ++ long_brought m i.long
  brings_all =
      filter_map-append (bring (read_source s)) (effects_in i.moves) (long_effects m i.long)
      ∙ ap (λ bs. bs ++ filter_map (bring (read_source s)) (long_effects m i.long)) (sym (brings_in places r s units written results size i.moves possible))
      ∙ ap (λ bs. map brought_of (arrivals_of (reads_of places (shown_by r)) i.moves) ++ bs) (long_brings m s i.long)
