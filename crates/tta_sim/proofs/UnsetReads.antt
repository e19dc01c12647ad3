-- A decoded instruction lacks the words that its moves lack.
use Rattle.std.proofs.Common.{◌≡◌, ℕ, Bool, true, false, ◌&&◌, ◌||◌, List, [], ◌∷◌, map, Option, Some, None, refl, sym, ap, ◌∙◌}
use Rattle.std.specs.Prelude.{is_none, is_some, option_map, option_to_list, slice_get, slice_index_or}
use Rattle.std.specs.Option.{option_map_or}
use Rattle.std.specs.List.{list_any, filter_map, AllByRecursion}
use Rattle.std.proofs.lemmas.List.Folds.{list_any-append}
use Rattle.tta_sim.specs.Cited.{GuardRef, Source, Dest, Template, UnitOp, Machine, Reads, KeptImm, op_at, Move, Long, Instruction, effect_of, moves_of}
use Rattle.tta_arch.specs.declared.ends.Source.TheVariants as source
use Rattle.tta_arch.specs.declared.ends.Dest.TheVariants as dest
use Rattle.tta_sim.specs.declared.decoded.DecodedSource.TheVariants as decoded
use Rattle.tta_sim.specs.declared.decoded.DecodedWrite.{DecodedWrite}
use Rattle.tta_sim.specs.declared.decoded.DecodedStart.{DecodedStart}
use Rattle.tta_sim.specs.declared.decoded.DecodedControl.{DecodedControl}
use Rattle.tta_sim.specs.declared.decoded.Reading.{Reading}
use Rattle.tta_sim.specs.declared.decoded.Line.{Line}
use Rattle.tta_sim.specs.Places.{number_of}
use Rattle.tta_sim.specs.Moves.{reads_of, effects_in}
use Rattle.tta_sim.specs.Decoded.{source_decoded, reading_of, write_decoded, start_decoded, control_decoded, long_decoded, has_operation, IsDecoded}
use Rattle.tta_sim.specs.declared.lines.Missing.{Missing}
use Rattle.tta_sim.specs.declared.lines.Missing.TheVariants as missing
use Rattle.tta_sim.specs.Lines.{is_let, source_word}
use Rattle.tta_sim.specs.Unset.{lacks_word, lacks_for, is_place_source, is_port_source}
use Rattle.tta_sim.proofs.Lining.{any-filter_map}
use Rattle.tta_sim.proofs.Brought.{any_three}
use Rattle.tta_sim.proofs.Possible.{operations_there}

-- a test of three
pub or_three : (a b c d e x y z : Bool) → a ≡ x → b ≡ y → c ≡ z → d ≡ (b || c) → e ≡ (a || d) → e ≡ (x || (y || z))
or_three a b c d e x y z one two three last all =
    all ∙ ap (λ q. a || q) last ∙ ap (λ q. q || (b || c)) one ∙ ap (λ q. x || (q || c)) two ∙ ap (λ q. x || (y || q)) three

module _ (what : Missing) (places : List (Option ℕ)) (shown : ℕ → Option ℕ) where
  abbrev pub reads : Reads
  reads = reads_of places shown

  abbrev lacks : Reading → Bool
  lacks r = lacks_word what places shown r

  -- a decoded move lacks what its move lacks
  place_same : (v : Move) → lacks (reading_of v) ≡ lacks_for what reads (effect_of v)
  place_same v = by what v.guard v.src where
    by : (k : Missing) (guard : Option GuardRef) (src : Source) → let w : Move = record v { guard = guard; src = src } in
        lacks_word k places shown (reading_of w) ≡ lacks_for k reads (effect_of w)
    by missing.Port None (source.Reg file index) = refl
    by missing.Port None (source.Imm unit index) = refl
    by missing.Port None (source.Shown unit) = refl
    by missing.Port None source.Ra = refl
    by missing.Port None (source.Value word) = refl
    by missing.Port (Some g) (source.Reg file index) = refl
    by missing.Port (Some g) (source.Imm unit index) = refl
    by missing.Port (Some g) (source.Shown unit) = refl
    by missing.Port (Some g) source.Ra = refl
    by missing.Port (Some g) (source.Value word) = refl
    by missing.Place None (source.Reg file index) = refl
    by missing.Place None (source.Imm unit index) = refl
    by missing.Place None (source.Shown unit) = refl
    by missing.Place None source.Ra = refl
    by missing.Place None (source.Value word) = refl
    by missing.Place (Some g) (source.Reg file index) = refl
    by missing.Place (Some g) (source.Imm unit index) = refl
    by missing.Place (Some g) (source.Shown unit) = refl
    by missing.Place (Some g) source.Ra = refl
    by missing.Place (Some g) (source.Value word) = refl

  module _ (m : Machine) (back : ℕ) where
    abbrev in_write : Move → Bool
    in_write v = option_map_or {T = DecodedWrite} (λ w. lacks w.reading) (write_decoded m back v) false

    abbrev in_start : Move → Bool
    in_start v = option_map_or {T = DecodedStart} (λ s. lacks s.reading) (start_decoded m v) false

    abbrev in_control : Move → Bool
    in_control v = option_map_or {T = DecodedControl} (λ t. lacks t.reading) (control_decoded v) false

    or_end : (b : Bool) → b ≡ (b || (false || false))
    or_end true = refl
    or_end false = refl

    or_mid : (b : Bool) → b ≡ (false || (b || false))
    or_mid true = refl
    or_mid false = refl

    -- a call's write has the guard of the call, and its source lacks nothing
    or_call : (g l k n : Bool) → (g || (l && k) && n) ≡ ((g || (l && false) && false) || (false || (g || (l && k) && n)))
    or_call true l k n = refl
    or_call false true k n = refl
    or_call false false k n = refl

    part_same : (v : Move) → has_operation m v ≡ true → lacks (reading_of v) ≡ (in_write v || (in_start v || in_control v))
    part_same v there = by v.dst there where
      at : Dest → Move
      at d = record v { dst = d }

      or_port : (l k n : Bool) → ((l && k) && n) ≡ (((l && false) && false) || (false || ((l && k) && n)))
      or_port true k n = refl
      or_port false k n = refl

      call : (k : Missing) → lacks_word k places shown (reading_of v)
          ≡ (lacks_word k places shown (record (reading_of v) { src = decoded.Word back }) || (false || lacks_word k places shown (reading_of v)))
      call missing.Place =
          or_call (option_map_or (λ g. is_none (slice_index_or places g.place None)) (reading_of v).guard false) (is_let places (reading_of v))
          (is_place_source (source_decoded v.src)) (is_none (source_word places shown (source_decoded v.src)))
      call missing.Port = or_port (is_let places (reading_of v)) (is_port_source (source_decoded v.src)) (is_none (source_word places shown (source_decoded v.src)))

      by : (d : Dest) → has_operation m (at d) ≡ true → lacks (reading_of (at d)) ≡ (in_write (at d) || (in_start (at d) || in_control (at d)))
      by (dest.Reg file index) there = or_end (lacks (reading_of v))
      by (dest.Operand unit) there = or_end (lacks (reading_of v))
      by (dest.Trigger unit op) there = on_op (op_at m unit op) there where
        on_op : (o : Option UnitOp) → is_some o ≡ true
            → lacks (reading_of v) ≡ (false || (option_map_or {T = DecodedStart} (λ s. lacks s.reading) (option_map (λ x. record { reading = reading_of v; unit = unit; does = x }) o) false || false))
        on_op None none = cc
        on_op (Some x) is = or_mid (lacks (reading_of v))
      by dest.Jump there = refl
      by dest.Call there = call what
      by dest.Halt there = refl

    parts_all : (ms : List Move) → AllByRecursion (λ v. has_operation m v ≡ true) ms
        → AllByRecursion (λ v. lacks (reading_of v) ≡ (in_write v || (in_start v || in_control v))) ms
    parts_all [] there = tt
    parts_all (v ∷ ms) there = (part_same v there.0, parts_all ms there.1)

    moves_same : (ms : List Move) → list_any (λ v. lacks (reading_of v)) ms ≡ list_any (lacks_for what reads) (map effect_of ms)
    moves_same [] = refl
    moves_same (v ∷ ms) = ap (λ b. b || list_any (λ v. lacks (reading_of v)) ms) (place_same v) ∙ ap (λ b. lacks_for what reads (effect_of v) || b) (moves_same ms)

    long_lacks : (long : Option Long) → list_any {X = DecodedWrite} (λ w. lacks w.reading) (option_to_list (long_decoded m long)) ≡ false
    long_lacks None = refl
    long_lacks (Some l) = by (slice_get m.templates l.template) where
      by : (o : Option Template) → list_any {X = DecodedWrite} (λ w. lacks w.reading) (option_to_list (option_map (λ t. record { reading = record { guard = None; src = decoded.Word l.value }; place = number_of (KeptImm t.imm t.reg); narrow = false }) o)) ≡ false
      by None = refl
      by (Some t) = word what where
        word : (k : Missing) → (lacks_word k places shown (record { guard = None; src = decoded.Word l.value }) || false) ≡ false
        word missing.Place = refl
        word missing.Port = refl

    or_false : (b : Bool) → (b || false) ≡ b
    or_false true = refl
    or_false false = refl

    -- what a line lacks is what its instruction lacks
    pub lacks_same : (i : Instruction) (l : Line) → IsDecoded m back i l
        → (list_any (λ w. lacks w.reading) l.writes || (list_any (λ s. lacks s.reading) l.starts || list_any (λ t. lacks t.reading) l.controls))
        ≡ list_any (lacks_for what reads) (effects_in i.moves)
    lacks_same i l decoded =
        let ms = moves_of i in
        let there = operations_there m decoded.rules i decoded.legal in
        rw decoded.line
        (ap (λ b. b || (list_any (λ s. lacks s.reading) (filter_map (start_decoded m) ms) || list_any (λ t. lacks t.reading) (filter_map control_decoded ms)))
        (list_any-append (λ w. lacks w.reading) (filter_map (write_decoded m back) ms) (option_to_list (long_decoded m i.long))
        ∙ ap (λ b. list_any (λ w. lacks w.reading) (filter_map (write_decoded m back) ms) || b) (long_lacks i.long)
        ∙ or_false (list_any (λ w. lacks w.reading) (filter_map (write_decoded m back) ms))
        ∙ any-filter_map (λ w. lacks w.reading) (write_decoded m back) ms)
        ∙ ap (λ b. list_any in_write ms || (b || list_any (λ t. lacks t.reading) (filter_map control_decoded ms))) (any-filter_map (λ s. lacks s.reading) (start_decoded m) ms)
        ∙ ap (λ b. list_any in_write ms || (list_any in_start ms || b)) (any-filter_map (λ t. lacks t.reading) control_decoded ms)
        ∙ sym (any_three (λ v. lacks (reading_of v)) in_write in_start in_control ms (parts_all ms there))
        ∙ moves_same ms)
