-- Where the reading of a draft ends: in its machine, or in a refusal.
use Rattle.std.proofs.Common.{◌≡◌, ℕ, ◌+◌, ◌<◌, ◌≤◌, Bool, true, false, List, [], ◌∷◌, length, filter, max, drop, get_or, Option, Some, None, Ok, Err, lit≤, refl, sym, ap, ap₂, subst, ◌∙◌, arith}
use Rattle.std.specs.Prelude.{nat_lt, if◌then◌else◌}
use Rattle.std.specs.Option.{option_map_or}
use Rattle.std.specs.List.{sum_by}
use Rattle.std.proofs.lemmas.List.{drop_more}
use Rattle.std.proofs.lemmas.Bool.{lt-ltb, le-ltb}
use Rattle.tta_machine.specs.declared.refusal.Refusal.TheVariants.{Missing, TooNarrow}
use Rattle.tta_machine.specs.declared.refusal.MachineError.{MachineError}
use Rattle.tta_machine.specs.declared.refusal.MachineError.TheVariants as machine_error
use Rattle.tta_machine.specs.declared.draft.Draft.{Draft}
use Rattle.tta_machine.specs.Cited.{Template, Control, Source, Dest, Machine, has_bit, has_socket, source_socket, dest_socket, is_source_on, is_dest_on, width_for, numbers, all_sources, all_dests, sources_on, dests_on, guard_width, short_width, bus_width, taken_width, IsMachine, is_control}
use Rattle.tta_arch.specs.declared.ends.Source.TheVariants as source
use Rattle.tta_arch.specs.declared.ends.Dest.TheVariants as dest
use Rattle.tta_machine.specs.Draft.{machine_of, without_templates}
use Rattle.tta_machine.specs.Text.{narrow_line, complete}
use Rattle.tta_machine.specs.Kept.{IsDraft}
use Rattle.tta_machine.specs.Whole.{CompleteEnds, WidthsEnd}
use Rattle.tta_machine.proofs.Distinct.{names_good_without, names_different_without}
use Rattle.tta_machine.proofs.TakenLines.{ended_with, is_machine}

-- ---- a machine without its templates

-- it keeps the rules of machines
pub rules_without : (d : Draft) (c : Control) → IsDraft d → d.control ≡ Some c → 0 < length d.buses → IsMachine (without_templates (machine_of d c))
rules_without d c r has_control has_bus =
    let few : 0 ≤ 8 = lit≤ tt in
    assumption (
      names_good_without d c r,
      names_different_without d c r,
      subst (λ o. option_map_or (is_control d.sockets) o true ≡ true) has_control r.rules.control,
    )

-- its buses are as wide: its sockets, sources and destinations are those of the whole machine
socket-same : (m : Machine) (input : Bool) (socket : Option ℕ) (bus : ℕ) → has_socket (without_templates m) input socket bus ≡ has_socket m input socket bus
socket-same m input None bus = refl
socket-same m input (Some k) bus = refl

source-same : (m : Machine) (bus : ℕ) (src : Source) → is_source_on (without_templates m) bus src ≡ is_source_on m bus src
source-same m bus (source.Reg f i) = socket-same m false (source_socket m (source.Reg f i)) bus
source-same m bus (source.Imm u i) = socket-same m false (source_socket m (source.Imm u i)) bus
source-same m bus (source.Shown u) = socket-same m false (source_socket m (source.Shown u)) bus
source-same m bus source.Ra = socket-same m false (source_socket m source.Ra) bus
source-same m bus (source.Value w) = refl

dest-same : (m : Machine) (bus : ℕ) (dst : Dest) → is_dest_on (without_templates m) bus dst ≡ is_dest_on m bus dst
dest-same m bus (dest.Reg f i) = socket-same m true (dest_socket m (dest.Reg f i)) bus
dest-same m bus (dest.Operand u) = socket-same m true (dest_socket m (dest.Operand u)) bus
dest-same m bus (dest.Trigger u o) = socket-same m true (dest_socket m (dest.Trigger u o)) bus
dest-same m bus dest.Jump = socket-same m true (dest_socket m dest.Jump) bus
dest-same m bus dest.Call = socket-same m true (dest_socket m dest.Call) bus
dest-same m bus dest.Halt = socket-same m true (dest_socket m dest.Halt) bus

sources-same : (m : Machine) (bus : ℕ) → sources_on (without_templates m) bus ≡ sources_on m bus
sources-same m bus = ap (λ (p : Source → Bool). filter p (all_sources m)) (λ i src. source-same m bus src i)

dests-same : (m : Machine) (bus : ℕ) → dests_on (without_templates m) bus ≡ dests_on m bus
dests-same m bus = ap (λ (p : Dest → Bool). filter p (all_dests m)) (λ i dst. dest-same m bus dst i)

bus_width-same : (m : Machine) (bus : ℕ) → bus_width (without_templates m) bus ≡ bus_width m bus
bus_width-same m bus =
    ap₂ (λ (ss : List Source) (ds : List Dest). guard_width m bus + (1 + max (short_width m bus) (width_for (length ss))) + width_for (1 + length ds))
    (sources-same m bus) (dests-same m bus)

taken_width-same : (m : Machine) (set : ℕ) → taken_width (without_templates m) set ≡ taken_width m set
taken_width-same m set =
    ap (λ (width : ℕ → ℕ). sum_by (λ bus. if has_bit set bus then width bus else 0) (numbers (length m.buses))) (λ i bus. bus_width-same m bus i)

-- so templates are too narrow for it where they are for the whole machine
pub narrow_same : (m : Machine) (ts : List Template) (lines : List ℕ) → narrow_line (without_templates m) ts lines ≡ narrow_line m ts lines
narrow_same m [] lines = refl
narrow_same m (t ∷ ts) [] = refl
narrow_same m (t ∷ ts) (line ∷ lines) =
    ap₂ (λ (width : ℕ) (later : Option ℕ). if nat_lt width 32 then Some line else later) (taken_width-same m t.buses) (narrow_same m ts lines)

-- ---- templates one by one

-- what the next template gives, by its width
narrow_at : (m : Machine) (ts : List Template) (lines : List ℕ) (k : ℕ) (t : Template) (width : ℕ) → k < length ts → length lines ≡ length ts → t ≡ get_or ts k t
    → width ≡ taken_width m t.buses
    → narrow_line m (drop k ts) (drop k lines) ≡ (if nat_lt width 32 then Some (get_or lines k 0) else narrow_line m (drop (k + 1) ts) (drop (k + 1) lines))
narrow_at m ts lines k t width h same is wide =
    let line : drop k lines ≡ get_or lines k 0 ∷ drop (k + 1) lines = drop_more lines k 0 (omega arith) in
    ap₂ (narrow_line m) (drop_more ts k t h) line
    ∙ ap (λ (x : Template). narrow_line m (x ∷ drop (k + 1) ts) (get_or lines k 0 ∷ drop (k + 1) lines)) (sym is)
    ∙ ap (λ w. if nat_lt w 32 then Some (get_or lines k 0) else narrow_line m (drop (k + 1) ts) (drop (k + 1) lines)) (sym wide)

-- it is too narrow
pub narrow_found : (m : Machine) (ts : List Template) (lines : List ℕ) (k : ℕ) (t : Template) (width : ℕ) → k < length ts → length lines ≡ length ts → t ≡ get_or ts k t
    → width ≡ taken_width m t.buses → width < 32 → narrow_line m (drop k ts) (drop k lines) ≡ Some (get_or lines k 0)
narrow_found m ts lines k t width h same is wide narrow = narrow_at m ts lines k t width h same is wide ∙ rw (lt-ltb width 32 narrow) refl

-- it is wide enough
pub narrow_later : (m : Machine) (ts : List Template) (lines : List ℕ) (k : ℕ) (t : Template) (width : ℕ) → k < length ts → length lines ≡ length ts → t ≡ get_or ts k t
    → width ≡ taken_width m t.buses → 32 ≤ width → narrow_line m (drop k ts) (drop k lines) ≡ narrow_line m (drop (k + 1) ts) (drop (k + 1) lines)
narrow_later m ts lines k t width h same is wide enough = narrow_at m ts lines k t width h same is wide ∙ rw (le-ltb width 32 enough) refl

-- ---- the end

-- by whether control is there
complete_by : (d : Draft) (o : Option Control) → d.control ≡ o → complete d ≡ option_map_or (ended_with d) o (Err (0, Missing))
complete_by d o is = opened d.control ∙ ap (λ x. option_map_or (ended_with d) x (Err (0, Missing))) is where
  opened : (x : Option Control) → complete (record d { control = x }) ≡ option_map_or (ended_with d) x (Err (0, Missing))
  opened None = refl
  opened (Some c) = refl

-- a template is too narrow
pub too_narrow : (d : Draft) (c : Control) (line : ℕ) → d.control ≡ Some c → 0 < length d.buses
    → narrow_line (machine_of d c) d.templates d.template_lines ≡ Some line → complete d ≡ Err (line, TooNarrow)
too_narrow d c line is some narrow = complete_by d (Some c) is ∙ rw (lt-ltb 0 (length d.buses) some, narrow) refl

-- nothing is missing, and every template is wide enough
pub is_complete : (d : Draft) (c : Control) → d.control ≡ Some c → 0 < length d.buses
    → narrow_line (machine_of d c) d.templates d.template_lines ≡ None → complete d ≡ Ok (machine_of d c)
is_complete d c is some wide = complete_by d (Some c) is ∙ rw (lt-ltb 0 (length d.buses) some, wide) refl

-- ---- a machine and templates that are apart

module _ (d : Draft) (c : Control) (m : Machine) (ts : List Template) (lines : List ℕ) (control : d.control ≡ Some c) (bus : 0 < length d.buses)
    (bare : m ≡ without_templates (machine_of d c)) (templates : ts ≡ d.templates) (same_lines : lines ≡ d.template_lines) where
  -- what the bare machine says of templates is so of the whole machine
  narrow_whole : (o : Option ℕ) → narrow_line m ts lines ≡ o → narrow_line (machine_of d c) d.templates d.template_lines ≡ o
  narrow_whole o is =
      let same : narrow_line m ts lines ≡ narrow_line (without_templates (machine_of d c)) d.templates d.template_lines = rw (bare, templates, same_lines) refl in
      sym (narrow_same (machine_of d c) d.templates d.template_lines) ∙ (sym same ∙ is)

  whole : record m { templates = ts } ≡ machine_of d c
  whole = rw (bare, templates) refl

  -- with its templates it keeps the rules of machines
  pub whole_rules : IsDraft d → narrow_line m ts lines ≡ None → IsMachine (record m { templates = ts })
  whole_rules r wide = subst IsMachine (sym whole) (is_machine d c r control bus (narrow_whole None wide))

  -- and the draft is complete
  pub whole_end : narrow_line m ts lines ≡ None → complete d ≡ Ok (record m { templates = ts })
  whole_end wide = is_complete d c control bus (narrow_whole None wide) ∙ ap (λ (x : Machine). Ok x) (sym whole)

  -- or a template is too narrow
  pub narrow_end : (e : MachineError) → WidthsEnd m ts lines (Err e) → CompleteEnds d (Err e)
  narrow_end (machine_error.Refused line code) (found, told) =
      record { refusal = TooNarrow; refused = too_narrow d c line control bus (narrow_whole (Some line) found); told = told }
  narrow_end machine_error.NoMemory ends = tt
