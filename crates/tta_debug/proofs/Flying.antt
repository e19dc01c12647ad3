-- The lines of the results in flight, one after another.
use Rattle.std.proofs.Common.{◌≡◌, ◌<◌, ◌≤◌, ℕ, zero, suc, ◌+◌, ◌-◌, List, [], ◌∷◌, ◌++◌, length, map, drop, get_or, Option, Some, None, refl, sym, ap, ◌∙◌, append-nil, arith}
use Rattle.std.specs.List.{AllByRecursion}
use Rattle.std.specs.Option.{option_map_or}
use Rattle.std.proofs.lemmas.List.{drop_more}
use Rattle.tta_list.proofs.Lists.{all_append}
use Rattle.tta_arch.specs.declared.parts.Unit.{Unit as OpUnit}
use Rattle.tta_debug.specs.Cited.{Machine, IsMachine, IsMachineName, Result', due_text, due_at}
use Rattle.std.specs.Io.KnownBytes.{append_known}
use Rattle.tta_report.proofs.Puts.{HasPut}
use Rattle.tta_debug.specs.Debugged.{Debugged, Said, texts, due_line, due_lines, unit_lines}
use Rattle.tta_debug.proofs.Running.{texts_both}

-- the first of some delays
pub due_first : (d : Debugged) (name : List ℕ) (unit delay : ℕ) → delay ≤ 16
    → texts (due_lines d name unit delay (17 - delay)) ≡ texts (due_line d name unit delay) ++ texts (due_lines d name unit (delay + 1) (17 - (delay + 1)))
due_first d name unit delay le =
    let is : 17 - delay ≡ suc (17 - (delay + 1)) = omega arith in
    ap (λ n. texts (due_lines d name unit delay n)) is ∙ texts_both (due_line d name unit delay) (due_lines d name unit (delay + 1) (17 - (delay + 1)))

-- no delay is left
pub due_last : (d : Debugged) (name : List ℕ) (unit delay : ℕ) → 17 ≤ delay → texts (due_lines d name unit delay (17 - delay)) ≡ []
due_last d name unit delay le =
    let is : 17 - delay ≡ 0 = omega arith in
    ap (λ n. texts (due_lines d name unit delay n)) is

-- where nothing is left, all has been put
pub all_put : (old new : Option (List ℕ)) (whole left : List ℕ) → HasPut old new whole left → left ≡ [] → new ≡ append_known old whole
all_put old new whole left has none =
    has.taken ∙ ap (append_known old) (sym (has.parts ∙ ap (λ l. has.done ++ l) none ∙ append-nil has.done))

-- the first of some units
pub unit_first : (d : Debugged) (units : List OpUnit) (k : ℕ) (u : OpUnit) → k < length units
    → texts (unit_lines d k (drop k units)) ≡ texts (due_lines d (get_or units k u).name k 1 16) ++ texts (unit_lines d (k + 1) (drop (k + 1) units))
unit_first d units k u below =
    ap (λ us. texts (unit_lines d k us)) (drop_more units k u below)
    ∙ texts_both (due_lines d (get_or units k u).name k 1 16) (unit_lines d (k + 1) (drop (k + 1) units))

-- ---- the session is the same at all of them

at_due : (d : Debugged) (name : List ℕ) (due : ℕ) (o : Option Result')
    → AllByRecursion (λ (l : Said). l.at ≡ d) (option_map_or (λ r. record { text = due_text name due r.value; at = d } ∷ []) o [])
at_due d name due None = _
at_due d name due (Some r) = (refl, _)

at_delays : (d : Debugged) (name : List ℕ) (unit first n : ℕ) → AllByRecursion (λ (l : Said). l.at ≡ d) (due_lines d name unit first n)
at_delays d name unit first zero = _
at_delays d name unit first (suc n) =
    all_append (λ (l : Said). l.at ≡ d) (due_line d name unit first) (due_lines d name unit (first + 1) n)
    (at_due d name (d.state.cycle + first) (due_at unit (d.state.cycle + first) d.state.started)) (at_delays d name unit (first + 1) n)

-- the session is the same at all lines in flight
pub at_units : (d : Debugged) (k : ℕ) (units : List OpUnit) → AllByRecursion (λ (l : Said). l.at ≡ d) (unit_lines d k units)
at_units d k [] = _
at_units d k (u ∷ us) =
    all_append (λ (l : Said). l.at ≡ d) (due_lines d u.name k 1 16) (unit_lines d (k + 1) us) (at_delays d u.name k 1 16) (at_units d (k + 1) us)

-- ---- names

all_after : (P : List ℕ → Type 0) (xs ys : List (List ℕ)) → AllByRecursion P (xs ++ ys) → AllByRecursion P ys
all_after P [] ys all = all
all_after P (x ∷ xs) ys all = all_after P xs ys all.1

all_before : (P : List ℕ → Type 0) (xs ys : List (List ℕ)) → AllByRecursion P (xs ++ ys) → AllByRecursion P xs
all_before P [] ys all = _
all_before P (x ∷ xs) ys all = (all.0, all_before P xs ys all.1)

all_short : (units : List OpUnit) → AllByRecursion IsMachineName (map (λ u. u.name) units) → AllByRecursion (λ u. length u.name ≤ 64) units
all_short [] all = _
all_short (u ∷ us) all = (all.0.short, all_short us all.1)

-- the names of units are short enough
pub short_names : (m : Machine) → IsMachine m → AllByRecursion (λ u. length u.name ≤ 64) m.units
short_names m rules =
    let P = IsMachineName in
    let first = map (λ b. b.name) m.buses ++ map (λ s. s.name) m.sockets ++ map (λ f. f.name) m.files ++ map (λ i. i.name) m.imms in
    let units = map (λ u. u.name) m.units in
    all_short m.units (all_after P first units (all_before P (first ++ units) (map (λ t. t.name) m.templates) rules.names))
