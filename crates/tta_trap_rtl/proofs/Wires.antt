-- The wires of a circuit that tells the first fault.
use Rattle.std.proofs.Common.{◌≡◌, ◌++◌, ◌∷◌, [], ℕ, List, length, map, refl, sym, ap, ◌∙◌, append_assoc}
use Rattle.std.specs.List.{flat_map, enumerate_from}
use Rattle.std.proofs.lemmas.List.{append-nil, map-append}
use Rattle.std.proofs.lemmas.Grind.{flat_map-append}
use Rattle.tta_arch.specs.declared.parts.Unit.{Unit as OpUnit}
use Rattle.tta_hardware.specs.Signals.{Signal as Named}
use Rattle.tta_hardware.specs.Signals.{Asks, Controls, EndsNow, Gives, GoalNow, Lands, Operand, Port, Trigger}
use Rattle.tta_hardware.specs.Hardware.{all_fields, bus_wires, unit_wires, wire}
use Rattle.tta_rtl.specs.Texts.{wires_text}
use Rattle.tta_rtl.proofs.Texts.{wires_append}
use Rattle.tta_trap.specs.Trap.{early_wires, late_wires, trap_wires}
use Rattle.tta_trap.specs.Watches.{bus_watches, unit_watches, watch_wires}
use Rattle.tta_trap_rtl.specs.Cited.{Machine, numbers, Clashes, FaultNow, Fetched, LacksOperand, LacksPort, LacksRegister, Starts, Watches, names_of, trap_wire, wire_text}
use Rattle.tta_trap_rtl.specs.Texts.{bit_text, bus_text, fault_text, goes_text, late_text, trap_wires_text, unit_text}

-- ---- lists of lists

-- texts of lists, one list after another
pub by_each : {A B : Type 0} (g : B → List ℕ) (f : A → List B) (line : A → List ℕ) → ((x : A) → flat_map g (f x) ≡ line x) → (xs : List A)
    → flat_map g (flat_map f xs) ≡ flat_map line xs
by_each g f line is [] = refl
by_each g f line is (x ∷ xs) =
    flat_map-append g (f x) (flat_map f xs) ∙ ap (λ (t : List ℕ). t ++ flat_map g (flat_map f xs)) (is x)
    ∙ ap (λ (t : List ℕ). line x ++ t) (by_each g f line is xs)

-- ---- wires that are the same in both circuits

-- whether the wires of these names are the same in both
abbrev Alike : Machine → (count : ℕ) → List Named → Type 0
Alike m count ns = map (trap_wire m count) ns ≡ map (wire m) ns

alike_append : (m : Machine) (count : ℕ) (ns os : List Named) → Alike m count ns → Alike m count os → Alike m count (ns ++ os)
alike_append m count ns os first second =
    map-append (trap_wire m count) ns os
    ∙ ap (λ ws. ws ++ map (trap_wire m count) os) first ∙ ap (λ ws. map (wire m) ns ++ ws) second
    ∙ sym (map-append (wire m) ns os)

alike_each : {A : Type 0} (m : Machine) (count : ℕ) (f : A → Named) → ((x : A) → trap_wire m count (f x) ≡ wire m (f x)) → (xs : List A)
    → Alike m count (map f xs)
alike_each m count f same [] = refl
alike_each m count f same (x ∷ xs) =
    ap (λ w. w ∷ map (trap_wire m count) (map f xs)) (same x) ∙ ap (λ ws. wire m (f x) ∷ ws) (alike_each m count f same xs)

alike_all : {A : Type 0} (m : Machine) (count : ℕ) (f : A → List Named) → ((x : A) → Alike m count (f x)) → (xs : List A)
    → Alike m count (flat_map f xs)
alike_all m count f same [] = refl
alike_all m count f same (x ∷ xs) = alike_append m count (f x) (flat_map f xs) (same x) (alike_all m count f same xs)

unit_alike : (m : Machine) (count : ℕ) (u : ℕ × OpUnit) → Alike m count (unit_wires u)
unit_alike m count u =
    alike_append m count (map (Starts u.0) (numbers (length u.1.ops))) (Trigger u.0 ∷ Operand u.0 ∷ [])
    (alike_each m count (Starts u.0) (λ op. refl) (numbers (length u.1.ops))) refl

-- what control does, and whether words are asked for and put out
abbrev pub steering : List Named
steering = Controls ∷ GoalNow ∷ EndsNow ∷ Lands ∷ Asks ∷ Gives ∷ []

early_alike : (m : Machine) (count : ℕ) → Alike m count (early_wires m)
early_alike m count =
    let fields : List Named = map Fetched (all_fields m) in
    let ports : List Named = map Port (numbers (length m.units)) in
    let buses = flat_map bus_wires (numbers (length m.buses)) in
    let units = flat_map unit_wires (enumerate_from 0 m.units) in
    alike_append m count (((fields ++ ports) ++ buses) ++ units) steering
    (alike_append m count ((fields ++ ports) ++ buses) units
    (alike_append m count (fields ++ ports) buses
    (alike_append m count fields ports (alike_each m count Fetched (λ f. refl) (all_fields m))
    (alike_each m count Port (λ unit. refl) (numbers (length m.units))))
    (alike_all m count bus_wires (λ bus. refl) (numbers (length m.buses))))
    (alike_all m count unit_wires (unit_alike m count) (enumerate_from 0 m.units))) refl

-- the wires before those that tell faults
pub early_parts : (m : Machine)
    → wires_text m (early_wires m)
    ≡ wires_text m (map Fetched (all_fields m)) ++ (wires_text m (map Port (numbers (length m.units)))
    ++ (wires_text m (flat_map bus_wires (numbers (length m.buses)))
    ++ (wires_text m (flat_map unit_wires (enumerate_from 0 m.units)) ++ wires_text m steering)))
early_parts m =
    let fields : List Named = map Fetched (all_fields m) in
    let ports : List Named = map Port (numbers (length m.units)) in
    let buses = flat_map bus_wires (numbers (length m.buses)) in
    let units = flat_map unit_wires (enumerate_from 0 m.units) in
    let text : List Named → List ℕ = wires_text m in
    wires_append m (((fields ++ ports) ++ buses) ++ units) steering
    ∙ ap (λ (t : List ℕ). t ++ text steering) (wires_append m ((fields ++ ports) ++ buses) units)
    ∙ ap (λ (t : List ℕ). (t ++ text units) ++ text steering) (wires_append m (fields ++ ports) buses)
    ∙ ap (λ (t : List ℕ). ((t ++ text buses) ++ text units) ++ text steering) (wires_append m fields ports)
    ∙ append_assoc ((text fields ++ text ports) ++ text buses) (text units) (text steering)
    ∙ append_assoc (text fields ++ text ports) (text buses) (text units ++ text steering)
    ∙ append_assoc (text fields) (text ports) (text buses ++ (text units ++ text steering))

-- ---- wires that tell faults

trap_append : (m : Machine) (count : ℕ) (ns os : List Named)
    → trap_wires_text m count (ns ++ os) ≡ trap_wires_text m count ns ++ trap_wires_text m count os
trap_append m count ns os =
    ap (flat_map (wire_text (names_of m))) (map-append (trap_wire m count) ns os)
    ∙ flat_map-append (wire_text (names_of m)) (map (trap_wire m count) ns) (map (trap_wire m count) os)

trap_each : {A : Type 0} (m : Machine) (count : ℕ) (f : A → List Named) (line : A → List ℕ) → ((x : A) → trap_wires_text m count (f x) ≡ line x)
    → (xs : List A) → trap_wires_text m count (flat_map f xs) ≡ flat_map line xs
trap_each m count f line is [] = refl
trap_each m count f line is (x ∷ xs) =
    trap_append m count (f x) (flat_map f xs) ∙ ap (λ (t : List ℕ). t ++ trap_wires_text m count (flat_map f xs)) (is x)
    ∙ ap (λ (t : List ℕ). line x ++ t) (trap_each m count f line is xs)

bus_is : (m : Machine) (count bus : ℕ) → trap_wires_text m count (bus_watches bus) ≡ bus_text m bus
unfolding bus_text bit_text
bus_is m count bus = ap (λ (t : List ℕ). bit_text m (LacksRegister bus) ++ t) (append-nil (bit_text m (LacksPort bus)))

unit_is : (m : Machine) (count unit : ℕ) → trap_wires_text m count (unit_watches unit) ≡ unit_text m unit
unfolding unit_text bit_text
unit_is m count unit = ap (λ (t : List ℕ). bit_text m (LacksOperand unit) ++ t) (append-nil (bit_text m (Clashes unit)))

fault_is : (m : Machine) (count : ℕ) → trap_wires_text m count (Watches FaultNow ∷ []) ≡ fault_text m count
unfolding fault_text
fault_is m count = append-nil (fault_text m count)

-- all of them
pub watch_text : (m : Machine) (count : ℕ)
    → trap_wires_text m count (watch_wires m)
    ≡ flat_map (bus_text m) (numbers (length m.buses)) ++ (flat_map (unit_text m) (numbers (length m.units)) ++ fault_text m count)
watch_text m count =
    let buses = flat_map bus_watches (numbers (length m.buses)) in
    let units = flat_map unit_watches (numbers (length m.units)) in
    let text : List Named → List ℕ = trap_wires_text m count in
    trap_append m count (buses ++ units) (Watches FaultNow ∷ [])
    ∙ ap (λ (t : List ℕ). t ++ text (Watches FaultNow ∷ [])) (trap_append m count buses units)
    ∙ append_assoc (text buses) (text units) (text (Watches FaultNow ∷ []))
    ∙ ap (λ (t : List ℕ). t ++ (text units ++ text (Watches FaultNow ∷ []))) (trap_each m count bus_watches (bus_text m) (bus_is m count) (numbers (length m.buses)))
    ∙ ap (λ (t : List ℕ). flat_map (bus_text m) (numbers (length m.buses)) ++ (t ++ text (Watches FaultNow ∷ [])))
    (trap_each m count unit_watches (unit_text m) (unit_is m count) (numbers (length m.units)))
    ∙ ap (λ (t : List ℕ). flat_map (bus_text m) (numbers (length m.buses)) ++ (flat_map (unit_text m) (numbers (length m.units)) ++ t))
    (fault_is m count)

-- the wires after them
late_is : (m : Machine) (count : ℕ) → trap_wires_text m count late_wires ≡ late_text m
unfolding goes_text
late_is m count = refl

-- all wires
pub all_text : (m : Machine) (count : ℕ)
    → trap_wires_text m count (trap_wires m)
    ≡ wires_text m (early_wires m) ++ (trap_wires_text m count (watch_wires m) ++ late_text m)
all_text m count =
    let text : List Named → List ℕ = trap_wires_text m count in
    trap_append m count (early_wires m ++ watch_wires m) late_wires
    ∙ ap (λ (t : List ℕ). t ++ text late_wires) (trap_append m count (early_wires m) (watch_wires m))
    ∙ append_assoc (text (early_wires m)) (text (watch_wires m)) (text late_wires)
    ∙ ap (λ (t : List ℕ). t ++ (text (watch_wires m) ++ text late_wires)) (ap (flat_map (wire_text (names_of m))) (early_alike m count))
    ∙ ap (λ (t : List ℕ). wires_text m (early_wires m) ++ (text (watch_wires m) ++ t)) (late_is m count)
