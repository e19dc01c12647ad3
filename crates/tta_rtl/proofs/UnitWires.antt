-- What starts the operations of units.
use Rattle.std.proofs.Common.{◌≡◌, ◌+◌, ◌++◌, ◌∷◌, ℕ, List, [], map, length, refl, ap, sym, ◌∙◌, append_assoc, codes}
use Rattle.std.specs.List.{flat_map, enumerate_from}
use Rattle.std.proofs.lemmas.List.{map-append, append-nil}
use Rattle.std.proofs.lemmas.List.Concat.{flat_map-cons}
use Rattle.std.proofs.lemmas.Grind.{flat_map-append}
use Rattle.tta_arch.specs.declared.parts.Unit.{Unit as OpUnit}
use Rattle.tta_rtl.specs.Cited.{UnitOp, Machine, KeptOperand, numbers, Signal, Goal, GoalNow, Port, Starts, Trigger, Operand, arrivals, trigger_word, operand_now, ops_of, nothing, wire, unit_wires, constant, wire_text, names_of, place_name, text_of}
use Rattle.tta_arch.specs.declared.ends.Dest.TheVariants as dest
use Rattle.tta_hardware.specs.Signals.{Signal as Named}
use Rattle.tta_hardware.specs.Wires.{made_of}
use Rattle.tta_rtl.specs.Texts.{choices, port_text, start_text, triggers, unit_text, wire_of, wires_text}
use Rattle.tta_rtl.proofs.Choices.{text_first, choices-append}

triggers_text : (m : Machine) (unit op : ℕ) (ops : List UnitOp)
    → choices m (flat_map (λ o. arrivals m (dest.Trigger unit o.0)) (enumerate_from op ops)) ≡ triggers m unit op ops
triggers_text m unit op [] = refl
triggers_text m unit op (o ∷ os) =
    rw flat_map-cons (
    choices-append m (arrivals m (dest.Trigger unit op)) (flat_map (λ o. arrivals m (dest.Trigger unit o.0)) (enumerate_from (op + 1) os))
    ∙ ap (λ (r : List ℕ). choices m (arrivals m (dest.Trigger unit op)) ++ r) (triggers_text m unit (op + 1) os))

-- the word that starts an operation of a unit
pub trigger_text : (m : Machine) (unit : ℕ) (ops : List UnitOp) → ops_of m unit ≡ enumerate_from 0 ops
    → text_of m (trigger_word m unit) ≡ triggers m unit 0 ops ++ constant 32 0
trigger_text m unit ops all =
    text_first m (flat_map (λ o. arrivals m (dest.Trigger unit o.0)) (ops_of m unit)) nothing
    ∙ ap (λ (os : List (ℕ × UnitOp)). choices m (flat_map (λ o. arrivals m (dest.Trigger unit o.0)) os) ++ constant 32 0) all
    ∙ ap (λ (r : List ℕ). r ++ constant 32 0) (triggers_text m unit 0 ops)

-- the word in its operand port
pub operand_text : (m : Machine) (unit : ℕ)
    → text_of m (operand_now m unit) ≡ choices m (arrivals m (dest.Operand unit)) ++ place_name m (KeptOperand unit)
operand_text m unit = text_first m (arrivals m (dest.Operand unit)) _

wires-append : (m : Machine) (ns os : List Named) → wires_text m (ns ++ os) ≡ wires_text m ns ++ wires_text m os
wires-append m ns os =
    ap (λ ws. flat_map (wire_text (names_of m)) ws) (map-append (wire m) ns os)
    ∙ flat_map-append (wire_text (names_of m)) (map (wire m) ns) (map (wire m) os)

last_two : (m : Machine) (unit : ℕ)
    → wires_text m (Trigger unit ∷ Operand unit ∷ [])
    ≡ wire_text (names_of m) (wire m (Trigger unit)) ++ wire_text (names_of m) (wire m (Operand unit))
last_two m unit = simp append-nil

starts_text : (m : Machine) (unit : ℕ) (ops : List ℕ) → wires_text m (map (Starts unit) ops) ≡ flat_map (start_text m unit) ops
unfolding start_text
starts_text m unit [] = refl
starts_text m unit (o ∷ os) =
    flat_map-cons (wire_text (names_of m)) (wire m (Starts unit o)) (map (wire m) (map (Starts unit) os))
    ∙ ap (λ (r : List ℕ). start_text m unit o ++ r) (starts_text m unit os) ∙ sym (flat_map-cons (start_text m unit) o os)

-- the wires of a unit one after another
pub unit_parts : (m : Machine) (unit : ℕ) (u : OpUnit)
    → unit_text m (unit, u)
    ≡ flat_map (start_text m unit) (numbers (length u.ops))
    ++ (wire_text (names_of m) (wire m (Trigger unit)) ++ wire_text (names_of m) (wire m (Operand unit)))
unfolding unit_text
unit_parts m unit u =
    wires-append m (map (Starts unit) (numbers (length u.ops))) (Trigger unit ∷ Operand unit ∷ [])
    ∙ ap (λ (r : List ℕ). r ++ wires_text m (Trigger unit ∷ Operand unit ∷ [])) (starts_text m unit (numbers (length u.ops)))
    ∙ ap (λ (r : List ℕ). flat_map (start_text m unit) (numbers (length u.ops)) ++ r) (last_two m unit)

wires_by : {A : Type 0} (m : Machine) (f : A → List Named) (xs : List A)
    → wires_text m (flat_map f xs) ≡ flat_map (λ x. wires_text m (f x)) xs
wires_by m f [] = refl
wires_by m f (x ∷ xs) =
    ap (wires_text m) (flat_map-cons f x xs) ∙ wires-append m (f x) (flat_map f xs)
    ∙ ap (λ (r : List ℕ). wires_text m (f x) ++ r) (wires_by m f xs)
    ∙ sym (flat_map-cons (λ x. wires_text m (f x)) x xs)

-- the wires of what all result ports show
pub ports_text : (m : Machine) (units : List ℕ) → wires_text m (map Port units) ≡ flat_map (port_text m) units
unfolding port_text
ports_text m [] = refl
ports_text m (u ∷ us) =
    flat_map-cons (wire_text (names_of m)) (wire m (Port u)) (map (wire m) (map Port us))
    ∙ ap (λ (r : List ℕ). port_text m u ++ r) (ports_text m us) ∙ sym (flat_map-cons (port_text m) u us)

-- the address to which a control move leads
pub goal_text : (m : Machine)
    → text_of m (made_of m GoalNow) ≡ choices m (arrivals m dest.Jump) ++ (choices m (arrivals m dest.Call) ++ codes "n_goal")
goal_text m =
    text_first m (arrivals m dest.Jump ++ arrivals m dest.Call) (Signal Goal)
    ∙ ap (λ (r : List ℕ). r ++ codes "n_goal") (choices-append m (arrivals m dest.Jump) (arrivals m dest.Call))
    ∙ append_assoc (choices m (arrivals m dest.Jump)) (choices m (arrivals m dest.Call)) (codes "n_goal")

-- one more wire behind those that are written
pub wire_more : (m : Machine) (ns : List Named) (n : Named) (old x : List ℕ) → x ≡ old ++ wires_text m ns
    → x ++ wire_of m n ≡ old ++ wires_text m (ns ++ n ∷ [])
unfolding wire_of
wire_more m ns n old x is =
    ap (λ (r : List ℕ). r ++ wire_of m n) is ∙ append_assoc old (wires_text m ns) (wire_of m n)
    ∙ ap (λ (r : List ℕ). old ++ r) (ap (λ (r : List ℕ). wires_text m ns ++ r) (sym (append-nil (wire_of m n)))
    ∙ sym (wires-append m ns (n ∷ [])))

-- the wires of all units
pub units_text : (m : Machine) (us : List (ℕ × OpUnit)) → wires_text m (flat_map unit_wires us) ≡ flat_map (unit_text m) us
unfolding unit_text
units_text m us = wires_by m unit_wires us
