-- The operations of a unit are those of the lines that name it.
use Rattle.std.proofs.Common.{◌≡◌, ◌<◌, ◌+◌, ◌++◌, ◌∷◌, [], ℕ, Bool, List, Some, true, false, zero, suc, length, map, filter, filter_map, option_map, refl, sym, ap, ap₂, ◌∙◌, arith, append_assoc, append-nil, length-set}
use Rattle.std.specs.Prelude.{slice_get, slice_set, if◌then◌else◌}
use Rattle.std.specs.List.{cons_option}
use Rattle.std.specs.Str.{bytes_eq}
use Rattle.std.proofs.lemmas.Bool.{false_from_ne_true}
use Rattle.std.proofs.lemmas.List.{map-append, length-map}
use Rattle.std.proofs.lemmas.Option.{slice_get-map, slice_get_within}
use Rattle.std.proofs.lemmas.Slice.Eq.{bytes_eq-Decides}
use Rattle.tta_list.proofs.Lists.{slice_get-back}
use Rattle.tta_machine.specs.Cited.{named_in, Units, UnitOp}
use Rattle.tta_machine.specs.declared.draft.Named.TheVariants as place
use Rattle.tta_machine.specs.declared.draft.Draft.{Draft}
use Rattle.tta_arch.specs.declared.parts.Unit.{Unit as OpUnit}
use Rattle.tta_machine.specs.Forms.{UnitForm, OpForm}
use Rattle.tta_machine.specs.Declarations.{with_op}
use Rattle.tta_machine.specs.Kept.{IsDraft}
use Rattle.tta_machine.specs.Grammar.{op_made, ops_of, unit_made}
use Rattle.tta_machine.proofs.Borne.{AreBorne}

-- ---- operations of a name

-- a line of another unit adds nothing, and a line of the unit adds its operation
ops_skip : (u : Units) (f : OpForm) (ops : List OpForm) (name : List ℕ) → bytes_eq f.unit name ≡ false → ops_of u (f ∷ ops) name ≡ ops_of u ops name
ops_skip u f ops name other =
    ap (λ (b : Bool). filter_map (op_made u) (if b then f ∷ filter (λ g. bytes_eq g.unit name) ops else filter (λ g. bytes_eq g.unit name) ops)) other

ops_one : (u : Units) (f : OpForm) (ops : List OpForm) (name : List ℕ) (o : UnitOp) → bytes_eq f.unit name ≡ true → op_made u f ≡ Some o
    → ops_of u (f ∷ ops) name ≡ o ∷ ops_of u ops name
ops_one u f ops name o same is =
    ap (λ (b : Bool). filter_map (op_made u) (if b then f ∷ filter (λ g. bytes_eq g.unit name) ops else filter (λ g. bytes_eq g.unit name) ops)) same
    ∙ ap (λ p. cons_option p (ops_of u ops name)) is

-- a unit with the operations of later lines
abbrev pub with_ops : Units → List OpForm → OpUnit → OpUnit
with_ops u ops unit = record unit { ops = unit.ops ++ ops_of u ops unit.name }

-- a unit that has these operations in place of its own
abbrev replaced : OpUnit → List UnitOp → OpUnit
replaced unit ops = record unit { ops = ops }

with_no_ops : (u : Units) (units : List OpUnit) → map (with_ops u []) units ≡ units
with_no_ops u [] = refl
with_no_ops u (x ∷ xs) = ap₂ (λ y ys. y ∷ ys) (ap (replaced x) (append-nil x.ops)) (with_no_ops u xs)

-- an operation line of none of these units
others_same : (u : Units) (f : OpForm) (ops : List OpForm) (units : List OpUnit) → ((j : ℕ) (y : OpUnit) → slice_get units j ≡ Some y → bytes_eq f.unit y.name ≡ false)
    → map (with_ops u ops) units ≡ map (with_ops u (f ∷ ops)) units
others_same u f ops [] other = refl
others_same u f ops (x ∷ xs) other =
    ap₂ (λ y ys. y ∷ ys) (ap (λ l. replaced x (x.ops ++ l)) (sym (ops_skip u f ops x.name (other 0 x refl)))) (others_same u f ops xs (λ j y e. other (suc j) y e))

-- an operation line of the unit at one place
one_changed : (u : Units) (f : OpForm) (ops : List OpForm) (units : List OpUnit) (k : ℕ) (unit : OpUnit) (o : UnitOp)
    → slice_get units k ≡ Some unit → op_made u f ≡ Some o → bytes_eq f.unit unit.name ≡ true
    → ((j : ℕ) (y : OpUnit) → slice_get units j ≡ Some y → (j ≡ k → ⊥) → bytes_eq f.unit y.name ≡ false)
    → map (with_ops u ops) (slice_set units k (with_op unit o)) ≡ map (with_ops u (f ∷ ops)) units
one_changed u f ops [] k unit o at is same other = cc
one_changed u f ops (x ∷ xs) zero unit o at is same other =
    let here : unit ≡ x = cc in
    let more : (unit.ops ++ o ∷ []) ++ ops_of u ops unit.name ≡ unit.ops ++ ops_of u (f ∷ ops) unit.name =
    append_assoc unit.ops (o ∷ []) (ops_of u ops unit.name) ∙ ap (λ l. unit.ops ++ l) (sym (ops_one u f ops unit.name o same is)) in
    ap₂ (λ y ys. y ∷ ys) (ap (replaced unit) more ∙ ap (with_ops u (f ∷ ops)) here)
    (others_same u f ops xs (λ j y e. other (suc j) y e (λ z. absurd (omega arith))))
one_changed u f ops (x ∷ xs) (suc k) unit o at is same other =
    ap₂ (λ y ys. y ∷ ys) (ap (λ l. replaced x (x.ops ++ l)) (sym (ops_skip u f ops x.name (other 0 x refl (λ z. absurd (omega arith))))))
    (one_changed u f ops xs k unit o at is same (λ j y e z. other (suc j) y e (λ s. z (omega arith))))

-- ---- unit lines

-- an operation line of a unit that none of these lines declares
forms_same : (u : Units) (sockets : List (List ℕ)) (f : OpForm) (ops : List OpForm) (forms : List UnitForm)
    → ((j : ℕ) (g : UnitForm) → slice_get forms j ≡ Some g → bytes_eq f.unit g.name ≡ false)
    → map (unit_made u sockets ops) forms ≡ map (unit_made u sockets (f ∷ ops)) forms
forms_same u sockets f ops [] other = refl
forms_same u sockets f ops (g ∷ gs) other =
    ap₂ (λ y ys. y ∷ ys) (ap (replaced (unit_made u sockets ops g)) (sym (ops_skip u f ops g.name (other 0 g refl)))) (forms_same u sockets f ops gs (λ j h e. other (suc j) h e))

-- ---- a draft

-- the units of a draft that ends here, from those of an earlier one
abbrev pub AddsUnits : Units → (sockets : List (List ℕ)) → (earlier later : List OpUnit) → List OpForm → List UnitForm → Type 0
AddsUnits u sockets earlier later ops forms = later ≡ map (with_ops u ops) earlier ++ map (unit_made u sockets ops) forms

pub units_none : (u : Units) (sockets : List (List ℕ)) (units : List OpUnit) → AddsUnits u sockets units units [] []
units_none u sockets units = sym (append-nil (map (with_ops u []) units) ∙ with_no_ops u units)

-- a line that declares a unit
pub units_one : (u : Units) (sockets : List (List ℕ)) (earlier later : List OpUnit) (x : OpUnit) (f : UnitForm) (ops : List OpForm) (forms : List UnitForm)
    → AddsUnits u sockets (earlier ++ x ∷ []) later ops forms → unit_made u sockets ops f ≡ with_ops u ops x → AddsUnits u sockets earlier later ops (f ∷ forms)
units_one u sockets earlier later x f ops forms h is =
    h ∙ ap (λ l. l ++ map (unit_made u sockets ops) forms) (map-append (with_ops u ops) earlier (x ∷ []))
    ∙ append_assoc (map (with_ops u ops) earlier) (with_ops u ops x ∷ []) (map (unit_made u sockets ops) forms)
    ∙ ap (λ y. map (with_ops u ops) earlier ++ y ∷ map (unit_made u sockets ops) forms) (sym is)

-- a line that gives a unit an operation
pub units_op : (u : Units) (d end_draft : Draft) (sockets : List (List ℕ)) (f : OpForm) (k : ℕ) (unit : OpUnit) (o : UnitOp) (ops : List OpForm) (forms : List UnitForm)
    → IsDraft d → AreBorne d → IsDraft end_draft → named_in d.names f.unit ≡ Some (place.Unit k) → named_in end_draft.names f.unit ≡ Some (place.Unit k)
    → slice_get d.units k ≡ Some unit → op_made u f ≡ Some o
    → AddsUnits u sockets (slice_set d.units k (with_op unit o)) end_draft.units ops forms → AddsUnits u sockets d.units end_draft.units (f ∷ ops) forms
units_op u d end_draft sockets f k unit o ops forms r b end found found_later at is h = h ∙ ap₂ (λ xs ys. xs ++ ys) before behind
  where
    front : List OpUnit
    front = map (with_ops u ops) (slice_set d.units k (with_op unit o))

    bears : slice_get (map (λ x. x.name) d.units) k ≡ Some f.unit
    bears = b.all f.unit (place.Unit k) found

    alike : Some unit.name ≡ Some f.unit
    alike = sym (ap (option_map (λ x. x.name)) at) ∙ sym (slice_get-map (λ x. x.name) d.units k) ∙ bears

    own : bytes_eq f.unit unit.name ≡ true
    own = let n : f.unit ≡ unit.name = cc (alike) in (bytes_eq-Decides f.unit unit.name).1 n

    others : (j : ℕ) (y : OpUnit) → slice_get d.units j ≡ Some y → (j ≡ k → ⊥) → bytes_eq f.unit y.name ≡ false
    others j y e apart = false_from_ne_true (bytes_eq f.unit y.name) (λ t.
        let n : f.unit ≡ y.name = (bytes_eq-Decides f.unit y.name).0 t in
        let there : named_in d.names y.name ≡ Some (place.Unit j) = r.named.units j y e in
        let one : Some (place.Unit k) ≡ Some (place.Unit j) = sym found ∙ ap (named_in d.names) n ∙ there in
        apart (cc (one)))

    before : map (with_ops u ops) (slice_set d.units k (with_op unit o)) ≡ map (with_ops u (f ∷ ops)) d.units
    before = one_changed u f ops d.units k unit o at is own others

    size : length (map (with_ops u ops) (slice_set d.units k (with_op unit o))) ≡ length d.units
    size = length-map (slice_set d.units k (with_op unit o)) (with_ops u ops) ∙ length-set d.units k (with_op unit o)

    within : k < length d.units
    within = slice_get_within d.units k unit at

    behind : map (unit_made u sockets ops) forms ≡ map (unit_made u sockets (f ∷ ops)) forms
    behind = forms_same u sockets f ops forms (λ j g e. false_from_ne_true (bytes_eq f.unit g.name) (λ t.
        let n : f.unit ≡ g.name = (bytes_eq-Decides f.unit g.name).0 t in
        let stands : slice_get (map (unit_made u sockets ops) forms) j ≡ Some (unit_made u sockets ops g) =
        slice_get-map (unit_made u sockets ops) forms j ∙ ap (option_map (unit_made u sockets ops)) e in
        let there : slice_get (front ++ map (unit_made u sockets ops) forms) (length front + j) ≡ Some (unit_made u sockets ops g) =
        slice_get-back front (map (unit_made u sockets ops) forms) j ∙ stands in
        let last : slice_get end_draft.units (length front + j) ≡ Some (unit_made u sockets ops g) = ap (λ l. slice_get l (length front + j)) h ∙ there in
        let named : named_in end_draft.names g.name ≡ Some (place.Unit (length front + j)) = end.named.units (length front + j) (unit_made u sockets ops g) last in
        let one : Some (place.Unit k) ≡ Some (place.Unit (length front + j)) = sym found_later ∙ ap (named_in end_draft.names) n ∙ named in
        let same : k ≡ length front + j = cc (one) in
        omega (arith, size, within)))
