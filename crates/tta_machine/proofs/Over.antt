-- A machine that a text describes stands over the set of units that it is read with.
use Rattle.std.proofs.Common.{◌≡◌, ◌<◌, ℕ, Bool, true, false, List, [], ◌∷◌, length, map, filter, Option, Some, None, refl, sym, ap, subst, ◌∙◌}
use Rattle.std.specs.Prelude.{codes, if◌then◌else◌, option_map, option_and_then, slice_get}
use Rattle.std.specs.Str.{bytes_eq}
use Rattle.std.specs.Option.{option_map_or}
use Rattle.std.specs.List.{AllByRecursion}
use Rattle.std.proofs.lemmas.Option.{slice_get_within, slice_get-get_or}
use Rattle.tta_list.proofs.Lists.{all_one}
use Rattle.tta_machine.specs.Cited.{lines_of, Units, named, OpId, Op, Ldw, Stw, Ldf, Stf, Out, Take, Set, UnitOp, Machine, op_at, StandsOver, is_named}
use Rattle.tta_parse.proofs.TextNames.{LineNames, text_names}
use Rattle.tta_ops.proofs.Named.{named_get}
use Rattle.tta_arch.specs.declared.parts.Unit.{Unit as OpUnit}
use Rattle.tta_machine.specs.Declarations.{op_named, timed_op, untimed_op, arity_of}
use Rattle.tta_machine.specs.Forms.{OpForm, UnitForm}
use Rattle.tta_machine.specs.Grammar.{IsMachineText, op_lines, unit_lines, socket_names, op_made, unit_made}
use Rattle.tta_machine.proofs.NamedForms.{Gives, gives-none, gives-some, gives-all, OpNamed, ops_named}

module _ (u : Units) where
  -- ---- what a name stands for

  -- an operation of the set of units has this name there
  abbrev pub IsOf : (name : List ℕ) → Op → Type 0
  IsOf name (Set id) = slice_get u.names id.0 ≡ Some name
  IsOf name op = Unit {0}

  -- what a name of the set of units stands for
  set-of : (name : List ℕ) (found : Option ℕ) → named u name ≡ found → Gives (IsOf name) (option_map (λ id. Set (record { 0 = id })) found)
  set-of name None is = gives-none (IsOf name)
  set-of name (Some id) is = gives-some (IsOf name) (Set (record { 0 = id })) (named_get u name id is)

  -- a name in a line with a latency
  timed-of : (name : List ℕ) → Gives (IsOf name) (timed_op u name)
  timed-of name = by (bytes_eq name (codes "ldw")) (bytes_eq name (codes "ldf")) (bytes_eq name (codes "in")) where
    by : (a b c : Bool)
        → Gives (IsOf name) (if a then Some Ldw else if b then Some Ldf else if c then Some Take else option_map (λ id. Set (record { 0 = id })) (named u name))
    by true b c = gives-some (IsOf name) Ldw tt
    by false true c = gives-some (IsOf name) Ldf tt
    by false false true = gives-some (IsOf name) Take tt
    by false false false = set-of name (named u name) refl

  -- a name in a line without one
  untimed-of : (name : List ℕ) → Gives (IsOf name) (untimed_op name)
  untimed-of name = by (bytes_eq name (codes "stw")) (bytes_eq name (codes "stf")) (bytes_eq name (codes "out")) where
    by : (a b c : Bool) → Gives (IsOf name) (if a then Some Stw else if b then Some Stf else if c then Some Out else None)
    by true b c = gives-some (IsOf name) Stw tt
    by false true c = gives-some (IsOf name) Stf tt
    by false false true = gives-some (IsOf name) Out tt
    by false false false = gives-none (IsOf name)

  -- a name in any line
  op-of : (latency : Option ℕ) (name : List ℕ) → Gives (IsOf name) (op_named u latency name)
  op-of None name = untimed-of name
  op-of (Some latency) name = timed-of name

  -- ---- operations of a unit

  -- what an operation of the set of units is to state: it takes as many words as there, and is called there by a name
  pub record IsSet (o : UnitOp) (id : OpId) : Type 0 where
    pub arity : slice_get u.arities id.0 ≡ Some o.arity
    pub name : is_named (slice_get u.names id.0) ≡ true

  -- an operation of a unit stands over the set
  abbrev pub IsOver : UnitOp → Type 0
  IsOver o = (id : OpId) → o.op ≡ Set id → IsSet o id

  -- the operation that a line makes
  abbrev pub made : OpForm → Op → UnitOp
  made f o = record { op = o; arity = arity_of u o; latency = option_map_or (λ l. l) f.latency 0 }

  -- it stands over the set where it is what its name stands for
  made-over : (f : OpForm) (op : Op) → OpNamed f → IsOf f.operation op → IsOver (made f op)
  made-over f (Set j) is of id e =
      let same : j ≡ id = cc in
      let there : j.0 < length u.names = slice_get_within u.names j.0 f.operation of in
      let state : IsSet (made f (Set j)) j = record {
        arity = slice_get-get_or u.arities j.0 0 (rw u.paired there);
        name = ap is_named of ∙ is;
      } in
      subst (IsSet (made f (Set j))) same state
  made-over f Ldw is of id e = cc
  made-over f Stw is of id e = cc
  made-over f Ldf is of id e = cc
  made-over f Stf is of id e = cc
  made-over f Out is of id e = cc
  made-over f Take is of id e = cc

  -- the operation that an operation line declares
  op-over : (f : OpForm) → OpNamed f → Gives IsOver (op_made u f)
  op-over f is = by (op_named u f.latency f.operation) (op-of f.latency f.operation) where
    by : (o : Option Op) → Gives (IsOf f.operation) o → Gives IsOver (option_map (made f) o)
    by None given = gives-none IsOver
    by (Some op) given = gives-some IsOver (made f op) (made-over f op is (given op refl))

  -- ---- units

  -- the operations of a unit stand over the set
  abbrev pub OpsOver : OpUnit → Type 0
  OpsOver q = AllByRecursion IsOver q.ops

  -- what is so of all forms is so of those that pass a test
  all-filtered : {F : Type 0} (P : F → Type 0) (test : F → Bool) (forms : List F) → AllByRecursion P forms → AllByRecursion P (filter test forms)
  all-filtered P test [] are = tt
  all-filtered {F = F} P test (f ∷ forms) are = by (test f) (all-filtered P test forms are.1) where
    by : (b : Bool) → AllByRecursion P (filter test forms) → AllByRecursion P (if b then f ∷ filter test forms else filter test forms)
    by true rest = (are.0, rest)
    by false rest = rest

  -- those of a unit that lines make do
  unit-over : (sockets : List (List ℕ)) (ops : List OpForm) → AllByRecursion OpNamed ops → (f : UnitForm) → OpsOver (unit_made u sockets ops f)
  unit-over sockets ops are f =
      gives-all IsOver OpNamed (op_made u) op-over (filter (λ o. bytes_eq o.unit f.name) ops)
      (all-filtered OpNamed (λ o. bytes_eq o.unit f.name) ops are)

  -- so do those of all units that lines make
  units-over : (sockets : List (List ℕ)) (ops : List OpForm) (forms : List UnitForm) → AllByRecursion OpNamed ops
      → AllByRecursion OpsOver (map (unit_made u sockets ops) forms)
  units-over sockets ops [] are = tt
  units-over sockets ops (f ∷ forms) are = (unit-over sockets ops are f, units-over sockets ops forms are)

  -- ---- the machine

  -- an operation that is there is one of a unit that is there
  op-there : (m : Machine) (unit k : ℕ) (o : UnitOp) → AllByRecursion OpsOver m.units → op_at m unit k ≡ Some o → IsOver o
  op-there m unit k o over at = by (slice_get m.units unit) refl at where
    by : (q : Option OpUnit) → slice_get m.units unit ≡ q → option_and_then (λ q. slice_get q.ops k) q ≡ Some o → IsOver o
    by None is e = cc
    by (Some q) is e = all_one IsOver q.ops k o (all_one OpsOver m.units unit q over is) e

  -- a machine that a text describes stands over the set
  pub text_over : (text : List ℕ) (m : Machine) → IsMachineText u (lines_of text) m → StandsOver u m
  text_over text m said =
      let lines = lines_of text in
      let named : AllByRecursion LineNames lines = text_names text in
      let ops : AllByRecursion OpNamed (op_lines lines) = ops_named lines named in
      let over : AllByRecursion OpsOver m.units =
      subst (AllByRecursion OpsOver) (sym said.units) (units-over (socket_names lines) (op_lines lines) (unit_lines lines) ops) in
      record {
        arities = λ unit k o id at is. (op-there m unit k o over at id is).arity;
        names = λ unit k o id at is. (op-there m unit k o over at id is).name;
      }
