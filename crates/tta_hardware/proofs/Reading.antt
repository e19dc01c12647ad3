-- Loads and stores of one space never meet in a clock.
use Rattle.std.proofs.Common.{◌≡◌, ℕ, ◌==◌, Bool, true, false, ◌&&◌, Option, Some, None, slice_get, refl, sym, ap, ◌∙◌}
use Rattle.std.specs.Prelude.{is_some, option_and_then}
use Rattle.std.specs.List.{find, list_any}
use Rattle.std.proofs.lemmas.Option.{none-some, same_Some}
use Rattle.std.proofs.lemmas.Bool.{or_right, false≢true, eqb-true}
use Rattle.tta_hardware.specs.Cited.{Units, Op, Ldw, Stw, Ldf, Stf, UnitOp, Machine, has_one_owner, same_op, is_data_op, is_frame_op, Start, op_at, lacks_operand, Instruction, State, Const, Below, bit, is_set, value}
use Rattle.tta_arch.specs.declared.parts.Unit.{Unit as OpUnit}
use Rattle.tta_circuit.specs.Circuit.{Signal as OfSignal}
use Rattle.tta_hardware.specs.Signals.{Signal as Named, Starts, Operand, Goes}
use Rattle.tta_hardware.specs.Wires.{some_start, word_of_start}
use Rattle.tta_hardware.specs.Stands.{Hardware, Starting, start_in}
use Rattle.tta_hardware.specs.Laws.{Meet, started_in, ReadsApart}
use Rattle.tta_hardware.proofs.Bringing.{within_list}
use Rattle.tta_hardware.proofs.Starting.{find_passes}
use Rattle.tta_hardware.proofs.Started.{starting}
use Rattle.tta_hardware.proofs.Single.{IsOffered, found_all, first_of_unit, same_unit}
use Rattle.tta_hardware.proofs.Serving.{apart, offered, some_starts}
use Rattle.tta_hardware.proofs.Owners.{turned, one_store, one_frame_store}

-- a port that no store enables
off : (g s b : Bool) → s ≡ false → is_set (bit (g && is_set (bit (s && b)))) ≡ false
off true false b is = refl
off false false b is = refl
off g true b is = absurd (false≢true (sym is))

has_unit : (o : Option OpUnit) (op : ℕ) (d : UnitOp) → option_and_then (λ x. slice_get x.ops op) o ≡ Some d → is_some o ≡ true
has_unit None op d at = absurd (none-some d at)
has_unit (Some x) op d at = refl

module _ (u : Units) (m : Machine) (h : Hardware) (env : Named → ℕ) (s : State) (i : Instruction) (meet : Meet u m h env s i)
    (lacks : list_any lacks_operand (started_in m s i) ≡ false) where
  -- where an operation of a class starts that has one unit, no store of that class does
  quiet : (class store : Op → Bool) → has_one_owner class m.units ≡ true → has_one_owner store m.units ≡ true
      → ((o : Op) → store o ≡ true → class o ≡ true)
      → (unit op : ℕ) (o : UnitOp) → op_at m unit op ≡ Some o → is_set (env (Starts unit op)) ≡ true → class o.op ≡ true
      → store o.op ≡ false
      → is_set (value u h.memories env (some_start m store)) ≡ false
  quiet class store one one_store_unit within unit op o here starts is no_store =
      some_starts u m h env s i meet lacks store one_store_unit ∙ none (find (λ t. store t.does.op) (started_in m s i)) refl
    where
      clash : (t : Start) → find (λ t. store t.does.op) (started_in m s i) ≡ Some t
          → (q : Option Start) → start_in unit (started_in m s i) ≡ q → Starting m env unit q → false ≡ true
      clash t at None is_none none_starts = sym (none_starts op o here) ∙ starts
      clash t at (Some x) is_x one_start =
          let same : op ≡ one_start.op = eqb-true op one_start.op (sym (one_start.one op o here) ∙ starts) in
          let does : o ≡ x.does = same_Some o x.does (sym here ∙ ap (op_at m unit) same ∙ one_start.there) in
          let x_class : class x.does.op ≡ true = ap (λ (p : UnitOp). class p.op) (sym does) ∙ is in
          let x_there = found_all (IsOffered m) (λ t. t.unit == unit) (started_in m s i) x is_x (offered u m h env s i meet lacks) in
          let t_there = found_all (IsOffered m) (λ t. store t.does.op) (started_in m s i) t at (offered u m h env s i meet lacks) in
          let t_store : store t.does.op ≡ true = find_passes (λ t. store t.does.op) (started_in m s i) t at in
          let units : x.unit ≡ t.unit = same_unit m class one x t x_there t_there x_class (within t.does.op t_store) in
          let x_unit : x.unit ≡ unit = eqb-true x.unit unit (find_passes (λ t. t.unit == unit) (started_in m s i) x is_x) in
          let t_first : start_in t.unit (started_in m s i) ≡ Some t =
          first_of_unit (λ t. store t.does.op) (started_in m s i) t (apart u m h env s i meet lacks) at in
          let both : x ≡ t = same_Some x t (sym is_x ∙ ap (λ n. start_in n (started_in m s i)) (sym x_unit ∙ units) ∙ t_first) in
          sym no_store ∙ ap (λ (p : UnitOp). store p.op) does ∙ ap (λ (y : Start). store y.does.op) both ∙ t_store

      none : (q : Option Start) → find (λ t. store t.does.op) (started_in m s i) ≡ q → is_some q ≡ false
      none None at = refl
      none (Some t) at =
          absurd (false≢true (clash t at (start_in unit (started_in m s i)) refl
          (starting u m h env s i meet unit (within_list m.units unit (has_unit (slice_get m.units unit) op o here)) lacks)))

pub reads_apart : ReadsApart
reads_apart u m h env s i meet lacks unit op o here starts = (
  λ is.
      off (is_set (env Goes)) (is_set (value u h.memories env (some_start m (same_op Stw))))
      (is_set (value u h.memories env (Below (word_of_start m (same_op Stw) (λ unit. OfSignal (Operand unit))) (Const 32 m.data_words))))
      (quiet u m h env s i meet lacks is_data_op (same_op Stw) meet.rules.one_data (one_store m meet.rules)
      (λ o is. or_right (same_op o Ldw) (same_op o Stw) (turned Stw o is)) unit op o here starts (ap is_data_op is) (ap (same_op Stw) is)),
  λ is.
      off (is_set (env Goes)) (is_set (value u h.memories env (some_start m (same_op Stf))))
      (is_set (value u h.memories env (Below (word_of_start m (same_op Stf) (λ unit. OfSignal (Operand unit))) (Const 32 m.frame_words))))
      (quiet u m h env s i meet lacks is_frame_op (same_op Stf) meet.rules.one_frame (one_frame_store m meet.rules)
      (λ o is. or_right (same_op o Ldf) (same_op o Stf) (turned Stf o is)) unit op o here starts (ap is_frame_op is) (ap (same_op Stf) is)),
)
