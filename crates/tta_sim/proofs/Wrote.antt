-- What a cycle writes, and what its operations take as operands.
use Rattle.std.proofs.Common.{◌≡◌, ℕ, ◌<◌, ◌==◌, true, false, List, [], ◌∷◌, ◌++◌, map, Option, Some, None, refl, sym, ap, ◌∙◌, append_assoc, append-nil}
use Rattle.std.specs.Prelude.{slice_get, option_map, if◌then◌else◌}
use Rattle.std.specs.Option.{option_map_or, option_or}
use Rattle.std.specs.List.{filter_map, cons_option, find}
use Rattle.std.proofs.lemmas.Bool.{ltb-true}
use Rattle.std.proofs.lemmas.List.Elements.{filter_map-append}
use Rattle.tta_sim.specs.Cited.{Template, UnitOp, Dest, Machine, Imm, KeptImm, KeptOperand, Written, Brought, Start, kept, write_of, start_of, op_at, Long}
use Rattle.tta_arch.specs.declared.ends.Dest.TheVariants as dest
use Rattle.tta_sim.specs.Places.{word_at}
use Rattle.tta_sim.specs.Moves.{Arrival, is_reachable, brought_of}
use Rattle.tta_sim.specs.Starts.{is_operand_of, operand_with, start_by, starts_of, AreReachable}
use Rattle.tta_sim.specs.Writing.{long_writes}
use Rattle.tta_sim.proofs.Agreeing.{long_brought}

-- ---- writes

long_write_is : (m : Machine) (back : ℕ) (long : Option Long) → filter_map (write_of m back) (long_brought m long) ≡ long_writes m long
long_write_is m back None = refl
long_write_is m back (Some l) = by (slice_get m.templates l.template) where
  by : (o : Option Template) → filter_map (write_of m back) (option_map_or (λ t. (Imm t.imm t.reg, l.value) ∷ []) o []) ≡ option_map_or (λ t. (KeptImm t.imm t.reg, l.value) ∷ []) o []
  by None = refl
  by (Some t) = refl

-- all that is written: what the moves bring, and the long immediate
pub writes_all : (m : Machine) (back : ℕ) (bs : List Brought) (long : Option Long) (written : Written)
    → filter_map (write_of m back) (bs ++ long_brought m long) ++ written ≡ filter_map (write_of m back) bs ++ (long_writes m long ++ written)
writes_all m back bs long written =
    ap (λ ws. ws ++ written) (filter_map-append (write_of m back) bs (long_brought m long) ∙ ap (λ ws. filter_map (write_of m back) bs ++ ws) (long_write_is m back long))
    ∙ append_assoc (filter_map (write_of m back) bs) (long_writes m long) written

-- ---- operands

long_apart : (m : Machine) (long : Option Long) (written : Written) (unit : ℕ) → kept (long_writes m long ++ written) (KeptOperand unit) ≡ kept written (KeptOperand unit)
long_apart m None written unit = refl
long_apart m (Some l) written unit = by (slice_get m.templates l.template) where
  by : (o : Option Template) → kept (option_map_or (λ t. (KeptImm t.imm t.reg, l.value) ∷ []) o [] ++ written) (KeptOperand unit) ≡ kept written (KeptOperand unit)
  by None = refl
  by (Some t) = refl

-- the operand port of a unit after the cycle's moves
kept_operand : (m : Machine) (back : ℕ) (places : List (Option ℕ)) (arrivals : List Arrival) (written : Written) (unit : ℕ)
    → word_at places (KeptOperand unit) ≡ kept written (KeptOperand unit)
    → kept (filter_map (write_of m back) (map brought_of arrivals) ++ written) (KeptOperand unit) ≡ operand_with places arrivals unit
kept_operand m back places [] written unit same = sym same
kept_operand m back places (a ∷ arrivals) written unit same = by a.dst (kept_operand m back places arrivals written unit same) where
  by : (d : Dest) → kept (filter_map (write_of m back) (map brought_of arrivals) ++ written) (KeptOperand unit) ≡ operand_with places arrivals unit
      → kept (filter_map (write_of m back) (map brought_of (record { dst = d; word = a.word } ∷ arrivals)) ++ written) (KeptOperand unit) ≡ operand_with places (record { dst = d; word = a.word } ∷ arrivals) unit
  by (dest.Reg file index) rest = rest
  by (dest.Operand u) rest = elim (u == unit) as (λ b. (if b then Some a.word else kept (filter_map (write_of m back) (map brought_of arrivals) ++ written) (KeptOperand unit))
      ≡ option_or (option_map (λ a. a.word) (if b then Some (record { dst = dest.Operand u; word = a.word }) else find (λ a. is_operand_of unit a.dst) arrivals)) (word_at places (KeptOperand unit))) [
        | true ↦ refl
        | false ↦ rest
      ]
  by (dest.Trigger u op) rest = rest
  by dest.Jump rest = rest
  by dest.Call rest = rest
  by dest.Halt rest = rest

-- ---- operations

long_starts : (m : Machine) (written : Written) (long : Option Long) → filter_map (start_of m written) (long_brought m long) ≡ []
long_starts m written None = refl
long_starts m written (Some l) = by (slice_get m.templates l.template) where
  by : (o : Option Template) → filter_map (start_of m written) (option_map_or (λ t. (Imm t.imm t.reg, l.value) ∷ []) o []) ≡ []
  by None = refl
  by (Some t) = refl

module _ (m : Machine) (written : Written) (operand : ℕ → Option ℕ) (units : ℕ) (same : (unit : ℕ) → unit < units → kept written (KeptOperand unit) ≡ operand unit) where
  start_same : (a : Arrival) → is_reachable units a.dst ≡ true → start_of m written (brought_of a) ≡ start_by m operand a
  start_same a there = by a.dst there where
    by : (d : Dest) → is_reachable units d ≡ true → start_of m written (brought_of (record { dst = d; word = a.word })) ≡ start_by m operand (record { dst = d; word = a.word })
    by (dest.Reg file index) there = refl
    by (dest.Operand unit) there = refl
    by (dest.Trigger unit op) there = of (op_at m unit op) where
      made : Option ℕ → UnitOp → Start
      made word o = record { unit = unit; does = o; operand = if o.arity == 2 then word else Some 0; word = a.word }

      of : (o : Option UnitOp) → option_map_or (λ o. Some (made (kept written (KeptOperand unit)) o)) o None ≡ option_map (made (operand unit)) o
      of None = refl
      of (Some o) = ap (λ word. Some (made word o)) (same unit (ltb-true unit units there))
    by dest.Jump there = refl
    by dest.Call there = refl
    by dest.Halt there = refl

  starts_same : (arrivals : List Arrival) → AreReachable units arrivals → filter_map (start_of m written) (map brought_of arrivals) ≡ filter_map (start_by m operand) arrivals
  starts_same [] there = refl
  starts_same (a ∷ arrivals) there =
      ap (λ o. cons_option o (filter_map (start_of m written) (map brought_of arrivals))) (start_same a there.0) ∙ ap (cons_option (start_by m operand a)) (starts_same arrivals there.1)

-- all operations that start, with the operands that the cycle's moves leave
pub starts_all : (m : Machine) (back : ℕ) (places : List (Option ℕ)) (arrivals : List Arrival) (long : Option Long) (written : Written) (units : ℕ)
    → ((unit : ℕ) → unit < units → word_at places (KeptOperand unit) ≡ kept written (KeptOperand unit)) → AreReachable units arrivals
    → filter_map (start_of m (filter_map (write_of m back) (map brought_of arrivals ++ long_brought m long) ++ written)) (map brought_of arrivals ++ long_brought m long)
    ≡ starts_of m places arrivals
starts_all m back places arrivals long written units same there =
    let bs = map brought_of arrivals in
    let after = filter_map (write_of m back) (bs ++ long_brought m long) ++ written in
    let operands : (unit : ℕ) → unit < units → kept after (KeptOperand unit) ≡ operand_with places arrivals unit = λ unit within.
    ap (λ ws. kept ws (KeptOperand unit)) (writes_all m back bs long written)
    ∙ kept_operand m back places arrivals (long_writes m long ++ written) unit (same unit within ∙ sym (long_apart m long written unit)) in
    filter_map-append (start_of m after) bs (long_brought m long) ∙ ap (λ ts. filter_map (start_of m after) bs ++ ts) (long_starts m after long)
    ∙ append-nil (filter_map (start_of m after) bs) ∙ starts_same m after (operand_with places arrivals) units operands arrivals there
