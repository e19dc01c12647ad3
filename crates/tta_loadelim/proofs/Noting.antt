-- What is noted on the way down a list is so.
use Rattle.std.proofs.Common.{◌≡◌, ℕ, true, List, ◌∷◌, Option, Some, None, refl, ap, ◌∙◌}
use Rattle.std.specs.Prelude.{◌==◌, if◌then◌else◌, nat_lt, option_map, option_and_then, filter, ◌++◌}
use Rattle.std.specs.Option.{option_map_or}
use Rattle.tta_loadelim.specs.Cited.{Source, UnitOp, Machine, Target, Reg, Imm, Trigger, Control, KeptOperand, op_at, Port, Item, place_number, copied, same_end, sure_source, target_of_item, operand_place}
use Rattle.tta_arch.specs.declared.ends.Source.TheVariants as source
use Rattle.tta_arch.specs.Effects.{Operand}
use Rattle.tta_moves.proofs.Places.{either}
use Rattle.tta_loadelim.specs.declared.facts.Fact.{Fact}
use Rattle.tta_loadelim.specs.AvailableSlots.{fact, unit_of, port_of, register_in, stored, by_load, by_twin, by_store, by_copy, stays, known}
use Rattle.tta_loadelim.specs.Facts.{is_among, are_among, StoresBy}
use Rattle.tta_loadelim.proofs.Among.{among_copied, among_left, among_right, all_among, among_in, among_filter}

-- the operand port that is numbered is that of the unit
pub operand_unit : (m : Machine) (t : Target) (unit n : ℕ) → unit_of t ≡ Some unit → option_map place_number (operand_place m t) ≡ Some n → operand_place m t ≡ Some (KeptOperand unit)
operand_unit m (Reg f i) unit n e s = absurd cc
operand_unit m (Imm f i) unit n e s = absurd cc
operand_unit m (Operand u) unit n e s = absurd cc
operand_unit m (Control kind) unit n e s = absurd cc
operand_unit m (Trigger u op) unit n e s = let same : u ≡ unit = cc in on (op_at m u op) s ∙ ap (λ k. Some (KeptOperand k)) same where
  on : (o : Option UnitOp) → option_map place_number (option_map_or (λ o. if o.arity == 2 then Some (KeptOperand u) else None) o None) ≡ Some n
      → option_map_or (λ o. if o.arity == 2 then Some (KeptOperand u) else None) o None ≡ Some (KeptOperand u)
  on None s = absurd cc
  on (Some o) s = either (o.arity == 2)
      (λ two. rw two refl)
      (λ one. let none = rw one at s in absurd cc)

-- a store by the word that its operand port has is into the slot of that word
pub store_known : (m : Machine) (before : List Item) (x : Item) (unit word : ℕ) → StoresBy m x unit → copied m (KeptOperand unit) before ≡ Some (Port (source.Value word)) → nat_lt word m.frame_words ≡ true
    → stored m before x ≡ Some word
store_known m before x unit word s is lt = rw (s.store, s.operand, is, lt, s.sure) refl

-- a fact of the source of a move into a register is one of the register after it
pub copies_among : (m : Machine) (facts : List Fact) (x : Item) (src reg : Source) (f : Fact) → option_and_then port_of (sure_source x) ≡ Some src → register_in m (target_of_item x) ≡ Some reg
    → is_among facts f ≡ true → same_end f.from src ≡ true → is_among (by_copy m facts x) (fact f.slot reg) ≡ true
copies_among m facts x src reg f from into among same = rw (from, into) (among_copied src reg facts f among same)

-- what is noted after an item is all among what is known then
module _ (m : Machine) (before : List Item) (x : Item) where
  abbrev pub loads : List Fact
  loads = by_load m x

  abbrev pub twins : List Fact
  twins = by_twin m before x

  abbrev pub stores : List Fact
  stores = by_store m before x

  abbrev pub copies : List Fact
  copies = by_copy m (known m before) x

  abbrev pub rest : List Fact
  rest = filter (stays m before x) (known m before)

  pub loads_known : are_among (known m (x ∷ before)) loads ≡ true
  loads_known = all_among (known m (x ∷ before)) loads (λ f e. among_left loads (twins ++ (stores ++ (copies ++ rest))) f e)

  pub twins_known : are_among (known m (x ∷ before)) twins ≡ true
  twins_known = all_among (known m (x ∷ before)) twins (λ f e. among_right loads (twins ++ (stores ++ (copies ++ rest))) f (among_left twins (stores ++ (copies ++ rest)) f e))

  pub stores_known : are_among (known m (x ∷ before)) stores ≡ true
  stores_known = all_among (known m (x ∷ before)) stores (λ f e.
      among_right loads (twins ++ (stores ++ (copies ++ rest))) f (among_right twins (stores ++ (copies ++ rest)) f (among_left stores (copies ++ rest) f e)))

  pub copies_known : are_among (known m (x ∷ before)) copies ≡ true
  copies_known = all_among (known m (x ∷ before)) copies (λ f e.
      among_right loads (twins ++ (stores ++ (copies ++ rest))) f (among_right twins (stores ++ (copies ++ rest)) f (among_right stores (copies ++ rest) f (among_left copies rest f e))))

  pub rest_known : are_among (known m (x ∷ before)) rest ≡ true
  rest_known = all_among (known m (x ∷ before)) rest (λ f e.
      among_right loads (twins ++ (stores ++ (copies ++ rest))) f (among_right twins (stores ++ (copies ++ rest)) f (among_right stores (copies ++ rest) f (among_right copies rest f e))))

  -- what stays known is known then, where the item leaves each fact as it is
  pub all_stay : (fs : List Fact) → are_among (known m before) fs ≡ true → ((f : Fact) → stays m before x f ≡ true) → are_among (known m (x ∷ before)) fs ≡ true
  all_stay fs old stay = all_among (known m (x ∷ before)) fs (λ f e.
      among_in (known m (x ∷ before)) rest f rest_known (among_filter (stays m before x) (known m before) f (among_in (known m before) fs f old e) (stay f)))
