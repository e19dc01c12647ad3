-- An abstract state after a cycle admits whatever a choice makes of what was admitted, and tells no more than what some choice makes of what was told.
use Rattle.std.proofs.Common.{◌≡◌, ℕ, zero, suc, ◌+◌, Bool, true, false, List, [], ◌∷◌, map, Option, Some, None, refl, ap, sym, ◌∙◌, arith}
use Rattle.std.specs.Prelude.{◌==◌, ◌||◌, nat_le, if◌then◌else◌, slice_get, option_and_then}
use Rattle.std.specs.Option.{option_map, option_map_or}
use Rattle.std.proofs.lemmas.Bool.{eqb-true, or_parts}
use Rattle.tta_check.specs.Cited.{Machine, has_bit, Target, Trigger, Control, Effect, Place, or_else, has_result, op_at, Instruction, effects_of}
use Rattle.tta_arch.specs.Effects.{Reg, Imm, Operand, same_place}
use Rattle.tta_check.specs.declared.state.Cell.{Cell}
use Rattle.tta_check.specs.declared.state.Kept.{Kept}
use Rattle.tta_check.specs.declared.state.Port.{Port}
use Rattle.tta_check.specs.declared.state.AbstractState.{AbstractState}
use Rattle.tta_check.specs.declared.transfer_function.Transfer.{Transfer}
use Rattle.tta_check.specs.Walks.{Choice, Word}
use Rattle.tta_check.specs.Facts.{Fact, Here, Unset, Holds, Early, Late, before, starts_on}
use Rattle.tta_check.specs.States.{place_of, unwritten, cell_of, idle, port_of, is_early, tells_word, covers_word, tells, covers}
use Rattle.tta_check.specs.Steps.{agrees, write_into, cell_from, cell_after, start_on, port_after}
use Rattle.tta_check.specs.Transfers.{kept_after, ports_after, IsAfter, is_listed, Lists}
use Rattle.tta_check.proofs.Operands.{Once}
use Rattle.tta_check.proofs.Lone.{OnceWhere}
use Rattle.tta_check.proofs.May.{may_settles}
use Rattle.tta_check.proofs.Cells.{ComesBy, written_by, writer_by, unset_before, holds_before, unset_is, holds_is, unset_covers, holds_covers, unset_tells, holds_tells}
use Rattle.tta_check.proofs.Ports.{InTime, early_before, late_before, starts_by, early_covers, early_tells, late_covers, late_tells}
use Rattle.tta_arch.proofs.Places.{same_is}

-- ---- what the functions make is such an abstract state

cells_listed : (m : Machine) (i : Instruction) (how : Transfer) (ks rest : List Kept) (p : Place)
    → cell_of (map (kept_after m i how ks) rest) p ≡ (if is_listed rest p then cell_from (cell_of rest p) ks how.settled (write_into m how.back p (effects_of m i)) else unwritten)
cells_listed m i how ks [] p = refl
cells_listed m i how ks (k ∷ rest) p = on (same_place (place_of k.at) p) refl (cells_listed m i how ks rest p) where
  after : Cell → Place → Cell
  after c q = cell_from c ks how.settled (write_into m how.back q (effects_of m i))

  on : (b : Bool) → same_place (place_of k.at) p ≡ b → cell_of (map (kept_after m i how ks) rest) p ≡ (if is_listed rest p then after (cell_of rest p) p else unwritten)
      → (if b then after k.cell (place_of k.at) else cell_of (map (kept_after m i how ks) rest) p) ≡ (if b || is_listed rest p then after (if b then k.cell else cell_of rest p) p else unwritten)
  on true is more = ap (after k.cell) (same_is (place_of k.at) p is)
  on false is more = more

unlisted : (ks : List Kept) (p : Place) → is_listed ks p ≡ false → cell_of ks p ≡ unwritten
unlisted [] p h = refl
unlisted (k ∷ ks) p h = let q = or_parts (same_place (place_of k.at) p) _ h in ap (λ b. if b then k.cell else cell_of ks p) q.0 ∙ unlisted ks p q.1

cells_are : (m : Machine) (i : Instruction) (how : Transfer) (ks : List Kept) → Lists m how.back (effects_of m i) ks → (p : Place)
    → cell_of (map (kept_after m i how ks) ks) p ≡ cell_after ks how.settled (write_into m how.back p (effects_of m i)) p
cells_are m i how ks lists p = cells_listed m i how ks ks p ∙ on (is_listed ks p) refl where
  after : Cell
  after = cell_after ks how.settled (write_into m how.back p (effects_of m i)) p

  on : (b : Bool) → is_listed ks p ≡ b → (if b then after else unwritten) ≡ after
  on true is = refl
  on false is = sym (ap (λ o. cell_after ks how.settled o p) (lists p is) ∙ unlisted ks p is)

ports_at : (m : Machine) (i : Instruction) (how : Transfer) (n : ℕ) (ps : List Port) (k : ℕ)
    → slice_get (ports_after m i how n ps) k ≡ option_map (port_after how.settled (start_on m (n + k) (effects_of m i))) (slice_get ps k)
ports_at m i how n [] k = refl
ports_at m i how n (p ∷ ps) zero = let e : n ≡ n + 0 = omega arith in ap (λ j. Some (port_after how.settled (start_on m j (effects_of m i)) p)) e
ports_at m i how n (p ∷ ps) (suc k) = let e : n + 1 + k ≡ n + suc k = omega arith in ports_at m i how (n + 1) ps k ∙ ap (λ j. option_map (port_after how.settled (start_on m j (effects_of m i))) (slice_get ps k)) e

-- no unit, no start
no_start : (m : Machine) (unit : ℕ) → slice_get m.units unit ≡ None → (es : List Effect) → start_on m unit es ≡ None
no_start m unit none [] = refl
no_start m unit none (e ∷ es) = ap (λ o. or_else (option_map_or (λ l. Some (e.guard, l)) o None) (start_on m unit es)) (on e.target) ∙ no_start m unit none es where
  at : (u op : ℕ) (b : Bool) → (u == unit) ≡ b → (if b then option_map_or (λ o. if has_result o.op then Some o.latency else None) (op_at m u op) None else None) ≡ None
  at u op true is = ap (λ o. option_map_or (λ x. if has_result x.op then Some x.latency else None) (option_and_then (λ v. slice_get v.ops op) o) None) (ap (slice_get m.units) (eqb-true u unit is) ∙ none)
  at u op false is = refl

  on : (t : Target) → starts_on m unit t ≡ None
  on (Reg file index) = refl
  on (Imm u index) = refl
  on (Operand u) = refl
  on (Control kind) = refl
  on (Trigger u op) = at u op (u == unit) refl

ports_are : (m : Machine) (i : Instruction) (how : Transfer) (ps : List Port) → ((unit : ℕ) → slice_get ps unit ≡ None → slice_get m.units unit ≡ None) → (unit : ℕ)
    → port_of (ports_after m i how 0 ps) unit ≡ port_after how.settled (start_on m unit (effects_of m i)) (port_of ps unit)
ports_are m i how ps all unit = ap (λ o. option_map_or (λ p. p) o idle) (ports_at m i how 0 ps unit ∙ ap (λ j. option_map (port_after how.settled (start_on m j (effects_of m i))) (slice_get ps unit)) (let e : 0 + unit ≡ unit = omega arith in e))
    ∙ on (slice_get ps unit) refl where
      on : (o : Option Port) → slice_get ps unit ≡ o → option_map_or (λ p. p) (option_map (port_after how.settled (start_on m unit (effects_of m i))) o) idle
          ≡ port_after how.settled (start_on m unit (effects_of m i)) (option_map_or (λ p. p) o idle)
      on (Some p) is = refl
      on None is = sym (ap (λ o. port_after how.settled o idle) (no_start m unit (all unit is) (effects_of m i)))

pub is_after : (m : Machine) (i : Instruction) (how : Transfer) (old new : AbstractState) → Lists m how.back (effects_of m i) old.cells.items → ((unit : ℕ) → slice_get old.ports.items unit ≡ None → slice_get m.units unit ≡ None)
    → new.cells.items ≡ map (kept_after m i how old.cells.items) old.cells.items → new.ports.items ≡ ports_after m i how 0 old.ports.items → IsAfter m how (effects_of m i) old new
is_after m i how old new lists all cells ports = record {
  cells = λ p. ap (λ ks. cell_of ks p) cells ∙ cells_are m i how old.cells.items lists p;
  ports = λ unit. ap (λ ps. port_of ps unit) ports ∙ ports_are m i how old.ports.items all unit;
}

-- ---- facts

-- at most one effect writes a place or starts a result on a unit, and results show in time
pub record AreLone (m : Machine) (es : List Effect) : Type 0 where
  pub places : (p : Place) → Once p es
  pub units : (unit : ℕ) → OnceWhere (λ t. option_map_or (λ l. true) (starts_on m unit t) false) es
  pub times : (unit : ℕ) → InTime (start_on m unit es)

unset_by : (m : Machine) (back : ℕ) (choice : Choice) (p : Place) (es : List Effect) → Once p es → before m back choice es (Unset p) ≡ unset_before p (written_by choice (write_into m back p es))
unset_by m back choice p es once = unset_is m back choice p es ∙ ap (unset_before p) (writer_by m back choice p es once)

holds_by : (m : Machine) (back : ℕ) (choice : Choice) (p : Place) (x : Word) (es : List Effect) → Once p es → before m back choice es (Holds p x) ≡ holds_before p x (written_by choice (write_into m back p es))
holds_by m back choice p x es once = holds_is m back choice p x es ∙ ap (holds_before p x) (writer_by m back choice p es once)

early_by : (m : Machine) (back : ℕ) (choice : Choice) (unit wait : ℕ) (es : List Effect) → OnceWhere (λ t. option_map_or (λ l. true) (starts_on m unit t) false) es → before m back choice es (Early unit wait) ≡ early_before unit wait choice (start_on m unit es)
early_by m back choice unit wait es once = ap (λ b. if b then None else Some (Early unit (wait + 1))) (starts_by m choice unit (λ l. nat_le l (wait + 1)) es once)

late_by : (m : Machine) (back : ℕ) (choice : Choice) (unit wait : ℕ) (es : List Effect) → OnceWhere (λ t. option_map_or (λ l. true) (starts_on m unit t) false) es → before m back choice es (Late unit wait) ≡ late_before unit wait choice (start_on m unit es)
late_by m back choice unit wait es once = ap (λ b. if b then Some Here else Some (Late unit (wait + 1))) (starts_by m choice unit (λ l. l == wait + 1) es once)

pub after_covers : (m : Machine) (how : Transfer) (es : List Effect) (old new : AbstractState) → AreLone m es → IsAfter m how es old new → (choice : Choice) → agrees choice how.settled ≡ true
    → (f' f : Fact) → before m how.back choice es f' ≡ Some f → covers old f ≡ true → covers new f' ≡ true
after_covers m how es old new l is choice a Here f h k = refl
after_covers m how es old new l is choice a (Unset p) f h k =
    ap (λ c. c.unset) (is.cells p) ∙ unset_covers old how.settled (write_into m how.back p es) p choice a f (sym (unset_by m how.back choice p es (l.places p)) ∙ h) k
after_covers m how es old new l is choice a (Holds p x) f h k =
    ap (λ c. covers_word c.values x) (is.cells p) ∙ holds_covers old how.settled (write_into m how.back p es) p x choice a f (sym (holds_by m how.back choice p x es (l.places p)) ∙ h) k
after_covers m how es old new l is choice a (Early unit wait) f h k =
    ap (λ p. is_early p wait) (is.ports unit) ∙ early_covers old how.settled (start_on m unit es) unit wait choice (l.times unit) a f (sym (early_by m how.back choice unit wait es (l.units unit)) ∙ h) k
after_covers m how es old new l is choice a (Late unit wait) f h k =
    ap (λ p. has_bit p.late wait) (is.ports unit) ∙ late_covers old how.settled (start_on m unit es) unit wait choice (l.times unit) a f (sym (late_by m how.back choice unit wait es (l.units unit)) ∙ h) k

-- a choice by which a fact comes from one that is told
abbrev pub ToldBy : Machine → Transfer → List Effect → AbstractState → Fact → Type 0
ToldBy m how es old f' = (choice : Choice) × (f : Fact) × (agrees choice how.settled ≡ true) × (before m how.back choice es f' ≡ Some f) × (tells old f ≡ true)

told_by : (m : Machine) (how : Transfer) (es : List Effect) (old : AbstractState) (f' : Fact) (from : Choice → Option Fact) → ((c : Choice) → before m how.back c es f' ≡ from c) → ComesBy old how.settled from → ToldBy m how es old f'
told_by m how es old f' from same c = (c.choice, c.fact, c.agrees, same c.choice ∙ c.comes, c.told)

pub after_tells : (m : Machine) (how : Transfer) (es : List Effect) (old new : AbstractState) → AreLone m es → IsAfter m how es old new → (f' : Fact) → tells new f' ≡ true → ToldBy m how es old f'
after_tells m how es old new l is Here t = let s = may_settles how.settled None true refl in (s.choice, Here, s.agrees, refl, refl)
after_tells m how es old new l is (Unset p) t =
    told_by m how es old (Unset p) _ (λ c. unset_by m how.back c p es (l.places p)) (unset_tells old how.settled (write_into m how.back p es) p (sym (ap (λ c. c.unset) (is.cells p)) ∙ t))
after_tells m how es old new l is (Holds p x) t =
    told_by m how es old (Holds p x) _ (λ c. holds_by m how.back c p x es (l.places p)) (holds_tells old how.settled (write_into m how.back p es) p x (sym (ap (λ c. tells_word c.values x) (is.cells p)) ∙ t))
after_tells m how es old new l is (Early unit wait) t =
    told_by m how es old (Early unit wait) _ (λ c. early_by m how.back c unit wait es (l.units unit)) (early_tells old how.settled (start_on m unit es) unit wait (l.times unit) (sym (ap (λ p. is_early p wait) (is.ports unit)) ∙ t))
after_tells m how es old new l is (Late unit wait) t =
    told_by m how es old (Late unit wait) _ (λ c. late_by m how.back c unit wait es (l.units unit)) (late_tells old how.settled (start_on m unit es) unit wait (l.times unit) (sym (ap (λ p. has_bit p.late wait) (is.ports unit)) ∙ t))
