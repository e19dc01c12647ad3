-- What an instruction gives is right: a verdict is true of the code, and where walks go on the abstract states have their walks again.
use Rattle.std.proofs.Common.{◌≡◌, ℕ, zero, suc, ◌+◌, Bool, true, false, List, [], ◌∷◌, map, length, Option, Some, None, refl, ap, sym, subst, ◌∙◌, inl, inr, arith}
use Rattle.std.specs.Prelude.{◌||◌, is_some, if◌then◌else◌, slice_get}
use Rattle.std.specs.Option.{option_map, option_map_or}
use Rattle.std.specs.List.{list_any}
use Rattle.tta_check.specs.Cited.{Machine, IsMachine, Kind, Target, Trigger, Control, Effect, Place, or_else, Instruction, Code, effects_of, is_legal}
use Rattle.tta_arch.specs.Effects.{Reg, Imm, Operand, same_place}
use Rattle.tta_check.specs.declared.values.ValueSet.{ValueSet}
use Rattle.tta_check.specs.declared.values.ValueSet.TheVariants.{Nothing, One, Two}
use Rattle.tta_check.specs.declared.point.Under.{Under as KeptUnder}
use Rattle.tta_check.specs.declared.state.Kept.{Kept}
use Rattle.tta_check.specs.declared.state.Port.{Port}
use Rattle.tta_check.specs.declared.state.AbstractState.{AbstractState}
use Rattle.tta_check.specs.declared.guard_value.GuardValue.{GuardValue}
use Rattle.tta_check.specs.declared.location.Location.{Location}
use Rattle.tta_check.specs.declared.transfer_function.Transfer.{Transfer}
use Rattle.tta_check.specs.declared.verdict.Verdict.{Verdict}
use Rattle.tta_check.specs.declared.verdict.Verdict.TheVariants.{Unsafe}
use Rattle.tta_check.specs.declared.visit.Successor.{Successor}
use Rattle.tta_check.specs.Walks.{Word, takes_address}
use Rattle.tta_check.specs.Facts.{origin_of, same_word, goes_into}
use Rattle.tta_check.specs.Causes.{code_by}
use Rattle.tta_check.specs.Codes.{code_in}
use Rattle.tta_check.specs.States.{place_of, tells, covers}
use Rattle.tta_check.specs.Steps.{words_of, write_into}
use Rattle.tta_check.specs.Transfers.{kept_after, ports_after, IsAfter, is_listed, Lists}
use Rattle.tta_check.specs.Controls.{takes_control, controller, does, is_settled}
use Rattle.tta_check.specs.Locations.{has_location, HasAll}
use Rattle.tta_check.specs.JumpTargets.{only_word, jump_target_of}
use Rattle.tta_check.specs.Going.{under_as, point_as}
use Rattle.tta_check.specs.Visits.{transfer_at, IsWay, end_of, GoesOn}
use Rattle.tta_check.proofs.Gives.{In, none_in}
use Rattle.tta_check.proofs.Cells.{none_write, same_self}
use Rattle.tta_check.proofs.Witnessed.{Witnessed}
use Rattle.tta_check.proofs.Lone.{OnceWhere}
use Rattle.tta_check.proofs.Events.{once_control}
use Rattle.tta_check.proofs.AfterState.{is_after}
use Rattle.tta_check.proofs.Slots.{code_slots}
use Rattle.tta_check.proofs.Transferring.{transfer_witnessed, code_alike}
use Rattle.tta_check.proofs.JumpTargets.{is_only, OnlyWord, only_single, only_are_single}
use Rattle.tta_check.proofs.Proper.{AreProper, transferred_proper}

-- what is kept where walks stand is right: each fact that is told has a walk; it is of these places and of all units, and two words differ
pub record IsEntry (m : Machine) (code : Code) (locations : List Location) (o : Successor) : Type 0 where
  pub witnessed : Witnessed (covers o.state) (tells o.state) m code (point_as o.point)
  pub places : map (λ k. k.at) o.state.cells.items ≡ locations
  pub units : length o.state.ports.items ≡ length m.units
  pub proper : AreProper o.state.cells.items

-- an instruction that is carried out
pub record IsThere (m : Machine) (code : Code) (locations : List Location) (i : Instruction) (o : Successor) : Type 0 where
  pub rules : IsMachine m
  pub there : slice_get code.words o.point.address ≡ Some i
  pub legal : is_legal m i ≡ true
  pub has : HasAll (effects_of m i) locations

-- ---- the control move

pub controller_is : (es : List Effect) (e : Effect) → OnceWhere takes_control es → In e es → takes_control e.target ≡ true → controller es ≡ Some e
controller_is [] e once here takes = absurd here
controller_is (x ∷ es) e once (inl is) takes = ap (λ b. or_else (if b then Some x else None) (controller es)) (ap (λ y. takes_control y.target) (sym is) ∙ takes) ∙ ap Some (sym is)
controller_is (x ∷ es) e once (inr here) takes =
    ap (λ b. or_else (if b then Some x else None) (controller es)) (on (takes_control x.target) refl) ∙ controller_is es e once.1 here takes where
      on : (b : Bool) → takes_control x.target ≡ b → b ≡ false
      on true is = absurd (let f = none_in (λ z. takes_control z.target) es e here (once.0 is) in cc)
      on false is = refl

pub controller_in : (es : List Effect) (e : Effect) → controller es ≡ Some e → In e es
controller_in [] e h = absurd cc
controller_in (x ∷ es) e h = on (takes_control x.target) h (controller_in es e) where
  same : Some x ≡ Some e → e ≡ x
  same h = cc

  on : (b : Bool) → or_else (if b then Some x else None) (controller es) ≡ Some e → (controller es ≡ Some e → In e es) → In e (x ∷ es)
  on true h more = inl (same h)
  on false h more = inr (more h)

pub address_control : (t : Target) → takes_address t ≡ true → takes_control t ≡ true
address_control (Control kind) h = refl
address_control (Reg f i) h = absurd cc
address_control (Imm u i) h = absurd cc
address_control (Operand u) h = absurd cc
address_control (Trigger u o) h = absurd cc

only_is_word : (h : ValueSet) (w : Word) → only_word h ≡ Some w → is_only w h ≡ true
only_is_word Nothing w h = refl
only_is_word (One a) w h = ap (same_word a) (same h) ∙ same_self a where
  same : Some a ≡ Some w → w ≡ a
  same h = cc
only_is_word (Two a b) w h = absurd cc

jump_target_only : (r : AbstractState) (es : List Effect) (w : Word) → OnceWhere takes_control es → jump_target_of r.cells.items (controller es) ≡ Some w → OnlyWord r es w
jump_target_only r es w once jump_target e item takes =
    only_is_word (words_of r.cells.items (origin_of e.src)) w
    (sym (ap (jump_target_of r.cells.items) (controller_is es e once item (address_control e.target takes))
    ∙ ap (λ b. if b then only_word (words_of r.cells.items (origin_of e.src)) else Some None) takes) ∙ jump_target)

-- ---- no code

under_some : (u : Option KeptUnder) → is_some (option_map under_as u) ≡ is_some u
under_some None = refl
under_some (Some u) = refl

pub told_code : (m : Machine) (i : Instruction) (at : Successor) → code_by (tells at.state) m (is_some (point_as at.point).under) (effects_of m i) ≡ code_in (tells at.state) m (is_some at.point.under) i
told_code m i at = ap (λ b. code_by (tells at.state) m b (effects_of m i)) (under_some at.point.under) ∙ code_slots (tells at.state) m (is_some at.point.under) i

pub no_code_in : (m : Machine) (i : Instruction) (at : Successor) → end_of m i at ≡ None → code_in (tells at.state) m (is_some at.point.under) i ≡ None
no_code_in m i at h = on (code_in (tells at.state) m (is_some at.point.under) i) (option_map_or (λ word. None) (jump_target_of at.state.cells.items (controller (effects_of m i))) (Some (Unsafe 80 at.point.address))) h where
  on : (o : Option ℕ) (v : Option Verdict) → option_map_or (λ code. Some (Unsafe code at.point.address)) o v ≡ None → o ≡ None
  on None v h = refl
  on (Some c) v h = absurd cc

pub only_of : (m : Machine) (i : Instruction) (at : Successor) (acts stays : Option Successor) → is_legal m i ≡ true → (g : GoesOn m i at acts stays) → OnlyWord at.state (effects_of m i) g.word
only_of m i at acts stays legal g = jump_target_only at.state (effects_of m i) g.word (once_control m i legal) g.jump_target

pub free_of : (m : Machine) (i : Instruction) (at : Successor) (acts stays : Option Successor) → is_legal m i ≡ true → GoesOn m i at acts stays → code_by (covers at.state) m (is_some (point_as at.point).under) (effects_of m i) ≡ None
free_of m i at acts stays legal g =
    sym (code_alike at.state m (is_some (point_as at.point).under) (effects_of m i) (only_are_single at.state (effects_of m i) g.word (only_of m i at acts stays legal g)))
    ∙ told_code m i at ∙ no_code_in m i at g.no_end

-- ---- abstract states after an instruction

listed_location : (ks : List Kept) (p : Place) → has_location (map (λ k. k.at) ks) p ≡ is_listed ks p
listed_location [] p = refl
listed_location (k ∷ ks) p = ap (λ b. same_place (place_of k.at) p || b) (listed_location ks p)

lists_of : (m : Machine) (back : ℕ) (es : List Effect) (locations : List Location) (ks : List Kept) → HasAll es locations → map (λ k. k.at) ks ≡ locations → Lists m back es ks
lists_of m back es locations ks has is p none = on (list_any (λ x. goes_into p x.target) es) refl where
  on : (b : Bool) → list_any (λ x. goes_into p x.target) es ≡ b → write_into m back p es ≡ None
  on true h = absurd (let a = has p h in let b = ap (λ ss. has_location ss p) is in let c = listed_location ks p in let d = sym c ∙ b ∙ a in cc)
  on false h = (none_write m back [] p es h).1

no_more : {A B : Type 0} (xs : List A) (ys : List B) (k : ℕ) → length xs ≡ length ys → slice_get xs k ≡ None → slice_get ys k ≡ None
no_more [] [] k e h = refl
no_more [] (y ∷ ys) k e h = absurd (omega arith)
no_more (x ∷ xs) [] k e h = refl
no_more (x ∷ xs) (y ∷ ys) zero e h = absurd cc
no_more (x ∷ xs) (y ∷ ys) (suc k) e h = no_more xs ys k (omega arith) h

pub after_of : (m : Machine) (code : Code) (locations : List Location) (i : Instruction) (at x : Successor) (guard_value : Option GuardValue) (event : Option (Kind × ℕ)) → IsEntry m code locations at → IsThere m code locations i at
    → IsWay m i at guard_value event (Some x) → IsAfter m (transfer_at m (point_as at.point) guard_value) (effects_of m i) at.state x.state
after_of m code locations i at x guard_value event entry t way =
    is_after m i (transfer_at m (point_as at.point) guard_value) at.state x.state (lists_of m _ (effects_of m i) locations at.state.cells.items t.has entry.places)
    (λ unit. no_more at.state.ports.items m.units unit entry.units) (way.cells x refl) (way.ports x refl)

places_after : (m : Machine) (i : Instruction) (how : Transfer) (ks rest : List Kept) → map (λ k. k.at) (map (kept_after m i how ks) rest) ≡ map (λ k. k.at) rest
places_after m i how ks [] = refl
places_after m i how ks (k ∷ rest) = ap (λ xs. k.at ∷ xs) (places_after m i how ks rest)

pub count_after : (m : Machine) (i : Instruction) (how : Transfer) (n : ℕ) (ps : List Port) → length (ports_after m i how n ps) ≡ length ps
count_after m i how n [] = refl
count_after m i how n (p ∷ ps) = let e = count_after m i how (n + 1) ps in omega arith

pub way_entry : (m : Machine) (code : Code) (locations : List Location) (i : Instruction) (at x : Successor) (acts stays : Option Successor) (guard_value : Option GuardValue) (does_act : Bool) → IsEntry m code locations at → IsThere m code locations i at
    → (g : GoesOn m i at acts stays) → is_settled (controller (effects_of m i)) guard_value does_act ≡ true → IsWay m i at guard_value (does g.word (controller (effects_of m i)) does_act) (Some x) → IsEntry m code locations x
way_entry m code locations i at x acts stays guard_value does_act entry t g is way =
    let how = transfer_at m (point_as at.point) guard_value in
    record {
      witnessed = transfer_witnessed m code (point_as at.point) (point_as x.point) i how does_act g.word at.state x.state t.rules
          (record { there = t.there; legal = t.legal; back = refl; settled = is; leads = sym way.point })
          entry.witnessed (free_of m i at acts stays t.legal g) (only_single at.state (effects_of m i) g.word (only_of m i at acts stays t.legal g))
          (after_of m code locations i at x guard_value (does g.word (controller (effects_of m i)) does_act) entry t way);
      places = ap (map (λ k. k.at)) (way.cells x refl) ∙ places_after m i how at.state.cells.items at.state.cells.items ∙ entry.places;
      units = ap length (way.ports x refl) ∙ count_after m i how 0 at.state.ports.items ∙ entry.units;
      proper = subst AreProper (sym (way.cells x refl)) (transferred_proper m i how at.state.cells.items at.state.cells.items entry.proper entry.proper);
    }
