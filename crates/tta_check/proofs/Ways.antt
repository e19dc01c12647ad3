-- The ways that control goes from an instruction, and the verdict that it gives.
use Rattle.std.proofs.Common.{◌≡◌, ◌+◌, Bool, true, false, List, Option, Some, None, refl, ap, sym, subst, ◌∙◌, ◌⊎◌, inl, inr}
use Rattle.std.specs.Prelude.{◌&&◌}
use Rattle.std.proofs.lemmas.Bool.{and_parts, and_from}
use Rattle.tta_check.specs.Cited.{GuardRef, Machine, is_same, is_same_guard, Effect, Instruction, Code, effects_of}
use Rattle.tta_check.specs.declared.state.AbstractState.{AbstractState}
use Rattle.tta_check.specs.declared.guard_value.GuardValue.{GuardValue}
use Rattle.tta_check.specs.declared.location.Location.{Location}
use Rattle.tta_check.specs.declared.transfer_function.Transfer.{Transfer}
use Rattle.tta_check.specs.declared.visit.Successor.{Successor}
use Rattle.tta_check.specs.Walks.{Word}
use Rattle.tta_check.specs.Facts.{Fact}
use Rattle.tta_check.specs.ProgramPoints.{ProgramPoint, next_point}
use Rattle.tta_check.specs.States.{covers}
use Rattle.tta_check.specs.Transfers.{IsAfter}
use Rattle.tta_check.specs.Controls.{controller, does, settles, is_settled}
use Rattle.tta_check.specs.Going.{point_as}
use Rattle.tta_check.specs.Visits.{transfer_at, IsWay, settled, IsActs, StaysBy, IsStays, GoesOn}
use Rattle.tta_check.proofs.Table.{LeadsOn}
use Rattle.tta_check.proofs.Transferring.{leads_on}
use Rattle.tta_check.proofs.JumpTargets.{only_single}
use Rattle.tta_check.proofs.Visiting.{IsEntry, IsThere, only_of, free_of, after_of, way_entry}
use Rattle.tta_arch.proofs.Guards.{same_guard as guard_is, same_guard_itself as guard_self}

-- a way with the guard that is settled by it
pub record WayOf (m : Machine) (i : Instruction) (at : Successor) (word : Word) (o : Option Successor) : Type 0 where
  pub guard_value : Option GuardValue
  pub acts : Bool
  pub settled : is_settled (controller (effects_of m i)) guard_value acts ≡ true
  pub way : IsWay m i at guard_value (does word (controller (effects_of m i)) acts) o

settles_self : (g : Option GuardRef) → settles g (settled g true) true ≡ true
settles_self None = refl
settles_self (Some g) = and_from _ _ (guard_self g) refl

pub acts_way : (m : Machine) (i : Instruction) (at : Successor) (word : Word) (x : Successor) → IsActs m i at (controller (effects_of m i)) word (Some x) → WayOf m i at word (Some x)
acts_way m i at word x h = on (controller (effects_of m i)) refl h where
  on : (c : Option Effect) → controller (effects_of m i) ≡ c → IsActs m i at c word (Some x) → WayOf m i at word (Some x)
  on None is h = absurd cc
  on (Some e) is h = record {
    guard_value = settled e.guard true;
    acts = true;
    settled = ap (λ c. is_settled c (settled e.guard true) true) is ∙ settles_self e.guard;
    way = subst (λ c. IsWay m i at (settled e.guard true) (does word c true) (Some x)) (sym is) h;
  }

pub stays_way : (m : Machine) (i : Instruction) (at : Successor) (word : Word) (x : Successor) → IsStays m i at (controller (effects_of m i)) (Some x) → WayOf m i at word (Some x)
stays_way m i at word x h = on (controller (effects_of m i)) refl h where
  by : (e : Effect) (g : Option GuardRef) → e.guard ≡ g → controller (effects_of m i) ≡ Some e → StaysBy m i at g (Some x) → WayOf m i at word (Some x)
  by e None is control h = absurd cc
  by e (Some g) is control h = record {
    guard_value = settled (Some g) false;
    acts = false;
    settled = ap (λ c. is_settled c (settled (Some g) false) false) control ∙ ap (λ h. settles h (settled (Some g) false) false) is ∙ and_from _ _ (guard_self g) refl;
    way = subst (λ c. IsWay m i at (settled (Some g) false) (does word c false) (Some x)) (sym control) h;
  }

  on : (c : Option Effect) → controller (effects_of m i) ≡ c → IsStays m i at c (Some x) → WayOf m i at word (Some x)
  on None is h = record {
    guard_value = None;
    acts = false;
    settled = ap (λ c. is_settled c None false) is;
    way = subst (λ c. IsWay m i at None (does word c false) (Some x)) (sym is) h;
  }
  on (Some e) is h = by e e.guard refl is h

-- where walks go on what is kept is right again
pub acts_entry : (m : Machine) (code : Code) (locations : List Location) (i : Instruction) (at x : Successor) (acts stays : Option Successor) → IsEntry m code locations at → IsThere m code locations i at
    → GoesOn m i at acts stays → acts ≡ Some x → IsEntry m code locations x
acts_entry m code locations i at x acts stays entry t g is =
    let w = acts_way m i at g.word x (subst (λ o. IsActs m i at (controller (effects_of m i)) g.word o) is g.where_acts) in
    way_entry m code locations i at x acts stays w.guard_value w.acts entry t g w.settled w.way

pub stays_entry : (m : Machine) (code : Code) (locations : List Location) (i : Instruction) (at x : Successor) (acts stays : Option Successor) → IsEntry m code locations at → IsThere m code locations i at
    → GoesOn m i at acts stays → stays ≡ Some x → IsEntry m code locations x
stays_entry m code locations i at x acts stays entry t g is =
    let w = stays_way m i at g.word x (subst (λ o. IsStays m i at (controller (effects_of m i)) o) is g.where_stays) in
    way_entry m code locations i at x acts stays w.guard_value w.acts entry t g w.settled w.way

-- ---- every way is one of the two

-- one of two is had
abbrev pub OneOf : Option Successor → Option Successor → Option Successor → Type 0
OneOf acts stays o = (acts ≡ o) ⊎ (stays ≡ o)

guard_value_is : (g : GuardRef) (s : GuardValue) (acts : Bool) → (is_same_guard g s.guard && is_same s.acts acts) ≡ true → Some s ≡ settled (Some g) acts
guard_value_is g s acts h =
    let p = and_parts (is_same_guard g s.guard) _ h in
    ap (λ h. Some (guard_value_of h s.acts)) (sym (guard_is g s.guard p.0)) ∙ ap (λ b. Some (guard_value_of g b)) (on s.acts acts p.1) where
      guard_value_of : GuardRef → Bool → GuardValue
      guard_value_of g b = record { guard = g; acts = b }

      on : (a b : Bool) → is_same a b ≡ true → a ≡ b
      on true true h = refl
      on false false h = refl
      on true false h = absurd cc
      on false true h = absurd cc

way_at : (m : Machine) (i : Instruction) (at : Successor) (acts stays : Option Successor) → (g : GoesOn m i at acts stays) → (guard_value : Option GuardValue) (does_act : Bool) → is_settled (controller (effects_of m i)) guard_value does_act ≡ true
    → (o : Option Successor) × OneOf acts stays o × IsWay m i at guard_value (does g.word (controller (effects_of m i)) does_act) o
way_at m i at acts stays g guard_value does_act is = on (controller (effects_of m i)) g.where_acts g.where_stays is where
  To : Option Effect → Option GuardValue → Bool → Type 0
  To c s b = (o : Option Successor) × OneOf acts stays o × IsWay m i at s (does g.word c b) o

  by : (e : Effect) (h : Option GuardRef) → IsWay m i at (settled h true) (does g.word (Some e) true) acts → StaysBy m i at h stays → (s : Option GuardValue) (b : Bool) → settles h s b ≡ true → To (Some e) s b
  by e None a t None true h = (acts, inl refl, a)
  by e None a t None false h = absurd cc
  by e None a t (Some s) b h = absurd cc
  by e (Some h) a t None b k = absurd cc
  by e (Some h) a t (Some s) true k = subst (λ s. To (Some e) s true) (sym (guard_value_is h s true k)) (acts, inl refl, a)
  by e (Some h) a t (Some s) false k = subst (λ s. To (Some e) s false) (sym (guard_value_is h s false k)) (stays, inr refl, t)

  none : (s : Option GuardValue) (b : Bool) → IsStays m i at None stays → is_settled None s b ≡ true → To None s b
  none None b t h = (stays, inr refl, t)
  none (Some s) b t h = absurd cc

  on : (c : Option Effect) → IsActs m i at c g.word acts → IsStays m i at c stays → is_settled c guard_value does_act ≡ true → To c guard_value does_act
  on None a t h = none guard_value does_act t h
  on (Some e) a t h = by e e.guard a t guard_value does_act h

-- where each place to which walks go on has an abstract state that admits no less, an abstract state leads on
pub entry_leads : (state_at : ProgramPoint → Option AbstractState) (m : Machine) (code : Code) (locations : List Location) (i : Instruction) (at : Successor) (acts stays : Option Successor) → IsEntry m code locations at → IsThere m code locations i at
    → GoesOn m i at acts stays
    → ((x : Successor) → OneOf acts stays (Some x) → (r : AbstractState) × (state_at (point_as x.point) ≡ Some r) × ((f : Fact) → covers x.state f ≡ true → covers r f ≡ true))
    → LeadsOn covers state_at m code (point_as at.point) at.state
entry_leads state_at m code locations i at acts stays entry t g more =
    leads_on state_at m code (point_as at.point) at.state i g.word t.rules t.legal t.there (free_of m i at acts stays t.legal g) (only_single at.state (effects_of m i) g.word (only_of m i at acts stays t.legal g))
    (λ guard_value does_act k' is to. let w = way_at m i at acts stays g guard_value does_act is in by guard_value does_act k' to w.0 w.1 w.2) where
      To : Option GuardValue → ProgramPoint → Type 0
      To guard_value k' = (new : AbstractState) × (r' : AbstractState) × (how : Transfer) × (how.back ≡ at.point.address + 1 + m.control.delay) × (how.settled ≡ guard_value) × IsAfter m how (effects_of m i) at.state new × (state_at k' ≡ Some r')
          × ((f : Fact) → covers new f ≡ true → covers r' f ≡ true)

      same : (a b : ProgramPoint) → Some a ≡ Some b → a ≡ b
      same a b e = cc

      by : (guard_value : Option GuardValue) (does_act : Bool) (k' : ProgramPoint) → next_point m (point_as at.point) (does g.word (controller (effects_of m i)) does_act) ≡ Some k' → (o : Option Successor) → OneOf acts stays o
          → IsWay m i at guard_value (does g.word (controller (effects_of m i)) does_act) o → To guard_value k'
      by guard_value does_act k' to None one way = absurd (let e = way.point ∙ to in cc)
      by guard_value does_act k' to (Some x) one way =
          let y = more x one in (
            x.state,
            y.0,
            transfer_at m (point_as at.point) guard_value,
            refl,
            refl,
            after_of m code locations i at x guard_value (does g.word (controller (effects_of m i)) does_act) entry t way,
            ap state_at (sym (same _ _ (way.point ∙ to))) ∙ y.1,
            y.2,
          )
