-- A verdict that an instruction gives is true of the code.
use Rattle.std.proofs.Common.{◌≡◌, ℕ, Bool, true, false, List, Option, Some, None, refl, ap, sym, subst, ◌∙◌, inl, inr}
use Rattle.std.specs.Prelude.{◌||◌, is_some, if◌then◌else◌}
use Rattle.std.specs.Option.{option_map_or}
use Rattle.std.proofs.lemmas.Bool.{or_right}
use Rattle.tta_check.specs.Cited.{Machine, Effect, Place, Instruction, Code, effects_of}
use Rattle.tta_check.specs.declared.values.ValueSet.{ValueSet}
use Rattle.tta_check.specs.declared.values.ValueSet.TheVariants.{Nothing, One, Two}
use Rattle.tta_check.specs.declared.state.Kept.{Kept}
use Rattle.tta_check.specs.declared.location.Location.{Location}
use Rattle.tta_check.specs.declared.verdict.Verdict.{Verdict}
use Rattle.tta_check.specs.declared.verdict.Verdict.TheVariants.{Unsafe}
use Rattle.tta_check.specs.declared.visit.Successor.{Successor}
use Rattle.tta_check.specs.Walks.{Word, takes_address}
use Rattle.tta_check.specs.Verdict.{Disagree, IsVerdict}
use Rattle.tta_check.specs.Facts.{Holds, Origin, Fixed, From, origin_of, gives, same_word}
use Rattle.tta_check.specs.Causes.{unknown, code_by}
use Rattle.tta_check.specs.Codes.{code_in}
use Rattle.tta_check.specs.States.{cell_of, tells, covers, tells_word, is_proper}
use Rattle.tta_check.specs.Steps.{words_of}
use Rattle.tta_check.specs.Controls.{controller}
use Rattle.tta_check.specs.JumpTargets.{only_word, jump_target_of}
use Rattle.tta_check.specs.Going.{point_as}
use Rattle.tta_check.specs.Visits.{end_of}
use Rattle.tta_check.proofs.Gives.{In, none_in}
use Rattle.tta_check.proofs.Cells.{same_self}
use Rattle.tta_check.proofs.Table.{none_of}
use Rattle.tta_check.proofs.Witnessed.{tells_code}
use Rattle.tta_check.proofs.Disagreeing.{words_disagree}
use Rattle.tta_check.proofs.Lone.{once_operand, once_address}
use Rattle.tta_check.proofs.Proper.{cell_proper, two_differ}
use Rattle.tta_check.proofs.Visiting.{IsEntry, IsThere, controller_in, told_code}

one_told : (a b : Word) → tells_word (Two a b) a ≡ true
one_told a b = ap (λ c. c || same_word a b) (same_self a)

other_told : (a b : Word) → tells_word (Two a b) b ≡ true
other_told a b = or_right (same_word b a) (same_word b b) (same_self b)

disagrees : (m : Machine) (code : Code) (locations : List Location) (i : Instruction) (at : Successor) → IsEntry m code locations at → IsThere m code locations i at → code_in (tells at.state) m (is_some at.point.under) i ≡ None
    → jump_target_of at.state.cells.items (controller (effects_of m i)) ≡ None → Disagree m code at.point.address
disagrees m code locations i at entry t none apart = at_control (controller (effects_of m i)) refl apart where
  ks : List Kept
  ks = at.state.cells.items

  es : List Effect
  es = effects_of m i

  free : code_by (tells at.state) m (is_some (point_as at.point).under) es ≡ None
  free = told_code m i at ∙ none

  known : (e : Effect) → In e es → takes_address e.target ≡ true → (q : Place) → origin_of e.src ≡ From q → tells at.state (Holds q None) ≡ false
  known e item takes q from =
      sym (ap (λ b. option_map_or (tells at.state) (if b then gives (origin_of e.src) None else None) false) takes ∙ ap (λ o. option_map_or (tells at.state) (gives o None) false) from)
      ∙ none_in (λ x. option_map_or (tells at.state) (unknown x) false) es e item (none_of (tells at.state) m (is_some (point_as at.point).under) es free).unknowns

  words : (e : Effect) → In e es → takes_address e.target ≡ true → (q : Place) → origin_of e.src ≡ From q → (h : ValueSet) → (cell_of ks q).values ≡ h → only_word h ≡ None → Disagree m code at.point.address
  words e item takes q from Nothing is h = absurd cc
  words e item takes q from (One a) is h = absurd cc
  words e item takes q from (Two None b) is h = absurd (let f = ap (λ h. tells_word h None) is ∙ one_told None b in let g = sym (known e item takes q from) ∙ f in cc)
  words e item takes q from (Two (Some x) None) is h = absurd (let f = ap (λ h. tells_word h None) is ∙ other_told (Some x) None in let g = sym (known e item takes q from) ∙ f in cc)
  words e item takes q from (Two (Some x) (Some y)) is h =
      words_disagree (covers at.state) (tells at.state) m code (point_as at.point) i (λ p. refl) entry.witnessed t.there
      (none_of (tells at.state) m (is_some (point_as at.point).under) es free).guards (once_address m i t.legal) e item takes q from x y
      (two_differ x y (sym (ap is_proper is) ∙ cell_proper ks entry.proper q))
      (ap (λ h. tells_word h (Some x)) is ∙ one_told (Some x) (Some y)) (ap (λ h. tells_word h (Some y)) is ∙ other_told (Some x) (Some y))

  origins : (e : Effect) → In e es → takes_address e.target ≡ true → (o : Origin) → origin_of e.src ≡ o → only_word (words_of ks o) ≡ None → Disagree m code at.point.address
  origins e item takes (Fixed x) is h = absurd cc
  origins e item takes (From q) is h = words e item takes q is (cell_of ks q).values refl h

  at_control : (c : Option Effect) → controller es ≡ c → jump_target_of ks c ≡ None → Disagree m code at.point.address
  at_control None is h = absurd cc
  at_control (Some e) is h = on (takes_address e.target) refl h where
    on : (b : Bool) → takes_address e.target ≡ b → (if b then only_word (words_of ks (origin_of e.src)) else Some None) ≡ None → Disagree m code at.point.address
    on true takes h = origins e (controller_in es e is) takes (origin_of e.src) refl h
    on false takes h = absurd cc

-- a verdict at an instruction is true of the code
pub ends_right : (m : Machine) (code : Code) (locations : List Location) (i : Instruction) (at : Successor) → IsEntry m code locations at → IsThere m code locations i at → (v : Verdict) → end_of m i at ≡ Some v → IsVerdict m code v
ends_right m code locations i at entry t v h = on (code_in (tells at.state) m (is_some at.point.under) i) refl (jump_target_of at.state.cells.items (controller (effects_of m i))) refl h where
  same : (u : Verdict) → Some u ≡ Some v → u ≡ v
  same u e = cc

  on : (o : Option ℕ) → code_in (tells at.state) m (is_some at.point.under) i ≡ o → (a : Option Word) → jump_target_of at.state.cells.items (controller (effects_of m i)) ≡ a
      → option_map_or (λ code. Some (Unsafe code at.point.address)) o (option_map_or (λ word. None) a (Some (Unsafe 80 at.point.address))) ≡ Some v → IsVerdict m code v
  on (Some c) is a is2 h =
      subst (IsVerdict m code) (same (Unsafe c at.point.address) h)
      (inl (tells_code (covers at.state) (tells at.state) m code (point_as at.point) i (λ p. refl) entry.witnessed t.there (once_operand m i t.legal) c (told_code m i at ∙ is)))
  on None is None is2 h = subst (IsVerdict m code) (same (Unsafe 80 at.point.address) h) (inr (refl, disagrees m code locations i at entry t is is2))
  on None is (Some w) is2 h = absurd cc
