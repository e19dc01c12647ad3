use Rattle.std.proofs.Common.{◌≡◌, ◌↔◌, ℕ, List, Some, refl, subst, inl, inr}
use Rattle.tta_inspect.specs.Cited.{World, IsUntouched, Output, NothingOutput, IsPut, IsCut, Units, Status, HasText, ReadFails, no_memory, HasMachine, RefusesMachine, TextEnds}
use Rattle.tta_load.specs.declared.status.Status.TheVariants as status
use Rattle.tta_load.proofs.Stages.{none}
use Rattle.tta_inspect.specs.declared.view.View.{View}
use Rattle.tta_inspect.specs.Views.{machine_view}
use Rattle.tta_inspect.specs.Request.{OfMachine}
use Rattle.tta_inspect.specs.Command.{Ends, MachineEndings}
use Rattle.tta_inspect.proofs.laws.machine_by_status.Goals as goal

module _ (u : Units) (view : View) (M : List ℕ) (before after : World) (old new : Output) where
  -- the stages at which the command can end
  of : (s : Status) (G : Type 0)
      → (ReadFails M 1 before after s → NothingOutput old new → G)
      → (IsUntouched before after × HasText before.contents M (λ text. RefusesMachine u text s) → NothingOutput old new → G)
      → ((m : HasMachine u before.contents M) → IsUntouched before after
      → TextEnds (λ text. text ≡ machine_view u view m.value) no_memory old new s → G)
      → Ends u (Some (OfMachine view M)) before after old new s → G
  of s G a b ends (inl (inl x, quiet)) = a x quiet
  of s G a b ends (inl (inr x, quiet)) = b x quiet
  of s G a b ends (inr (m, same, x)) = ends m same x

  by_status : (s : Status) → Ends u (Some (OfMachine view M)) before after old new s ↔ MachineEndings u view M before after old new s
  by_status status.Ok = (
    of status.Ok _ absurd none (λ m same e. elim e [
      | inl put ↦ (same, (m, subst (λ text. IsPut text old new) put.1 put.2))
      | inr lacks ↦ let is = lacks.0 in absurd cc
    ]),
    λ e. inr (e.1.0, e.0, inl (machine_view u view e.1.0.value, refl, e.1.1)),
  )
  by_status status.WriteFault = (
    of status.WriteFault _ absurd none (λ m same e. elim e [
      | inl put ↦ (same, (m, subst (λ text. IsCut text old new) put.1 put.2))
      | inr lacks ↦ let is = lacks.0 in absurd cc
    ]),
    λ e. inr (e.1.0, e.0, inl (machine_view u view e.1.0.value, refl, e.1.1)),
  )
  by_status (status.BadMachine line code) = (
    of (status.BadMachine line code) _ absurd (λ e quiet. (e.0, quiet, e.1)) (λ m same e. elim e [
      | inl put ↦ absurd put.2
      | inr lacks ↦ let is = lacks.0 in absurd cc
    ]),
    λ e. inl (inr (e.0, e.2), e.1),
  )
  by_status (status.ReadFault word) = (
    of (status.ReadFault word) _ (λ e quiet. (quiet, e.0, e.1)) none (λ m same e. elim e [
      | inl put ↦ absurd put.2
      | inr lacks ↦ let is = lacks.0 in absurd cc
    ]),
    λ e. inl (inl (e.1, e.2), e.0),
  )
  by_status (status.TooLong word) = (
    of (status.TooLong word) _ (λ e quiet. (quiet, e.0, e.1)) none (λ m same e. elim e [
      | inl put ↦ absurd put.2
      | inr lacks ↦ let is = lacks.0 in absurd cc
    ]),
    λ e. inl (inl (e.1, e.2), e.0),
  )
  by_status status.NoMemory = (
    of status.NoMemory _ (λ e quiet. (e, quiet)) (λ e quiet. (e.0, quiet)) (λ m same e. elim e [
      | inl put ↦ absurd put.2
      | inr lacks ↦ (same, lacks.1)
    ]),
    λ e. inl (inl e.0, e.1),
  )
  by_status s = (
    of s _ absurd none (λ m same e. elim e [
      | inl put ↦ absurd put.2
      | inr lacks ↦ let is = lacks.0 in absurd cc
    ]),
    λ e. absurd e,
  )

pub returns : goal.returns
returns c = by_status
