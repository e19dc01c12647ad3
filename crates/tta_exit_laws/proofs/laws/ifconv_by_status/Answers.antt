use Rattle.std.proofs.Common.{◌↔◌, ℕ, List, inl, inr}
use Rattle.tta_exit_laws.specs.Cited.{World, IsUntouched, Units, ProgramText, Status, HasText, Held, ReadFails, no_memory, RefusesSource, WritingEnds, IsConvertedText, WritesConverted}
use Rattle.tta_load.specs.declared.status.Status.TheVariants as status
use Rattle.tta_load.proofs.Stages.{none}
use Rattle.tta_exit_laws.specs.Ifconv.{IfconvEndings}
use Rattle.tta_exit_laws.proofs.laws.ifconv_by_status.Goals as goal

module _ (u : Units) (P OUT : List ℕ) (before after : World) where
  stages : (s : Status) (G : Type 0) → (ReadFails P 1 before after s → G)
      → (IsUntouched before after × HasText before.contents P (λ text. RefusesSource u text s) → G)
      → (Held (ProgramText u) before.contents P → IsUntouched before after × no_memory s → G)
      → ((p : Held (ProgramText u) before.contents P) → WritingEnds (IsConvertedText u p.value) OUT before after s → G)
      → WritesConverted u P OUT before after s → G
  stages s G a b lacks makes (inl (inl e)) = a e
  stages s G a b lacks makes (inl (inr e)) = b e
  stages s G a b lacks makes (inr (p, inl e)) = lacks p e
  stages s G a b lacks makes (inr (p, inr e)) = makes p e

  by_status : (s : Status) → WritesConverted u P OUT before after s ↔ IfconvEndings u P OUT before after s
  by_status status.Ok = (stages status.Ok _ absurd none (λ p e. let lacks = e.1 in absurd cc) (λ p e. (p, e)), λ e. inr (e.0, inr e.1))
  by_status (status.BadProgram line code) =
      (stages (status.BadProgram line code) _ absurd (λ e. e) (λ p e. let lacks = e.1 in absurd cc) (λ p. absurd), λ e. inl (inr e))
  by_status (status.ReadFault word) =
      (stages (status.ReadFault word) _ (λ e. e) none (λ p e. let lacks = e.1 in absurd cc) (λ p. absurd), λ e. inl (inl e))
  by_status status.WriteFault = (stages status.WriteFault _ absurd none (λ p e. let lacks = e.1 in absurd cc) (λ p e. (p, e)), λ e. inr (e.0, inr e.1))
  by_status (status.TooLong word) =
      (stages (status.TooLong word) _ (λ e. e) none (λ p e. let lacks = e.1 in absurd cc) (λ p. absurd), λ e. inl (inl e))
  by_status status.NoMemory = (stages status.NoMemory _ (λ e. e) (λ e. e.0) (λ p e. e.0) (λ p e. e), λ e. inl (inl e))
  by_status s = (stages s _ absurd none (λ p e. let lacks = e.1 in absurd cc) (λ p. absurd), λ e. absurd e)

pub returns : goal.returns
returns c = by_status
