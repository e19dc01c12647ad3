use Rattle.std.proofs.Common.{◌↔◌, ℕ, List, length, inl, inr}
use Rattle.tta_exit_laws.specs.Cited.{World, Output, Units, Core, Feeds, Status, ReadFailed, no_memory, cores_in, IsNetText, ShowsNet}
use Rattle.tta_inspect.specs.Depths.{depths_in}
use Rattle.tta_load.specs.declared.status.Status.TheVariants as status
use Rattle.tta_load.specs.Ends.{TextEnds}
use Rattle.tta_load.specs.Held.{IsTooLong}
use Rattle.tta_load.proofs.Stages.{none}
use Rattle.tta_exit_laws.specs.NetEndings.{CoreRefused}
use Rattle.tta_exit_laws.specs.NetTextEndings.{NetTextEndings}
use Rattle.tta_exit_laws.proofs.NetStages.{first_ended, refused_apart, refused_with, NetStages, net_stages, net_at}
use Rattle.tta_exit_laws.proofs.laws.net_text_by_status.Goals as goal

module _ (u : Units) (depths LINKS : List ℕ) (names : List (List ℕ)) (before after : World) (old new : Output) where
  abbrev count : ℕ
  count = cores_in (length names)

  abbrev Ends : Status → Feeds → List Core → (memories : List (List ℕ)) → Type 0
  Ends s feeds cores memories = TextEnds (IsNetText u cores memories feeds (depths_in count depths)) no_memory old new s

  of : (s : Status) (G : Type 0) → NetStages u LINKS names before after old new s (Ends s) G
  of s G = net_stages u LINKS names before after old new s (Ends s) G

  by_status : (s : Status) → ShowsNet u depths LINKS names before after old new s ↔ NetTextEndings u depths LINKS names before after old new s
  by_status status.Ok = (
    of status.Ok _ absurd none (λ l e. absurd e.is) (λ l has same e. elim e [
      | inl put ↦ (same, (l, has, put))
      | inr lacks ↦ let lacked = lacks.0 in absurd cc
    ]),
    λ e. inr (e.1.0, inr (e.1.1, e.0, inl e.1.2)),
  )
  by_status status.WriteFault = (
    of status.WriteFault _ absurd none (λ l e. absurd e.is) (λ l has same e. elim e [
      | inl put ↦ (same, (l, has, put))
      | inr lacks ↦ let lacked = lacks.0 in absurd cc
    ]),
    λ e. inr (e.1.0, inr (e.1.1, e.0, inl e.1.2)),
  )
  by_status (status.BadLinks line code) = (
    of (status.BadLinks line code) _ absurd (λ e quiet. (e.0, quiet, e.1)) (λ l e. absurd e.is) (λ l has same e. elim e [
      | inl put ↦ absurd put.2
      | inr lacks ↦ let lacked = lacks.0 in absurd cc
    ]),
    λ e. inl (inr (e.0, e.2), e.1),
  )
  by_status (status.BadCore word code) = (
    of (status.BadCore word code) _ absurd none
        (λ l e quiet. let apart = refused_apart u before.contents names count (CoreRefused u before.contents names word code) e in (apart.0, quiet, l, apart.1))
        (λ l has same e. elim e [
          | inl put ↦ absurd put.2
          | inr lacks ↦ let lacked = lacks.0 in absurd cc
        ]),
    λ e. inr (
      e.2,
      inl (
        first_ended u names count before after (status.BadCore word code)
            (refused_with u before.contents names count (CoreRefused u before.contents names word code) e.0 e.3),
        e.1,
      ),
    ),
  )
  by_status (status.ReadFault word) = (
    of (status.ReadFault word) _ (λ e quiet. (quiet, inl e)) none (λ l e quiet. (quiet, inr (l, e))) (λ l has same e. elim e [
      | inl put ↦ absurd put.2
      | inr lacks ↦ let lacked = lacks.0 in absurd cc
    ]),
    λ e. net_at u LINKS names before after old new (status.ReadFault word) (Ends (status.ReadFault word)) (λ name. ReadFailed name before after)
        word (λ at is. (at, is)) (λ k is. is) e.0 e.1,
  )
  by_status (status.TooLong word) = (
    of (status.TooLong word) _ (λ e quiet. (quiet, inl e)) none (λ l e quiet. (quiet, inr (l, e))) (λ l has same e. elim e [
      | inl put ↦ absurd put.2
      | inr lacks ↦ let lacked = lacks.0 in absurd cc
    ]),
    λ e. net_at u LINKS names before after old new (status.TooLong word) (Ends (status.TooLong word)) (λ name. IsTooLong name before after)
        word (λ at is. (at, is)) (λ k is. is) e.0 e.1,
  )
  by_status status.NoMemory = (
    of status.NoMemory _ (λ e quiet. (e, quiet)) (λ e quiet. (e.0, quiet)) (λ l e quiet. (e.is, quiet)) (λ l has same e. elim e [
      | inl put ↦ absurd put.2
      | inr lacks ↦ (same, lacks.1)
    ]),
    λ e. inl (inl e.0, e.1),
  )
  by_status s = (
    of s _ absurd none (λ l e. absurd e.is) (λ l has same e. elim e [
      | inl put ↦ absurd put.2
      | inr lacks ↦ let lacked = lacks.0 in absurd cc
    ]),
    λ e. absurd e,
  )

pub returns : goal.returns
returns c = by_status
