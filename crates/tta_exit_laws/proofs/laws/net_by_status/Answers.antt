use Rattle.std.proofs.Common.{◌↔◌, ℕ, List, length, inl, inr}
use Rattle.tta_exit_laws.specs.Cited.{World, Output, Units, Core, Feeds, Status, ReadFailed, cores_in, NetReports, Nets}
use Rattle.tta_load.specs.declared.status.Status.TheVariants as status
use Rattle.tta_load.specs.Held.{IsTooLong}
use Rattle.tta_load.proofs.Stages.{none}
use Rattle.tta_exit_laws.specs.NetEndings.{CoreRefused, NetEndings}
use Rattle.tta_exit_laws.proofs.NetStages.{first_ended, refused_apart, refused_with, rounds_end, well, made_well, at_a_fault, made_at_fault, goes_on, made_on, cut, made_cut, NetStages, net_stages, net_at}
use Rattle.tta_exit_laws.proofs.laws.net_by_status.Goals as goal

module _ (u : Units) (rounds : ℕ) (LINKS : List ℕ) (names : List (List ℕ)) (before after : World) (old new : Output) where
  abbrev Reports : Status → Feeds → List Core → (memories : List (List ℕ)) → Type 0
  Reports s feeds cores memories = NetReports u feeds cores memories rounds old new s

  of : (s : Status) (G : Type 0) → NetStages u LINKS names before after old new s (Reports s) G
  of s G = net_stages u LINKS names before after old new s (Reports s) G

  abbrev count : ℕ
  count = cores_in (length names)

  by_status : (s : Status) → Nets u rounds LINKS names before after old new s ↔ NetEndings u rounds LINKS names before after old new s
  by_status status.Ok = (
    of status.Ok _ absurd none (λ l e. absurd e.is) (λ l has same e. (same, (l, has, well u l.value has.cores has.memories rounds old new e))),
    λ e. inr (e.1.0, inr (e.1.1, e.0, made_well u e.1.0.value e.1.1.cores e.1.1.memories rounds old new e.1.2)),
  )
  by_status (status.MachineFault code cycle) = (
    of (status.MachineFault code cycle) _ absurd none (λ l e. absurd e.is)
        (λ l has same e. (same, (l, has, at_a_fault u l.value has.cores has.memories rounds old new code cycle e))),
    λ e. inr (e.1.0, inr (e.1.1, e.0, made_at_fault u e.1.0.value e.1.1.cores e.1.1.memories rounds old new code cycle e.1.2)),
  )
  by_status status.Running = (
    of status.Running _ absurd none (λ l e. absurd e.is) (λ l has same e. (same, (l, has, goes_on u l.value has.cores has.memories rounds old new e))),
    λ e. inr (e.1.0, inr (e.1.1, e.0, made_on u e.1.0.value e.1.1.cores e.1.1.memories rounds old new e.1.2)),
  )
  by_status status.WriteFault = (
    of status.WriteFault _ absurd none (λ l e. absurd e.is)
        (λ l has same e. (same, e.is_running, (l, has, cut u l.value has.cores has.memories rounds old new e))),
    λ e. inr (e.2.0, inr (e.2.1, e.0, made_cut u e.2.0.value e.2.1.cores e.2.1.memories rounds old new e.1 e.2.2)),
  )
  by_status (status.BadLinks line code) = (
    of (status.BadLinks line code) _ absurd (λ e quiet. (e.0, quiet, e.1)) (λ l e. absurd e.is)
        (λ l has same e. absurd (rounds_end e.is_running _ (status.BadLinks line code) e.ended.stands.0.0)),
    λ e. inl (inr (e.0, e.2), e.1),
  )
  by_status (status.BadCore word code) = (
    of (status.BadCore word code) _ absurd none
        (λ l e quiet. let apart = refused_apart u before.contents names count (CoreRefused u before.contents names word code) e in (apart.0, quiet, l, apart.1))
        (λ l has same e. absurd (rounds_end e.is_running _ (status.BadCore word code) e.ended.stands.0.0)),
    λ e. inr (
      e.2,
      inl (
        first_ended u names count before after (status.BadCore word code)
            (refused_with u before.contents names count (CoreRefused u before.contents names word code) e.0 e.3),
        e.1,
      ),
    ),
  )
  by_status (status.ReadFault word) = (
    of (status.ReadFault word) _ (λ e quiet. (quiet, inl e)) none (λ l e quiet. (quiet, inr (l, e)))
        (λ l has same e. absurd (rounds_end e.is_running _ (status.ReadFault word) e.ended.stands.0.0)),
    λ e. net_at u LINKS names before after old new (status.ReadFault word) (Reports (status.ReadFault word)) (λ name. ReadFailed name before after) word (λ at is. (at, is)) (λ k is. is) e.0 e.1,
  )
  by_status (status.TooLong word) = (
    of (status.TooLong word) _ (λ e quiet. (quiet, inl e)) none (λ l e quiet. (quiet, inr (l, e)))
        (λ l has same e. absurd (rounds_end e.is_running _ (status.TooLong word) e.ended.stands.0.0)),
    λ e. net_at u LINKS names before after old new (status.TooLong word) (Reports (status.TooLong word)) (λ name. IsTooLong name before after) word (λ at is. (at, is)) (λ k is. is) e.0 e.1,
  )
  by_status status.NoMemory = (
    of status.NoMemory _ (λ e quiet. (e, quiet)) (λ e quiet. (e.0, quiet)) (λ l e quiet. (e.is, quiet)) (λ l has same e. (same, e)),
    λ e. inl (inl e.0, e.1),
  )
  by_status s = (
    of s _ absurd none (λ l e. absurd e.is) (λ l has same e. absurd (rounds_end e.is_running _ s e.ended.stands.0.0)),
    λ e. absurd e,
  )

pub returns : goal.returns
returns c = by_status
