-- Where files hold what `rtl` and `rtl net` show, and no call fails, it is shown, unless memory lacks or a program's code is too long.
use Rattle.std.proofs.Common.{length, inl, inr}
use Rattle.tta_exit_laws.specs.Cited.{AreLinks, RefusesLinks, cores_in, no_memory, IsSubject, RefusesSubject, IsCircuitText, Lacks, depths_in, IsNetText}
use Rattle.tta_exit_laws.specs.CircuitCompletes.{CircuitCompletes, NetTextCompletes}
use Rattle.tta_exit_laws.proofs.FilesTaken.{file_only}
use Rattle.tta_exit_laws.proofs.NetTaken.{links_only, cores_only}
use Rattle.tta_exit_laws.proofs.TextsPut.{text_only, puts_only}
use Rattle.tta_exit_laws.proofs.ViewsTaken.{subject_only, one_subject, lacks_only}

pub circuit_completes_holds : CircuitCompletes
circuit_completes_holds u store faults latest view M F after old new s has calm ends =
    let pair = has.pair in
    let held = pair.machine.held in
    let file = pair.machine.value in
    let subject = pair.second.value in
    elim (puts_only u store faults latest after old new calm (IsSubject u) (RefusesSubject u) (IsCircuitText u view) (Lacks u) M F s pair
    (λ bytes is. subject_only u held.bytes file bytes subject s held.says is)
    (λ bytes v. one_subject u held.bytes file bytes v subject held.says) ends) [
      | inl done ↦ inl done
      | inr (inl lacks) ↦ inr (inl lacks)
      | inr (inr lacks) ↦ inr (lacks_only u file subject s has.runnable lacks)
    ]

pub net_text_completes_holds : NetTextCompletes
net_text_completes_holds u store faults latest depths LINKS names after old new s a calm (inl (fails, q)) =
    let count = cores_in (length names) in
    inr (file_only store faults latest after calm.files (AreLinks count) (RefusesLinks count) LINKS a.links.value 2 s
    (λ bytes. links_only count bytes a.links.value s) a.links.held fails)
net_text_completes_holds u store faults latest depths LINKS names after old new s a calm (inr (links, (inl (fails, q)))) =
    inr (cores_only u store faults latest after calm.files names (cores_in (length names)) s a.has fails)
net_text_completes_holds u store faults latest depths LINKS names after old new s a calm (inr (links, (inr (has, same, ends)))) =
    text_only (IsNetText u has.cores has.memories links.value (depths_in (cores_in (length names)) depths)) no_memory old new s calm.output ends
