use Rattle.std.proofs.Common.{◌≡◌, ◌⊎◌, refl, inl, inr}
use Rattle.tta_exit_laws.specs.Cited.{Whole, MachineFile, Status, IsImageFor, RefusesImage, IsCalledSafe, IsFound}
use Rattle.tta_load.specs.declared.status.Status.TheVariants as status
use Rattle.tta_exit_laws.specs.PutCompletes.{IsFoundUnsafe, CheckCompletes}
use Rattle.tta_exit_laws.proofs.PairsTaken.{image_only, one_whole}
use Rattle.tta_exit_laws.proofs.TextsPut.{puts_only}
use Rattle.tta_exit_laws.proofs.laws.check_completes.Goals as goal

-- what is found is so, or memory lacks
found_only : (file : MachineFile) (whole : Whole) (s : Status) → IsFound file whole s → (s ≡ status.NoMemory) ⊎ IsFoundUnsafe file.machine whole.code s
found_only file whole (status.Unsafe number word) is = inr (record { number = number; word = word; told = refl; found = is })
found_only file whole status.NoMemory is = inl refl
found_only file whole s is = absurd is

check_completes_holds : CheckCompletes
check_completes_holds u store faults latest M IMG after old new s pair calm ends =
    let held = pair.machine.held in
    let file = pair.machine.value in
    let whole = pair.second.value in
    elim (puts_only u store faults latest after old new calm IsImageFor RefusesImage IsCalledSafe IsFound M IMG s pair
    (λ bytes is. image_only u held.bytes file bytes whole s held.says is) (λ bytes v. one_whole u held.bytes file bytes v whole held.says) ends) [
      | inl done ↦ inl done
      | inr (inl lacks) ↦ inr (inl lacks)
      | inr (inr found) ↦ inr (found_only file whole s found)
    ]

pub returns : goal.returns
returns c = check_completes_holds
