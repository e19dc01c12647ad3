-- Which rule fails first.
use Rattle.std.proofs.Common.{◌≡◌, ℕ, true, false, Some, None, refl, sym, ◌∙◌}
use Rattle.std.specs.Prelude.{◌&&◌, is_some}
use Rattle.tta_connect.specs.Cited.{Op, Ldf, Stf, Machine, has_bit}
use Rattle.tta_arch.specs.declared.ends.Source.TheVariants as source
use Rattle.tta_connect.specs.declared.choice.Choice.{Choice}
use Rattle.tta_connect.specs.Coverage.{failed_rule, hub_of, has_words, guard_register, some_bus, into, is_usable_at, offered, offered_by, IsChoice}
use Rattle.tta_connect.proofs.UnitSets.{same_offer}

-- the first rule fails without a hub
pub fails_1 : (m : Machine) → hub_of m ≡ None → failed_rule m ≡ Some 1
fails_1 m bad = rw bad refl

-- the second fails where not every word reaches the hub
pub fails_2 : (m : Machine) (hub : ℕ) → hub_of m ≡ Some hub → has_words m hub ≡ false → failed_rule m ≡ Some 2
fails_2 m hub one bad = rw (one, bad) refl

-- the third fails without a guard register
pub fails_3 : (m : Machine) (hub : ℕ) → hub_of m ≡ Some hub → has_words m hub ≡ true → guard_register m hub ≡ None → failed_rule m ≡ Some 3
fails_3 m hub one two bad = rw (one, two, bad) refl

-- the fourth fails where the return address does not reach the hub
pub fails_4 : (m : Machine) (hub : ℕ) (g : ℕ × ℕ) → hub_of m ≡ Some hub → has_words m hub ≡ true → guard_register m hub ≡ Some g
    → some_bus m source.Ra (into hub) None ≡ false → failed_rule m ≡ Some 4
fails_4 m hub g one two three bad = rw (one, two, three, bad) refl

-- whether the frame space is served, by what is known of the units
frame_is : (m : Machine) (hub usable : ℕ) → ((unit : ℕ) → has_bit usable unit ≡ is_usable_at m hub unit)
    → (is_some (offered_by m (is_usable_at m hub) Ldf) && is_some (offered_by m (is_usable_at m hub) Stf))
    ≡ (is_some (offered m usable Ldf) && is_some (offered m usable Stf))
frame_is m hub usable same =
    let at : (op : Op) → offered_by m (has_bit usable) op ≡ offered_by m (is_usable_at m hub) op = λ op. same_offer (has_bit usable) (is_usable_at m hub) same op 0 m.units in
    rw (sym (at Ldf), sym (at Stf)) refl

-- the fifth fails where the frame space is not served
pub fails_5 : (m : Machine) (hub usable : ℕ) (g : ℕ × ℕ) → hub_of m ≡ Some hub → has_words m hub ≡ true → guard_register m hub ≡ Some g
    → some_bus m source.Ra (into hub) None ≡ true → ((unit : ℕ) → has_bit usable unit ≡ is_usable_at m hub unit)
    → (is_some (offered m usable Ldf) && is_some (offered m usable Stf)) ≡ false → failed_rule m ≡ Some 5
fails_5 m hub usable g one two three four same bad =
    let five = frame_is m hub usable same ∙ bad in
    rw (one, two, three, four, five) refl

-- no rule fails where all is chosen
pub none_fails : (m : Machine) (c : Choice) → IsChoice m c → failed_rule m ≡ None
none_fails m c is =
    let five = frame_is m c.hub c.usable is.usable ∙ is.frame in
    rw (is.hub, is.words, is.guard, is.back, five) refl

-- the same of what the code has found
pub keeps_all : (m : Machine) (hub usable : ℕ) (g : ℕ × ℕ) → hub_of m ≡ Some hub → has_words m hub ≡ true → guard_register m hub ≡ Some g
    → some_bus m source.Ra (into hub) None ≡ true → ((unit : ℕ) → has_bit usable unit ≡ is_usable_at m hub unit)
    → (is_some (offered m usable Ldf) && is_some (offered m usable Stf)) ≡ true → failed_rule m ≡ None
keeps_all m hub usable g one two three four same all =
    let five = frame_is m hub usable same ∙ all in
    rw (one, two, three, four, five) refl
