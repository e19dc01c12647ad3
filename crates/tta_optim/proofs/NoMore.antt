-- What each pass and all three make of a list does no more than the list.
use Rattle.std.proofs.Common.{◌≡◌, ℕ, true, List, [], Option, arith, ◌∙◌}
use Rattle.tta_optim.specs.Cited.{Machine, Item, is_straight, is_bypassed, is_shared, is_lively}
use Rattle.tta_optim.specs.Kept.{DoesNoMore}
use Rattle.tta_optim.specs.Passes.{bypass_items, share_items, dead_items, optimise_items}
use Rattle.tta_optim.proofs.Shorter.{Shorter, bypass_shorter, share_shorter, dead_shorter, shorter_length, shorter_list, shorter_triggers, shorter_targets, shorter_addresses}
use Rattle.tta_optim.proofs.Bypassing.{bypass_form}
use Rattle.tta_optim.proofs.Sharing.{share_form}
use Rattle.tta_optim.proofs.DeadWrites.{dead_form}
use Rattle.tta_optim.proofs.FormsKept.{dead_bypassed, dead_shared, dead_straight}
use Rattle.tta_optim.proofs.ShareKept.{share_bypassed, share_straight, bypass_straight}

no_more : (m : Machine) (ys xs : List Item) → Shorter m ys xs → ((hub : Option ℕ) → is_straight m hub xs ≡ true → is_straight m hub ys ≡ true) → DoesNoMore m xs ys
no_more m ys xs s straight = record {
  few = shorter_length s;
  list = shorter_list s;
  triggers = shorter_triggers s;
  targets = λ p. shorter_targets p s;
  addresses = λ block. shorter_addresses block s;
  straight = straight;
}

pub bypass_no_more : (m : Machine) (xs : List Item) → DoesNoMore m xs (bypass_items m [] xs)
bypass_no_more m xs = no_more m _ xs (bypass_shorter m [] xs) (λ hub. bypass_straight m hub xs)

pub share_no_more : (m : Machine) (xs : List Item) → DoesNoMore m xs (share_items m [] xs)
share_no_more m xs = no_more m _ xs (share_shorter m [] xs) (λ hub. share_straight m hub xs)

pub dead_no_more : (m : Machine) (live : List (ℕ × ℕ)) (xs : List Item) → DoesNoMore m xs (dead_items m live xs)
dead_no_more m live xs = no_more m _ xs (dead_shorter m live xs) (λ hub. dead_straight m live hub xs)

pub no_more_next : (m : Machine) (a b c : List Item) → DoesNoMore m a b → DoesNoMore m b c → DoesNoMore m a c
no_more_next m a b c f g = record {
  few = let one = f.few in let two = g.few in omega arith;
  list = λ h. g.list (f.list h);
  triggers = g.triggers ∙ f.triggers;
  targets = λ p. let one = f.targets p in let two = g.targets p in omega arith;
  addresses = λ block h. f.addresses block (g.addresses block h);
  straight = λ hub h. g.straight hub (f.straight hub h);
}

pub optimise_no_more : (m : Machine) (live : List (ℕ × ℕ)) (xs : List Item) → DoesNoMore m xs (optimise_items m live xs)
optimise_no_more m live xs =
    let one : List Item = bypass_items m [] xs in
    let two : List Item = share_items m [] one in
    no_more_next m xs two (dead_items m live two) (no_more_next m xs one two (bypass_no_more m xs) (share_no_more m one)) (dead_no_more m live two)

-- all three forms at once
pub optimise_bypassed : (m : Machine) (live : List (ℕ × ℕ)) (xs : List Item) → is_bypassed m (optimise_items m live xs) ≡ true
optimise_bypassed m live xs = dead_bypassed m live (share_items m [] (bypass_items m [] xs)) (share_bypassed m (bypass_items m [] xs) (bypass_form m [] xs))

pub optimise_shared : (m : Machine) (live : List (ℕ × ℕ)) (xs : List Item) → is_shared m (optimise_items m live xs) ≡ true
optimise_shared m live xs = dead_shared m live (share_items m [] (bypass_items m [] xs)) (share_form m [] (bypass_items m [] xs))

pub optimise_lively : (m : Machine) (live : List (ℕ × ℕ)) (xs : List Item) → is_lively m live (optimise_items m live xs) ≡ true
optimise_lively m live xs = dead_form m live (share_items m [] (bypass_items m [] xs))
