-- Facts among others.
use Rattle.std.proofs.Common.{◌≡◌, ℕ, ◌<◌, Bool, true, false, List, [], ◌∷◌, ◌++◌, length, get_or, refl, sym, ap, arith, ◌∙◌}
use Rattle.std.specs.Prelude.{◌==◌, ◌&&◌, ◌||◌, map, filter}
use Rattle.std.specs.List.{list_any}
use Rattle.std.proofs.lemmas.Bool.{and_parts}
use Rattle.std.proofs.lemmas.Bool.Decides.{nat_tests}
use Rattle.std.proofs.lemmas.List.Folds.{list_any-append, list_all_at}
use Rattle.tta_loadelim.specs.Cited.{Source, same_end}
use Rattle.tta_arch.specs.declared.ends.Source.TheVariants as source
use Rattle.tta_moves.proofs.Places.{either}
use Rattle.tta_loadelim.specs.declared.facts.Fact.{Fact}
use Rattle.tta_loadelim.specs.AvailableSlots.{fact, have_one}
use Rattle.tta_loadelim.specs.Facts.{same_fact, is_among, are_among}
use Rattle.tta_loadelim.proofs.Holding.{end_is}

pub end_self : (a : Source) → same_end a a ≡ true
end_self (source.Reg f i) = grind (arith, nat_tests)
end_self (source.Imm f i) = grind (arith, nat_tests)
end_self (source.Shown u) = grind (arith, nat_tests)
end_self source.Ra = refl
end_self (source.Value v) = grind (arith, nat_tests)

pub fact_is : (f g : Fact) → same_fact f g ≡ true → f ≡ g
fact_is f g e =
    let two = and_parts (f.slot == g.slot) (same_end f.from g.from) e in
    let slot : f.slot ≡ g.slot = grind (arith, nat_tests, two) in
    let from = end_is f.from g.from two.1 in
    ap (λ n. fact n f.from) slot ∙ ap (λ s. fact g.slot s) from

pub fact_self : (f : Fact) → same_fact f f ≡ true
fact_self f = let slot : (f.slot == f.slot) ≡ true = grind (arith, nat_tests) in rw (slot, end_self f.from) refl

-- a test that a fact among others passes
found : (all : List Fact) (f : Fact) (test : Fact → Bool) → is_among all f ≡ true → test f ≡ true → list_any test all ≡ true
found [] f test among e = absurd cc
found (g ∷ all) f test among e = either (same_fact f g)
    (λ here. rw (ap test (sym (fact_is f g here)) ∙ e) refl)
    (λ away. or_later (test g) (found all f test (rw away at among) e)) where
      or_later : (a : Bool) {b : Bool} → b ≡ true → (a || b) ≡ true
      or_later true h = refl
      or_later false h = h

pub among_filter : (keep : Fact → Bool) (all : List Fact) (f : Fact) → is_among all f ≡ true → keep f ≡ true → is_among (filter keep all) f ≡ true
among_filter keep [] f among e = absurd cc
among_filter keep (g ∷ all) f among e = either (same_fact f g)
    (λ here.
    let kept : keep g ≡ true = ap keep (sym (fact_is f g here)) ∙ e in
    rw (kept, here) refl)
    (λ away.
    let rest = among_filter keep all f (rw away at among) e in
    either (keep g)
    (λ kept. rw (kept, away) rest)
    (λ dropped. rw dropped rest))

pub among_copied : (src reg : Source) (all : List Fact) (f : Fact) → is_among all f ≡ true → same_end f.from src ≡ true
    → is_among (map (λ g. fact g.slot reg) (filter (λ g. same_end g.from src) all)) (fact f.slot reg) ≡ true
among_copied src reg [] f among e = absurd cc
among_copied src reg (g ∷ all) f among e = either (same_fact f g)
    (λ here.
    let same = fact_is f g here in
    let kept : same_end g.from src ≡ true = ap (λ (h : Fact). same_end h.from src) (sym same) ∙ e in
    let first : same_fact (fact f.slot reg) (fact g.slot reg) ≡ true = ap (λ (h : Fact). same_fact (fact f.slot reg) (fact h.slot reg)) (sym same) ∙ fact_self (fact f.slot reg) in
    rw (kept, first) refl)
    (λ away.
    let rest = among_copied src reg all f (rw away at among) e in
    either (same_end g.from src)
    (λ kept. rw kept (or_later (same_fact (fact f.slot reg) (fact g.slot reg)) rest))
    (λ dropped. rw dropped rest)) where
      or_later : (a : Bool) {b : Bool} → b ≡ true → (a || b) ≡ true
      or_later true h = refl
      or_later false h = h

pub among_left : (a b : List Fact) (f : Fact) → is_among a f ≡ true → is_among (a ++ b) f ≡ true
among_left a b f e = list_any-append (same_fact f) a b ∙ rw e refl

pub among_right : (a b : List Fact) (f : Fact) → is_among b f ≡ true → is_among (a ++ b) f ≡ true
among_right a b f e = list_any-append (same_fact f) a b ∙ by (is_among a f) where
  by : (c : Bool) → (c || is_among b f) ≡ true
  by true = refl
  by false = e

-- all of a list are among it, and among longer ones
pub all_among : (all fs : List Fact) → ((f : Fact) → is_among fs f ≡ true → is_among all f ≡ true) → are_among all fs ≡ true
all_among all [] more = refl
all_among all (g ∷ fs) more =
    let first : is_among (g ∷ fs) g ≡ true = rw (fact_self g) refl in
    rw (more g first) (all_among all fs (λ f e. more f (among_right (g ∷ []) fs f e)))

pub among_in : (all fs : List Fact) (f : Fact) → are_among all fs ≡ true → is_among fs f ≡ true → is_among all f ≡ true
among_in all [] f are e = absurd cc
among_in all (g ∷ fs) f are e =
    let two = and_parts (is_among all g) (are_among all fs) are in
    either (same_fact f g)
    (λ here. ap (is_among all) (fact_is f g here) ∙ two.0)
    (λ away. among_in all fs f two.1 (rw away at e))

-- a fact of a table
pub among_at : (all fs : List Fact) (i : ℕ) (d f : Fact) → are_among all fs ≡ true → i < length fs → f ≡ get_or fs i d → is_among all f ≡ true
among_at all fs i d f are lt is = either (is_among all (get_or fs i d))
    (λ e. ap (is_among all) is ∙ e)
    (λ e. let clash : true ≡ false = sym are ∙ list_all_at (is_among all) fs i d lt e in absurd cc)

pub one_slot : (all : List Fact) (slot : ℕ) (a b : Source) → is_among all (fact slot a) ≡ true → is_among all (fact slot b) ≡ true → have_one all a b ≡ true
one_slot all slot a b first second =
    let same : (slot == slot) ≡ true = grind (arith, nat_tests) in
    found all (fact slot a) (λ f. same_end f.from a && list_any (λ g. g.slot == f.slot && same_end g.from b) all) first
    (rw (end_self a) (found all (fact slot b) (λ g. g.slot == slot && same_end g.from b) second (rw (same, end_self b) refl)))
