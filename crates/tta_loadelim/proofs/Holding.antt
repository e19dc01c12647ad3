-- What it is that facts hold in a state.
use Rattle.std.proofs.Common.{◌≡◌, ℕ, Bool, true, List, [], ◌∷◌, ◌++◌, Some, refl, sym, ap, arith, ◌∙◌}
use Rattle.std.specs.Prelude.{⊤, ◌==◌, ◌&&◌, map, filter, slice_index}
use Rattle.std.specs.List.{list_any}
use Rattle.std.proofs.lemmas.Bool.{and_parts}
use Rattle.std.proofs.lemmas.Bool.Decides.{nat_tests}
use Rattle.tta_loadelim.specs.Cited.{Source, Held, read_held, same_end}
use Rattle.tta_arch.specs.declared.ends.Source.TheVariants as source
use Rattle.tta_moves.proofs.Places.{either}
use Rattle.tta_loadelim.specs.AvailableSlots.{fact, have_one}
use Rattle.tta_loadelim.specs.declared.facts.Fact.{Fact}

pub end_is : (a b : Source) → same_end a b ≡ true → a ≡ b
end_is (source.Reg f i) (source.Reg g j) e = let x : f ≡ g = grind (arith, nat_tests) in let y : i ≡ j = grind (arith, nat_tests) in cc
end_is (source.Imm f i) (source.Imm g j) e = let x : f ≡ g = grind (arith, nat_tests) in let y : i ≡ j = grind (arith, nat_tests) in cc
end_is (source.Shown u) (source.Shown v) e = let x : u ≡ v = grind (arith, nat_tests) in cc
end_is source.Ra source.Ra e = refl
end_is (source.Value v) (source.Value w) e = let x : v ≡ w = grind (arith, nat_tests) in cc
end_is a b e = absurd cc

-- the source of a fact has the word of its slot
abbrev pub Holds : Held → Fact → Type 0
Holds h f = read_held h.written f.from ≡ Some (slice_index h.frame f.slot)

abbrev pub Hold : Held → List Fact → Type 0
Hold h [] = ⊤
Hold h (f ∷ fs) = Holds h f × Hold h fs

pub hold_both : (h : Held) (fs gs : List Fact) → Hold h fs → Hold h gs → Hold h (fs ++ gs)
hold_both h [] gs a b = b
hold_both h (f ∷ fs) gs a b = (a.0, hold_both h fs gs a.1 b)

pub hold_kept : (h k : Held) (keep : Fact → Bool) (fs : List Fact) → ((f : Fact) → keep f ≡ true → Holds h f → Holds k f) → Hold h fs → Hold k (filter keep fs)
hold_kept h k keep [] more a = tt
hold_kept h k keep (f ∷ fs) more a = either (keep f)
    (λ yes_keep. rw yes_keep (more f yes_keep a.0, hold_kept h k keep fs more a.1))
    (λ no_keep. rw no_keep (hold_kept h k keep fs more a.1))

-- facts of one source as facts of another
pub hold_copied : (h k : Held) (src reg : Source) (fs : List Fact) → ((f : Fact) → same_end f.from src ≡ true → Holds h f → Holds k (fact f.slot reg)) → Hold h fs
    → Hold k (map (λ f. fact f.slot reg) (filter (λ f. same_end f.from src) fs))
hold_copied h k src reg [] more a = tt
hold_copied h k src reg (f ∷ fs) more a = either (same_end f.from src)
    (λ same. rw same (more f same a.0, hold_copied h k src reg fs more a.1))
    (λ other. rw other (hold_copied h k src reg fs more a.1))

-- two sources that have the word of one slot have one word
slot_has : (h : Held) (slot : ℕ) (b : Source) (fs : List Fact) → Hold h fs → list_any (λ g. g.slot == slot && same_end g.from b) fs ≡ true → read_held h.written b ≡ Some (slice_index h.frame slot)
slot_has h slot b [] a e = absurd cc
slot_has h slot b (g ∷ fs) a e = either (g.slot == slot && same_end g.from b)
    (λ here.
    let two = and_parts (g.slot == slot) (same_end g.from b) here in
    let at : g.slot ≡ slot = grind (arith, nat_tests, two) in
    ap (read_held h.written) (sym (end_is g.from b two.1)) ∙ a.0 ∙ ap (λ s. Some (slice_index h.frame s)) at)
    (λ away. slot_has h slot b fs a.1 (rw away at e))

one_word : (h : Held) (x y : Source) (fs all : List Fact) → Hold h fs → Hold h all → list_any (λ f. same_end f.from x && list_any (λ g. g.slot == f.slot && same_end g.from y) all) fs ≡ true
    → read_held h.written y ≡ read_held h.written x
one_word h x y [] all a b e = absurd cc
one_word h x y (f ∷ fs) all a b e = either (same_end f.from x && list_any (λ g. g.slot == f.slot && same_end g.from y) all)
    (λ here.
    let two = and_parts (same_end f.from x) (list_any (λ g. g.slot == f.slot && same_end g.from y) all) here in
    slot_has h f.slot y all b two.1 ∙ sym a.0 ∙ ap (read_held h.written) (end_is f.from x two.0))
    (λ away. one_word h x y fs all a.1 b (rw away at e))

pub have_one_word : (h : Held) (x y : Source) (fs : List Fact) → Hold h fs → have_one fs x y ≡ true → read_held h.written y ≡ read_held h.written x
have_one_word h x y fs a e = one_word h x y fs fs a a e
