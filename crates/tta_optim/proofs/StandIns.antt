-- Lists that may be placed for others: a list itself, what the passes make of it, and what may be placed for such a list.
use Rattle.std.proofs.Common.{ℕ, List, refl, subst, ◌∙◌, arith}
use Rattle.tta_optim.specs.Cited.{Machine, hub_of, Item, BlockList}
use Rattle.tta_optim.specs.Kept.{KeepsMeaning, KeepsFramed, DoesNoMore, AsksNoMore, IsEquivalent, aim_of}
use Rattle.tta_optim.specs.Passes.{optimise_items}
use Rattle.tta_optim.proofs.Meanings.{framed_of, framed_next, optimise_meaning}
use Rattle.tta_optim.proofs.NoMore.{optimise_no_more}

-- what does no more asks for no more
pub asks_of : (m : Machine) (items others : List Item) → DoesNoMore m items others → AsksNoMore m items others
asks_of m items others d = record {
  few = d.few;
  list = d.list;
  targets = λ p apart. d.targets (λ t. p (aim_of m t));
  addresses = d.addresses;
  straight = d.straight (hub_of m);
}

-- a list with another that does no more and keeps the meaning, from every state
pub stands_by : (m : Machine) (live : List (ℕ × ℕ)) (items others : List Item) → KeepsMeaning m live items others → AsksNoMore m items others
    → IsEquivalent m (record { items = items; live_out = live }) (record { items = others; live_out = live })
stands_by m live items others meaning spare = record { stands = record { live = refl; meaning = framed_of m live items others meaning }; spare = spare }

-- a list may be placed for itself
pub stands_itself : (m : Machine) (b : BlockList) → IsEquivalent m b b
stands_itself m b = record {
  stands = record {
    live = refl;
    meaning = record {
      meaning = λ u addr back h long e. e;
      end = λ u addr back h long e. record { memory = refl; frame = refl; rest = refl; output = refl; exit = refl; registers = λ w p l. refl };
    };
  };
  spare = record { few = omega arith; list = λ e. e; targets = λ p apart. omega arith; addresses = λ block e. e; straight = λ e. e };
}

-- what may be placed for a list's stand-in may be placed for the list
pub stand_in_next : (m : Machine) (a b c : BlockList) → IsEquivalent m a b → IsEquivalent m b c → IsEquivalent m a c
stand_in_next m a b c f g = record {
  stands = record {
    live = g.stands.live ∙ f.stands.live;
    meaning = framed_next m a.live_out a.items b.items c.items f.stands.meaning (subst (λ (l : List (ℕ × ℕ)). KeepsFramed m l b.items c.items) f.stands.live g.stands.meaning);
  };
  spare = record {
    few = let one = f.spare.few in let two = g.spare.few in omega (arith, one, two);
    list = λ h. g.spare.list (f.spare.list h);
    targets = λ p apart. let one = f.spare.targets p apart in let two = g.spare.targets p apart in omega (arith, one, two);
    addresses = λ block h. f.spare.addresses block (g.spare.addresses block h);
    straight = λ h. g.spare.straight (f.spare.straight h);
  };
}

-- what the three passes make of a list may be placed for it
pub optimised_stands : (m : Machine) (b : BlockList) → IsEquivalent m b (record { items = optimise_items m b.live_out b.items; live_out = b.live_out })
optimised_stands m b = record {
  stands = record { live = refl; meaning = framed_of m b.live_out _ _ (optimise_meaning m b.live_out b.items) };
  spare = asks_of m _ _ (optimise_no_more m b.live_out b.items);
}
