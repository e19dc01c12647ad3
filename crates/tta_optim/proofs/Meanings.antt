-- Each pass keeps the meaning of a list, and so do all three.
use Rattle.std.proofs.Common.{◌≡◌, ℕ, true, false, List, [], refl, sym, ap, subst, ◌∙◌}
use Rattle.tta_optim.specs.Cited.{Machine, Place, Written, kept, Item, Held, is_waiting, lives}
use Rattle.tta_optim.specs.Kept.{Alike, KeepsMeaning, KeepsFramed}
use Rattle.tta_optim.specs.Passes.{bypass_items, share_items, dead_items, optimise_items}
use Rattle.tta_optim.proofs.Copies.{none_yet}
use Rattle.tta_optim.proofs.Bypassing.{bypass_keeps}
use Rattle.tta_optim.proofs.Alone.{same_refl}
use Rattle.tta_optim.proofs.Sharing.{share_keeps}
use Rattle.tta_optim.proofs.DeadWrites.{dead_keeps}

-- two states that are equal but for their writes
alike_but : (live : List (ℕ × ℕ)) (a b : Held) (vs : Written) → b ≡ record a { written = vs }
    → (is_waiting a.exit ≡ false → (p : Place) → lives live p ≡ true → kept vs p ≡ kept a.written p) → Alike live a b
alike_but live a b vs e h =
    let same : Alike live a (record a { written = vs }) = record { memory = refl; frame = refl; rest = refl; output = refl; exit = refl; registers = h } in
    subst (λ (k : Held). Alike live a k) (sym e) same

alike_next : (live : List (ℕ × ℕ)) (a b c : Held) → Alike live a b → Alike live b c → Alike live a c
alike_next live a b c f g = record {
  memory = g.memory ∙ f.memory;
  frame = g.frame ∙ f.frame;
  rest = g.rest ∙ f.rest;
  output = g.output ∙ f.output;
  exit = g.exit ∙ f.exit;
  registers = λ runs p l. g.registers (ap is_waiting f.exit ∙ runs) p l ∙ f.registers runs p l;
}

pub bypass_meaning : (m : Machine) (live : List (ℕ × ℕ)) (items : List Item) → KeepsMeaning m live items (bypass_items m [] items)
bypass_meaning m live items = record {
  meaning = λ u addr back h ok. (bypass_keeps u m addr back [] items h (none_yet m addr h.written) ok).0;
  end = λ u addr back h ok. alike_but live _ _ _ (bypass_keeps u m addr back [] items h (none_yet m addr h.written) ok).1 (λ runs p l. refl);
}

pub share_meaning : (m : Machine) (live : List (ℕ × ℕ)) (items : List Item) → KeepsMeaning m live items (share_items m [] items)
share_meaning m live items = record {
  meaning = λ u addr back h ok. (share_keeps u m addr back [] items h h.written (same_refl h.written) (none_yet m addr h.written) ok).0;
  end = λ u addr back h ok.
      let r = share_keeps u m addr back [] items h h.written (same_refl h.written) (none_yet m addr h.written) ok in
      alike_but live _ _ r.1.writes r.1.equal (λ runs p l. r.1.fits.all p);
}

pub dead_meaning : (m : Machine) (live : List (ℕ × ℕ)) (items : List Item) → KeepsMeaning m live items (dead_items m live items)
dead_meaning m live items = record {
  meaning = λ u addr back h ok. (dead_keeps u m live addr back items h h.written (record { other = λ p o. refl; wanted = λ p o. refl }) ok).0;
  end = λ u addr back h ok.
      let r = dead_keeps u m live addr back items h h.written (record { other = λ p o. refl; wanted = λ p o. refl }) ok in
      alike_but live _ _ r.1.writes r.1.equal r.1.fits.later;
}

pub keeps_next : (m : Machine) (live : List (ℕ × ℕ)) (a b c : List Item) → KeepsMeaning m live a b → KeepsMeaning m live b c → KeepsMeaning m live a c
keeps_next m live a b c f g = record {
  meaning = λ u addr back h ok. g.meaning u addr back h (f.meaning u addr back h ok);
  end = λ u addr back h ok. alike_next live _ _ _ (f.end u addr back h ok) (g.end u addr back h (f.meaning u addr back h ok));
}

pub optimise_meaning : (m : Machine) (live : List (ℕ × ℕ)) (items : List Item) → KeepsMeaning m live items (optimise_items m live items)
optimise_meaning m live items =
    let one : List Item = bypass_items m [] items in
    let two : List Item = share_items m [] one in
    keeps_next m live items two (dead_items m live two)
    (keeps_next m live items one two (bypass_meaning m live items) (share_meaning m live one))
    (dead_meaning m live two)

-- what keeps the meaning from every state does so from those with the machine's frame
pub framed_of : (m : Machine) (live : List (ℕ × ℕ)) (a b : List Item) → KeepsMeaning m live a b → KeepsFramed m live a b
framed_of m live a b f = record { meaning = λ u addr back h long ok. f.meaning u addr back h ok; end = λ u addr back h long ok. f.end u addr back h ok }

pub framed_next : (m : Machine) (live : List (ℕ × ℕ)) (a b c : List Item) → KeepsFramed m live a b → KeepsFramed m live b c → KeepsFramed m live a c
framed_next m live a b c f g = record {
  meaning = λ u addr back h long ok. g.meaning u addr back h long (f.meaning u addr back h long ok);
  end = λ u addr back h long ok. alike_next live _ _ _ (f.end u addr back h long ok) (g.end u addr back h long (f.meaning u addr back h long ok));
}
