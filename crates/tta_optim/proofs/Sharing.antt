-- A move that brings an operand port what it has already.
use Rattle.std.proofs.Common.{◌≡◌, ℕ, Bool, true, false, List, [], ◌∷◌, ◌++◌, Option, Some, None, refl, sym, ap, subst, arith, ◌∙◌}
use Rattle.std.specs.Prelude.{if◌then◌else◌, ◌||◌, not, option_and_then, map}
use Rattle.std.specs.Option.{option_map_or, option_to_list}
use Rattle.std.proofs.lemmas.Bool.{and_from}
use Rattle.std.proofs.lemmas.Bool.Decides.{nat_tests}
use Rattle.tta_optim.specs.Cited.{Units, GuardRef, Machine, Target, Operand, Effect, Place, KeptOperand, same_place, Written, kept, bring, is_active, ItemSource, Port, Address, Item, Move, Long, Held, is_waiting, linked, effect_of, read_held, does, lacks, does_all, means, copied, same_source, is_redundant, none_after}
use Rattle.tta_arch.specs.declared.ends.Source.TheVariants as source
use Rattle.tta_arch.specs.declared.ends.Dest.TheVariants as dest
use Rattle.tta_moves.proofs.Places.{either}
use Rattle.tta_moves.proofs.Steps.{step_write, write_at_once, does_same, same_lacks}
use Rattle.tta_optim.specs.Passes.{share_items}
use Rattle.tta_optim.proofs.Copies.{Copies, one_more, stuck_means, first_means}
use Rattle.tta_optim.proofs.Alone.{only_writes, Same, same_read, same_reads, same_after, Ends}
use Rattle.tta_arch.proofs.Places.{same_is}
use Rattle.tta_moves.proofs.Waiting.{stuck_all}

pub source_is : (a b : ItemSource) → same_source a b ≡ true → a ≡ b
source_is (Address a) (Address b) e = let s : a ≡ b = grind (arith, nat_tests) in cc
source_is (Address a) (Port b) e = absurd cc
source_is (Port a) (Address b) e = absurd cc
source_is (Port (source.Reg f i)) (Port (source.Reg g j)) e = let a : f ≡ g = grind (arith, nat_tests) in let b : i ≡ j = grind (arith, nat_tests) in cc
source_is (Port (source.Imm f i)) (Port (source.Imm g j)) e = let a : f ≡ g = grind (arith, nat_tests) in let b : i ≡ j = grind (arith, nat_tests) in cc
source_is (Port (source.Shown u)) (Port (source.Shown v)) e = let a : u ≡ v = grind (arith, nat_tests) in cc
source_is (Port source.Ra) (Port source.Ra) e = refl
source_is (Port (source.Value v)) (Port (source.Value w)) e = let a : v ≡ w = grind (arith, nat_tests) in cc
source_is (Port a) (Port b) e = absurd cc

pub source_itself : (s : ItemSource) → same_source s s ≡ true
source_itself (Address a) = grind (arith, nat_tests)
source_itself (Port (source.Reg f i)) = grind (arith, nat_tests)
source_itself (Port (source.Imm f i)) = grind (arith, nat_tests)
source_itself (Port (source.Shown u)) = grind (arith, nat_tests)
source_itself (Port source.Ra) = refl
source_itself (Port (source.Value v)) = grind (arith, nat_tests)

-- ---- the move

-- what is written already
writes_same : (u : Units) (m : Machine) (back : ℕ) (h : Held) (e : Effect) (unit : ℕ) → e.target ≡ Operand unit → kept h.written (KeptOperand unit) ≡ read_held h.written e.src
    → Same (option_to_list (step_write u m back h e) ++ h.written) h.written
writes_same u m back h e unit is has = on (is_waiting h.exit) where
  there : (w : ℕ) → read_held h.written e.src ≡ Some w → Same ((KeptOperand unit, w) ∷ h.written) h.written
  there w r = record {
    all = λ p. either (same_place (KeptOperand unit) p)
        (λ s. rw s (let q = same_is (KeptOperand unit) p s in sym r ∙ sym has ∙ ap (λ (x : Place). kept h.written x) q))
        (λ s. rw s refl);
  }

  acts : (o : Option ℕ) → read_held h.written e.src ≡ o
      → Same (option_to_list (option_and_then (write_at_once u m back h) (option_map_or (λ word. Some (e.target, word)) o None)) ++ h.written) h.written
  acts None r = record { all = λ p. refl }
  acts (Some w) r = subst (λ (t : Target). Same (option_to_list (write_at_once u m back h (t, w)) ++ h.written) h.written) (sym is) (there w r)

  by : (a : Bool)
      → Same (option_to_list (option_and_then (write_at_once u m back h) (option_map_or (λ word. Some (e.target, word)) (if a then read_held h.written e.src else None) None)) ++ h.written) h.written
  by true = acts (read_held h.written e.src) refl
  by false = record { all = λ p. refl }

  on : (c : Bool) → Same (option_to_list (if c then None else option_and_then (write_at_once u m back h) (bring (read_held h.written) e)) ++ h.written) h.written
  on true = record { all = λ p. refl }
  on false = by (is_active (read_held h.written) e)

-- the unit and source of a redundant move
pub record Redundant (m : Machine) (before : List Item) (x : Item) : Type 0 where
  pub guard : Option GuardRef
  pub source : ItemSource
  pub unit : ℕ
  pub is : x ≡ Move guard source (dest.Operand unit)
  pub has : copied m (KeptOperand unit) before ≡ Some source

pub redundant_is : (m : Machine) (before : List Item) (x : Item) → is_redundant m before x ≡ true → Redundant m before x
redundant_is m before (Move guard src (dest.Operand unit)) e = on (copied m (KeptOperand unit) before) refl e where
  on : (o : Option ItemSource) → copied m (KeptOperand unit) before ≡ o → option_map_or (same_source src) o false ≡ true → Redundant m before (Move guard src (dest.Operand unit))
  on None r e = absurd cc
  on (Some s) r e = record { guard = guard; source = src; unit = unit; is = refl; has = r ∙ ap (λ (q : ItemSource). Some q) (sym (source_is src s e)) }
redundant_is m before (Move guard src (dest.Reg f i)) e = absurd cc
redundant_is m before (Move guard src (dest.Trigger f i)) e = absurd cc
redundant_is m before (Move guard src dest.Jump) e = absurd cc
redundant_is m before (Move guard src dest.Call) e = absurd cc
redundant_is m before (Move guard src dest.Halt) e = absurd cc
redundant_is m before (Long unit index value) e = absurd cc

-- a redundant move changes no word
left_out : (u : Units) (m : Machine) (addr : List ℕ) (back : ℕ) (before : List Item) (x : Item) (h : Held) → Copies m addr before h.written → is_redundant m before x ≡ true
    → (does u m back h (effect_of addr x) ≡ record h { written = option_to_list (step_write u m back h (effect_of addr x)) ++ h.written })
    × Same (option_to_list (step_write u m back h (effect_of addr x)) ++ h.written) h.written
left_out u m addr back before x h copies e =
    let r = redundant_is m before x e in
    let y : Item = Move r.guard r.source (dest.Operand r.unit) in
    let P : Item → Type 0 = λ z. (does u m back h (effect_of addr z) ≡ record h { written = option_to_list (step_write u m back h (effect_of addr z)) ++ h.written })
    × Same (option_to_list (step_write u m back h (effect_of addr z)) ++ h.written) h.written in
    subst P (sym r.is)
    (only_writes u m back h (effect_of addr y) refl, writes_same u m back h (effect_of addr y) r.unit refl (copies.same (KeptOperand r.unit) r.source refl r.has))

copies_same : (m : Machine) (addr : List ℕ) (before : List Item) (vs ws : Written) → Same vs ws → Copies m addr before ws → Copies m addr before vs
copies_same m addr before vs ws same copies =
    record { same = λ p s whole e. same.all p ∙ copies.same p s whole e ∙ sym (same_read vs ws (linked addr s) same) }

-- ---- the list

abbrev Shares : Units → Machine → List ℕ → ℕ → List Item → List Item → Held → Written → Type 0
Shares u m addr back xs ys h ws =
    (means u m back (record h { written = ws }) (map (effect_of addr) ys) ≡ true)
    × Ends Same (does_all u m back h (map (effect_of addr) xs)) (does_all u m back (record h { written = ws }) (map (effect_of addr) ys))

waits_alike : (u : Units) (m : Machine) (addr : List ℕ) (back : ℕ) (xs ys : List Item) (h : Held) (ws : Written) → Same ws h.written → is_waiting h.exit ≡ true → Shares u m addr back xs ys h ws
waits_alike u m addr back xs ys h ws same w =
    let old = stuck_all u m back h (map (effect_of addr) xs) w in
    let new = stuck_all u m back (record h { written = ws }) (map (effect_of addr) ys) w in (
      stuck_means u m back (record h { written = ws }) (map (effect_of addr) ys) w,
      record {
        writes = ws;
        equal = new ∙ ap (λ (k : Held). record k { written = ws }) (sym old);
        fits = subst (λ (k : Held). Same ws k.written) (sym old) same;
      },
    )

drops : (u : Units) (m : Machine) (addr : List ℕ) (back : ℕ) (before : List Item) (x : Item) (xs ys : List Item) (h : Held) (ws : Written) → Same ws h.written → Copies m addr before h.written
    → means u m back h (map (effect_of addr) (x ∷ xs)) ≡ true → is_waiting h.exit ≡ false → is_redundant m before x ≡ true
    → ((k : Held) (vs : Written) → Same vs k.written → Copies m addr before k.written → means u m back k (map (effect_of addr) xs) ≡ true → Shares u m addr back xs ys k vs)
    → Shares u m addr back (x ∷ xs) ys h ws
drops u m addr back before x xs ys h ws same copies ok runs red more =
    let first = first_means u m back h (effect_of addr x) (map (effect_of addr) xs) runs ok in
    let out = left_out u m addr back before x h copies red in
    let k : Held = does u m back h (effect_of addr x) in
    let still : Same k.written h.written = subst (λ (q : Held). Same q.written h.written) (sym out.0) out.1 in
    let same' : Same ws k.written = record { all = λ p. same.all p ∙ sym (still.all p) } in
    let r = more k ws same' (copies_same m addr before k.written h.written still copies) first.1 in
    let state : record k { written = ws } ≡ record h { written = ws } = ap (λ (q : Held). record q { written = ws }) out.0 in
    subst (λ (q : Held). (means u m back q (map (effect_of addr) ys) ≡ true) × Ends Same (does_all u m back k (map (effect_of addr) xs)) (does_all u m back q (map (effect_of addr) ys))) state r

stays : (u : Units) (m : Machine) (addr : List ℕ) (back : ℕ) (before : List Item) (x : Item) (xs ys : List Item) (h : Held) (ws : Written) → Same ws h.written → Copies m addr before h.written
    → means u m back h (map (effect_of addr) (x ∷ xs)) ≡ true → is_waiting h.exit ≡ false
    → ((k : Held) (vs : Written) → Same vs k.written → Copies m addr (x ∷ before) k.written → means u m back k (map (effect_of addr) xs) ≡ true → Shares u m addr back xs ys k vs)
    → Shares u m addr back (x ∷ xs) (x ∷ ys) h ws
stays u m addr back before x xs ys h ws same copies ok runs more =
    let e : Effect = effect_of addr x in
    let first = first_means u m back h e (map (effect_of addr) xs) runs ok in
    let reads = same_reads e ws h.written same in
    let vs : Written = option_to_list (step_write u m back h e) ++ ws in
    let step : does u m back (record h { written = ws }) e ≡ record (does u m back h e) { written = vs } = does_same u m back h e ws reads in
    let r = more (does u m back h e) vs (same_after u m back h e ws same) (one_more u m addr back before x h runs first.0 copies) first.1 in
    let fine : lacks m (record h { written = ws }) e ≡ false = same_lacks m h e ws reads ∙ first.0 in (
      and_from (is_waiting h.exit || not (lacks m (record h { written = ws }) e)) (means u m back (does u m back (record h { written = ws }) e) (map (effect_of addr) ys))
          (rw (runs, fine) refl) (subst (λ (q : Held). means u m back q (map (effect_of addr) ys) ≡ true) (sym step) r.0),
      record { writes = r.1.writes; equal = ap (λ (q : Held). does_all u m back q (map (effect_of addr) ys)) step ∙ r.1.equal; fits = r.1.fits },
    )

pub share_keeps : (u : Units) (m : Machine) (addr : List ℕ) (back : ℕ) (before xs : List Item) (h : Held) (ws : Written) → Same ws h.written → Copies m addr before h.written
    → means u m back h (map (effect_of addr) xs) ≡ true → Shares u m addr back xs (share_items m before xs) h ws
share_keeps u m addr back before [] h ws same copies ok = (refl, record { writes = ws; equal = refl; fits = same })
share_keeps u m addr back before (x ∷ xs) h ws same copies ok =
    either (is_waiting h.exit)
    (λ w. waits_alike u m addr back (x ∷ xs) (share_items m before (x ∷ xs)) h ws same w)
    (λ runs. either (is_redundant m before x)
    (λ red. rw red (drops u m addr back before x xs (share_items m before xs) h ws same copies ok runs red
    (λ k vs s c o. share_keeps u m addr back before xs k vs s c o)))
    (λ more. rw more (stays u m addr back before x xs (share_items m (x ∷ before) xs) h ws same copies ok runs
    (λ k vs s c o. share_keeps u m addr back (x ∷ before) xs k vs s c o))))

-- ---- its form

pub share_form : (m : Machine) (before xs : List Item) → none_after (is_redundant m) before (share_items m before xs) ≡ true
share_form m before [] = refl
share_form m before (x ∷ xs) =
    either (is_redundant m before x)
    (λ red. rw red (share_form m before xs))
    (λ more. rw (more, more) (share_form m (x ∷ before) xs))
