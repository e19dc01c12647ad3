-- A list with copies into registers that nothing reads does the same but for these.
use Rattle.std.proofs.Common.{◌≡◌, ℕ, true, false, List, [], ◌∷◌, ◌++◌, Option, Some, None, refl, sym, ap, subst, ◌∙◌}
use Rattle.std.specs.Prelude.{not, map}
use Rattle.std.specs.Option.{option_map_or, option_to_list}
use Rattle.std.specs.List.{list_all}
use Rattle.std.proofs.lemmas.Bool.{and_parts, or_left, or_right, not-true}
use Rattle.tta_loadelim.specs.Cited.{Units, GuardRef, Machine, Effect, Place, KeptReg, KeptImm, KeptOperand, KeptRa, KeptPort, same_place, Written, kept, ItemSource, Port, Address, Item, guard_of, source_of, place_of_source, is_at, guard_place, reads, is_unguarded, is_waiting, Held, linked, effect_of, read_held, does, lacks, do_items, has_meaning, lives, Alike, KeepsMeaning}
use Rattle.tta_arch.specs.declared.ends.Source.TheVariants as source
use Rattle.tta_moves.proofs.Places.{either, same_self, kept_on_both, kept_elsewhere}
use Rattle.tta_moves.proofs.Steps.{SameReads, step_write, step_place, does_same, does_written, same_lacks}
use Rattle.tta_optim.proofs.Copies.{stuck_means, first_means, sure_word}
use Rattle.tta_optim.proofs.Alone.{only_writes}
use Rattle.tta_loadelim.specs.Copied.{is_one_of, are_unread, copy_of, AreCopied, ends, stays, copies}
use Rattle.tta_optim.proofs.DeadWrites.{guard_of_sure}
use Rattle.tta_arch.proofs.Places.{same_is}
use Rattle.tta_moves.proofs.Waiting.{stuck_all}

-- ---- states that differ in these registers alone

pub record Off (fresh : List (ℕ × ℕ)) (vs ws : Written) : Type 0 where
  pub same : (p : Place) → is_one_of fresh p ≡ false → kept vs p ≡ kept ws p

-- a place that an item reads is none of them
read_off : (fresh : List (ℕ × ℕ)) (x : Item) (p : Place) → list_all (λ r. not (reads (KeptReg r.0 r.1) x)) fresh ≡ true → reads p x ≡ true → is_one_of fresh p ≡ false
read_off [] x p none read = refl
read_off (r ∷ fresh) x p none read =
    let two = and_parts (not (reads (KeptReg r.0 r.1) x)) (list_all (λ r. not (reads (KeptReg r.0 r.1) x)) fresh) none in
    either (same_place (KeptReg r.0 r.1) p)
    (λ here.
    let same = same_is (KeptReg r.0 r.1) p here in
    let unread = not-true (reads (KeptReg r.0 r.1) x) two.0 in
    let both : false ≡ true = sym unread ∙ ap (λ (q : Place). reads q x) same ∙ read in absurd cc)
    (λ away. rw away (read_off fresh x p two.1 read))

operand_off : (fresh : List (ℕ × ℕ)) (unit : ℕ) → is_one_of fresh (KeptOperand unit) ≡ false
operand_off [] unit = refl
operand_off (r ∷ fresh) unit = operand_off fresh unit

ra_off : (fresh : List (ℕ × ℕ)) → is_one_of fresh KeptRa ≡ false
ra_off [] = refl
ra_off (r ∷ fresh) = ra_off fresh

live_off : (live fresh : List (ℕ × ℕ)) (p : Place) → list_all (λ r. not (lives live (KeptReg r.0 r.1))) fresh ≡ true → lives live p ≡ true → is_one_of fresh p ≡ false
live_off live [] p none lively = refl
live_off live (r ∷ fresh) p none lively =
    let two = and_parts (not (lives live (KeptReg r.0 r.1))) (list_all (λ r. not (lives live (KeptReg r.0 r.1))) fresh) none in
    either (same_place (KeptReg r.0 r.1) p)
    (λ here.
    let same = same_is (KeptReg r.0 r.1) p here in
    let dead = not-true (lives live (KeptReg r.0 r.1)) two.0 in
    let both : false ≡ true = sym dead ∙ ap (λ (q : Place). lives live q) same ∙ lively in absurd cc)
    (λ away. rw away (live_off live fresh p two.1 lively))

reads_alike : (fresh : List (ℕ × ℕ)) (addr : List ℕ) (x : Item) (vs ws : Written) → list_all (λ r. not (reads (KeptReg r.0 r.1) x)) fresh ≡ true → Off fresh vs ws → SameReads (effect_of addr x) vs ws
reads_alike fresh addr x vs ws none off = record { guard = guard; source = on (source_of x) refl; operand = λ unit. off.same (KeptOperand unit) (operand_off fresh unit) } where
  guard : (g : GuardRef) → guard_of x ≡ Some g → kept vs (guard_place g) ≡ kept ws (guard_place g)
  guard g is =
      let guarding : option_map_or (λ q. same_place (guard_place q) (guard_place g)) (guard_of x) false ≡ true = rw (is, same_self (guard_place g)) refl in
      off.same (guard_place g) (read_off fresh x (guard_place g) none (or_right _ _ guarding))

  register : (p : Place) → place_of_source (source_of x) ≡ Some p → kept vs p ≡ kept ws p
  register p e =
      let reading : is_at p (place_of_source (source_of x)) ≡ true = rw (e, same_self p) refl in
      off.same p (read_off fresh x p none (or_left _ _ reading))

  on : (s : ItemSource) → source_of x ≡ s → read_held vs (linked addr s) ≡ read_held ws (linked addr s)
  on (Address block) e = refl
  on (Port (source.Reg f i)) e = register (KeptReg f i) (ap place_of_source e)
  on (Port (source.Imm f i)) e = register (KeptImm f i) (ap place_of_source e)
  on (Port (source.Shown unit)) e = register (KeptPort unit) (ap place_of_source e)
  on (Port source.Ra) e = register KeptRa (ap place_of_source e)
  on (Port (source.Value w)) e = refl

-- ---- the list

pub record EndsOff (fresh : List (ℕ × ℕ)) (a b : Held) : Type 0 where
  pub writes : Written
  pub equal : b ≡ record a { written = writes }
  pub off : Off fresh writes a.written

module _ (u : Units) (m : Machine) (addr : List ℕ) (back : ℕ) (fresh : List (ℕ × ℕ)) where
  abbrev pub Copied : List Item → List Item → Held → Written → Type 0
  Copied xs ys h ws = (has_meaning u m addr back (record h { written = ws }) ys ≡ true) × EndsOff fresh (do_items u m addr back h xs) (do_items u m addr back (record h { written = ws }) ys)

  waits : (xs ys : List Item) (h : Held) (ws : Written) → is_waiting h.exit ≡ true → Off fresh ws h.written → Copied xs ys h ws
  waits xs ys h ws w off =
      let old = stuck_all u m back h (map (effect_of addr) xs) w in
      let new = stuck_all u m back (record h { written = ws }) (map (effect_of addr) ys) w in (
        stuck_means u m back (record h { written = ws }) (map (effect_of addr) ys) w,
        record {
          writes = ws;
          equal = new ∙ ap (λ (k : Held). record k { written = ws }) (sym old);
          off = subst (λ (k : Held). Off fresh ws k.written) (sym old) off;
        },
      )

  -- an item of both lists
  both : (x : Item) (xs ys : List Item) (h : Held) (ws : Written) → list_all (λ r. not (reads (KeptReg r.0 r.1) x)) fresh ≡ true → is_waiting h.exit ≡ false → lacks m h (effect_of addr x) ≡ false → Off fresh ws h.written
      → ((vs : Written) → Off fresh vs (does u m back h (effect_of addr x)).written → Copied xs ys (does u m back h (effect_of addr x)) vs)
      → Copied (x ∷ xs) (x ∷ ys) h ws
  both x xs ys h ws none runs fine off more =
      let e : Effect = effect_of addr x in
      let reading = reads_alike fresh addr x ws h.written none off in
      let vs : Written = option_to_list (step_write u m back h e) ++ ws in
      let step : does u m back (record h { written = ws }) e ≡ record (does u m back h e) { written = vs } = does_same u m back h e ws reading in
      let later : Off fresh vs (does u m back h e).written = record {
        same = λ p away. kept_on_both (step_write u m back h e) ws h.written p (off.same p away) ∙ ap (λ (v : Written). kept v p) (sym (does_written u m back h e));
      } in
      let r = more vs later in
      let fine_too : lacks m (record h { written = ws }) e ≡ false = same_lacks m h e ws reading ∙ fine in (
        rw (runs, fine_too) (subst (λ (k : Held). has_meaning u m addr back k ys ≡ true) (sym step) r.0),
        record { writes = r.1.writes; equal = ap (λ (k : Held). do_items u m addr back k ys) step ∙ r.1.equal; off = r.1.off },
      )

  -- a copy before it
  copy_fine : (x : Item) (r : ℕ × ℕ) (h : Held) (ws : Written) → list_all (λ r. not (reads (KeptReg r.0 r.1) x)) fresh ≡ true → is_unguarded x ≡ true → lacks m h (effect_of addr x) ≡ false → Off fresh ws h.written
      → lacks m (record h { written = ws }) (effect_of addr (copy_of x r)) ≡ false
  unfolding lacks
  copy_fine x r h ws none sure fine off =
      let word = sure_word m h (effect_of addr x) (guard_of_sure x sure) fine in
      let read : read_held ws (linked addr (source_of x)) ≡ Some word.0 = (reads_alike fresh addr x ws h.written none off).source ∙ word.1 in
      rw read refl

  copy_off : (x : Item) (r : ℕ × ℕ) (h : Held) (ws : Written) → is_one_of fresh (KeptReg r.0 r.1) ≡ true → Off fresh ws h.written
      → Off fresh (option_to_list (step_write u m back (record h { written = ws }) (effect_of addr (copy_of x r))) ++ ws) h.written
  copy_off x r h ws one off = record { same = λ p away. on p away (step_write u m back k c) (λ w is. step_place u m back k c w is) } where
    k : Held
    k = record h { written = ws }

    c : Effect
    c = effect_of addr (copy_of x r)

    on : (p : Place) → is_one_of fresh p ≡ false → (o : Option (Place × ℕ)) → ((w : Place × ℕ) → o ≡ Some w → ◌≡◌ {A = Option Place} (Some (KeptReg r.0 r.1)) (Some w.0)) → kept (option_to_list o ++ ws) p ≡ kept h.written p
    on p away None at = off.same p away
    on p away (Some w) at =
        let here = at w refl in
        let same : KeptReg r.0 r.1 ≡ w.0 = cc in
        kept_elsewhere w ws p (either (same_place w.0 p)
        (λ s. let clash : true ≡ false = sym one ∙ ap (λ (q : Place). is_one_of fresh q) (same ∙ same_is w.0 p s) ∙ away in absurd cc)
        (λ s. s)) ∙ off.same p away

  copied : (xs ys : List Item) (h : Held) (ws : Written) → AreCopied fresh xs ys → list_all (λ x. list_all (λ r. not (reads (KeptReg r.0 r.1) x)) fresh) xs ≡ true
      → has_meaning u m addr back h xs ≡ true → Off fresh ws h.written → Copied xs ys h ws
  copied xs ys h ws ends unread ok off = (refl, record { writes = ws; equal = refl; off = off })
  copied _ _ h ws (stays x xs ys a) unread ok off = either (is_waiting h.exit)
      (λ w. waits (x ∷ xs) (x ∷ ys) h ws w off)
      (λ runs.
      let two = and_parts (list_all (λ r. not (reads (KeptReg r.0 r.1) x)) fresh) (list_all (λ x. list_all (λ r. not (reads (KeptReg r.0 r.1) x)) fresh) xs) unread in
      let first = first_means u m back h (effect_of addr x) (map (effect_of addr) xs) runs ok in
      both x xs ys h ws two.0 runs first.0 off (λ vs later. copied xs ys (does u m back h (effect_of addr x)) vs a two.1 first.1 later))
  copied _ _ h ws (copies x r xs ys sure one a) unread ok off = either (is_waiting h.exit)
      (λ w. waits (x ∷ xs) (copy_of x r ∷ x ∷ ys) h ws w off)
      (λ runs.
      let two = and_parts (list_all (λ r. not (reads (KeptReg r.0 r.1) x)) fresh) (list_all (λ x. list_all (λ r. not (reads (KeptReg r.0 r.1) x)) fresh) xs) unread in
      let first = first_means u m back h (effect_of addr x) (map (effect_of addr) xs) runs ok in
      let k : Held = record h { written = ws } in
      let c : Effect = effect_of addr (copy_of x r) in
      let vs : Written = option_to_list (step_write u m back k c) ++ ws in
      let step : does u m back k c ≡ record h { written = vs } = only_writes u m back k c refl in
      let rest = both x xs ys h vs two.0 runs first.0 (copy_off x r h ws one off) (λ us later. copied xs ys (does u m back h (effect_of addr x)) us a two.1 first.1 later) in
      let fine = copy_fine x r h ws two.0 sure first.0 off in (
        rw (runs, fine) (subst (λ (l : Held). has_meaning u m addr back l (x ∷ ys) ≡ true) (sym step) rest.0),
        record { writes = rest.1.writes; equal = ap (λ (l : Held). do_items u m addr back l (x ∷ ys)) step ∙ rest.1.equal; off = rest.1.off },
      ))

alike_off : (live fresh : List (ℕ × ℕ)) (a b : Held) → list_all (λ r. not (lives live (KeptReg r.0 r.1))) fresh ≡ true → EndsOff fresh a b → Alike live a b
alike_off live fresh a b none e =
    let same : Alike live a (record a { written = e.writes }) = record {
      memory = refl;
      frame = refl;
      rest = refl;
      output = refl;
      exit = refl;
      registers = λ runs p lively. e.off.same p (live_off live fresh p none lively);
    } in
    subst (λ (k : Held). Alike live a k) (sym e.equal) same

pub copies_keep : (m : Machine) (live fresh : List (ℕ × ℕ)) (items others : List Item) → are_unread live fresh items ≡ true → AreCopied fresh items others → KeepsMeaning m live items others
copies_keep m live fresh items others unread are =
    let two = and_parts (list_all (λ x. list_all (λ r. not (reads (KeptReg r.0 r.1) x)) fresh) items) (list_all (λ r. not (lives live (KeptReg r.0 r.1))) fresh) unread in
    record {
      meaning = λ u addr back h ok. (copied u m addr back fresh items others h h.written are two.0 ok (record { same = λ p away. refl })).0;
      end = λ u addr back h ok. alike_off live fresh _ _ two.1 (copied u m addr back fresh items others h h.written are two.0 ok (record { same = λ p away. refl })).1;
    }
