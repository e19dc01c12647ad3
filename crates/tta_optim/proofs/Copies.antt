-- What the places have that still have the word of a source.
use Rattle.std.proofs.Common.{◌≡◌, ℕ, Bool, true, false, List, [], ◌∷◌, ◌++◌, Option, Some, None, refl, sym, ap, subst, ◌∙◌}
use Rattle.std.specs.Prelude.{if◌then◌else◌, ◌==◌, ◌||◌, ◌%◌, not, is_none}
use Rattle.std.specs.Option.{option_map_or, option_to_list}
use Rattle.std.proofs.lemmas.Bool.{or_parts, and_parts, not-true}
use Rattle.tta_optim.specs.Cited.{Units, GuardRef, Source, Machine, Target, Reg, Imm, Operand, Trigger, Control, Jumps, Calls, Halts, Effect, Place, KeptReg, KeptImm, KeptOperand, KeptRa, KeptPort, same_place, Written, kept, width_of, is_active, bring, has_unset, has_unset_guard, op_at, has_result, UnitOp, ItemSource, Port, Address, Item, guard_of, source_of, target_of_item, place_of, place_of_source, place_written, is_at, writes, Held, is_waiting, linked, effect_of, read_held, does, lacks, means, sure_source, unless_written, copied}
use Rattle.tta_arch.specs.declared.ends.Source.TheVariants as source
use Rattle.tta_moves.proofs.Places.{same_self}
use Rattle.tta_moves.proofs.Steps.{write_at_once, step_write, does_written, kept_other}
use Rattle.tta_arch.proofs.Places.{same_is}
use Rattle.tta_list.proofs.Tests.{offered as some_word}

-- a place that keeps a whole word as it was moved: a register that is not of one bit, or an operand port
abbrev pub is_whole : Machine → Place → Bool
is_whole m (KeptReg file index) = not (width_of m file == 1)
is_whole m (KeptImm unit index) = false
is_whole m (KeptOperand unit) = true
is_whole m KeptRa = false
is_whole m (KeptPort unit) = false

-- each place that still has the word of a source, after these items, has what the source has now
pub record Copies (m : Machine) (addr : List ℕ) (before : List Item) (ws : Written) : Type 0 where
  pub same : (p : Place) (s : ItemSource) → is_whole m p ≡ true → copied m p before ≡ Some s → kept ws p ≡ read_held ws (linked addr s)

pub none_yet : (m : Machine) (addr : List ℕ) (ws : Written) → Copies m addr [] ws
none_yet m addr ws = record { same = λ p s whole e. cc }

-- ---- what a source has after an effect

pub read_other : (u : Units) (m : Machine) (back : ℕ) (h : Held) (e : Effect) (src : Source)
    → option_map_or (λ q. is_at q (place_written m e.target)) (place_of src) false ≡ false → read_held (does u m back h e).written src ≡ read_held h.written src
read_other u m back h e (source.Reg f i) away = kept_other u m back h e (KeptReg f i) away
read_other u m back h e (source.Imm f i) away = kept_other u m back h e (KeptImm f i) away
read_other u m back h e (source.Shown unit) away = kept_other u m back h e (KeptPort unit) away
read_other u m back h e source.Ra away = kept_other u m back h e KeptRa away
read_other u m back h e (source.Value w) away = refl

read_under : (p q : Place) (v : ℕ) (ws : Written) → kept ws q ≡ Some v → kept ((p, v) ∷ ws) q ≡ Some v
read_under p q v ws e = on (same_place p q) where
  on : (b : Bool) → (if b then Some v else kept ws q) ≡ Some v
  on true = refl
  on false = e

-- a source has its word still where the same word is written on top
pub read_top : (p : Place) (v : ℕ) (ws : Written) (src : Source) → read_held ws src ≡ Some v → read_held ((p, v) ∷ ws) src ≡ Some v
read_top p v ws (source.Reg f i) e = read_under p (KeptReg f i) v ws e
read_top p v ws (source.Imm f i) e = read_under p (KeptImm f i) v ws e
read_top p v ws (source.Shown unit) e = read_under p (KeptPort unit) v ws e
read_top p v ws source.Ra e = read_under p KeptRa v ws e
read_top p v ws (source.Value w) e = e

-- ---- an effect without a guard that writes a whole place

-- it takes a word, since it lacks none

pub sure_word : (m : Machine) (h : Held) (e : Effect) → e.guard ≡ None → lacks m h e ≡ false → (w : ℕ) × (read_held h.written e.src ≡ Some w)
unfolding lacks
sure_word m h e sure none =
    let two = (or_parts (has_unset_guard (read_held h.written) e || has_unset (read_held h.written) (λ s. true) e) _ none).0 in
    let unset : has_unset (read_held h.written) (λ s. true) e ≡ false = (or_parts (has_unset_guard (read_held h.written) e) (has_unset (read_held h.written) (λ s. true) e) two).1 in
    let active : is_active (read_held h.written) e ≡ true = rw sure refl in
    some_word (read_held h.written e.src) (rw active at unset)

pub brings : (h : Held) (e : Effect) (w : ℕ) → e.guard ≡ None → read_held h.written e.src ≡ Some w → bring (read_held h.written) e ≡ Some (e.target, w)
brings h e w sure is = rw (sure, is) refl

whole_word : (width w : ℕ) → not (width == 1) ≡ true → (if width == 1 then w % 2 else w) ≡ w
whole_word width w e = on (width == 1) e where
  on : (b : Bool) → not b ≡ true → (if b then w % 2 else w) ≡ w
  on true e = absurd cc
  on false e = refl

port_not : (m : Machine) (unit : ℕ) (o : Option UnitOp) (p : Place) → is_whole m p ≡ true
    → is_at p (option_map_or (λ o. if has_result o.op then Some (KeptPort unit) else None) o None) ≡ true → ⊥
port_not m unit None p whole at = cc
port_not m unit (Some o) p whole at = on (has_result o.op) p whole at where
  on : (b : Bool) (p : Place) → is_whole m p ≡ true → is_at p (if b then Some (KeptPort unit) else None) ≡ true → ⊥
  on false p whole at = cc
  on true (KeptReg f i) whole at = cc
  on true (KeptImm f i) whole at = cc
  on true (KeptOperand v) whole at = cc
  on true KeptRa whole at = cc
  on true (KeptPort v) whole at = cc

pub sure_write : (u : Units) (m : Machine) (back : ℕ) (h : Held) (e : Effect) (p : Place) (w : ℕ) → is_waiting h.exit ≡ false → e.guard ≡ None
    → read_held h.written e.src ≡ Some w → is_whole m p ≡ true → is_at p (place_written m e.target) ≡ true → step_write u m back h e ≡ Some (p, w)
sure_write u m back h e p w runs sure is whole at = rw (runs, brings h e w sure is) (on e.target at) where
  on : (t : Target) → is_at p (place_written m t) ≡ true → write_at_once u m back h (t, w) ≡ Some (p, w)
  on (Reg f i) at =
      let s = same_is (KeptReg f i) p at in
      let wide : not (width_of m f == 1) ≡ true = subst (λ q. is_whole m q ≡ true) (sym s) whole in
      rw (whole_word (width_of m f) w wide) (ap (λ (q : Place). Some (q, w)) s)
  on (Imm f i) at =
      let s = same_is (KeptImm f i) p at in
      let no_place : false ≡ true = subst (λ q. is_whole m q ≡ true) (sym s) whole in absurd cc
  on (Operand unit) at = let s = same_is (KeptOperand unit) p at in ap (λ (q : Place). Some (q, w)) s
  on (Trigger unit op) at = absurd (port_not m unit (op_at m unit op) p whole at)
  on (Control Jumps) at = absurd cc
  on (Control Calls) at =
      let s = same_is KeptRa p at in
      let no_place : false ≡ true = subst (λ q. is_whole m q ≡ true) (sym s) whole in absurd cc
  on (Control Halts) at = absurd cc

-- ---- one item more

pub guard_none : (x : Item) (s : ItemSource) → sure_source x ≡ Some s → (guard_of x ≡ None) × (source_of x ≡ s)
guard_none x s e = on (guard_of x) refl e where
  on : (g : Option GuardRef) → guard_of x ≡ g → (if is_none g then Some (source_of x) else None) ≡ Some s → (guard_of x ≡ None) × (source_of x ≡ s)
  on None r e = (r, cc)
  on (Some g) r e = absurd cc

pub was_copied : (m : Machine) (x : Item) (o : Option ItemSource) (s : ItemSource) → unless_written m x o ≡ Some s
    → (o ≡ Some s) × (option_map_or (λ q. writes m q x) (place_of_source s) false ≡ false)
was_copied m x None s e = absurd cc
was_copied m x (Some r) s e = on (option_map_or (λ q. writes m q x) (place_of_source r) false) refl e where
  on : (b : Bool) → option_map_or (λ q. writes m q x) (place_of_source r) false ≡ b → (if b then None else Some r) ≡ Some s
      → (◌≡◌ {A = Option ItemSource} (Some r) (Some s)) × (option_map_or (λ q. writes m q x) (place_of_source s) false ≡ false)
  on true f e = absurd cc
  on false f e = let same : r ≡ s = cc in (e, subst (λ t. option_map_or (λ q. writes m q x) (place_of_source t) false ≡ false) same f)

-- a source of an item is written where its linked source is
linked_away : (m : Machine) (addr : List ℕ) (x : Item) (s : ItemSource) → option_map_or (λ q. writes m q x) (place_of_source s) false ≡ false
    → option_map_or (λ q. is_at q (place_written m (target_of_item x))) (place_of (linked addr s)) false ≡ false
linked_away m addr x (Port src) e = e
linked_away m addr x (Address block) e = refl

pub one_more : (u : Units) (m : Machine) (addr : List ℕ) (back : ℕ) (before : List Item) (x : Item) (h : Held) → is_waiting h.exit ≡ false → lacks m h (effect_of addr x) ≡ false
    → Copies m addr before h.written → Copies m addr (x ∷ before) (does u m back h (effect_of addr x)).written
one_more u m addr back before x h runs fine copies = record { same = λ p s whole e. on p s whole (writes m p x) refl e } where
  on : (p : Place) (s : ItemSource) → is_whole m p ≡ true → (b : Bool) → writes m p x ≡ b → (if b then sure_source x else unless_written m x (copied m p before)) ≡ Some s
      → kept (does u m back h (effect_of addr x)).written p ≡ read_held (does u m back h (effect_of addr x)).written (linked addr s)
  on p s whole true at e =
      let sure = guard_none x s e in
      let src : linked addr (source_of x) ≡ linked addr s = ap (linked addr) sure.1 in
      let word = sure_word m h (effect_of addr x) sure.0 fine in
      let is : read_held h.written (linked addr s) ≡ Some word.0 = ap (read_held h.written) (sym src) ∙ word.1 in
      let wrote = sure_write u m back h (effect_of addr x) p word.0 runs sure.0 word.1 whole at in
      let now : (does u m back h (effect_of addr x)).written ≡ (p, word.0) ∷ h.written =
      does_written u m back h (effect_of addr x) ∙ ap (λ (o : Option (Place × ℕ)). option_to_list o ++ h.written) wrote in
      rw now (rw (same_self p) (sym (read_top p word.0 h.written (linked addr s) is)))
  on p s whole false away e =
      let was = was_copied m x (copied m p before) s e in
      kept_other u m back h (effect_of addr x) p away
      ∙ copies.same p s whole was.0
      ∙ sym (read_other u m back h (effect_of addr x) (linked addr s) (linked_away m addr x s was.1))

-- ---- a list that waits

pub stuck_means : (u : Units) (m : Machine) (back : ℕ) (h : Held) (es : List Effect) → is_waiting h.exit ≡ true → means u m back h es ≡ true
unfolding does
stuck_means u m back h [] waits = refl
stuck_means u m back h (e ∷ es) waits = rw waits (stuck_means u m back h es waits)

-- a list with a meaning that does not wait: its first effect lacks nothing, and the others have a meaning after it
pub first_means : (u : Units) (m : Machine) (back : ℕ) (h : Held) (e : Effect) (es : List Effect) → is_waiting h.exit ≡ false → means u m back h (e ∷ es) ≡ true
    → (lacks m h e ≡ false) × (means u m back (does u m back h e) es ≡ true)
first_means u m back h e es runs ok =
    let two = and_parts (is_waiting h.exit || not (lacks m h e)) (means u m back (does u m back h e) es) ok in
    let has : not (lacks m h e) ≡ true = rw runs at two.0 in
    (not-true (lacks m h e) has, two.1)
