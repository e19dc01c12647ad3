-- Writes that nothing reads.
use Rattle.std.proofs.Common.{◌≡◌, ℕ, Bool, true, false, List, [], ◌∷◌, ◌++◌, Option, Some, None, refl, sym, ap, subst, ◌∙◌}
use Rattle.std.specs.Prelude.{if◌then◌else◌, ◌%◌, ◌==◌, ◌&&◌, ◌||◌, not, is_none, map}
use Rattle.std.specs.Option.{option_map_or, option_to_list}
use Rattle.std.proofs.lemmas.Bool.{and_from, and_parts, or_left, or_right, not-true}
use Rattle.tta_optim.specs.Cited.{Units, GuardRef, Machine, UnitOp, Target, Reg, Imm, Operand, Trigger, Control, Jumps, Calls, Halts, op_at, has_result, Effect, Place, KeptReg, KeptImm, KeptOperand, KeptRa, KeptPort, same_place, Written, kept, width_of, ItemSource, Port, Address, Item, guard_of, source_of, target_of_item, place_of_source, place_written, is_at, guard_place, reads, writes, is_unguarded, Held, is_waiting, linked, effect_of, read_held, does, lacks, does_all, means, lives, is_wanted, register_of, is_dead, is_lively}
use Rattle.tta_arch.specs.declared.ends.Source.TheVariants as source
use Rattle.tta_moves.proofs.Places.{either, same_self, kept_on_both, kept_there}
use Rattle.tta_moves.proofs.Steps.{SameReads, step_write, write_at_once, does_same, does_written, same_lacks, kept_other}
use Rattle.tta_optim.specs.Passes.{dead_items}
use Rattle.tta_optim.proofs.Copies.{stuck_means, first_means, sure_word, brings}
use Rattle.tta_optim.proofs.Alone.{is_quiet, only_writes}
use Rattle.tta_arch.proofs.Places.{same_is}
use Rattle.tta_moves.proofs.Waiting.{stuck_all}

-- ---- the places that have to agree

-- a place whose writes are never dead
abbrev pub is_other : Place → Bool
is_other (KeptReg file index) = false
is_other (KeptImm unit index) = false
is_other (KeptOperand unit) = true
is_other KeptRa = true
is_other (KeptPort unit) = true

-- each such place, and each whose word is wanted, has the same word
pub record Agree (m : Machine) (live : List (ℕ × ℕ)) (behind : List Item) (vs ws : Written) : Type 0 where
  pub other : (p : Place) → is_other p ≡ true → kept vs p ≡ kept ws p
  pub wanted : (p : Place) → is_wanted m live p behind ≡ true → kept vs p ≡ kept ws p

-- ---- what an item that stays reads

read_agrees : (m : Machine) (live : List (ℕ × ℕ)) (addr : List ℕ) (x : Item) (behind : List Item) (vs ws : Written) → Agree m live (x ∷ behind) vs ws
    → read_held vs (linked addr (source_of x)) ≡ read_held ws (linked addr (source_of x))
read_agrees m live addr x behind vs ws agree = on (source_of x) refl where
  register : (p : Place) → place_of_source (source_of x) ≡ Some p → kept vs p ≡ kept ws p
  register p e =
      let reading : is_at p (place_of_source (source_of x)) ≡ true = rw (e, same_self p) refl in
      let read : reads p x ≡ true = or_left _ _ reading in
      agree.wanted p (or_left _ _ read)

  on : (s : ItemSource) → source_of x ≡ s → read_held vs (linked addr s) ≡ read_held ws (linked addr s)
  on (Address block) e = refl
  on (Port (source.Reg f i)) e = register (KeptReg f i) (ap place_of_source e)
  on (Port (source.Imm f i)) e = register (KeptImm f i) (ap place_of_source e)
  on (Port (source.Shown unit)) e = agree.other (KeptPort unit) refl
  on (Port source.Ra) e = agree.other KeptRa refl
  on (Port (source.Value w)) e = refl

guard_agrees : (m : Machine) (live : List (ℕ × ℕ)) (x : Item) (behind : List Item) (vs ws : Written) → Agree m live (x ∷ behind) vs ws
    → (g : GuardRef) → guard_of x ≡ Some g → kept vs (guard_place g) ≡ kept ws (guard_place g)
guard_agrees m live x behind vs ws agree g e =
    let guarding : option_map_or (λ q. same_place (guard_place q) (guard_place g)) (guard_of x) false ≡ true = rw (e, same_self (guard_place g)) refl in
    let read : reads (guard_place g) x ≡ true = or_right _ _ guarding in
    agree.wanted (guard_place g) (or_left _ _ read)

agree_reads : (m : Machine) (live : List (ℕ × ℕ)) (addr : List ℕ) (x : Item) (behind : List Item) (vs ws : Written) → Agree m live (x ∷ behind) vs ws
    → SameReads (effect_of addr x) vs ws
agree_reads m live addr x behind vs ws agree = record {
  guard = guard_agrees m live x behind vs ws agree;
  source = read_agrees m live addr x behind vs ws agree;
  operand = λ unit. agree.other (KeptOperand unit) refl;
}

-- ---- an item that writes in any case

port_not : (unit : ℕ) (o : Option UnitOp) (p : Place) → is_other p ≡ false
    → is_at p (option_map_or (λ o. if has_result o.op then Some (KeptPort unit) else None) o None) ≡ true → ⊥
port_not unit None p register at = cc
port_not unit (Some o) p register at = on (has_result o.op) p register at where
  on : (b : Bool) (p : Place) → is_other p ≡ false → is_at p (if b then Some (KeptPort unit) else None) ≡ true → ⊥
  on false p register at = cc
  on true (KeptReg f i) register at = cc
  on true (KeptImm f i) register at = cc
  on true (KeptOperand v) register at = cc
  on true KeptRa register at = cc
  on true (KeptPort v) register at = cc

-- a register that an item without a guard writes has a new word
sure_top : (u : Units) (m : Machine) (back : ℕ) (h : Held) (e : Effect) (p : Place) (w : ℕ) → is_waiting h.exit ≡ false → e.guard ≡ None → read_held h.written e.src ≡ Some w
    → is_other p ≡ false → is_at p (place_written m e.target) ≡ true → (r : Place × ℕ) × (step_write u m back h e ≡ Some r) × (same_place r.0 p ≡ true)
sure_top u m back h e p w runs sure is register at =
    let r = on e.target at in
    (r.0, rw (runs, brings h e w sure is) r.1, r.2) where
      on : (t : Target) → is_at p (place_written m t) ≡ true → (r : Place × ℕ) × (write_at_once u m back h (t, w) ≡ Some r) × (same_place r.0 p ≡ true)
      on (Reg f i) at = ((KeptReg f i, if width_of m f == 1 then w % 2 else w), refl, at)
      on (Imm f i) at = ((KeptImm f i, w), refl, at)
      on (Operand unit) at = ((KeptOperand unit, w), refl, at)
      on (Trigger unit op) at = absurd (port_not unit (op_at m unit op) p register at)
      on (Control Jumps) at = absurd cc
      on (Control Calls) at = ((KeptRa, back), refl, at)
      on (Control Halts) at = absurd cc

pub guard_of_sure : (x : Item) → is_unguarded x ≡ true → guard_of x ≡ None
guard_of_sure x e = on (guard_of x) e where
  on : (g : Option GuardRef) → is_none g ≡ true → g ≡ None
  on None e = refl
  on (Some g) e = absurd cc

-- what has to agree after an item that stays
agree_after : (u : Units) (m : Machine) (live : List (ℕ × ℕ)) (addr : List ℕ) (back : ℕ) (x : Item) (behind : List Item) (h : Held) (ws : Written) → is_waiting h.exit ≡ false
    → lacks m h (effect_of addr x) ≡ false → Agree m live (x ∷ behind) ws h.written
    → Agree m live behind (option_to_list (step_write u m back h (effect_of addr x)) ++ ws) (does u m back h (effect_of addr x)).written
agree_after u m live addr back x behind h ws runs fine agree = record {
  other = λ p o. kept_on_both new ws h.written p (agree.other p o) ∙ end p;
  wanted = λ p wanted. either (is_other p)
      (λ o. kept_on_both new ws h.written p (agree.other p o) ∙ end p)
      (λ register. either (writes m p x && is_unguarded x)
      (λ over.
      let two = and_parts (writes m p x) (is_unguarded x) over in
      let sure = guard_of_sure x two.1 in
      let word = sure_word m h (effect_of addr x) sure fine in
      let top = sure_top u m back h (effect_of addr x) p word.0 runs sure word.1 register two.0 in
      on_top top.0 p ws top.1 top.2 ∙ sym (on_top top.0 p h.written top.1 top.2) ∙ end p)
      (λ stays. kept_on_both new ws h.written p (agree.wanted p (or_right (reads p x) _ (and_from (not (writes m p x && is_unguarded x)) _ (rw stays refl) wanted))) ∙ end p));
} where
  new : Option (Place × ℕ)
  new = step_write u m back h (effect_of addr x)

  end : (p : Place) → kept (option_to_list (step_write u m back h (effect_of addr x)) ++ h.written) p ≡ kept (does u m back h (effect_of addr x)).written p
  end p = ap (λ (vs : Written). kept vs p) (sym (does_written u m back h (effect_of addr x)))

  on_top : (r : Place × ℕ) (p : Place) (vs : Written) → step_write u m back h (effect_of addr x) ≡ Some r → same_place r.0 p ≡ true
      → kept (option_to_list (step_write u m back h (effect_of addr x)) ++ vs) p ≡ Some r.1
  on_top r p vs e at = ap (λ (o : Option (Place × ℕ)). kept (option_to_list o ++ vs) p) e ∙ kept_there r vs p at

-- ---- an item that goes

pub quiet_by : (t : Target) (p : Place) → register_of t ≡ Some p → (is_quiet t ≡ true) × (is_other p ≡ false)
quiet_by (Reg f i) p e = let s : KeptReg f i ≡ p = cc in (refl, ap is_other (sym s))
quiet_by (Imm f i) p e = let s : KeptImm f i ≡ p = cc in (refl, ap is_other (sym s))
quiet_by (Operand unit) p e = absurd cc
quiet_by (Trigger unit op) p e = absurd cc
quiet_by (Control kind) p e = absurd cc

pub written_by : (m : Machine) (t : Target) (p : Place) → register_of t ≡ Some p → place_written m t ≡ Some p
written_by m (Reg f i) p e = e
written_by m (Imm f i) p e = e
written_by m (Operand unit) p e = absurd cc
written_by m (Trigger unit op) p e = absurd cc
written_by m (Control kind) p e = absurd cc

-- the register of a dead item
pub dead_is : (m : Machine) (live : List (ℕ × ℕ)) (x : Item) (behind : List Item) → is_dead m live x behind ≡ true
    → (p : Place) × (register_of (target_of_item x) ≡ Some p) × (is_wanted m live p behind ≡ false)
dead_is m live x behind e = on (register_of (target_of_item x)) refl e where
  on : (o : Option Place) → register_of (target_of_item x) ≡ o → option_map_or (λ p. not (is_wanted m live p behind)) o false ≡ true
      → (p : Place) × (register_of (target_of_item x) ≡ Some p) × (is_wanted m live p behind ≡ false)
  on None r e = absurd cc
  on (Some p) r e = (p, r, not-true (is_wanted m live p behind) e)

-- what has to agree after an item that goes
agree_without : (u : Units) (m : Machine) (live : List (ℕ × ℕ)) (addr : List ℕ) (back : ℕ) (x : Item) (behind : List Item) (h : Held) (ws : Written) → is_dead m live x behind ≡ true
    → Agree m live behind ws h.written → Agree m live behind ws (does u m back h (effect_of addr x)).written
agree_without u m live addr back x behind h ws dead agree =
    let d = dead_is m live x behind dead in
    let q = quiet_by (target_of_item x) d.0 d.1 in
    let at = written_by m (target_of_item x) d.0 d.1 in
    let away : (p : Place) → same_place d.0 p ≡ false → kept (does u m back h (effect_of addr x)).written p ≡ kept h.written p =
    λ p no_place. kept_other u m back h (effect_of addr x) p (rw at no_place) in
    record {
      other = λ p o. agree.other p o ∙ sym (away p (either (same_place d.0 p) (λ s. let no_place : false ≡ true = sym q.1 ∙ ap is_other (same_is d.0 p s) ∙ o in absurd cc) (λ s. s)));
      wanted = λ p w. agree.wanted p w
          ∙ sym (away p (either (same_place d.0 p) (λ s. let no_place : false ≡ true = sym d.2 ∙ ap (λ (r : Place). is_wanted m live r behind) (same_is d.0 p s) ∙ w in absurd cc) (λ s. s)));
    }

-- ---- the list

-- after the list, unless it waits, the registers that are read later agree, and all other places
pub record AgreeAtEnd (live : List (ℕ × ℕ)) (a : Held) (vs : Written) : Type 0 where
  pub other : is_waiting a.exit ≡ false → (p : Place) → is_other p ≡ true → kept vs p ≡ kept a.written p
  pub later : is_waiting a.exit ≡ false → (p : Place) → lives live p ≡ true → kept vs p ≡ kept a.written p

-- two ends that are equal but for their writes
pub record Ends' (live : List (ℕ × ℕ)) (a b : Held) : Type 0 where
  pub writes : Written
  pub equal : b ≡ record a { written = writes }
  pub fits : AgreeAtEnd live a writes

abbrev Drops : Units → Machine → List (ℕ × ℕ) → List ℕ → ℕ → List Item → List Item → Held → Written → Type 0
Drops u m live addr back xs ys h ws =
    (means u m back (record h { written = ws }) (map (effect_of addr) ys) ≡ true)
    × Ends' live (does_all u m back h (map (effect_of addr) xs)) (does_all u m back (record h { written = ws }) (map (effect_of addr) ys))

waits_alike : (u : Units) (m : Machine) (live : List (ℕ × ℕ)) (addr : List ℕ) (back : ℕ) (xs ys : List Item) (h : Held) (ws : Written) → is_waiting h.exit ≡ true → Drops u m live addr back xs ys h ws
waits_alike u m live addr back xs ys h ws w =
    let old = stuck_all u m back h (map (effect_of addr) xs) w in
    let new = stuck_all u m back (record h { written = ws }) (map (effect_of addr) ys) w in
    let ends : AgreeAtEnd live h ws = record { other = λ runs p o. absurd cc; later = λ runs p o. absurd cc } in (
      stuck_means u m back (record h { written = ws }) (map (effect_of addr) ys) w,
      record {
        writes = ws;
        equal = new ∙ ap (λ (k : Held). record k { written = ws }) (sym old);
        fits = subst (λ (k : Held). AgreeAtEnd live k ws) (sym old) ends;
      },
    )

goes : (u : Units) (m : Machine) (live : List (ℕ × ℕ)) (addr : List ℕ) (back : ℕ) (x : Item) (xs ys : List Item) (h : Held) (ws : Written) → Agree m live ys ws h.written
    → means u m back h (map (effect_of addr) (x ∷ xs)) ≡ true → is_waiting h.exit ≡ false → is_dead m live x ys ≡ true
    → ((k : Held) (vs : Written) → Agree m live ys vs k.written → means u m back k (map (effect_of addr) xs) ≡ true → Drops u m live addr back xs ys k vs)
    → Drops u m live addr back (x ∷ xs) ys h ws
goes u m live addr back x xs ys h ws agree ok runs dead more =
    let first = first_means u m back h (effect_of addr x) (map (effect_of addr) xs) runs ok in
    let d = dead_is m live x ys dead in
    let k : Held = does u m back h (effect_of addr x) in
    let out = only_writes u m back h (effect_of addr x) (quiet_by (target_of_item x) d.0 d.1).0 in
    let r = more k ws (agree_without u m live addr back x ys h ws dead agree) first.1 in
    let state : record k { written = ws } ≡ record h { written = ws } = ap (λ (q : Held). record q { written = ws }) out in
    subst (λ (q : Held). (means u m back q (map (effect_of addr) ys) ≡ true) × Ends' live (does_all u m back k (map (effect_of addr) xs)) (does_all u m back q (map (effect_of addr) ys))) state r

stays : (u : Units) (m : Machine) (live : List (ℕ × ℕ)) (addr : List ℕ) (back : ℕ) (x : Item) (xs ys : List Item) (h : Held) (ws : Written) → Agree m live (x ∷ ys) ws h.written
    → means u m back h (map (effect_of addr) (x ∷ xs)) ≡ true → is_waiting h.exit ≡ false
    → ((k : Held) (vs : Written) → Agree m live ys vs k.written → means u m back k (map (effect_of addr) xs) ≡ true → Drops u m live addr back xs ys k vs)
    → Drops u m live addr back (x ∷ xs) (x ∷ ys) h ws
stays u m live addr back x xs ys h ws agree ok runs more =
    let e : Effect = effect_of addr x in
    let first = first_means u m back h e (map (effect_of addr) xs) runs ok in
    let reading = agree_reads m live addr x ys ws h.written agree in
    let vs : Written = option_to_list (step_write u m back h e) ++ ws in
    let step : does u m back (record h { written = ws }) e ≡ record (does u m back h e) { written = vs } = does_same u m back h e ws reading in
    let r = more (does u m back h e) vs (agree_after u m live addr back x ys h ws runs first.0 agree) first.1 in
    let fine : lacks m (record h { written = ws }) e ≡ false = same_lacks m h e ws reading ∙ first.0 in (
      and_from (is_waiting h.exit || not (lacks m (record h { written = ws }) e)) (means u m back (does u m back (record h { written = ws }) e) (map (effect_of addr) ys))
          (rw (runs, fine) refl) (subst (λ (q : Held). means u m back q (map (effect_of addr) ys) ≡ true) (sym step) r.0),
      record { writes = r.1.writes; equal = ap (λ (q : Held). does_all u m back q (map (effect_of addr) ys)) step ∙ r.1.equal; fits = r.1.fits },
    )

pub dead_keeps : (u : Units) (m : Machine) (live : List (ℕ × ℕ)) (addr : List ℕ) (back : ℕ) (xs : List Item) (h : Held) (ws : Written) → Agree m live (dead_items m live xs) ws h.written
    → means u m back h (map (effect_of addr) xs) ≡ true → Drops u m live addr back xs (dead_items m live xs) h ws
dead_keeps u m live addr back [] h ws agree ok =
    (refl, record { writes = ws; equal = refl; fits = record { other = λ runs p o. agree.other p o; later = λ runs p o. agree.wanted p o } })
dead_keeps u m live addr back (x ∷ xs) h ws agree ok =
    either (is_waiting h.exit)
    (λ w. waits_alike u m live addr back (x ∷ xs) (dead_items m live (x ∷ xs)) h ws w)
    (λ runs. either (is_dead m live x (dead_items m live xs))
    (λ dead. rw dead (goes u m live addr back x xs (dead_items m live xs) h ws (rw dead at agree) ok runs dead
    (λ k vs a o. dead_keeps u m live addr back xs k vs a o)))
    (λ alive. rw alive (stays u m live addr back x xs (dead_items m live xs) h ws (rw alive at agree) ok runs
    (λ k vs a o. dead_keeps u m live addr back xs k vs a o))))

-- ---- its form

pub dead_form : (m : Machine) (live : List (ℕ × ℕ)) (xs : List Item) → is_lively m live (dead_items m live xs) ≡ true
dead_form m live [] = refl
dead_form m live (x ∷ xs) =
    either (is_dead m live x (dead_items m live xs))
    (λ dead. rw dead (dead_form m live xs))
    (λ alive. rw (alive, alive) (dead_form m live xs))
