-- Single moves, and states that differ only in what passes through.
use Rattle.std.proofs.Common.{◌≡◌, ℕ, Bool, true, false, List, [], ◌∷◌, Option, Some, None, refl, ap, subst, ◌∙◌}
use Rattle.std.specs.Prelude.{if◌then◌else◌, ◌==◌, ◌%◌}
use Rattle.tta_select.specs.Cited.{Units, GuardRef, Dest, UnitOp, Machine, Trigger, Jumps, Calls, Halts, KeptReg, KeptImm, KeptOperand, KeptRa, KeptPort, same_place, kept, width_of, Start, start_of, operand_of, op_at, ItemSource, LongValue, Move, Long, source_of_long, Leaves, Waits, is_waiting, Held, read_held, linked, effect_of, acts, waits_for}
use Rattle.tta_arch.specs.declared.ends.Dest.TheVariants as dest
use Rattle.tta_arch.specs.Effects.{Place}
use Rattle.tta_moves.specs.Meaning.{Next}
use Rattle.tta_moves.proofs.Places.{either, kept_elsewhere}
use Rattle.tta_select.proofs.Goes.{Goes, one, Guarded, brings, rests, rests_does, rests_lacks, brings_does, brings_lacks, starts_does, starts_lacks}
use Rattle.tta_arch.proofs.Places.{same_is}

-- ---- states

-- a word written into a place
abbrev pub wrote : Held → Place → ℕ → Held
wrote h p w = record h { written = (p, w) ∷ h.written }

-- whether a way may change a place: the hub's register 0, an immediate register, and a result port where the way loads
abbrev pub is_free : (hub : ℕ) → (loads : Bool) → Place → Bool
is_free hub loads (KeptReg f i) = same_place (KeptReg hub 0) (KeptReg f i)
is_free hub loads (KeptImm f i) = true
is_free hub loads (KeptOperand unit) = false
is_free hub loads KeptRa = false
is_free hub loads (KeptPort unit) = loads

-- nothing has changed but such places
pub record Calm (hub : ℕ) (loads : Bool) (h k : Held) : Type 0 where
  pub memory : k.memory ≡ h.memory
  pub frame : k.frame ≡ h.frame
  pub rest : k.rest ≡ h.rest
  pub output : k.output ≡ h.output
  pub exit : k.exit ≡ h.exit
  pub same : (p : Place) → is_free hub loads p ≡ false → kept k.written p ≡ kept h.written p

pub calm_same : (hub : ℕ) (loads : Bool) (h : Held) → Calm hub loads h h
calm_same hub loads h = record { memory = refl; frame = refl; rest = refl; output = refl; exit = refl; same = λ p free. refl }

pub calm_then : (hub : ℕ) (loads : Bool) (h k l : Held) → Calm hub loads h k → Calm hub loads k l → Calm hub loads h l
calm_then hub loads h k l a b = record {
  memory = b.memory ∙ a.memory;
  frame = b.frame ∙ a.frame;
  rest = b.rest ∙ a.rest;
  output = b.output ∙ a.output;
  exit = b.exit ∙ a.exit;
  same = λ p free. b.same p free ∙ a.same p free;
}

still_free : (hub : ℕ) (p : Place) → is_free hub true p ≡ false → is_free hub false p ≡ false
still_free hub (KeptReg f i) e = e
still_free hub (KeptImm f i) e = e
still_free hub (KeptOperand unit) e = e
still_free hub KeptRa e = e
still_free hub (KeptPort unit) e = refl

pub calm_loads : (hub : ℕ) (loads : Bool) (h k : Held) → Calm hub loads h k → Calm hub true h k
calm_loads hub true h k a = a
calm_loads hub false h k a = record { memory = a.memory; frame = a.frame; rest = a.rest; output = a.output; exit = a.exit; same = λ p free. a.same p (still_free hub p free) }

pub calm_wrote : (hub : ℕ) (loads : Bool) (h : Held) (p : Place) (w : ℕ) → is_free hub loads p ≡ true → Calm hub loads h (wrote h p w)
calm_wrote hub loads h p w free = record { memory = refl; frame = refl; rest = refl; output = refl; exit = refl; same = λ q at. either (same_place p q) (λ e. let is : p ≡ q = same_is p q e in absurd (other q is at)) (λ e. kept_elsewhere (p, w) h.written q e) } where
  other : (q : Place) → p ≡ q → is_free hub loads q ≡ false → ⊥
  other q is at = let t : is_free hub loads q ≡ true = subst (λ q. is_free hub loads q ≡ true) is free in absurd cc

-- ---- moves

module _ (u : Units) (m : Machine) (addr : List ℕ) (back : ℕ) where
  pub move_idle : (h : Held) (guard : Option GuardRef) (src : ItemSource) (dst : Dest) → Guarded h.written guard false → Goes u m addr back h (Move guard src dst ∷ []) h
  move_idle h guard src dst idle =
      let e = effect_of addr (Move guard src dst) in
      let r = rests h.written e idle in
      one u m addr back (Move guard src dst) h h (rests_lacks u m back h e r) (rests_does u m back h e r)

  -- a move that starts no operation
  pub move_plain : (h : Held) (guard : Option GuardRef) (src : ItemSource) (dst : Dest) (w : ℕ) → h.exit ≡ Next → Guarded h.written guard true
      → read_held h.written (linked addr src) ≡ Some w → start_of m h.written ((effect_of addr (Move guard src dst)).target, w) ≡ None
      → Goes u m addr back h (Move guard src dst ∷ []) (acts u m back h ((effect_of addr (Move guard src dst)).target, w) [])
  move_plain h guard src dst w next active there none =
      let e = effect_of addr (Move guard src dst) in
      let b = brings h.written e w active there in
      one u m addr back (Move guard src dst) h _ (brings_lacks u m back h e w b none) (brings_does u m back h e w (ap is_waiting next) b none)

  pub move_reg : (h : Held) (guard : Option GuardRef) (src : ItemSource) (f i w : ℕ) → h.exit ≡ Next → Guarded h.written guard true
      → read_held h.written (linked addr src) ≡ Some w
      → Goes u m addr back h (Move guard src (dest.Reg f i) ∷ []) (wrote h (KeptReg f i) (if width_of m f == 1 then w % 2 else w))
  move_reg h guard src f i w next active there = move_plain h guard src (dest.Reg f i) w next active there refl

  pub move_wide : (h : Held) (guard : Option GuardRef) (src : ItemSource) (f i w : ℕ) → h.exit ≡ Next → Guarded h.written guard true
      → read_held h.written (linked addr src) ≡ Some w → (width_of m f == 1) ≡ false
      → Goes u m addr back h (Move guard src (dest.Reg f i) ∷ []) (wrote h (KeptReg f i) w)
  move_wide h guard src f i w next active there wide =
      subst (λ (b : Bool). Goes u m addr back h (Move guard src (dest.Reg f i) ∷ []) (wrote h (KeptReg f i) (if b then w % 2 else w))) wide
      (move_reg h guard src f i w next active there)

  pub move_operand : (h : Held) (src : ItemSource) (unit w : ℕ) → h.exit ≡ Next → read_held h.written (linked addr src) ≡ Some w
      → Goes u m addr back h (Move None src (dest.Operand unit) ∷ []) (wrote h (KeptOperand unit) w)
  move_operand h src unit w next there = move_plain h None src (dest.Operand unit) w next refl there refl

  pub move_long : (h : Held) (unit index : ℕ) (v : LongValue) (w : ℕ) → h.exit ≡ Next → read_held h.written (linked addr (source_of_long v)) ≡ Some w
      → Goes u m addr back h (Long unit index v ∷ []) (wrote h (KeptImm unit index) w)
  move_long h unit index v w next there =
      let e = effect_of addr (Long unit index v) in
      let b = brings h.written e w refl there in
      one u m addr back (Long unit index v) h _ (brings_lacks u m back h e w b refl) (brings_does u m back h e w (ap is_waiting next) b refl)

  pub move_jump : (h : Held) (guard : Option GuardRef) (src : ItemSource) (w : ℕ) → h.exit ≡ Next → Guarded h.written guard true
      → read_held h.written (linked addr src) ≡ Some w → Goes u m addr back h (Move guard src dest.Jump ∷ []) (record h { exit = Leaves Jumps w })
  move_jump h guard src w next active there = move_plain h guard src dest.Jump w next active there refl

  pub move_call : (h : Held) (src : ItemSource) (w : ℕ) → h.exit ≡ Next → read_held h.written (linked addr src) ≡ Some w
      → Goes u m addr back h (Move None src dest.Call ∷ []) (record (wrote h KeptRa back) { exit = Leaves Calls w })
  move_call h src w next there = move_plain h None src dest.Call w next refl there refl

  pub move_halt : (h : Held) (src : ItemSource) (w : ℕ) → h.exit ≡ Next → read_held h.written (linked addr src) ≡ Some w
      → Goes u m addr back h (Move None src dest.Halt ∷ []) (record h { exit = Leaves Halts w })
  move_halt h src w next there = move_plain h None src dest.Halt w next refl there refl

  -- an operation that starts
  abbrev pub started : (unit : ℕ) → UnitOp → (a w : ℕ) → Start
  started unit o a w = record { unit = unit; does = o; operand = Some a; word = w }

  pub move_trigger : (h : Held) (src : ItemSource) (unit op : ℕ) (o : UnitOp) (a w : ℕ) → h.exit ≡ Next
      → read_held h.written (linked addr src) ≡ Some w → op_at m unit op ≡ Some o → operand_of h.written unit o ≡ Some a
      → Goes u m addr back h (Move None src (dest.Trigger unit op) ∷ [])
      (if waits_for h (started unit o a w ∷ []) then record h { exit = Waits } else acts u m back h (Trigger unit op, w) (started unit o a w ∷ []))
  move_trigger h src unit op o a w next there is has =
      let e = effect_of addr (Move None src (dest.Trigger unit op)) in
      let b = brings h.written e w refl there in
      let s : start_of m h.written (Trigger unit op, w) ≡ Some (started unit o a w) = rw (is, has) refl in
      one u m addr back (Move None src (dest.Trigger unit op)) h _ (starts_lacks u m back h e w (started unit o a w) b s refl)
      (starts_does u m back h e w (started unit o a w) (ap is_waiting next) b s)
