-- Effects that only write, and states that differ in the order of their writes alone.
use Rattle.std.proofs.Common.{◌≡◌, ℕ, Bool, true, false, List, [], ◌∷◌, ◌++◌, Option, Some, None, refl, sym, ap, ◌∙◌}
use Rattle.std.specs.Prelude.{if◌then◌else◌, ◌&&◌, ◌||◌, not, option_and_then}
use Rattle.std.specs.Option.{option_map_or, option_to_list}
use Rattle.tta_optim.specs.Cited.{Units, Source, Machine, Target, Reg, Imm, Operand, Trigger, Control, Effect, Place, KeptReg, KeptImm, KeptOperand, KeptRa, KeptPort, Written, kept, Brought, bring, moved, guard_place, Held, is_waiting, read_held, arrives, does, lacks, does_all, means}
use Rattle.tta_arch.specs.declared.ends.Source.TheVariants as source
use Rattle.tta_moves.proofs.Places.{kept_on_both}
use Rattle.tta_moves.proofs.Steps.{SameReads, step_write, write_at_once, does_same, does_written, same_lacks}

-- ---- effects that only write

-- whether a target is a register, an immediate register or an operand port
abbrev pub is_quiet : Target → Bool
is_quiet (Reg file index) = true
is_quiet (Imm unit index) = true
is_quiet (Operand unit) = true
is_quiet (Trigger unit op) = false
is_quiet (Control kind) = false

pub only_writes : (u : Units) (m : Machine) (back : ℕ) (h : Held) (e : Effect) → is_quiet e.target ≡ true
    → does u m back h e ≡ record h { written = option_to_list (step_write u m back h e) ++ h.written }
unfolding does
only_writes u m back h e quiet = on (is_waiting h.exit) where
  one : (t : Target) (w : ℕ) → is_quiet t ≡ true → arrives u m back h (Some (t, w)) ≡ record h { written = option_to_list (write_at_once u m back h (t, w)) ++ h.written }
  one (Reg f i) w q = refl
  one (Imm f i) w q = refl
  one (Operand unit) w q = refl
  one (Trigger unit op) w q = absurd cc
  one (Control kind) w q = absurd cc

  by : (o : Option ℕ) → let b : Option Brought = option_map_or (λ word. Some (e.target, word)) o None in
      arrives u m back h b ≡ record h { written = option_to_list (option_and_then (write_at_once u m back h) b) ++ h.written }
  by None = refl
  by (Some w) = one e.target w quiet

  on : (c : Bool) → (if c then h else arrives u m back h (bring (read_held h.written) e))
      ≡ record h { written = option_to_list (if c then None else option_and_then (write_at_once u m back h) (bring (read_held h.written) e)) ++ h.written }
  on true = refl
  on false = by (moved (read_held h.written) e)

-- ---- states with the same words

-- each place has the same word
pub record Same (vs ws : Written) : Type 0 where
  pub all : (p : Place) → kept vs p ≡ kept ws p

pub same_refl : (ws : Written) → Same ws ws
same_refl ws = record { all = λ p. refl }

pub same_read : (vs ws : Written) (src : Source) → Same vs ws → read_held vs src ≡ read_held ws src
same_read vs ws (source.Reg f i) same = same.all (KeptReg f i)
same_read vs ws (source.Imm f i) same = same.all (KeptImm f i)
same_read vs ws (source.Shown unit) same = same.all (KeptPort unit)
same_read vs ws source.Ra same = same.all KeptRa
same_read vs ws (source.Value w) same = refl

pub same_reads : (e : Effect) (vs ws : Written) → Same vs ws → SameReads e vs ws
same_reads e vs ws same = record { guard = λ g is. same.all (guard_place g); source = same_read vs ws e.src same; operand = λ unit. same.all (KeptOperand unit) }

-- after an effect they still are
pub same_after : (u : Units) (m : Machine) (back : ℕ) (h : Held) (e : Effect) (ws : Written) → Same ws h.written
    → Same (option_to_list (step_write u m back h e) ++ ws) (does u m back h e).written
same_after u m back h e ws same = record {
  all = λ p. kept_on_both (step_write u m back h e) ws h.written p (same.all p) ∙ ap (λ (vs : Written). kept vs p) (sym (does_written u m back h e));
}

-- two ends that are equal but for their writes, of which these are alike
pub record Ends (Fits : Written → Written → Type 0) (a b : Held) : Type 0 where
  pub writes : Written
  pub equal : b ≡ record a { written = writes }
  pub fits : Fits writes a.written

-- a list from a state with the same words
pub same_list : (u : Units) (m : Machine) (back : ℕ) (es : List Effect) (h : Held) (ws : Written) → Same ws h.written
    → (means u m back (record h { written = ws }) es ≡ means u m back h es) × Ends Same (does_all u m back h es) (does_all u m back (record h { written = ws }) es)
same_list u m back [] h ws same = (refl, record { writes = ws; equal = refl; fits = same })
same_list u m back (e ∷ es) h ws same =
    let reads = same_reads e ws h.written same in
    let vs : Written = option_to_list (step_write u m back h e) ++ ws in
    let step : does u m back (record h { written = ws }) e ≡ record (does u m back h e) { written = vs } = does_same u m back h e ws reads in
    let more = same_list u m back es (does u m back h e) vs (same_after u m back h e ws same) in (
      ap (λ (k : Held). (is_waiting h.exit || not (lacks m (record h { written = ws }) e)) && means u m back k es) step
          ∙ ap (λ (b : Bool). (is_waiting h.exit || not b) && means u m back (record (does u m back h e) { written = vs }) es) (same_lacks m h e ws reads)
          ∙ ap (λ (b : Bool). (is_waiting h.exit || not (lacks m h e)) && b) more.0,
      record { writes = more.1.writes; equal = ap (λ (k : Held). does_all u m back k es) step ∙ more.1.equal; fits = more.1.fits },
    )
