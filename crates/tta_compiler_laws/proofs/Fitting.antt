-- Closed register code that asks for nothing but what is offered fits a machine.
use Rattle.std.proofs.Common.{◌≡◌, ℕ, true, List, [], ◌∷◌, refl, sym, ◌∙◌, length}
use Rattle.std.specs.Prelude.{◌&&◌, ◌^◌, nat_lt, nat_le}
use Rattle.std.specs.List.{list_all}
use Rattle.std.proofs.lemmas.Bool.{and_parts}
use Rattle.tta_compiler_laws.specs.Cited.{Units, Machine, Choice, Place, Frame, RSrc, At, RStep, SaveRa, Exit, Next, Back, RBlock, block_passes, src_passes, step_passes, exit_passes, is_place, leads_within, is_closed_block, is_place_of, is_src_of, op_of_step, op_of_exit, is_step_of, is_exit_of, is_offered, fits_step, fits_block}
use Rattle.tta_lir.specs.declared.code.Place.TheVariants.{Reg}
use Rattle.tta_lir.specs.declared.code.RSrc.TheVariants.{Word}
use Rattle.tta_lir.specs.declared.code.RStep.TheVariants.{Copy, Apply, Load, Take, Store, Put, When}
use Rattle.tta_lir.specs.declared.code.Exit.TheVariants.{Goto, If, Invoke, Halt}

module _ (m : Machine) (c : Choice) where
  same_place : (p : Place) → is_place (length c.homes) m.frame_words p ≡ is_place_of m c p
  same_place (Reg k) = refl
  same_place (Frame f) = refl

  same_src : (s : RSrc) → src_passes (is_place (length c.homes) m.frame_words) s ≡ is_src_of m c s
  same_src (At p) = same_place p
  same_src (Word w) = refl

  same_step : (r : RStep) → step_passes (is_place (length c.homes) m.frame_words) (λ s. nat_lt s m.frame_words) r ≡ is_step_of m c r
  same_step (Copy d s) = rw (same_place d, same_src s) refl
  same_step (Apply d op a b) = rw (same_place d, same_src a, same_src b) refl
  same_step (Load d a) = rw (same_place d, same_src a) refl
  same_step (Take d) = same_place d
  same_step (Store a v) = rw (same_src a, same_src v) refl
  same_step (Put v) = same_src v
  same_step (When rel a b d s) = rw (same_src a, same_src b, same_place d, same_src s) refl
  same_step (SaveRa slot) = refl

  exit_is : (blocks : ℕ) (e : Exit) → exit_passes (is_place (length c.homes) m.frame_words) (λ s. nat_lt s m.frame_words) e ≡ true
      → leads_within blocks e ≡ true → is_exit_of m c blocks e ≡ true
  exit_is blocks Next a b = refl
  exit_is blocks (Goto to) a b = b
  exit_is blocks (If rel x y to) a b =
      let parts = and_parts (src_passes (is_place (length c.homes) m.frame_words) x) (src_passes (is_place (length c.homes) m.frame_words) y) a in
      rw (sym (same_src x) ∙ parts.0, sym (same_src y) ∙ parts.1, b) refl
  exit_is blocks (Invoke to) a b = b
  exit_is blocks (Back slot) a b = a
  exit_is blocks Halt a b = refl

  module _ (u : Units) where
    steps_fit : (rs : List RStep) → list_all (step_passes (is_place (length c.homes) m.frame_words) (λ s. nat_lt s m.frame_words)) rs ≡ true
        → list_all (λ r. is_offered m c (op_of_step u r)) rs ≡ true → list_all (fits_step u m c) rs ≡ true
    steps_fit [] a b = refl
    steps_fit (r ∷ rs) a b =
        let places = and_parts (step_passes (is_place (length c.homes) m.frame_words) (λ s. nat_lt s m.frame_words) r)
        (list_all (step_passes (is_place (length c.homes) m.frame_words) (λ s. nat_lt s m.frame_words)) rs) a in
        let needs = and_parts (is_offered m c (op_of_step u r)) (list_all (λ r. is_offered m c (op_of_step u r)) rs) b in
        rw (sym (same_step r) ∙ places.0, needs.0, steps_fit rs places.1 needs.1) refl

    -- a closed block fits, where its needs are offered
    pub block_fits : (blocks : ℕ) (b : RBlock) → is_closed_block (length c.homes) m.frame_words blocks b ≡ true
        → list_all (λ r. is_offered m c (op_of_step u r)) b.steps ≡ true → is_offered m c (op_of_exit u b.exit) ≡ true → fits_block u m c blocks b ≡ true
    block_fits blocks b closed steps exit =
        let halves = and_parts _ _ closed in
        let passes = and_parts _ _ halves.0 in
        let more = and_parts _ _ (and_parts _ _ halves.1).1 in
        rw (steps_fit b.steps passes.0 steps, exit_is blocks b.exit passes.1 more.0, exit) refl

  -- a closed block has few steps
  pub block_short : (blocks : ℕ) (b : RBlock) → is_closed_block (length c.homes) m.frame_words blocks b ≡ true → nat_le (length b.steps) 262144 ≡ true
  block_short blocks b closed =
      let one = and_parts (block_passes (is_place (length c.homes) m.frame_words) (λ s. nat_lt s m.frame_words) b)
      (list_all (λ k. nat_lt k (length c.homes)) b.live_out && (leads_within blocks b.exit && nat_le (length b.steps) (2 ^ 18))) closed in
      let two = and_parts (list_all (λ k. nat_lt k (length c.homes)) b.live_out) (leads_within blocks b.exit && nat_le (length b.steps) (2 ^ 18)) one.1 in
      (and_parts (leads_within blocks b.exit) (nat_le (length b.steps) (2 ^ 18)) two.1).1
