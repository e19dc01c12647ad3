-- The instruction of a word, read field by field.
use Rattle.std.proofs.Common.{◌≡◌, ℕ, Bool, List, length, drop, Option, Some, None, Result, Ok, Err, sym, ap, ◌∙◌}
use Rattle.tta_image.specs.Cited.{or_refuse, Layout, Machine, Move, Long, Instruction}
use Rattle.tta_parse.specs.Steps.{◌>>=◌}
use Rattle.tta_image.specs.declared.refusal.ImageError.{ImageError}
use Rattle.tta_image.specs.declared.refusal.ImageError.TheVariants.{Refused, NoMemory}
use Rattle.tta_image.specs.declared.refusal.ImageRefusal.TheVariants.{Field}
use Rattle.tta_image.specs.Decoding.{field, taken_by, decoded_template, decoded_long, decoded_slots, decoded_instruction}
use Rattle.tta_image.specs.Refusals.{of_word, Answers}
use Rattle.tta_image.proofs.Walks.{answers_same}

module _ (m : Machine) (l : Layout) (word : ℕ) (bits : List Bool) where
  -- what the answer is where the template's field decodes to this
  abbrev with_template : Option (Option ℕ) → Result Instruction ImageError
  with_template o =
      or_refuse (of_word word Field (length m.buses)) o >>= λ template.
      decoded_long m word l.buses template (drop l.template_width bits) >>= λ long.
      decoded_slots m word (taken_by m template) 0 l.buses (drop l.template_width bits) >>= λ moves.
      Ok (record { moves = moves; long = long })

  whole : (o : Option (Option ℕ)) → o ≡ decoded_template m (field 0 l.template_width bits) → decoded_instruction m l word bits ≡ with_template o
  unfolding decoded_instruction
  whole o is = ap with_template (sym is)

  pub template_refused : None ≡ decoded_template m (field 0 l.template_width bits) → Answers {A = Instruction} (Err (of_word word Field (length m.buses))) (decoded_instruction m l word bits)
  template_refused none = answers_same _ _ (sym (whole None none))

  module _ (template : Option ℕ) (after : List Bool) (is : Some template ≡ decoded_template m (field 0 l.template_width bits)) (rest : drop l.template_width bits ≡ after) where
    -- what the answer is where the long immediate decodes to this
    abbrev with_long : Result (Option Long) ImageError → Result Instruction ImageError
    with_long r = r >>= λ long. decoded_slots m word (taken_by m template) 0 l.buses after >>= λ moves. Ok (record { moves = moves; long = long })

    long_next : (r : Result (Option Long) ImageError) → r ≡ decoded_long m word l.buses template after → decoded_instruction m l word bits ≡ with_long r
    long_next r said =
        whole (Some template) is
        ∙ ap (λ (b : List Bool). decoded_long m word l.buses template b >>= λ long. decoded_slots m word (taken_by m template) 0 l.buses b >>= λ moves. Ok (record { moves = moves; long = long })) rest
        ∙ ap with_long (sym said)

    pub long_refused : (e : ImageError) → Err e ≡ decoded_long m word l.buses template after → Answers {A = Instruction} (Err e) (decoded_instruction m l word bits)
    long_refused e said = answers_same _ _ (sym (long_next (Err e) said))

    pub slots_answer : (long : Option Long) (taken : ℕ) (r : Result (List (Option Move)) ImageError) → Ok long ≡ decoded_long m word l.buses template after → taken ≡ taken_by m template
        → Answers r (decoded_slots m word taken 0 l.buses after) → Answers (r >>= λ moves. Ok (record { moves = moves; long = long })) (decoded_instruction m l word bits)
    slots_answer long taken r said takes answers = by r answers where
      all : (x : Result (List (Option Move)) ImageError) → decoded_slots m word taken 0 l.buses after ≡ x → decoded_instruction m l word bits ≡ (x >>= λ moves. Ok (record { moves = moves; long = long }))
      all x same =
          long_next (Ok long) said
          ∙ ap (λ (n : ℕ). decoded_slots m word n 0 l.buses after >>= λ moves. Ok (record { moves = moves; long = long })) (sym takes)
          ∙ ap (λ (y : Result (List (Option Move)) ImageError). y >>= λ moves. Ok (record { moves = moves; long = long })) same

      by : (x : Result (List (Option Move)) ImageError) → Answers x (decoded_slots m word taken 0 l.buses after)
          → Answers (x >>= λ moves. Ok (record { moves = moves; long = long })) (decoded_instruction m l word bits)
      by (Ok moves) same = all (Ok moves) same
      by (Err NoMemory) same = tt
      by (Err (Refused code w bus)) same = all (Err (Refused code w bus)) same
