use Rattle.std.proofs.Common.{ℕ, true, false, List, Ok, Err, refl, sym, ap, ◌∙◌}
use Rattle.std.specs.Int.{w32, to_be_bytes}
use Rattle.tta_image.specs.declared.refusal.ImageError.{ImageError}
use Rattle.tta_image.specs.Reading.{stands_at, has_length}
use Rattle.tta_image.proofs.HeaderDecoded.{header_checked}
use Rattle.tta_image.proofs.header.read_header.Goals as goal

pub returns-then-not-stands_at : goal.returns-then-not-stands_at
returns-then-not-stands_at c =
    ap (λ (e : ImageError). Err e) c.of_all.ensures
    ∙ header_checked c.args.m.now c.args.digest.now c.args.bytes.now false _ _ _ _ (sym c.if-not-stands_at.true ∙ c.stands_at.ensures.value) refl refl refl refl

pub returns-then-not-is_version : goal.returns-then-not-is_version
returns-then-not-is_version c =
    let bytes = c.args.bytes.now in
    ap (λ (e : ImageError). Err e) c.of_all-then-not-is_version.ensures
    ∙ header_checked c.args.m.now c.args.digest.now bytes true false _ _ _ (sym c.if-not-stands_at.false ∙ c.stands_at.ensures.value)
    (sym c.if-not-is_version.true ∙ c.is_version.ensures) refl refl refl

pub returns-then-not-stands_at-2 : goal.returns-then-not-stands_at-2
returns-then-not-stands_at-2 c =
    let bytes = c.args.bytes.now in
    ap (λ (e : ImageError). Err e) c.of_all-then-not-stands_at-2.ensures
    ∙ header_checked c.args.m.now c.args.digest.now bytes true true false _ _ (sym c.if-not-stands_at.false ∙ c.stands_at.ensures.value)
    (sym c.if-not-is_version.false ∙ c.is_version.ensures)
    (sym c.if-not-stands_at-2.true ∙ c.stands_at-2.ensures.value) refl refl

pub returns-then-not-stands_at-3 : goal.returns-then-not-stands_at-3
returns-then-not-stands_at-3 c =
    let bytes = c.args.bytes.now in
    ap (λ (e : ImageError). Err e) c.of_all-then-not-stands_at-3.ensures
    ∙ header_checked c.args.m.now c.args.digest.now bytes true true true false _ (sym c.if-not-stands_at.false ∙ c.stands_at.ensures.value)
    (sym c.if-not-is_version.false ∙ c.is_version.ensures)
    (sym c.if-not-stands_at-2.false ∙ c.stands_at-2.ensures.value)
    (sym c.if-not-stands_at-3.true ∙ c.stands_at-3.ensures.value ∙ ap (λ (p : List ℕ). stands_at 8 p bytes) (c.to_be_bytes.ensures ∙ ap (to_be_bytes w32) c.requires)) refl

pub returns-then-not-has_length : goal.returns-then-not-has_length
returns-then-not-has_length c =
    let bytes = c.args.bytes.now in
    ap (λ (e : ImageError). Err e) c.of_all-then-not-has_length.ensures
    ∙ header_checked c.args.m.now c.args.digest.now bytes true true true true false (sym c.if-not-stands_at.false ∙ c.stands_at.ensures.value)
    (sym c.if-not-is_version.false ∙ c.is_version.ensures)
    (sym c.if-not-stands_at-2.false ∙ c.stands_at-2.ensures.value)
    (sym c.if-not-stands_at-3.false ∙ c.stands_at-3.ensures.value ∙ ap (λ (p : List ℕ). stands_at 8 p bytes) (c.to_be_bytes.ensures ∙ ap (to_be_bytes w32) c.requires))
    (sym c.if-not-has_length.true ∙ c.has_length.ensures ∙ ap (has_length c.args.m.now bytes) c.word_count-words.ensures)

pub returns : goal.returns
returns c =
    let bytes = c.args.bytes.now in
    ap (λ (n : ℕ). Ok n) c.word_count-words.ensures
    ∙ header_checked c.args.m.now c.args.digest.now bytes true true true true true (sym c.if-not-stands_at.false ∙ c.stands_at.ensures.value)
    (sym c.if-not-is_version.false ∙ c.is_version.ensures)
    (sym c.if-not-stands_at-2.false ∙ c.stands_at-2.ensures.value)
    (sym c.if-not-stands_at-3.false ∙ c.stands_at-3.ensures.value ∙ ap (λ (p : List ℕ). stands_at 8 p bytes) (c.to_be_bytes.ensures ∙ ap (to_be_bytes w32) c.requires))
    (sym c.if-not-has_length.false ∙ c.has_length.ensures ∙ ap (has_length c.args.m.now bytes) c.word_count-words.ensures)
