use Rattle.std.proofs.Common.{◌≡◌, suc, ◌+◌, ◌-◌, ◌*◌, length, List, ℕ, drop, refl, sym, ap, ◌∙◌, arith}
use Rattle.std.proofs.lemmas.List.{drop-drop, length-drop, take_rest}
use Rattle.tta_image.proofs.PairsRead.{pairs_on, pairs_refused, pairs_end}
use Rattle.tta_image.proofs.pairs.read_pairs.Goals as goal

pub datum_in-datum-requires : goal.datum_in-datum-requires
datum_in-datum-requires c =
    let size = ap length c.loop-place.invariant.rest ∙ length-drop (8 * c.loop-place.place) c.args.bytes.now in
    omega arith

pub loop-place-preserved : goal.loop-place-preserved
loop-place-preserved c =
    let place = c.loop-place.place in
    let bytes = c.args.bytes.now in
    let left : c.args.count - place ≡ suc (c.args.count - (place + 1)) = omega arith in
    let next : 8 * place + 8 ≡ 8 * (place + 1) = omega arith in
    let past = take_rest c.loop-place.rest.now 8 in
    record {
      rest = past ∙ ap (λ (l : List ℕ). drop 8 l) c.loop-place.invariant.rest ∙ drop-drop 8 (8 * place) bytes ∙ ap (λ (n : ℕ). drop n bytes) next;
      decoded =
          pairs_on c.args.words (c.args.count - place) (c.args.count - (place + 1)) place c.loop-place.least _ c.from-least.result c.loop-place.rest.now _ c.datum_in-datum.result c.loop-place.init _ _ left
          c.datum_in-datum.ensures (sym c.is_out.ensures ∙ c.if-is_out.false) c.in_ok-push.ensures.ok c.from-least.ensures refl past c.loop-place.invariant.decoded;
    }

pub returns : goal.returns
returns c =
    pairs_end c.args.words (c.args.count - c.loop-place.place) c.loop-place.place c.loop-place.least _ c.loop-place.init _ (omega arith) c.loop-place.invariant.decoded

pub returns-then-is_out : goal.returns-then-is_out
returns-then-is_out c =
    let place = c.loop-place.place in
    let left : c.args.count - place ≡ suc (c.args.count - (place + 1)) = omega arith in
    rw c.of_word.ensures (pairs_refused c.args.words (c.args.count - place) (c.args.count - (place + 1)) place c.loop-place.least _ c.datum_in-datum.result c.loop-place.init _ left
    c.datum_in-datum.ensures (sym c.is_out.ensures ∙ c.if-is_out.true) c.loop-place.invariant.decoded)
