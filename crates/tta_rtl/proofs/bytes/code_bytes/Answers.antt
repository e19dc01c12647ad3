use Rattle.std.proofs.Common.{◌≡◌, ℕ, ◌<◌, ◌^◌, List, ◌++◌, length, drop, ap, ◌∙◌, arith}
use Rattle.tta_rtl.specs.Cited.{Layout}
use Rattle.tta_code.specs.Whole.{Whole}
use Rattle.tta_rtl.specs.Memories.{bytes_before, words_in}
use Rattle.tta_rtl.proofs.Modules.{few_body, has_body}
use Rattle.tta_rtl.proofs.bytes.code_bytes.Goals as goal

pub bytes_before-before-requires : goal.bytes_before-before-requires
bytes_before-before-requires c =
    let whole = c.args.whole.now in
    let b = has_body c.args.on.now.m.now c.args.digest.now whole c.in_ok-image.image.items c.rules.ensures c.told-digest c.in_ok-image.ensures in
    let many : c.len.result ≡ length whole.init = c.len.ensures ∙ ap (λ (w : Whole). length w.init) c.whole.view_is in
    let few = b.few in
    omega (arith, many, few)

pub returns : goal.returns
returns c =
    let m = c.args.on.now.m.now in
    let whole = c.args.whole.now in
    let items = c.in_ok-image.image.items in
    let b = has_body m c.args.digest.now whole items c.rules.ensures c.told-digest c.in_ok-image.ensures in
    let many : c.len.result ≡ length whole.init = c.len.ensures ∙ ap (λ (w : Whole). length w.init) c.whole.view_is in
    let after : c.bytes_after.result.now ≡ drop (bytes_before (length whole.init)) items =
    c.bytes_after.ensures ∙ ap (λ (l : List ℕ). drop c.bytes_before-before.result l) c.as_slice.ensures.value
    ∙ ap (λ (k : ℕ). drop k items) (c.bytes_before-before.ensures ∙ ap bytes_before many) in
    let body : c.extend_from_slice.new.self.items ≡ drop (bytes_before (length whole.init)) items =
    c.in_ok-extend_from_slice.ensures.items ∙ ap (λ (l : List ℕ). l ++ c.bytes_after.result.now) c.new-body.ensures.items ∙ after in
    let wide = ap (λ (l : Layout). l.width) c.args.on.now.layout_is in
    let narrow : c.args.on.now.layout.now.width < 2 ^ 32 = omega (arith, c.bits_of-width.ensures, c.bits_of-width.type_inv) in
    record {
      words = ap (λ (l : List ℕ). words_in m l (length whole.code.words)) body ∙ b.words;
      inside = rw body b.inside;
      few = few_body m whole items b c.args.on.now.layout.now.width c.extend_from_slice.new.self.items wide narrow body;
    }
