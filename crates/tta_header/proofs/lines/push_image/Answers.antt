use Rattle.std.proofs.Common.{List, ℕ, ◌++◌, ap, ◌∙◌}
use Rattle.std.specs.Prelude.{codes}
use Rattle.hex.specs.Hex.{encode_lower}
use Rattle.sha2.specs.Sha256.{sha256}
use Rattle.tta_list.proofs.Lists.{then_more}
use Rattle.tta_list.proofs.Results.{onward}
use Rattle.tta_header.specs.Header.{image_line}
use Rattle.tta_header.proofs.lines.push_image.Goals as goal

pub returns : goal.returns
unfolding image_line
returns c =
    let digits = encode_lower (sha256 c.args.image.now) in
    onward c.push_text-2.result (λ last.
    then_more _ _ _ (codes "// image: sha256 ") (digits ++ codes "\n") c.in_ok-push_text.ensures
    (then_more _ _ _ digits (codes "\n") (c.in_ok-push_bytes.ensures ∙ ap (λ (d : List ℕ). c.push_text.new.out.items ++ encode_lower d) c.digest.ensures) last)) c.push_text-2.ensures
