-- The printed text of a program that was read, or converted from one that was read, is read back.
use Rattle.tta_tac.proofs.Programs.{program_rules}
use Rattle.tta_tac.proofs.Over.{program_over}
use Rattle.tta_ifconv.proofs.Whole.{converts_holds}
use Rattle.tta_roundtrip.specs.Statement.{TextsReadBack, ConversionsReadBack}
use Rattle.tta_roundtrip.proofs.Whole.{printed_is_read_holds}
use Rattle.tta_roundtrip.proofs.Texts.{texts_are_readable_holds}
use Rattle.tta_roundtrip.proofs.Kept.{converted_is_readable_holds}

pub texts_read_back : TextsReadBack
texts_read_back u text p is =
    printed_is_read_holds u p (program_rules u text p is) (program_over u text p is) (texts_are_readable_holds u text p is)

pub conversions_read_back : ConversionsReadBack
conversions_read_back u text p q is made =
    let kept = converts_holds p q made in
    printed_is_read_holds u q (kept.rules (program_rules u text p is)) (kept.over u (program_over u text p is))
    (converted_is_readable_holds u p q made (texts_are_readable_holds u text p is))
