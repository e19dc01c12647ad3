-- The whole of a text is legal.
use Rattle.std.proofs.Common.{◌≡◌, ℕ, true, List, [], length, drop, Ok, sym, subst}
use Rattle.tta_parse.specs.Steps.{◌>>=◌}
use Rattle.tta_parse.proofs.Steps.{then-ok, same_ok}
use Rattle.tta_asm.specs.Cited.{Units, Machine, Code, Datum, Whole, rises, fits, IsLegalCode, IsLegalWhole}
use Rattle.tta_asm.specs.Labels.{labels_of}
use Rattle.tta_asm.specs.Pieces.{Piece, pieces_of}
use Rattle.tta_asm.specs.Init.{data_from, behind_data}
use Rattle.tta_asm.specs.Assembly.{Draft, nothing, take_pieces, assembled_code, assembled}
use Rattle.tta_asm.proofs.LegalCode.{taken_legal}
use Rattle.tta_asm.proofs.DataTaken.{data_front}

-- the code of pieces is legal
code_legal : (u : Units) (m : Machine) (ps : List Piece) (code : Code) → assembled_code u m ps ≡ Ok code → IsLegalCode m code
code_legal u m ps code h =
    let of : Draft → Code = λ d. record { words = d.words } in
    let d = then-ok (take_pieces u m (labels_of ps) nothing ps) (λ d. Ok (of d)) code h in
    subst (IsLegalCode m) (same_ok (of d.0) code d.2) (taken_legal u m (labels_of ps) d.0 ps d.1)

-- a whole of legal code and of data that were read is legal
pub front_legal : (m : Machine) (ps : List Piece) (init : List Datum) (code : Code) → data_from m.data_words 0 [] ps ≡ Ok init → IsLegalCode m code
    → IsLegalWhole m (record { code = code; init = init })
front_legal m ps init code read legal =
    let f = data_front m.data_words 0 [] ps init read in
    let same : f.more ≡ init = sym f.whole in
    record {
      code = legal;
      rises = subst (λ (ds : List Datum). rises ds ≡ true) same f.rises;
      fits = subst (λ (ds : List Datum). fits m.data_words ds ≡ true) same f.fits;
    }

-- the pieces after data that were read
pub front_behind : (m : Machine) (ps : List Piece) (init : List Datum) → data_from m.data_words 0 [] ps ≡ Ok init → drop (length init) ps ≡ behind_data ps
front_behind m ps init read =
    let f = data_front m.data_words 0 [] ps init read in
    let same : f.more ≡ init = sym f.whole in
    subst (λ (ds : List Datum). drop (length ds) ps ≡ behind_data ps) same f.behind

-- the whole of a text is legal
pub assembled_legal : (u : Units) (m : Machine) (text : List ℕ) (whole : Whole) → assembled u m text ≡ Ok whole → IsLegalWhole m whole
unfolding assembled
assembled_legal u m text whole h =
    let ps = pieces_of text in
    let init = then-ok (data_from m.data_words 0 [] ps)
    (λ init. assembled_code u m (behind_data ps) >>= λ code. Ok (record { code = code; init = init })) whole h in
    let code = then-ok (assembled_code u m (behind_data ps)) (λ code. Ok (record { code = code; init = init.0 })) whole init.2 in
    let made : Whole = record { code = code.0; init = init.0 } in
    subst (IsLegalWhole m) (same_ok made whole code.2)
    (front_legal m ps init.0 code.0 init.1 (code_legal u m (behind_data ps) code.0 code.1))
