-- Lines describe at most one machine.
use Rattle.std.proofs.Common.{◌≡◌, ◌∷◌, [], ℕ, List, sym, ◌∙◌, filter_map}
use Rattle.tta_machine.specs.Cited.{Line, Units, Machine}
use Rattle.tta_machine.specs.Grammar.{IsMachineText, IsSize, space_lines, data_size, frame_size}

only_size : (sizes : List ℕ) (a b : ℕ) → IsSize sizes a → IsSize sizes b → a ≡ b
only_size [] a b p q = p ∙ sym q
only_size (given ∷ []) a b p q = p ∙ sym q
only_size (given ∷ another ∷ more) a b p q = absurd p

pub only_one : (u : Units) (lines : List Line) (m n : Machine) → IsMachineText u lines m → IsMachineText u lines n → m ≡ n
only_one u lines m n p q =
    let controls : m.control ∷ [] ≡ n.control ∷ [] = p.control ∙ sym q.control in
    let control : m.control ≡ n.control = cc (controls) in
    let words : m.data_words ≡ n.data_words = only_size (filter_map data_size (space_lines lines)) m.data_words n.data_words p.data_words q.data_words in
    let frame : m.frame_words ≡ n.frame_words = only_size (filter_map frame_size (space_lines lines)) m.frame_words n.frame_words p.frame_words q.frame_words in
    λ i. record {
      buses = (p.buses ∙ sym q.buses) i;
      sockets = (p.sockets ∙ sym q.sockets) i;
      files = (p.files ∙ sym q.files) i;
      imms = (p.imms ∙ sym q.imms) i;
      units = (p.units ∙ sym q.units) i;
      guards = (p.guards ∙ sym q.guards) i;
      templates = (p.templates ∙ sym q.templates) i;
      control = control i;
      data_words = words i;
      frame_words = frame i;
    }
