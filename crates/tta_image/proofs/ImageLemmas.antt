-- The parts of an image, and what legal code says of them.
use Rattle.std.proofs.Common.{◌≡◌, ℕ, ◌^◌, ◌<◌, ◌≤◌, Bool, true, false, ◌&&◌, List, [], ◌∷◌, ◌++◌, length, nat_le, codes, IsTrue, All, ap, ◌∙◌, arith}
use Rattle.std.specs.Int.{w32, to_be_bytes}
use Rattle.std.specs.List.{AllByRecursion}
use Rattle.std.proofs.lemmas.Bool.{and_parts, leb-true, eqb-true}
use Rattle.std.proofs.lemmas.List.{append_assoc}
use Rattle.std.proofs.lemmas.Nat.{pow_below}
use Rattle.std.proofs.lemmas.List.Elements.{All-nil, All-cons}
use Rattle.tta_image.specs.Cited.{Control, Socket, Machine, word_width, IsMachine, is_control, is_from_to, is_socket, is_port_socket, Instruction, Code, is_legal, IsLegalCode, Datum}
use Rattle.tta_code.proofs.LegalParts.{legal_parts}
use Rattle.tta_image.specs.Image.{header, version_of, data_section, AreBytesOf}

-- ---- the bytes

-- the header, the data and the body
pub parts_from : (m : Machine) (digest : List ℕ) (words width count : ℕ) (init init' : List Datum) (body body' bytes : List ℕ)
    → bytes ≡ ((codes "TTAI" ++ (to_be_bytes w32 (version_of init') ++ (to_be_bytes w32 width ++ (to_be_bytes w32 count ++ digest)))) ++ data_section init') ++ body'
    → body' ≡ body → init' ≡ init → width ≡ word_width m → count ≡ words → bytes ≡ header m digest (version_of init) words ++ (data_section init ++ body)
parts_from m digest words width count init init' body body' bytes joined same same_data wide many =
    let head : ℕ → ℕ → ℕ → List ℕ = λ v w n. codes "TTAI" ++ (to_be_bytes w32 v ++ (to_be_bytes w32 w ++ (to_be_bytes w32 n ++ digest))) in
    joined ∙ append_assoc (head (version_of init') width count) (data_section init') body'
    ∙ ap (λ (i : List Datum). head (version_of i) width count ++ (data_section i ++ body')) same_data
    ∙ ap (λ (l : List ℕ). head (version_of init) width count ++ (data_section init ++ l)) same
    ∙ ap (λ (w : ℕ). head (version_of init) w count ++ (data_section init ++ body)) wide
    ∙ ap (λ (n : ℕ). head (version_of init) (word_width m) n ++ (data_section init ++ body)) many

pub are_bytes_of_same : (shown bits : List Bool) (bytes : List ℕ) → shown ≡ bits → AreBytesOf shown bytes → AreBytesOf bits bytes
are_bytes_of_same shown bits bytes same h = rw (← same) h

-- ---- legal code

-- an instruction has an entry for each bus
pub legal_slots : (m : Machine) (words : List Instruction) → AllByRecursion (λ i. IsTrue (is_legal m i)) words → All (λ i. length i.moves ≡ length m.buses) words
legal_slots m [] h = All-nil (λ i. length i.moves ≡ length m.buses)
legal_slots m (i ∷ is) h = All-cons (λ i. length i.moves ≡ length m.buses) i is (eqb-true (length i.moves) (length m.buses) (legal_parts m i h.0).count) (legal_slots m is h.1)

pub short_address : (sockets : List Socket) (c : Control) → is_control sockets c ≡ true → c.address ≤ 16
short_address sockets c h =
    let three = and_parts (nat_le c.delay 4 && is_from_to 1 16 c.address && is_socket sockets true c.trigger) (is_port_socket sockets false c.ra) h in
    let two = and_parts (nat_le c.delay 4 && is_from_to 1 16 c.address) (is_socket sockets true c.trigger) three.0 in
    let one = and_parts (nat_le c.delay 4) (is_from_to 1 16 c.address) two.0 in
    let range = and_parts (nat_le 1 c.address) (nat_le c.address 16) one.1 in
    leb-true c.address 16 range.1

pub pow_most : (k : ℕ) → k ≤ 16 → 2 ^ k < 2 ^ 17
pow_most k h = pow_below k 17 (omega arith)

-- no code of a machine has more than 65,536 instructions
pub words_fit : (m : Machine) (code : Code) → IsMachine m → IsLegalCode m code → length code.words < 2 ^ 32
words_fit m code rules legal =
    let room = legal.room in
    let p = pow_most m.control.address (short_address m.sockets m.control rules.control) in
    omega arith
