-- Bits can be packed into bytes, so legal code has an image.
use Rattle.std.proofs.Common.{◌≡◌, ℕ, suc, ◌+◌, ◌-◌, ◌*◌, ◌^◌, ◌<◌, ◌≤◌, Bool, true, false, List, [], ◌∷◌, ◌++◌, length, lit<, refl, ap, ◌∙◌, subst, inl, inr, add-one, arith}
use Rattle.std.specs.List.{flat_map, AllByRecursion}
use Rattle.std.proofs.lemmas.Bool.{cases_eq}
use Rattle.std.proofs.lemmas.List.{append_assoc, append-nil}
use Rattle.std.proofs.lemmas.Nat.{shl_below}
use Rattle.tta_image.specs.Cited.{Machine, Whole, rises, fits, IsLegalCode}
use Rattle.tta_image.specs.Bits.{bits_of, code_bits}
use Rattle.tta_image.specs.Image.{AreBytesOf, Image, header, version_of, data_section}
use Rattle.tta_image.specs.Sink.{bit_value}
use Rattle.tta_image.proofs.BitLemmas.{shows_full, shows_more, bytes_push, bytes_of_full, bytes_of_filled}

bit_small : (b : Bool) → bit_value b ≤ 1
bit_small true = omega arith
bit_small false = omega arith

-- some bytes of the bits shown so far and of these
packed : (bits : List Bool) (bytes : List ℕ) (filled last : ℕ) (shown : List Bool) → filled < 8 → last < 2 ^ filled → AllByRecursion (λ x. x < 256) bytes
    → flat_map (bits_of 8) bytes ++ bits_of filled last ≡ shown → (out : List ℕ) × AreBytesOf (shown ++ bits) out
packed [] bytes filled last shown below small all was = elim (cases_eq filled 0) [
  | inl none ↦ (bytes, rw append-nil (bytes_of_full bytes filled last shown none all was))
  | inr some ↦
      let e : filled + (8 - filled) ≡ 8 = omega arith in
      let fits : last * 2 ^ (8 - filled) < 2 ^ 8 = subst (λ (k : ℕ). last * 2 ^ (8 - filled) < 2 ^ k) e (shl_below last filled (8 - filled) small) in
      let fits' : last * 2 ^ (8 - filled) < 256 = omega arith in (
        bytes ++ last * 2 ^ (8 - filled) ∷ [],
        rw append-nil (bytes_of_filled bytes (bytes ++ last * 2 ^ (8 - filled) ∷ []) filled last (last * 2 ^ (8 - filled)) shown (omega arith) below small refl fits' refl all was),
      )
]
packed (b ∷ bs) bytes filled last shown below small all was =
    let v = bit_small b in
    let last' : ℕ = 2 * last + bit_value b in
    let regroup : (shown ++ b ∷ []) ++ bs ≡ shown ++ b ∷ bs = append_assoc shown (b ∷ []) bs in
    elim (cases_eq filled 7) [
      | inl seven ↦
          let p : 2 ^ filled ≡ 2 ^ 7 = ap (λ (k : ℕ). 2 ^ k) seven in
          let fits : last' < 256 = omega arith in
          let r = packed bs (bytes ++ last' ∷ []) 0 0 (shown ++ b ∷ []) (lit< tt) (lit< tt) (bytes_push bytes last' all fits)
          (shows_full bytes (bytes ++ last' ∷ []) filled last last' shown b seven refl refl was) in
          (r.0, subst (λ (l : List Bool). AreBytesOf l r.0) regroup r.1)
      | inr other ↦
          let double : 2 ^ suc filled ≡ 2 * 2 ^ filled = omega arith in
          let p : 2 ^ (filled + 1) ≡ 2 * 2 ^ filled = ap (λ (k : ℕ). 2 ^ k) (add-one filled) ∙ double in
          let r = packed bs bytes (filled + 1) last' (shown ++ b ∷ []) (omega arith) (omega arith) all (shows_more bytes filled last last' shown b refl was) in
          (r.0, subst (λ (l : List Bool). AreBytesOf l r.0) regroup r.1)
    ]

-- legal code with data that keep their rules has an image
pub has_image : (m : Machine) (digest : List ℕ) (whole : Whole) → IsLegalCode m whole.code → rises whole.init ≡ true → fits m.data_words whole.init ≡ true
    → (bytes : List ℕ) × Image m digest whole bytes
has_image m digest whole legal rise fit =
    let body = packed (code_bits m whole.code) [] 0 0 [] (lit< tt) (lit< tt) tt refl in (
      header m digest (version_of whole.init) (length whole.code.words) ++ (data_section whole.init ++ body.0),
      record { body = body.0; parts = refl; words = body.1; legal = legal; rises = rise; fits = fit },
    )
