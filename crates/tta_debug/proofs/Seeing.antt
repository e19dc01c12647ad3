-- What there is to see, where its place is known.
use Rattle.std.proofs.Common.{◌≡◌, ◌≤◌, arith, true, false, ℕ, Bool, nat_lt, if◌then◌else◌, List, Some, None, is_some, option_and_then, slice_get, get_or, length, refl, sym, ap, ◌∙◌}
use Rattle.std.proofs.lemmas.Bool.{ltb-true}
use Rattle.std.proofs.lemmas.Option.{slice_get_read}
use Rattle.std.proofs.lemmas.List.Quantifiers.{position-Some}
use Rattle.std.specs.List.{position}
use Rattle.std.specs.Str.{bytes_eq}
use Rattle.tta_debug.specs.Cited.{File, Machine, KeptReg, kept, State}
use Rattle.tta_arch.specs.declared.parts.Unit.{Unit as OpUnit}
use Rattle.tta_code.specs.Cycle.{port as port_of}
use Rattle.tta_debug.specs.Debugged.{register, register_at, shown, shown_at, value}

-- a register of a file at a known place
pub register_is : (m : Machine) (s : State) (file : List ℕ) (index k : ℕ) (files : List File) (f : File) (b : Bool) → files ≡ m.files
    → position (λ f. bytes_eq f.name file) files ≡ Some k → f ≡ get_or files k f → nat_lt index f.size ≡ b
    → register m s file index ≡ (if b then Some (value (kept s.written (KeptReg k index))) else None)
register_is m s file index k files f b are place is size =
    let there = slice_get_read files (length files) k f refl (position-Some (λ f. bytes_eq f.name file) files k f place).0 is in
    ap (λ fs. option_and_then (λ k. register_at s k index (slice_get fs k)) (position (λ f. bytes_eq f.name file) fs)) (sym are)
    ∙ ap (option_and_then (λ k. register_at s k index (slice_get files k))) place
    ∙ ap (register_at s k index) there
    ∙ ap (λ b. if b then Some (value (kept s.written (KeptReg k index))) else None) size

-- a unit's result port at a known place
pub shown_is : (m : Machine) (s : State) (unit : List ℕ) (k : ℕ) (units : List OpUnit) (u : OpUnit) (b : Bool) → units ≡ m.units
    → position (λ u. bytes_eq u.name unit) units ≡ Some k → u ≡ get_or units k u → is_some u.result ≡ b
    → shown m s unit ≡ (if b then Some (value (port_of s k)) else None)
shown_is m s unit k units u b are place is has =
    let there = slice_get_read units (length units) k u refl (position-Some (λ u. bytes_eq u.name unit) units k u place).0 is in
    ap (λ us. option_and_then (λ k. shown_at s k (slice_get us k)) (position (λ u. bytes_eq u.name unit) us)) (sym are)
    ∙ ap (option_and_then (λ k. shown_at s k (slice_get units k))) place
    ∙ ap (shown_at s k) there
    ∙ ap (λ b. if b then Some (value (port_of s k)) else None) has

-- a number that is not does not
pub is_not_below : (a b : ℕ) → b ≤ a → nat_lt a b ≡ false
is_not_below a b above = by (nat_lt a b) refl where
  by : (t : Bool) → nat_lt a b ≡ t → nat_lt a b ≡ false
  by false is = is
  by true is = let less = ltb-true a b is in absurd (omega (arith, less))
