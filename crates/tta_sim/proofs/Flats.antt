-- Rows say the moves of their lines.
use Rattle.std.proofs.Common.{◌≡◌, ◌<◌, ◌==◌, ◌&&◌, ◌||◌, ℕ, Bool, true, false, IsTrue, List, [], ◌∷◌, length, map, get_or, Option, None, Some, refl, sym, ap, ◌∙◌, subst, arith}
use Rattle.std.specs.Prelude.{nat_lt, if◌then◌else◌}
use Rattle.std.specs.Option.{option_map_or}
use Rattle.std.specs.List.{list_any, AllByRecursion}
use Rattle.std.proofs.lemmas.Bool.{and_parts, ltb-true}
use Rattle.std.proofs.lemmas.List.{length-map, get_or-map}
use Rattle.tta_sim.specs.Cited.{KeptOperand, first_some, or_else}
use Rattle.tta_sim.specs.declared.decoded.DecodedSource.{DecodedSource}
use Rattle.tta_sim.specs.declared.decoded.DecodedSource.TheVariants as decoded
use Rattle.tta_sim.specs.declared.decoded.DecodedGuard.{DecodedGuard}
use Rattle.tta_sim.specs.declared.decoded.Reading.{Reading}
use Rattle.tta_sim.specs.declared.decoded.DecodedWrite.{DecodedWrite}
use Rattle.tta_sim.specs.declared.decoded.DecodedStart.{DecodedStart}
use Rattle.tta_sim.specs.declared.decoded.DecodedControl.{DecodedControl}
use Rattle.tta_sim.specs.declared.decoded.Line.{Line}
use Rattle.tta_sim.specs.declared.mark.Mark.{Mark}
use Rattle.tta_sim.specs.Decoded.{is_pure}
use Rattle.tta_sim.specs.Lines.{is_source_there, is_reading_there, is_write_there, is_start_there, is_control_there, IsLineThere}
use Rattle.tta_sim.specs.Places.{is_place, place_count}
use Rattle.tta_sim.specs.Flat.{source_said, guard_said, reading_said, write_said, start_said, control_said, line_said, flat_of, flat_write, flat_start, flat_control, row_with}

-- ---- one move

below_apart : (n : ℕ) → nat_lt n place_count ≡ true → (n == place_count) ≡ false
below_apart n less = let is = ltb-true n place_count less in grind (arith, is)

-- a source that is there is said
source_is : (units : ℕ) (src : DecodedSource) (guard : Option DecodedGuard) → is_source_there units src ≡ true
    → source_said (flat_of (record { guard = guard; src = src })) ≡ src
source_is units (decoded.Word word) guard there = refl
source_is units (decoded.Place number) guard there =
    ap (λ b. if b then decoded.Place number else if number == place_count then decoded.Word 0 else decoded.Port 0) there
source_is units (decoded.Port unit) guard there = refl

-- and a guard
guard_is : (guard : Option DecodedGuard) (src : DecodedSource) → option_map_or (λ g. nat_lt g.place place_count) guard true ≡ true
    → guard_said (flat_of (record { guard = guard; src = src })) ≡ guard
guard_is None src there = refl
guard_is (Some g) src there = ap (λ b. if b then None else Some g) (below_apart g.place there)

-- so what a move reads is said
pub reading_is : (units : ℕ) (r : Reading) → is_reading_there units r ≡ true → reading_said (flat_of r) ≡ r
reading_is units r there =
    let parts = and_parts (option_map_or (λ g. nat_lt g.place place_count) r.guard true) (is_source_there units r.src) there in
    ap (λ g. record { guard = g; src = source_said (flat_of r) }) (guard_is r.guard r.src parts.0)
    ∙ ap (λ s. record { guard = r.guard; src = s }) (source_is units r.src r.guard parts.1)

-- ---- the moves of a line

pub writes_said : (units : ℕ) (ws : List DecodedWrite) → AllByRecursion (λ w. IsTrue (is_write_there units w)) ws → map write_said (map flat_write ws) ≡ ws
writes_said units [] there = refl
writes_said units (w ∷ ws) there =
    let one = and_parts (is_reading_there units w.reading) (nat_lt w.place place_count) there.0 in
    ap (λ r. record { reading = r; place = w.place; narrow = w.narrow } ∷ map write_said (map flat_write ws)) (reading_is units w.reading one.0)
    ∙ ap (λ xs. w ∷ xs) (writes_said units ws there.1)

pub starts_said : (units : ℕ) (ss : List DecodedStart) → AllByRecursion (λ s. IsTrue (is_start_there units s)) ss → map start_said (map flat_start ss) ≡ ss
starts_said units [] there = refl
starts_said units (s ∷ ss) there =
    let one = and_parts (is_reading_there units s.reading) (is_place (KeptOperand s.unit) && nat_lt s.unit units) there.0 in
    ap (λ r. record { reading = r; unit = s.unit; does = s.does } ∷ map start_said (map flat_start ss)) (reading_is units s.reading one.0)
    ∙ ap (λ xs. s ∷ xs) (starts_said units ss there.1)

-- ---- elements of what is said

pub within_said : {X Y : Type 0} (f : X → Y) (xs : List X) (k : ℕ) → k < length xs → k < length (map f xs)
within_said f xs k less = subst (λ n. k < n) (sym (length-map xs f)) less

pub at_said : {X Y : Type 0} (f : X → Y) (xs : List X) (k : ℕ) (z x : X) → k < length xs → x ≡ get_or xs k z → f x ≡ get_or (map f xs) k (f z)
at_said f xs k z x less at = ap f at ∙ sym (get_or-map f xs k z (f z) less)

-- ---- a row

pub controls_said : (units : ℕ) (ts : List DecodedControl) → AllByRecursion (λ t. IsTrue (is_control_there units t)) ts → map control_said (map flat_control ts) ≡ ts
controls_said units [] there = refl
controls_said units (t ∷ ts) there =
    ap (λ r. record { reading = r; kind = t.kind } ∷ map control_said (map flat_control ts)) (reading_is units t.reading there.0)
    ∙ ap (λ xs. t ∷ xs) (controls_said units ts there.1)

-- a row says its line
pub line_is : (units : ℕ) (m : Mark) (l : Line) → IsLineThere units l → line_said (row_with m l) ≡ l
line_is units m l there =
    let starts = map start_said (map flat_start l.starts) in
    let controls = map control_said (map flat_control l.controls) in
    ap (λ ws. record { writes = ws; starts = starts; controls = controls; pure = is_pure starts controls }) (writes_said units l.writes there.writes)
    ∙ ap (λ ss. record { writes = l.writes; starts = ss; controls = controls; pure = is_pure ss controls }) (starts_said units l.starts there.starts)
    ∙ ap (λ ts. record { writes = l.writes; starts = l.starts; controls = ts; pure = is_pure l.starts ts }) (controls_said units l.controls there.controls)
    ∙ ap (λ p. record { writes = l.writes; starts = l.starts; controls = l.controls; pure = p }) (sym there.pure)

-- ---- what is said, one by one

pub all_said : {X Y : Type 0} (P : Y → Type 0) (f : X → Y) (xs : List X) → AllByRecursion P (map f xs) → AllByRecursion (λ x. P (f x)) xs
all_said P f [] all = tt
all_said P f (x ∷ xs) all = (all.0, all_said P f xs all.1)

pub any_said : {X Y : Type 0} (p : Y → Bool) (f : X → Y) (xs : List X) → list_any p (map f xs) ≡ list_any (λ x. p (f x)) xs
any_said p f [] = refl
any_said p f (x ∷ xs) = ap (λ b. p (f x) || b) (any_said p f xs)

pub first_said : {X Y Z : Type 0} (g : Y → Option Z) (f : X → Y) (xs : List X) → first_some g (map f xs) ≡ first_some (λ x. g (f x)) xs
first_said g f [] = refl
first_said {X} {Y} {Z} g f (x ∷ xs) = by (g (f x)) (first_said g f xs) where
  by : (o : Option Z) → first_some g (map f xs) ≡ first_some (λ x. g (f x)) xs → or_else o (first_some g (map f xs)) ≡ or_else o (first_some (λ x. g (f x)) xs)
  by None rest = rest
  by (Some z) rest = refl
