-- The fields of the instruction keep their widths and are plain.
use Rattle.std.proofs.Common.{◌≡◌, ℕ, zero, suc, ◌+◌, ◌-◌, ◌^◌, ◌<◌, ◌≤◌, ◌==◌, min, Bool, true, false, ◌&&◌, List, [], ◌∷◌, length, refl, sym, ap, ◌∙◌, subst, inl, inr, arith}
use Rattle.std.specs.Prelude.{if◌then◌else◌, nat_lt}
use Rattle.std.specs.List.{range_with_len, sum_by, AllByRecursion}
use Rattle.std.proofs.lemmas.Bool.{and_parts, false≢true, eq-eqb, eqb-true, ltb-true, ltb-false, lt-ltb, cases_lt}
use Rattle.std.proofs.lemmas.List.Sums.{sum_by-cons}
use Rattle.std.proofs.lemmas.Nat.{pow_pos}
use Rattle.tta_hardware.specs.Cited.{Template, Machine, IsMachine, has_bit, template_width, guard_width, short_width, payload_width, dest_width, bus_width, taken_width, word_width, is_signed, Const, Signal, Slice, Join, Select, Either}
use Rattle.tta_image.proofs.NarrowFields.{narrow}
use Rattle.tta_hardware.specs.Signals.{Field, GuardOf, IsShort, SourceOf, ShortOf, DestOf, TemplateOf, LongOf, Whole, Expression}
use Rattle.tta_hardware.specs.Fields.{field_width}
use Rattle.tta_hardware.specs.Parts.{buses_width, long_width, below_bus, below_payload, below_tag, below_guard, above, template_part, has_template, takes_from, shares_from, long_from, with_high, short_part}
use Rattle.tta_hardware.specs.Wires.{fetched}
use Rattle.tta_hardware.specs.Stands.{has_field}
use Rattle.tta_hardware.specs.Sized.{Fits, FieldsAreSized}
use Rattle.tta_hardware.proofs.Bits.{enough, template_some, payload_some, word_some}
use Rattle.tta_hardware.proofs.Fitting.{const, slice, join, select, either, equal}

-- one number of some and those after it make no more than all
part_sum : (f : ℕ → ℕ) (n a k j : ℕ) → a + k ≡ j → k < n
    → sum_by f (range_with_len (j + 1) (n - (k + 1))) + f j ≤ sum_by f (range_with_len a n)
part_sum f zero a k j e less = absurd (omega (arith, less))
part_sum f (suc n) a zero j e less =
    let same : a ≡ j = omega (arith, e) in
    let count : suc n - (0 + 1) ≡ n = omega arith in
    let cut = sum_by-cons f a (range_with_len (a + 1) n) in
    let first : f a ≡ f j = ap f same in
    let rest : sum_by f (range_with_len (j + 1) (suc n - (0 + 1))) ≡ sum_by f (range_with_len (a + 1) n) =
    ap (λ (i : ℕ). sum_by f (range_with_len (i + 1) (suc n - (0 + 1)))) (sym same)
    ∙ ap (λ (i : ℕ). sum_by f (range_with_len (a + 1) i)) count in
    omega (arith, cut, first, rest)
part_sum f (suc n) a (suc k) j e less =
    let count : suc n - (suc k + 1) ≡ n - (k + 1) = omega arith in
    let cut = sum_by-cons f a (range_with_len (a + 1) n) in
    let rest = part_sum f n (a + 1) k j (omega (arith, e)) (omega (arith, less)) in
    let same : sum_by f (range_with_len (j + 1) (suc n - (suc k + 1))) ≡ sum_by f (range_with_len (j + 1) (n - (k + 1))) =
    ap (λ (i : ℕ). sum_by f (range_with_len (j + 1) i)) count in
    omega (arith, cut, rest, same)

-- what is left of 32 bits above fewer
room_above : (w : ℕ) → w ≤ 32 → (w == 32) ≡ false → 0 < 32 - w
room_above w most is = elim (cases_lt w 32) [
  | inl lt ↦ omega (arith, lt)
  | inr ge ↦ let e : w ≡ 32 = omega (arith, most, ge) in absurd (false≢true (sym is ∙ eq-eqb w 32 e))
]

module _ (m : Machine) (rules : IsMachine m) where
  word_bits : nat_lt 0 (word_width m) ≡ true
  word_bits = lt-ltb 0 (word_width m) (word_some m rules)

  room : (bus : ℕ) → bus < length m.buses → below_bus m bus + bus_width m bus ≤ word_width m
  room bus less = let part = part_sum (bus_width m) (length m.buses) 0 bus bus (omega arith) less in omega (arith, part)

  -- ---- the template

  template_fits : 0 < template_width m → Fits m (template_part m (Signal Whole)) (template_width m)
  template_fits some = slice m (buses_width m 0 (length m.buses)) (template_width m) Whole word_bits some (omega arith)

  test_fits : (k : ℕ) → k < length m.templates → Fits m (has_template m (Signal Whole) k) 1
  test_fits k less =
      let some = template_some m k less in
      let e = enough (1 + length m.templates) (template_width m) (omega arith) in
      equal m (template_width m) _ _ (template_fits some)
      (const m (template_width m) (k + 1) (lt-ltb 0 (template_width m) some) (omega (arith, e, less)))

  takes_fits : (bus k : ℕ) (ts : List Template) → k + length ts ≤ length m.templates → Fits m (takes_from m (Signal Whole) bus k ts) 1
  takes_fits bus k [] few = const m 1 0 refl (omega arith)
  takes_fits bus k (t ∷ ts) few = by (has_bit t.buses bus) (takes_fits bus (k + 1) ts (omega (arith, few))) where
    by : (b : Bool) → Fits m (takes_from m (Signal Whole) bus (k + 1) ts) 1
        → Fits m (if b then Either (has_template m (Signal Whole) k) (takes_from m (Signal Whole) bus (k + 1) ts)
        else takes_from m (Signal Whole) bus (k + 1) ts) 1
    by true rest = either m _ _ (test_fits k (omega (arith, few))) rest
    by false rest = rest

  -- ---- the long immediate

  -- a part of a bus with bits below it
  above_fits : (left low bus : ℕ) (rest : Expression) → low + bus_width m bus ≤ word_width m → left < 32
      → (0 < left → Fits m rest (min 32 left))
      → Fits m (above (Signal Whole) left low (min (bus_width m bus) (32 - left)) rest) (min 32 (bus_width m bus + left))
  above_fits left low bus rest inside few more = by (left == 0) refl where
    k : ℕ
    k = min (bus_width m bus) (32 - left)

    own : Fits m (Slice low k (Signal Whole)) k
    own = slice m low k Whole word_bits (omega (arith, few)) (omega (arith, inside))

    wide : (e : Expression) (a b : ℕ) → a ≡ b → Fits m e a → Fits m e b
    wide e a b same f = subst (λ (n : ℕ). Fits m e n) same f

    by : (b : Bool) → (left == 0) ≡ b
        → Fits m (if b then Slice low k (Signal Whole) else Join left (Slice low k (Signal Whole)) rest) (min 32 (bus_width m bus + left))
    by true is = let z : left ≡ 0 = eqb-true left 0 is in wide _ k (min 32 (bus_width m bus + left)) (omega (arith, z)) own
    by false is = elim (cases_lt 0 left) [
      | inl some ↦
          wide _ (k + left) (min 32 (bus_width m bus + left)) (omega (arith, few))
          (join m left k _ _ own (wide rest (min 32 left) left (omega (arith, few)) (more some)))
      | inr none ↦ let z : left ≡ 0 = omega (arith, none) in absurd (false≢true (sym is ∙ eq-eqb left 0 z))
    ]

  shares_fit : (taken bus count : ℕ) → buses_width m bus count ≤ word_width m → 0 < long_width m taken bus count
      → Fits m (shares_from m (Signal Whole) taken bus count) (min 32 (long_width m taken bus count))
  shares_fit taken bus zero inside some = absurd (omega (arith, some))
  shares_fit taken bus (suc count) inside some =
      by (has_bit taken bus) (nat_lt left 32) refl refl
      (λ less. let c = cut in shares_fit taken (bus + 1) count (omega (arith, c, inside)) less)
    where
      left : ℕ
      left = long_width m taken (bus + 1) count

      low : ℕ
      low = buses_width m (bus + 1) count

      rest : Expression
      rest = shares_from m (Signal Whole) taken (bus + 1) count

      cut : buses_width m bus (suc count) ≡ bus_width m bus + buses_width m (bus + 1) count
      cut = sum_by-cons (bus_width m) bus (range_with_len (bus + 1) count)

      all : long_width m taken bus (suc count) ≡ (if has_bit taken bus then bus_width m bus else 0) + long_width m taken (bus + 1) count
      all = sum_by-cons (λ b. if has_bit taken b then bus_width m b else 0) bus (range_with_len (bus + 1) count)

      wide : (e : Expression) (a b : ℕ) → a ≡ b → Fits m e a → Fits m e b
      wide e a b same f = subst (λ (n : ℕ). Fits m e n) same f

      total : (b : Bool) → has_bit taken bus ≡ b
          → long_width m taken bus (suc count) ≡ (if b then bus_width m bus else 0) + long_width m taken (bus + 1) count
      total b is = all ∙ ap (λ (c : Bool). (if c then bus_width m bus else 0) + long_width m taken (bus + 1) count) is

      by : (b c : Bool) → has_bit taken bus ≡ b → nat_lt left 32 ≡ c → (0 < left → Fits m rest (min 32 left))
          → Fits m (if b && c then above (Signal Whole) left low (min (bus_width m bus) (32 - left)) rest else rest)
          (min 32 (long_width m taken bus (suc count)))
      by true true is few more =
          let t = total true is in let c = cut in let f = ltb-true left 32 few in
          wide _ (min 32 (bus_width m bus + left)) (min 32 (long_width m taken bus (suc count))) (omega (arith, t))
          (above_fits left low bus rest (omega (arith, c, inside)) f more)
      by true false is few more =
          let t = total true is in let f = ltb-false left 32 few in
          wide rest (min 32 left) (min 32 (long_width m taken bus (suc count))) (omega (arith, t, f)) (more (omega (arith, f)))
      by false c is few more =
          let t = total false is in
          wide rest (min 32 left) (min 32 (long_width m taken bus (suc count))) (omega (arith, t)) (more (omega (arith, t, some)))

  long_fits : (k : ℕ) (ts : List Template) → k + length ts ≤ length m.templates → AllByRecursion (λ t. 32 ≤ taken_width m t.buses) ts
      → Fits m (long_from m (Signal Whole) k ts) 32
  long_fits k [] few wide = const m 32 0 refl (pow_pos 32)
  long_fits k (t ∷ ts) few wide =
      let w : 32 ≤ long_width m t.buses 0 (length m.buses) = wide.0 in
      let inside : buses_width m 0 (length m.buses) ≤ word_width m = omega arith in
      select m 32 _ _ _ (test_fits k (omega (arith, few)))
      (subst (λ (n : ℕ). Fits m (shares_from m (Signal Whole) t.buses 0 (length m.buses)) n) (omega (arith, w))
      (shares_fit t.buses 0 (length m.buses) inside (omega (arith, w))))
      (long_fits (k + 1) ts (omega (arith, few)) wide.1)

  -- ---- short words

  high_fits : (bus high : ℕ) → bus < length m.buses → high < 2 ^ (32 - short_width m bus) → Fits m (with_high m (Signal Whole) bus high) 32
  high_fits bus high less small = by (short_width m bus == 32) refl where
    own : Fits m (Slice (below_payload m bus) (short_width m bus) (Signal Whole)) (short_width m bus)
    own =
        let r = room bus less in let n = narrow m bus rules less in let some = n.some_short in
        slice m (below_payload m bus) (short_width m bus) Whole word_bits some (omega (arith, r))

    by : (b : Bool) → (short_width m bus == 32) ≡ b → Fits m (if b then Slice (below_payload m bus) (short_width m bus) (Signal Whole)
        else Join (short_width m bus) (Const (32 - short_width m bus) high)
        (Slice (below_payload m bus) (short_width m bus) (Signal Whole))) 32
    by true is = subst (λ (n : ℕ). Fits m (Slice (below_payload m bus) (short_width m bus) (Signal Whole)) n)
        (eqb-true (short_width m bus) 32 is) own
    by false is =
        let n = narrow m bus rules less in let most = n.short in
        subst (λ (n : ℕ). Fits m
        (Join (short_width m bus) (Const (32 - short_width m bus) high) (Slice (below_payload m bus) (short_width m bus) (Signal Whole))) n)
        (omega (arith, most))
        (join m (short_width m bus) (32 - short_width m bus) _ _
        (const m (32 - short_width m bus) high (lt-ltb 0 (32 - short_width m bus) (room_above (short_width m bus) most is)) small) own)

  short_fits : (bus : ℕ) → bus < length m.buses → Fits m (short_part m (Signal Whole) bus) 32
  short_fits bus less = by (is_signed m bus) where
    some : 0 < 2 ^ (32 - short_width m bus)
    some = pow_pos (32 - short_width m bus)

    by : (b : Bool) → Fits m (if b
        then Select (Slice (below_payload m bus + (short_width m bus - 1)) 1 (Signal Whole))
        (with_high m (Signal Whole) bus (2 ^ (32 - short_width m bus) - 1)) (with_high m (Signal Whole) bus 0)
        else with_high m (Signal Whole) bus 0) 32
    by true =
        let r = room bus less in let n = narrow m bus rules less in let least = n.some_short in let s = some in
        select m 32 _ _ _
        (slice m (below_payload m bus + (short_width m bus - 1)) 1 Whole word_bits (omega arith) (omega (arith, r, least)))
        (high_fits bus (2 ^ (32 - short_width m bus) - 1) less (omega (arith, s))) (high_fits bus 0 less some)
    by false = high_fits bus 0 less some

  -- ---- all fields

  pub field_fits : (f : Field) → has_field m f ≡ true → Fits m (fetched m f) (field_width m f)
  field_fits (GuardOf bus) has =
      let p = and_parts (nat_lt bus (length m.buses)) (nat_lt 0 (guard_width m bus)) has in
      let r = room bus (ltb-true bus (length m.buses) p.0) in
      slice m (below_guard m bus) (guard_width m bus) Whole word_bits (ltb-true 0 (guard_width m bus) p.1) (omega (arith, r))
  field_fits (IsShort bus) has =
      let r = room bus (ltb-true bus (length m.buses) has) in
      slice m (below_tag m bus) 1 Whole word_bits (omega arith) (omega (arith, r))
  field_fits (SourceOf bus) has =
      let less = ltb-true bus (length m.buses) has in let r = room bus less in
      slice m (below_payload m bus) (payload_width m bus) Whole word_bits (payload_some m bus rules less) (omega (arith, r))
  field_fits (ShortOf bus) has = short_fits bus (ltb-true bus (length m.buses) has)
  field_fits (DestOf bus) has =
      let p = and_parts (nat_lt bus (length m.buses)) (nat_lt 0 (dest_width m bus)) has in
      let r = room bus (ltb-true bus (length m.buses) p.0) in
      select m (dest_width m bus) _ _ _ (takes_fits bus 0 m.templates (omega arith))
      (const m (dest_width m bus) 0 p.1 (pow_pos (dest_width m bus)))
      (slice m (below_bus m bus) (dest_width m bus) Whole word_bits (ltb-true 0 (dest_width m bus) p.1) (omega (arith, r)))
  field_fits TemplateOf has = template_fits (ltb-true 0 (template_width m) has)
  field_fits LongOf has = long_fits 0 m.templates (omega arith) rules.wide

pub fields_are_sized : FieldsAreSized
fields_are_sized m rules = field_fits m rules
