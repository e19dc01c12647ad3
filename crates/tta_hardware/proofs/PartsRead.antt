-- The fields of a word read only what the word reads.
use Rattle.std.proofs.Common.{◌≡◌, ℕ, zero, suc, ◌+◌, ◌-◌, ◌^◌, ◌==◌, min, Bool, true, false, ◌&&◌, nat_lt, if◌then◌else◌, List, [], ◌∷◌, length, refl}
use Rattle.std.proofs.lemmas.Bool.{and_from}
use Rattle.tta_hardware.specs.Cited.{Template, Machine, has_bit, bus_width, short_width, is_signed, Expr, Const, Slice, Join, Select, Either, reads_below}
use Rattle.tta_hardware.specs.Signals.{Field, GuardOf, IsShort, SourceOf, ShortOf, DestOf, TemplateOf, LongOf}
use Rattle.tta_hardware.specs.Parts.{buses_width, long_width, below_payload, above, template_part, has_template, takes_from, shares_from, long_from, with_high, short_part, field_part}

module _ {N M : Type 0} (rank : N → ℕ) (k : ℕ) (m : Machine) (word : Expr N M) (reads : reads_below rank k word ≡ true) where
  of_template : (t : ℕ) → reads_below rank k (has_template m word t) ≡ true
  of_template t = and_from (reads_below rank k (template_part m word)) true reads refl

  of_takes : (bus t : ℕ) (ts : List Template) → reads_below rank k (takes_from m word bus t ts) ≡ true
  of_takes bus t [] = refl
  of_takes bus t (x ∷ ts) = by (has_bit x.buses bus) (of_takes bus (t + 1) ts) where
    rest : Expr N M
    rest = takes_from m word bus (t + 1) ts

    by : (b : Bool) → reads_below rank k rest ≡ true → reads_below rank k (if b then Either (has_template m word t) rest else rest) ≡ true
    by true more = and_from (reads_below rank k (has_template m word t)) (reads_below rank k rest) (of_template t) more
    by false more = more

  -- a part with bits below it
  of_above : (left low width : ℕ) (rest : Expr N M) → reads_below rank k rest ≡ true
      → reads_below rank k (above word left low width rest) ≡ true
  of_above left low width rest more = by (left == 0) where
    by : (b : Bool) → reads_below rank k (if b then Slice low width word else Join left (Slice low width word) rest) ≡ true
    by true = reads
    by false = and_from (reads_below rank k word) (reads_below rank k rest) reads more

  of_shares : (taken bus count : ℕ) → reads_below rank k (shares_from m word taken bus count) ≡ true
  of_shares taken bus zero = refl
  of_shares taken bus (suc count) =
      by (has_bit taken bus && nat_lt (long_width m taken (bus + 1) count) 32) (of_shares taken (bus + 1) count) where
        left : ℕ
        left = long_width m taken (bus + 1) count

        rest : Expr N M
        rest = shares_from m word taken (bus + 1) count

        by : (b : Bool) → reads_below rank k rest ≡ true
            → reads_below rank k
            (if b then above word left (buses_width m (bus + 1) count) (min (bus_width m bus) (32 - left)) rest else rest) ≡ true
        by true more = of_above left (buses_width m (bus + 1) count) (min (bus_width m bus) (32 - left)) rest more
        by false more = more

  of_longs : (t : ℕ) (ts : List Template) → reads_below rank k (long_from m word t ts) ≡ true
  of_longs t [] = refl
  of_longs t (x ∷ ts) =
      let own : Expr N M = shares_from m word x.buses 0 (length m.buses) in
      let rest : Expr N M = long_from m word (t + 1) ts in
      and_from (reads_below rank k (has_template m word t)) (reads_below rank k own && reads_below rank k rest) (of_template t)
      (and_from (reads_below rank k own) (reads_below rank k rest) (of_shares x.buses 0 (length m.buses)) (of_longs (t + 1) ts))

  of_high : (bus high : ℕ) → reads_below rank k (with_high m word bus high) ≡ true
  of_high bus high = by (short_width m bus == 32) where
    own : Expr N M
    own = Slice (below_payload m bus) (short_width m bus) word

    by : (b : Bool) → reads_below rank k (if b then own else Join (short_width m bus) (Const (32 - short_width m bus) high) own) ≡ true
    by true = reads
    by false = reads

  of_short : (bus : ℕ) → reads_below rank k (short_part m word bus) ≡ true
  of_short bus = by (is_signed m bus) where
    ones : ℕ
    ones = 2 ^ (32 - short_width m bus) - 1

    by : (b : Bool)
        → reads_below rank k (if b
        then Select (Slice (below_payload m bus + (short_width m bus - 1)) 1 word) (with_high m word bus ones) (with_high m word bus 0)
        else with_high m word bus 0)
        ≡ true
    by true =
        and_from (reads_below rank k word) (reads_below rank k (with_high m word bus ones) && reads_below rank k (with_high m word bus 0))
        reads
        (and_from (reads_below rank k (with_high m word bus ones)) (reads_below rank k (with_high m word bus 0)) (of_high bus ones)
        (of_high bus 0))
    by false = of_high bus 0

  -- a field reads what the word reads
  pub field_reads : (f : Field) → reads_below rank k (field_part m word f) ≡ true
  field_reads (GuardOf bus) = reads
  field_reads (IsShort bus) = reads
  field_reads (SourceOf bus) = reads
  field_reads (ShortOf bus) = of_short bus
  field_reads (DestOf bus) =
      and_from (reads_below rank k (takes_from m word bus 0 m.templates)) (reads_below rank k word) (of_takes bus 0 m.templates) reads
  field_reads TemplateOf = reads
  field_reads LongOf = of_longs 0 m.templates
