-- A text can say a queue.
use Rattle.std.proofs.Common.{◌≡◌, ℕ, ◌+◌, ◌^◌, ◌<◌, ◌==◌, true, ◌&&◌, nat_lt, nat_le, refl, sym, ap, ◌∙◌, arith}
use Rattle.std.specs.Prelude.{if◌then◌else◌}
use Rattle.std.proofs.lemmas.Bool.{eqb-true, eq-eqb, lt-ltb, le-leb, and_from}
use Rattle.std.proofs.lemmas.Nat.{pow_pos}
use Rattle.tta_circuit.specs.Circuit.{Expr, Const, Signal, Slice, Select, Both, Equal, Plus, Minus, Read}
use Rattle.tta_circuit.specs.Plain.{IsWritten, IsPlain}
use Rattle.tta_circuit.specs.Closed.{IsClosed}
use Rattle.tta_circuit.specs.Laws.{TellsApart}
use Rattle.tta_queue.specs.Queue.{Pin, InValid, InData, OutReady, IsReset, Head, Tail, Fill, InReady, OutValid, OutData, Takes, Gives, NextHead, Passes, Store, Words, number, same_pin, same_store, queue_of, unless_filled, pin_width, store_width}
use Rattle.tta_queue.specs.Laws.{QueueIsSaid}
use Rattle.tta_queue.proofs.Round.{twice}

-- ---- names

-- the signal of a number
abbrev pin_of : ℕ → Pin
pin_of n =
    if n == 0 then InValid else if n == 1 then InData else if n == 2 then OutReady else if n == 3 then IsReset
    else if n == 4 then Head else if n == 5 then Tail else if n == 6 then Fill else if n == 7 then InReady
    else if n == 8 then OutValid else if n == 9 then OutData else if n == 10 then Takes else if n == 11 then Gives
    else if n == 12 then NextHead else Passes

pin_is : (p : Pin) → pin_of (number p) ≡ p
pin_is InValid = refl
pin_is InData = refl
pin_is OutReady = refl
pin_is IsReset = refl
pin_is Head = refl
pin_is Tail = refl
pin_is Fill = refl
pin_is InReady = refl
pin_is OutValid = refl
pin_is OutData = refl
pin_is Takes = refl
pin_is Gives = refl
pin_is NextHead = refl
pin_is Passes = refl

pins_apart : TellsApart same_pin
pins_apart = record {
  is = λ a b same. sym (pin_is a) ∙ ap pin_of (eqb-true (number a) (number b) same) ∙ pin_is b;
  itself = λ a. eq-eqb (number a) (number a) refl;
}

stores_apart : TellsApart same_store
stores_apart = record { is = one; itself = λ a. refl } where
  one : (a b : Store) → same_store a b ≡ true → a ≡ b
  one Words Words same = refl

-- ---- what it reads

closed : (k width : ℕ) → IsClosed same_pin (queue_of k width)
closed k width = record {
  wires = (refl, (refl, (refl, (refl, (refl, (refl, (refl, tt)))))));
  registers = ((refl, refl), ((refl, refl), ((refl, refl), tt)));
  memories = ((refl, (refl, refl)), tt);
}

-- ---- widths

-- the least powers of two
pow_two : (k : ℕ) → 1 < 2 ^ (1 + k)
pow_two k = omega (arith, twice k, pow_pos k)

module _ (k width : ℕ) (some : 0 < k) (bits : 0 < width) where
  abbrev IsWrittenHere : Expr Pin Store → ℕ → Type 0
  IsWrittenHere = IsWritten (pin_width k width) (store_width width)

  -- how wide pointers are
  wide : nat_lt 0 (1 + k) ≡ true
  wide = lt-ltb 0 (1 + k) (omega arith)

  alike : (1 + k == 1 + k) ≡ true
  alike = eq-eqb (1 + k) (1 + k) refl

  two_wide : (nat_lt 0 (1 + k) && nat_lt 0 (1 + k)) ≡ true
  two_wide = and_from (nat_lt 0 (1 + k)) (nat_lt 0 (1 + k)) wide wide

  two_alike : ((1 + k == 1 + k) && (1 + k == 1 + k)) ≡ true
  two_alike = and_from (1 + k == 1 + k) (1 + k == 1 + k) alike alike

  bit_written : (p : Pin) → pin_width k width p ≡ 1 → IsWrittenHere (Signal p) 1
  bit_written p is = record { plain = ap (nat_lt 0) is; sized = refl; wide = is }

  fill_written : IsWrittenHere (Minus (1 + k) (Signal Tail) (Signal Head)) (1 + k)
  fill_written = record {
    plain = two_wide;
    sized = and_from ((1 + k == 1 + k) && (1 + k == 1 + k)) true two_alike refl;
    wide = refl;
  }

  unless_written : (count : ℕ) → count < 2 ^ (1 + k) → IsWrittenHere (unless_filled k count) 1
  unless_written count less = record {
    plain = two_wide;
    sized = and_from (1 + k == 1 + k) (nat_lt count (2 ^ (1 + k))) alike (lt-ltb count (2 ^ (1 + k)) less);
    wide = refl;
  }

  -- an address is a part of a pointer
  part_plain : (nat_lt 0 k && nat_lt 0 (1 + k)) ≡ true
  part_plain = and_from (nat_lt 0 k) (nat_lt 0 (1 + k)) (lt-ltb 0 k some) wide

  part_sized : (nat_le (0 + k) (1 + k) && true) ≡ true
  part_sized = and_from (nat_le (0 + k) (1 + k)) true (le-leb (0 + k) (1 + k) (omega arith)) refl

  -- where the first word stands afterwards
  one_more_sized : (((1 + k == 1 + k) && (1 + k == 1 + k)) && (true && nat_lt 1 (2 ^ (1 + k)))) ≡ true
  one_more_sized =
      and_from ((1 + k == 1 + k) && (1 + k == 1 + k)) (nat_lt 1 (2 ^ (1 + k))) two_alike (lt-ltb 1 (2 ^ (1 + k)) (pow_two k))

  head_written : IsWrittenHere (Select (Signal Gives) (Plus (1 + k) (Signal Head) (Const (1 + k) 1)) (Signal Head)) (1 + k)
  head_written = record {
    plain = and_from (nat_lt 0 (1 + k) && nat_lt 0 (1 + k)) (nat_lt 0 (1 + k)) two_wide wide;
    sized =
        and_from (1 + k == 1 + k) ((((1 + k == 1 + k) && (1 + k == 1 + k)) && (true && nat_lt 1 (2 ^ (1 + k)))) && true) alike
        (and_from (((1 + k == 1 + k) && (1 + k == 1 + k)) && (true && nat_lt 1 (2 ^ (1 + k)))) true one_more_sized refl);
    wide = refl;
  }

  passes_written : IsWrittenHere (Both (Signal Takes) (Equal (Slice 0 k (Signal Tail)) (Slice 0 k (Signal NextHead)))) 1
  passes_written = record {
    plain = and_from (nat_lt 0 k && nat_lt 0 (1 + k)) (nat_lt 0 k && nat_lt 0 (1 + k)) part_plain part_plain;
    sized =
        and_from (k == k) ((nat_le (0 + k) (1 + k) && true) && (nat_le (0 + k) (1 + k) && true)) (eq-eqb k k refl)
        (and_from (nat_le (0 + k) (1 + k) && true) (nat_le (0 + k) (1 + k) && true) part_sized part_sized);
    wide = refl;
  }

  front_written : IsWrittenHere (Select (Signal Passes) (Signal InData) (Read Words (Slice 0 k (Signal NextHead)))) width
  front_written =
      let bits_test : nat_lt 0 width ≡ true = lt-ltb 0 width bits in
      record {
        plain =
            and_from (nat_lt 0 width) (nat_lt 0 width && (nat_lt 0 k && nat_lt 0 (1 + k))) bits_test
            (and_from (nat_lt 0 width) (nat_lt 0 k && nat_lt 0 (1 + k)) bits_test part_plain);
        sized = and_from (width == width) (nat_le (0 + k) (1 + k) && true) (eq-eqb width width refl) part_sized;
        wide = refl;
      }

  -- what a pointer becomes
  next_plain : (nat_lt 0 (1 + k) && (nat_lt 0 (1 + k) && nat_lt 0 (1 + k))) ≡ true
  next_plain = and_from (nat_lt 0 (1 + k)) (nat_lt 0 (1 + k) && nat_lt 0 (1 + k)) wide two_wide

  next_sized : ((1 + k == 1 + k)
      && (nat_lt 0 (2 ^ (1 + k)) && (((1 + k == 1 + k) && (1 + k == 1 + k)) && nat_lt 1 (2 ^ (1 + k))))) ≡ true
  next_sized =
      and_from (1 + k == 1 + k)
      (nat_lt 0 (2 ^ (1 + k)) && (((1 + k == 1 + k) && (1 + k == 1 + k)) && nat_lt 1 (2 ^ (1 + k)))) alike
      (and_from (nat_lt 0 (2 ^ (1 + k))) (((1 + k == 1 + k) && (1 + k == 1 + k)) && nat_lt 1 (2 ^ (1 + k)))
      (lt-ltb 0 (2 ^ (1 + k)) (pow_pos (1 + k)))
      (and_from ((1 + k == 1 + k) && (1 + k == 1 + k)) (nat_lt 1 (2 ^ (1 + k))) two_alike (lt-ltb 1 (2 ^ (1 + k)) (pow_two k))))

  plain : IsPlain (pin_width k width) (store_width width) (queue_of k width)
  plain = record {
    inputs = ((omega arith, refl), ((bits, refl), ((omega arith, refl), ((omega arith, refl), tt))));
    wires = (
      record { some = omega arith; wide = refl; word = fill_written },
      (
        record { some = omega arith; wide = refl; word = unless_written (2 ^ k) (omega (arith, twice k, pow_pos k)) },
        (
          record { some = omega arith; wide = refl; word = unless_written 0 (pow_pos (1 + k)) },
          (
            record { some = omega arith; wide = refl; word = record { plain = refl; sized = refl; wide = refl } },
            (
              record { some = omega arith; wide = refl; word = record { plain = refl; sized = refl; wide = refl } },
              (
                record { some = omega arith; wide = refl; word = head_written },
                (record { some = omega arith; wide = refl; word = passes_written }, tt),
              ),
            ),
          ),
        ),
      ),
    );
    registers = (
      record {
        some = omega arith;
        wide = refl;
        enable = record { plain = refl; sized = refl; wide = refl };
        next = record { plain = next_plain; sized = next_sized; wide = refl };
      },
      (
        record {
          some = omega arith;
          wide = refl;
          enable = record { plain = refl; sized = refl; wide = refl };
          next = record { plain = next_plain; sized = next_sized; wide = refl };
        },
        (record { some = bits; wide = refl; enable = record { plain = refl; sized = refl; wide = refl }; next = front_written }, tt),
      ),
    );
    memories = (
      record {
        some = bits;
        wide = refl;
        port = record {
          enable = bit_written Takes refl;
          address = record { plain = part_plain; sized = part_sized; wide = refl };
          word = record { plain = lt-ltb 0 width bits; sized = refl; wide = refl };
        };
      },
      tt,
    );
  }

pub queue_is_said : QueueIsSaid
queue_is_said k width some bits = record {
  pins = pins_apart;
  stores = stores_apart;
  apart = refl;
  order = refl;
  closed = closed k width;
  plain = plain k width some bits;
}
