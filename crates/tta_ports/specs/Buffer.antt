-- A sink in memory, some of whose puts are to fail.
use Rattle.std.specs.Prelude.{ℕ, ◌-◌, ◌/◌, ◌==◌, ◌||◌, nat_lt, min, if◌then◌else◌, Bool, List, [], ◌++◌, length, take}
use Rattle.std.specs.List.{list_any}
use Rattle.tta_ports.specs.Faults.{next_count}

-- the bytes taken, how many there is room for, the numbers of the puts that are to fail, and how many
-- puts and how many faults there were
pub record Buffer : Type 0 where
  pub taken : List ℕ
  pub room : ℕ
  pub failing : List ℕ
  pub puts : ℕ
  pub faults : ℕ

-- nothing taken yet
abbrev pub new_buffer : ℕ → List ℕ → Buffer
new_buffer room failing =
    record { taken = []; room = room; failing = failing; puts = 0; faults = 0 }

-- whether the next put, whose number is one more than those before, is to fail
abbrev pub put_is_failing : Buffer → Bool
put_is_failing b = list_any (λ n. n == next_count b.puts) b.failing

-- how many more bytes fit
abbrev pub free : Buffer → ℕ
free b = b.room - length b.taken

-- a put fails where it is to, and where the bytes go past the room
abbrev pub put_fails : Buffer → List ℕ → Bool
put_fails b bytes = put_is_failing b || nat_lt (free b) (length bytes)

-- it takes the bytes, or their first half, rounded down, where it is to fail; and no more than fits
abbrev pub taken_count : Buffer → List ℕ → ℕ
taken_count b bytes = min (if put_is_failing b then length bytes / 2 else length bytes) (free b)

-- one more put
abbrev pub put_counted : Buffer → Buffer
put_counted b = record b { puts = next_count b.puts }

-- after a put
abbrev pub after_put : List ℕ → Buffer → Buffer
after_put bytes b = record {
  taken = b.taken ++ take (taken_count b bytes) bytes;
  room = b.room;
  failing = b.failing;
  puts = next_count b.puts;
  faults = if put_fails b bytes then next_count b.faults else b.faults;
}
