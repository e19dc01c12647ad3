-- The rules and the choices on machines of one bus and of three.
use Rattle.std.specs.Prelude.{◌≡◌, [], ◌∷◌, ◌++◌, Some, None, true, false, codes, refl}
use Rattle.tta_connect.specs.Cited.{Machine}
use Rattle.tta_arch.specs.declared.ends.Source.TheVariants as source
use Rattle.tta_arch.specs.declared.ends.Dest.TheVariants as dest
use Rattle.tta_arch.proofs.Samples.{one_bus, three_buses}
use Rattle.tta_connect.specs.declared.way.Way.TheVariants.{Direct}
use Rattle.tta_connect.specs.Coverage.{hub_of, has_words, guard_register, is_usable_at, homes_of, failed_rule, registers_from}
use Rattle.tta_connect.specs.Ways.{way}

-- ---- three buses

pub covered : failed_rule three_buses ≡ None
covered = refl

pub covered-hub : hub_of three_buses ≡ Some 0
covered-hub = refl

pub covered-guard : guard_register three_buses 0 ≡ Some (2, 0)
covered-guard = refl

pub covered-homes : homes_of three_buses 0 ≡ registers_from 0 3 5 ++ registers_from 1 0 8
covered-homes = refl

covered-output_unit : is_usable_at three_buses 0 3 ≡ true
covered-output_unit = refl

-- there is no fifth unit
covered-no_unit : is_usable_at three_buses 0 4 ≡ false
covered-no_unit = refl

-- a short word goes at once, and one that no short field holds goes nowhere by itself
short-way : way three_buses 0 (source.Value 7) (dest.Reg 1 0) None ≡ Some Direct
short-way = refl

long-way : way three_buses 0 (source.Value 100000) (dest.Reg 1 0) None ≡ None
long-way = refl

-- ---- without home registers

-- the hub has its three scratch registers alone, and there is no second file of words
abbrev homeless : Machine
homeless = record three_buses {
  files = record { name = codes "R"; width = 32; size = 3; read = 2; write = 2; out = 1; into = 0 }
      ∷ record { name = codes "G"; width = 1; size = 2; read = 1; write = 1; out = 1; into = 0 }
      ∷ [];
  guards = record { bus = 0; on = record { file = 1; index = 0; inverted = false } }
      ∷ record { bus = 0; on = record { file = 1; index = 0; inverted = true } }
      ∷ record { bus = 1; on = record { file = 1; index = 0; inverted = false } }
      ∷ record { bus = 1; on = record { file = 1; index = 0; inverted = true } }
      ∷ [];
  templates = record { name = codes "L"; imm = 0; reg = 0; buses = 7 } ∷ [];
}

homeless-covered : failed_rule homeless ≡ None
homeless-covered = refl

homeless-hub : hub_of homeless ≡ Some 0
homeless-hub = refl

homeless-guard : guard_register homeless 0 ≡ Some (1, 0)
homeless-guard = refl

homeless-homes : homes_of homeless 0 ≡ []
homeless-homes = refl

-- ---- refused machines

-- without a register file there is no hub
pub hubless : failed_rule one_bus ≡ Some 1
hubless = refl

-- with the second condition plain in place of the first one inverted, no register has both senses
abbrev plain_guards : Machine
plain_guards = record three_buses {
  guards = record { bus = 0; on = record { file = 2; index = 0; inverted = false } }
      ∷ record { bus = 0; on = record { file = 2; index = 1; inverted = false } }
      ∷ record { bus = 1; on = record { file = 2; index = 0; inverted = false } }
      ∷ record { bus = 1; on = record { file = 2; index = 1; inverted = false } }
      ∷ [];
}

guardless : failed_rule plain_guards ≡ Some 3
guardless = refl

-- without a template, and with no short field of 32 bits, not every word reaches the hub
abbrev short_words : Machine
short_words = record three_buses { templates = [] }

wordless : has_words short_words 0 ≡ false
wordless = refl

wordless-fails : failed_rule short_words ≡ Some 2
wordless-fails = refl

-- where the return address cannot be read, the fourth rule fails
abbrev no_return : Machine
no_return = record three_buses { control = record { delay = 2; address = 12; trigger = 2; ra = None } }

returnless : failed_rule no_return ≡ Some 4
returnless = refl
