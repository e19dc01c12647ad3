-- What `build` chooses on a machine, or the first rule that the machine breaks.
use Rattle.std.specs.Prelude.{ℕ, ◌==◌, if◌then◌else◌, List, [], ◌++◌, Option, Some, None, codes}
use Rattle.std.specs.Option.{option_map_or}
use Rattle.std.specs.List.{flat_map, enumerate_from}
use Rattle.tta_arch.specs.declared.parts.Unit.{Unit as OpUnit}
use Rattle.tta_arch.specs.Machine.{Machine}
use Rattle.tta_disasm.specs.Canonical.{file_name, place_text}
use Rattle.tta_connect.specs.Coverage.{failed_rule, guard_register, homes_of, hub_of, is_usable_at}
use Rattle.tta_info.specs.Lines.{count_text, named_if, start_text}

-- what a rule of coverage asks
unfoldable pub rule_words : ℕ → List ℕ
rule_words rule =
    if rule == 1 then codes "no file of 32 bits with three registers or more is joined to itself"
    else if rule == 2 then codes "not every word of 32 bits reaches the hub"
    else if rule == 3 then codes "the hub is not joined to gcu.t, or no register of one bit can guard moves to it and within the hub"
    else if rule == 4 then codes "gcu.ra is not joined to the hub"
    else codes "no usable units offer both ldf and stf"

-- the first rule that a machine breaks
unfoldable pub refused_text : (rule : ℕ) → List ℕ
refused_text rule = count_text (codes "rule ") rule ++ start_text (codes " fails: ") (rule_words rule) (codes "\n")

-- the register that keeps conditions
unfoldable pub guard_text : Machine → ℕ × ℕ → List ℕ
guard_text m g = codes "guard " ++ (place_text (file_name m g.0) g.1 ++ codes "\n")

-- a register with a blank before it
unfoldable pub home_text : Machine → ℕ × ℕ → List ℕ
home_text m r = codes " " ++ place_text (file_name m r.0) r.1

-- the registers in which variables live
unfoldable pub homes_text : Machine → List (ℕ × ℕ) → List ℕ
homes_text m homes = codes "homes" ++ (flat_map (home_text m) homes ++ codes "\n")

-- the usable ones of some units, which are numbered from 0
abbrev pub usable_names : Machine → (hub : ℕ) → List OpUnit → List ℕ
usable_names m hub units = flat_map (λ q. named_if (is_usable_at m hub q.0) q.1.name []) (enumerate_from 0 units)

-- the usable units
unfoldable pub usable_text : Machine → (hub : ℕ) → List ℕ
usable_text m hub = codes "units" ++ (usable_names m hub m.units ++ codes "\n")

-- what is chosen on a machine with this hub and this register for conditions
unfoldable pub choice_text : Machine → (hub : ℕ) → (guard : ℕ × ℕ) → List ℕ
choice_text m hub guard =
    start_text (codes "hub ") (file_name m hub) (codes "\n")
    ++ (guard_text m guard ++ (homes_text m (homes_of m hub) ++ usable_text m hub))

-- the same of a machine that breaks no rule
abbrev pub chosen_text : Machine → List ℕ
chosen_text m = option_map_or (λ hub. option_map_or (choice_text m hub) (guard_register m hub) []) (hub_of m) []

-- what is chosen, or the rule that is broken
abbrev pub build_text : Machine → List ℕ
build_text m = with_rule (failed_rule m) where
  with_rule : Option ℕ → List ℕ
  with_rule (Some rule) = refused_text rule
  with_rule None = chosen_text m
