-- The sources and the destinations of a machine stand in the order of their ranks.
use Rattle.std.proofs.Common.{◌≡◌, ℕ, ◌+◌, ◌*◌, ◌≤◌, Bool, true, List, [], ◌∷◌, ◌++◌, length, map, Option, Some, None, refl, arith}
use Rattle.std.specs.Option.{option_map_or}
use Rattle.std.specs.List.{flat_map, enumerate_from, list_all, AllByRecursion}
use Rattle.std.proofs.lemmas.Bool.{and_parts}
use Rattle.tta_image.specs.Cited.{File, ImmUnit, Source, Dest, Machine, numbers, all_sources, all_dests, sources_on, dests_on, is_source_on, is_dest_on, IsMachine, is_file, is_imm, is_unit}
use Rattle.tta_arch.specs.declared.parts.Unit.{Unit as OpUnit}
use Rattle.tta_arch.specs.declared.ends.Source.TheVariants as source
use Rattle.tta_arch.specs.declared.ends.Dest.TheVariants as dest
use Rattle.tta_arch.proofs.Sizes.{small_file, small_imm, small_unit}
use Rattle.tta_image.specs.Ranks.{source_rank, dest_rank, Rising}
use Rattle.tta_image.proofs.Rising.{rising_lower, rising_raise, rising-append, rising-filter, rising-range, rising-pieces}

-- ---- what the rules say of sizes

all_from : {X : Type 0} (p : X → Bool) (P : X → Type 0) (xs : List X) → ((x : X) → p x ≡ true → P x) → list_all p xs ≡ true → AllByRecursion P xs
all_from p P [] one h = tt
all_from p P (x ∷ xs) one h = let parts = and_parts (p x) (list_all p xs) h in (one x parts.0, all_from p P xs one parts.1)

any_unit : (units : List OpUnit) → AllByRecursion (λ u. 0 ≤ length u.ops) units
any_unit [] = tt
any_unit (u ∷ units) = (omega arith, any_unit units)

-- ---- sources

one_file_source : (k : ℕ) (f : File) → f.size ≤ 64 → Rising source_rank (0 + k * 256) (map (source.Reg k) (numbers f.size)) (0 + (k + 1) * 256)
one_file_source k f small =
    let r = rising-range source_rank (source.Reg k) (k * 256) 0 f.size (λ i. refl) in
    rising_raise source_rank (0 + k * 256) (k * 256 + (0 + f.size)) (0 + (k + 1) * 256) (map (source.Reg k) (numbers f.size)) (omega arith)
    (rising_lower source_rank (k * 256 + 0) (0 + k * 256) (map (source.Reg k) (numbers f.size)) (k * 256 + (0 + f.size)) (omega arith) r)

one_imm_source : (k : ℕ) (u : ImmUnit) → u.size ≤ 16 → Rising source_rank (4096 + k * 256) (map (source.Imm k) (numbers u.size)) (4096 + (k + 1) * 256)
one_imm_source k u small =
    let r = rising-range source_rank (source.Imm k) (4096 + k * 256) 0 u.size (λ i. refl) in
    rising_raise source_rank (4096 + k * 256) (4096 + k * 256 + (0 + u.size)) (4096 + (k + 1) * 256) (map (source.Imm k) (numbers u.size)) (omega arith)
    (rising_lower source_rank (4096 + k * 256 + 0) (4096 + k * 256) (map (source.Imm k) (numbers u.size)) (4096 + k * 256 + (0 + u.size)) (omega arith) r)

one_result : (k : ℕ) (u : OpUnit) → Rising source_rank (8192 + k * 1) (option_map_or (λ r. source.Shown k ∷ []) u.result []) (8192 + (k + 1) * 1)
one_result k u = by u.result where
  by : (o : Option ℕ) → Rising source_rank (8192 + k * 1) (option_map_or (λ r. source.Shown k ∷ []) o []) (8192 + (k + 1) * 1)
  by None = omega arith
  by (Some r) = (omega arith, omega arith)

ra_source : (o : Option ℕ) → Rising source_rank 16384 (option_map_or (λ r. source.Ra ∷ []) o []) 16385
ra_source None = omega arith
ra_source (Some r) = (omega arith, omega arith)

-- all sources but short words
pub sources_rise : (m : Machine) → IsMachine m → Rising source_rank 0 (all_sources m) 16385
sources_rise m rules =
    let limits = rules.limits in
    let few_files = limits.files in let few_imms = limits.imms in let few_units = limits.units in
    let files = rising-pieces source_rank (λ (f : ℕ × File). map (source.Reg f.0) (numbers f.1.size)) (λ (f : File). f.size ≤ 64) 0 256 0 m.files one_file_source
    (all_from (is_file m.sockets) (λ (f : File). f.size ≤ 64) m.files (small_file m.sockets) rules.files) in
    let imms = rising-pieces source_rank (λ (u : ℕ × ImmUnit). map (source.Imm u.0) (numbers u.1.size)) (λ (u : ImmUnit). u.size ≤ 16) 4096 256 0 m.imms one_imm_source
    (all_from (is_imm m.sockets) (λ (u : ImmUnit). u.size ≤ 16) m.imms (small_imm m.sockets) rules.imms) in
    let results = rising-pieces source_rank (λ (u : ℕ × OpUnit). option_map_or (λ r. source.Shown u.0 ∷ []) u.1.result []) (λ (u : OpUnit). 0 ≤ length u.ops) 8192 1 0 m.units
    (λ k u h. one_result k u) (any_unit m.units) in
    let fs : List Source = flat_map (λ (f : ℕ × File). map (source.Reg f.0) (numbers f.1.size)) (enumerate_from 0 m.files) in
    let is : List Source = flat_map (λ (u : ℕ × ImmUnit). map (source.Imm u.0) (numbers u.1.size)) (enumerate_from 0 m.imms) in
    let rs : List Source = flat_map (λ (u : ℕ × OpUnit). option_map_or (λ r. source.Shown u.0 ∷ []) u.1.result []) (enumerate_from 0 m.units) in
    let files' = rising_raise source_rank 0 (0 + (0 + length m.files) * 256) 4096 fs (omega arith) (rising_lower source_rank (0 + 0 * 256) 0 fs (0 + (0 + length m.files) * 256) (omega arith) files) in
    let imms' = rising_raise source_rank 4096 (4096 + (0 + length m.imms) * 256) 8192 is (omega arith)
    (rising_lower source_rank (4096 + 0 * 256) 4096 is (4096 + (0 + length m.imms) * 256) (omega arith) imms) in
    let results' = rising_raise source_rank 8192 (8192 + (0 + length m.units) * 1) 16384 rs (omega arith)
    (rising_lower source_rank (8192 + 0 * 1) 8192 rs (8192 + (0 + length m.units) * 1) (omega arith) results) in
    rising-append source_rank 0 16384 16385 (fs ++ is ++ rs) (option_map_or (λ r. source.Ra ∷ []) m.control.ra [])
    (rising-append source_rank 0 8192 16384 (fs ++ is) rs (rising-append source_rank 0 4096 8192 fs is files' imms') results')
    (ra_source m.control.ra)

-- ---- destinations

one_file_dest : (k : ℕ) (f : File) → f.size ≤ 64 → Rising dest_rank (0 + k * 256) (map (dest.Reg k) (numbers f.size)) (0 + (k + 1) * 256)
one_file_dest k f small =
    let r = rising-range dest_rank (dest.Reg k) (k * 256) 0 f.size (λ i. refl) in
    rising_raise dest_rank (0 + k * 256) (k * 256 + (0 + f.size)) (0 + (k + 1) * 256) (map (dest.Reg k) (numbers f.size)) (omega arith)
    (rising_lower dest_rank (k * 256 + 0) (0 + k * 256) (map (dest.Reg k) (numbers f.size)) (k * 256 + (0 + f.size)) (omega arith) r)

one_operand : (k : ℕ) (o : Option ℕ) → Rising dest_rank (4096 + k * 256) (option_map_or (λ r. dest.Operand k ∷ []) o []) (4096 + k * 256 + 1)
one_operand k None = omega arith
one_operand k (Some r) = (omega arith, omega arith)

one_unit : (k : ℕ) (u : OpUnit) → length u.ops ≤ 32
    → Rising dest_rank (4096 + k * 256) (option_map_or (λ o. dest.Operand k ∷ []) u.operand [] ++ map (dest.Trigger k) (numbers (length u.ops))) (4096 + (k + 1) * 256)
one_unit k u small =
    let r = rising-range dest_rank (dest.Trigger k) (4096 + k * 256 + 1) 0 (length u.ops) (λ i. refl) in
    let ops : List Dest = map (dest.Trigger k) (numbers (length u.ops)) in
    let triggers = rising_raise dest_rank (4096 + k * 256 + 1) (4096 + k * 256 + 1 + (0 + length u.ops)) (4096 + (k + 1) * 256) ops (omega arith)
    (rising_lower dest_rank (4096 + k * 256 + 1 + 0) (4096 + k * 256 + 1) ops (4096 + k * 256 + 1 + (0 + length u.ops)) (omega arith) r) in
    rising-append dest_rank (4096 + k * 256) (4096 + k * 256 + 1) (4096 + (k + 1) * 256) (option_map_or (λ o. dest.Operand k ∷ []) u.operand []) ops (one_operand k u.operand) triggers

control_dests : Rising dest_rank 16384 (dest.Jump ∷ dest.Call ∷ dest.Halt ∷ []) 16387
control_dests = (omega arith, (omega arith, (omega arith, omega arith)))

pub dests_rise : (m : Machine) → IsMachine m → Rising dest_rank 0 (all_dests m) 16387
dests_rise m rules =
    let limits = rules.limits in
    let few_files = limits.files in let few_units = limits.units in
    let files = rising-pieces dest_rank (λ (f : ℕ × File). map (dest.Reg f.0) (numbers f.1.size)) (λ (f : File). f.size ≤ 64) 0 256 0 m.files one_file_dest
    (all_from (is_file m.sockets) (λ (f : File). f.size ≤ 64) m.files (small_file m.sockets) rules.files) in
    let units = rising-pieces dest_rank (λ (u : ℕ × OpUnit). option_map_or (λ o. dest.Operand u.0 ∷ []) u.1.operand [] ++ map (dest.Trigger u.0) (numbers (length u.1.ops)))
    (λ (u : OpUnit). length u.ops ≤ 32) 4096 256 0 m.units one_unit (all_from (is_unit m.sockets) (λ (u : OpUnit). length u.ops ≤ 32) m.units (small_unit m.sockets) rules.units) in
    let fs : List Dest = flat_map (λ (f : ℕ × File). map (dest.Reg f.0) (numbers f.1.size)) (enumerate_from 0 m.files) in
    let us : List Dest = flat_map (λ (u : ℕ × OpUnit). option_map_or (λ o. dest.Operand u.0 ∷ []) u.1.operand [] ++ map (dest.Trigger u.0) (numbers (length u.1.ops))) (enumerate_from 0 m.units) in
    let files' = rising_raise dest_rank 0 (0 + (0 + length m.files) * 256) 4096 fs (omega arith) (rising_lower dest_rank (0 + 0 * 256) 0 fs (0 + (0 + length m.files) * 256) (omega arith) files) in
    let units' = rising_raise dest_rank 4096 (4096 + (0 + length m.units) * 256) 16384 us (omega arith)
    (rising_lower dest_rank (4096 + 0 * 256) 4096 us (4096 + (0 + length m.units) * 256) (omega arith) units) in
    rising-append dest_rank 0 16384 16387 (fs ++ us) (dest.Jump ∷ dest.Call ∷ dest.Halt ∷ []) (rising-append dest_rank 0 4096 16384 fs us files' units') control_dests

-- ---- on a bus

pub sources_on-rise : (m : Machine) (bus : ℕ) → IsMachine m → Rising source_rank 0 (sources_on m bus) 16385
sources_on-rise m bus rules = rising-filter source_rank (is_source_on m bus) 0 16385 (all_sources m) (sources_rise m rules)

pub dests_on-rise : (m : Machine) (bus : ℕ) → IsMachine m → Rising dest_rank 0 (dests_on m bus) 16387
dests_on-rise m bus rules = rising-filter dest_rank (is_dest_on m bus) 0 16387 (all_dests m) (dests_rise m rules)
