-- Where files hold a net that comes to rest at no fault, and no call fails, `net` is done, unless memory lacks.
use Rattle.std.proofs.Common.{◌≡◌, ◌⊎◌, ℕ, ◌+◌, Bool, true, false, List, length, map, Option, Some, None, refl, sym, ap, subst, ◌∙◌, inl, inr, arith}
use Rattle.std.proofs.lemmas.Bool.{cases_lt}
use Rattle.std.proofs.lemmas.List.{length-map}
use Rattle.std.proofs.lemmas.Option.{slice_get_within}
use Rattle.tta_ports.specs.declared.fault.Fault.{Fault}
use Rattle.tta_exit_laws.specs.Cited.{Store, Rose, World, Output, input_of, Units, over, Whole, data_in, Core, Network, NetworkCore, joined, AreAtRest, cycles, first_states, Feeds, links_of, StepResult, fault_at, StopsAfter, went_in, last_answers, after_rounds, HasEnded, MachineFile, Status, IsHeld, IsDescribed, RefusesMachine, IsImageFor, RefusesImage, Fills, RefusesInput, AreLinks, RefusesLinks, cores_in, name_of, word_of, IsCoreFrom, as_core, CoreFileFails, CoreFails, HasCores, CoresFail, first_fault, rounds_status, NetPuts, NetReports, CoresReport}
use Rattle.tta_code.specs.Cycle.{State}
use Rattle.tta_load.specs.declared.status.Status.TheVariants as status
use Rattle.tta_exit_laws.specs.Completes.{showing}
use Rattle.tta_exit_laws.specs.NetCompletes.{HasRestingNet, NetCompletes}
use Rattle.tta_exit_laws.specs.PutCompletes.{IsUndisturbed}
use Rattle.tta_exit_laws.proofs.FilesTaken.{same_read, machine_only, file_only}
use Rattle.tta_exit_laws.proofs.PairsTaken.{image_only, one_whole, same_held, same_file}
use Rattle.tta_exit_laws.proofs.RunsTaken.{input_only}
use Rattle.tta_net.proofs.FirstCluster.{same_lists as same_elements}
use Rattle.tta_list.proofs.Lists.{element}

-- ---- lists

-- ---- the cores

abbrev core_of : MachineFile → Whole → Core
core_of file whole = record { machine = file.machine; code = whole.code }

-- links of cores are refused only for lack of memory
pub links_only : (count : ℕ) (bytes : List ℕ) (feeds : Feeds) (s : Status) → AreLinks count bytes feeds → RefusesLinks count bytes s → s ≡ status.NoMemory
links_only count bytes feeds (status.BadLinks line code) is bad = absurd cc
links_only count bytes feeds status.NoMemory is bad = refl
links_only count bytes feeds s is bad = absurd bad

module _ (u : Units) (store : Store) (names : List (List ℕ)) where
  -- the files of a core give one core, and one data space
  same_core : (k : ℕ) (c d : Core) (m n : List ℕ) → IsCoreFrom u (Some store) names k c m → IsCoreFrom u (Some store) names k d n → (c ≡ d) × (m ≡ n)
  same_core k c d m n a b =
      let file = same_file u store (name_of names k 0) (record { value = a.file; held = a.machine }) (record { value = b.file; held = b.machine }) in
      let image = subst (λ (f : MachineFile). IsHeld (IsImageFor f) (Some store) (name_of names k 1) a.whole) file a.image in
      let whole = same_held store (IsImageFor b.file) (name_of names k 1) a.whole b.whole
      (λ bytes v w. one_whole u b.machine.bytes b.file bytes a.whole b.whole b.machine.says v w) image b.image in
      let input = subst (λ (f : MachineFile). IsHeld (Fills f.machine.data_words) (Some store) (name_of names k 2) a.words) file a.input in
      let words = same_held store (Fills b.file.machine.data_words) (name_of names k 2) a.words b.words
      (λ bytes. same_read (input_of b.file.machine.data_words bytes) a.words b.words) input b.input in (
        a.is ∙ ap (λ (f : MachineFile). core_of f a.whole) file ∙ ap (λ (w : Whole). core_of b.file w) whole ∙ sym b.is,
        a.laid ∙ ap (λ (w : Whole). over (data_in w) a.words) whole ∙ ap (λ (w : List ℕ). over (data_in b.whole) w) words ∙ sym b.laid,
      )

  module _ (count : ℕ) (a b : HasCores u (Some store) names count) where
    same_cores : a.cores ≡ b.cores
    same_cores =
        let many = a.many in let also = b.many in let two = a.are.count in let three = b.are.count in
        same_elements a.cores b.cores (omega arith) (λ k x y at there.
        let within = slice_get_within a.cores k x at in
        let m = element a.memories k (omega arith) in
        let n = element b.memories k (omega arith) in
        (same_core k x y m.0 n.0 (a.are.each k x m.0 at m.1) (b.are.each k y n.0 there n.1)).0)

    same_memories : a.memories ≡ b.memories
    same_memories =
        let many = a.many in let also = b.many in let two = a.are.count in let three = b.are.count in
        same_elements a.memories b.memories (omega arith) (λ k x y at there.
        let within = slice_get_within a.memories k x at in
        let m = element a.cores k (omega arith) in
        let n = element b.cores k (omega arith) in
        (same_core k m.0 n.0 x y (a.are.each k m.0 x m.1 at) (b.are.each k n.0 y n.1 there)).1)

-- ---- what is not taken

module _ (u : Units) (store : Store) (faults : ℕ) (latest : Option Fault) (after : World) (none : Rose faults after.faults → ⊥) (names : List (List ℕ)) where
  abbrev before : World
  before = showing store faults latest

  -- a core's file is not taken only for lack of memory
  core_file_only : {V : Type 0} → (Says : List ℕ → V → Type 0) (Refuses : List ℕ → Status → Type 0) (name : List ℕ) (value : V) (word : ℕ) (s : Status)
      → ((bytes : List ℕ) (s : Status) → Says bytes value → Refuses bytes s → s ≡ status.NoMemory)
      → IsHeld Says (Some store) name value → CoreFileFails Refuses name word before after s → s ≡ status.NoMemory
  core_file_only Says Refuses name value word s only held fails =
      fails.is ∙ ap (as_core word) (file_only store faults latest after none Says Refuses name value word fails.told (λ bytes. only bytes fails.told) held fails.fails)

  -- and a core only for that
  core_only : (k : ℕ) (core : Core) (memory : List ℕ) (s : Status) → IsCoreFrom u (Some store) names k core memory → CoreFails u names k before after s
      → s ≡ status.NoMemory
  core_only k core memory s a (inl (inl fails)) =
      core_file_only (IsDescribed u) (RefusesMachine u) (name_of names k 0) a.file (word_of k 0) s (λ bytes. machine_only u bytes a.file) a.machine fails
  core_only k core memory s a (inl (inr (b, fails))) =
      let file = same_file u store (name_of names k 0) b (record { value = a.file; held = a.machine }) in
      core_file_only (IsImageFor a.file) (RefusesImage a.file) (name_of names k 1) a.whole (word_of k 1) s
      (λ bytes s is. image_only u a.machine.bytes a.file bytes a.whole s a.machine.says is) a.image
      (subst (λ (f : MachineFile). CoreFileFails (RefusesImage f) (name_of names k 1) (word_of k 1) before after s) file fails)
  core_only k core memory s a (inr (b, fails)) =
      let file = same_file u store (name_of names k 0) b.machine (record { value = a.file; held = a.machine }) in
      core_file_only (Fills a.file.machine.data_words) (RefusesInput a.file.machine.data_words) (name_of names k 2) a.words (word_of k 2) s
      (λ bytes. input_only a.file.machine.data_words bytes a.words) a.input
      (subst (λ (f : MachineFile). CoreFileFails (RefusesInput f.machine.data_words) (name_of names k 2) (word_of k 2) before after s) file fails)

  -- so are all cores
  pub cores_only : (count : ℕ) (s : Status) → HasCores u (Some store) names count → CoresFail u names count before after s → s ≡ status.NoMemory
  cores_only count s a fails =
      let within = fails.within in let many = a.many in let two = a.are.count in
      let c = element a.cores fails.core (omega arith) in
      let m = element a.memories fails.core (omega arith) in
      core_only fails.core c.0 m.0 s (a.are.each fails.core c.0 m.0 c.1 m.1) fails.fails

-- ---- rounds

module _ (net : Network State) (count : ℕ) (cs : List (NetworkCore State)) (most : ℕ) where
  -- rounds that came to rest are as many as any that are made
  same_made : (a b : ℕ) → StopsAfter net count cs most a → StopsAfter net count cs most b → (i : ℕ) → a ≡ i + 1 → went_in net count cs i ≡ false → a ≡ b
  same_made a b stops also i is rests = elim (cases_lt a b) [
    | inl less ↦ let went = also.before i (omega arith) in absurd cc
    | inr above ↦ elim (cases_lt b a) [
      | inl less ↦
          let within = stops.within in
          let over = also.over (omega arith) in
          let there = over.1 in
          let still = over.2 in
          let went = stops.before over.0 (omega arith) in absurd cc
      | inr never ↦ omega arith
    ]
  ]

  -- what is put of cores that rest at no fault
  put_only : (last : List StepResult) (end : List (NetworkCore State)) (old new : Output) (s : Status) → (Rose old.faults new.faults → ⊥)
      → first_fault (fault_at end) (length last) ≡ None → NetPuts false last end old new s → s ≡ status.Ok
  put_only last end old new status.WriteFault none sound ends = absurd (none ends.rose)
  put_only last end old new s none sound ends = ends.0 ∙ ap (rounds_status false) sound

  -- rounds that are made come to the same
  rounds_only : (Rests : List (NetworkCore State) → Type 0) (last turns : List StepResult) (is_running : Bool) (old new : Output) (s : Status)
      → (Rose old.faults new.faults → ⊥) → HasEnded net count cs most false last (λ end. first_fault (fault_at end) (length last) ≡ None)
      → HasEnded net count cs most is_running turns (λ end. NetPuts is_running turns end old new s × Rests end) → s ≡ status.Ok
  rounds_only Rests last turns true old new s none a b =
      let rest = a.resting refl in
      let at = rest.1 in
      let still = rest.2 in
      let within = a.stops.within in
      let went = b.running refl rest.0 (omega arith) in absurd cc
  rounds_only Rests last turns false old new s none a b =
      let rest = a.resting refl in
      let made = same_made a.made b.made a.stops b.stops rest.0 rest.1 rest.2 in
      let answers : map (λ (t : StepResult). Some t) last ≡ map (λ (t : StepResult). Some t) turns =
      a.answers ∙ ap (last_answers net count cs) made ∙ sym b.answers in
      let long : length last ≡ length turns = sym (length-map last (λ t. Some t)) ∙ ap length answers ∙ length-map turns (λ t. Some t) in
      let sound = subst (λ (k : ℕ). first_fault (fault_at (after_rounds net count cs k)) (length last) ≡ None) made a.stands in
      put_only turns (after_rounds net count cs b.made) old new s none
      (subst (λ (n : ℕ). first_fault (fault_at (after_rounds net count cs b.made)) n ≡ None) long sound) b.stands.0

-- ---- the command

reports_only : (u : Units) (feeds : Feeds) (cores : List Core) (memories : List (List ℕ)) (rounds : ℕ) (last : List StepResult) (old new : Output) (s : Status)
    → (Rose old.faults new.faults → ⊥)
    → HasEnded (cycles u cores feeds) (length cores) (joined (first_states cores memories)) rounds false last
    (λ end. first_fault (fault_at end) (length last) ≡ None)
    → NetReports u feeds cores memories rounds old new s → (s ≡ status.Ok) ⊎ (s ≡ status.NoMemory)
reports_only u feeds cores memories rounds last old new status.NoMemory none a ends = inr refl
reports_only u feeds cores memories rounds last old new s none a ends =
    inl (rounds_only (cycles u cores feeds) (length cores) (joined (first_states cores memories)) rounds
    (λ end. s ≡ status.Ok → AreAtRest (cycles u cores feeds) end) last ends.last ends.is_running old new s none a ends.ended)

module _ (u : Units) (store : Store) (faults : ℕ) (latest : Option Fault) (rounds : ℕ) (LINKS : List ℕ) (names : List (List ℕ)) (after : World)
    (old new : Output) (s : Status) (a : HasRestingNet u store rounds LINKS names) (calm : IsUndisturbed (showing store faults latest) after old new) where
  cores_report_only : CoresReport u a.links.value rounds names (showing store faults latest) after old new s → (s ≡ status.Ok) ⊎ (s ≡ status.NoMemory)
  cores_report_only (inl (fails, q)) = inr (cores_only u store faults latest after calm.files names (cores_in (length names)) s a.has fails)
  cores_report_only (inr (b, same, ends)) =
      let cores = same_cores u store names (cores_in (length names)) b a.has in
      let memories = same_memories u store names (cores_in (length names)) b a.has in
      reports_only u a.links.value a.has.cores a.has.memories rounds a.last old new s calm.output a.ended
      (subst (λ (m : List (List ℕ)). NetReports u a.links.value a.has.cores m rounds old new s) memories
      (subst (λ (c : List Core). NetReports u a.links.value c b.memories rounds old new s) cores ends))

pub net_completes_holds : NetCompletes
net_completes_holds u store faults latest rounds LINKS names after old new s a calm (inl (fails, q)) =
    let count = cores_in (length names) in
    inr (file_only store faults latest after calm.files (AreLinks count) (RefusesLinks count) LINKS a.links.value 2 s
    (λ bytes. links_only count bytes a.links.value s) a.links.held fails)
net_completes_holds u store faults latest rounds LINKS names after old new s a calm (inr (links, ends)) =
    let count = cores_in (length names) in
    let feeds = same_held store (AreLinks count) LINKS links.value a.links.value
    (λ bytes. same_read (links_of count bytes) links.value a.links.value) links.held a.links.held in
    cores_report_only u store faults latest rounds LINKS names after old new s a calm
    (subst (λ (f : Feeds). CoresReport u f rounds names (showing store faults latest) after old new s) feeds ends)
