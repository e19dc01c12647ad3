-- Where files hold a machine and something for it, and no call on them fails, the two are taken, unless memory lacks; and what is
-- taken is what they hold.
use Rattle.std.proofs.Common.{◌≡◌, ◌⊎◌, ℕ, List, length, Option, Some, Ok, refl, sym, ◌∙◌, subst, inl, inr}
use Rattle.sha2.proofs.Facts256.{length-sha256}
use Rattle.tta_ports.specs.declared.fault.Fault.{Fault}
use Rattle.tta_exit_laws.specs.Cited.{Store, Rose, World, Units, Machine, machine_of_text, Whole, decoded_image, MachineFile, Status, IsHeld, FileFails, IsDescribed, RefusesMachine, HasMachine, IsAssemblyFor, RefusesAssembly, IsImageFor, RefusesImage, HasPair, PairFails, WritingEnds, Writes}
use Rattle.tta_machine.proofs.Said.{text_machine}
use Rattle.tta_image.proofs.ImageDecoded.{decoded_of_image}
use Rattle.tta_load.specs.declared.status.Status.TheVariants as status
use Rattle.tta_exit_laws.specs.Completes.{showing}
use Rattle.tta_exit_laws.proofs.FilesTaken.{same_some, same_read, machine_only, file_only}

-- ---- bytes

-- files of a machine with the same parts are one
same_parts : (m m' : Machine) (d d' : List ℕ) → m ≡ m' → d ≡ d'
    → ◌≡◌ {A = MachineFile} (record { machine = m; digest = d }) (record { machine = m'; digest = d' })
same_parts m m' d d' e f = rw (e, f) refl

-- a text describes one machine at most
one_file : (u : Units) (text : List ℕ) (a b : MachineFile) → IsDescribed u text a → IsDescribed u text b → a ≡ b
one_file u text a b is also =
    same_parts a.machine b.machine a.digest b.digest
    (same_read (machine_of_text u text) a.machine b.machine is.read also.read) (is.digest ∙ sym also.digest)

-- assembly of code is refused only for lack of memory
pub assembly_only : (u : Units) (file : MachineFile) (text : List ℕ) (whole : Whole) (s : Status) → IsAssemblyFor u file text whole
    → RefusesAssembly u file text s → s ≡ status.NoMemory
assembly_only u file text whole (status.BadAsm line code) is bad = let refused = bad.refused in absurd cc
assembly_only u file text whole status.NoMemory is bad = refl
assembly_only u file text whole s is bad = absurd bad

-- an image decodes to its code
decodes : (u : Units) (text : List ℕ) (file : MachineFile) (bytes : List ℕ) (whole : Whole) → IsDescribed u text file → IsImageFor file bytes whole
    → decoded_image file.machine file.digest bytes ≡ Ok whole
decodes u text file bytes whole described is =
    decoded_of_image file.machine file.digest whole bytes (text_machine u text file.machine described.read)
    (subst (λ d. length d ≡ 32) (sym described.digest) (length-sha256 text)) is

-- and it is refused only for lack of memory
pub image_only : (u : Units) (text : List ℕ) (file : MachineFile) (bytes : List ℕ) (whole : Whole) (s : Status) → IsDescribed u text file
    → IsImageFor file bytes whole → RefusesImage file bytes s → s ≡ status.NoMemory
image_only u text file bytes whole (status.BadImage code word bus) described is bad = let told = decodes u text file bytes whole described is in absurd cc
image_only u text file bytes whole status.NoMemory described is bad = refl
image_only u text file bytes whole s described is bad = absurd bad

-- bytes are the image of one code at most
pub one_whole : (u : Units) (text : List ℕ) (file : MachineFile) (bytes : List ℕ) (a b : Whole) → IsDescribed u text file → IsImageFor file bytes a
    → IsImageFor file bytes b → a ≡ b
one_whole u text file bytes a b described is also =
    same_read (decoded_image file.machine file.digest bytes) a b (decodes u text file bytes a described is) (decodes u text file bytes b described also)

-- ---- files

-- a file holds one value at most, where its bytes say one at most
pub same_held : {V : Type 0} → (store : Store) (Says : List ℕ → V → Type 0) (name : List ℕ) (v w : V)
    → ((bytes : List ℕ) → Says bytes v → Says bytes w → v ≡ w) → IsHeld Says (Some store) name v → IsHeld Says (Some store) name w → v ≡ w
same_held store Says name v w one a b =
    let text = same_some a.bytes b.bytes (sym a.holds ∙ b.holds) in one b.bytes (subst (λ t. Says t v) text a.says) b.says

pub same_file : (u : Units) (store : Store) (M : List ℕ) (a b : HasMachine u (Some store) M) → a.value ≡ b.value
same_file u store M a b = same_held store (IsDescribed u) M a.value b.value (λ text. one_file u text a.value b.value) a.held b.held

-- files hold one pair at most: what is true of one is true of another
pub for_pair : {V : Type 0} → (u : Units) (store : Store) (Says : MachineFile → List ℕ → V → Type 0) (M name : List ℕ) (a b : HasPair u Says (Some store) M name)
    → ((bytes : List ℕ) (v : V) → Says a.machine.value bytes v → Says a.machine.value bytes a.second.value → v ≡ a.second.value)
    → (Is : MachineFile → V → Type 0) → Is b.machine.value b.second.value → Is a.machine.value a.second.value
for_pair u store Says M name a b one Is is =
    let file = same_file u store M b.machine a.machine in
    let held = subst (λ (f : MachineFile). IsHeld (Says f) (Some store) name b.second.value) file b.second.held in
    let value = same_held store (Says a.machine.value) name b.second.value a.second.value (λ bytes. one bytes b.second.value) held a.second.held in
    subst (λ v. Is a.machine.value v) value (subst (λ (f : MachineFile). Is f b.second.value) file is)

module _ (u : Units) (store : Store) (faults : ℕ) (latest : Option Fault) (after : World) (none : Rose faults after.faults → ⊥) where
  abbrev before : World
  before = showing store faults latest

  -- two files that hold a pair are not taken only for lack of memory, where the bytes of the second are refused only for that
  pub pair_only : {V : Type 0} → (Says : MachineFile → List ℕ → V → Type 0) (Refuses : MachineFile → List ℕ → Status → Type 0) (M name : List ℕ) (s : Status)
      (a : HasPair u Says (Some store) M name)
      → ((bytes : List ℕ) → Says a.machine.value bytes a.second.value → Refuses a.machine.value bytes s → s ≡ status.NoMemory)
      → PairFails u Refuses M name before after s → s ≡ status.NoMemory
  pair_only Says Refuses M name s a only (inl fails) =
      file_only store faults latest after none (IsDescribed u) (RefusesMachine u) M a.machine.value 1 s (λ text. machine_only u text a.machine.value s) a.machine.held fails
  pair_only Says Refuses M name s a only (inr (b, fails)) =
      file_only store faults latest after none (Says a.machine.value) (Refuses a.machine.value) name a.second.value 2 s only a.second.held
      (subst (λ (f : MachineFile). FileFails (Refuses f) name 2 before after s) (same_file u store M b a.machine) fails)

  -- what is made is written, or memory lacks
  pub writing_only : (Makes : List ℕ → Type 0) (OUT : List ℕ) (s : Status) → WritingEnds Makes OUT before after s → (s ≡ status.Ok) ⊎ (s ≡ status.NoMemory)
  writing_only Makes OUT status.Ok ends = inl refl
  writing_only Makes OUT status.WriteFault ends = absurd (none ends.rose)
  writing_only Makes OUT status.NoMemory ends = inr refl
  writing_only Makes OUT s ends = absurd ends

  -- a command that makes a file of them is done, or lacks memory, or has a cause to make none
  pub writes_only : {V : Type 0} → (Says : MachineFile → List ℕ → V → Type 0) (Refuses : MachineFile → List ℕ → Status → Type 0)
      (Makes : MachineFile → V → List ℕ → Type 0) (Lacks : MachineFile → V → Status → Type 0) (M name OUT : List ℕ) (s : Status)
      (a : HasPair u Says (Some store) M name)
      → ((bytes : List ℕ) → Says a.machine.value bytes a.second.value → Refuses a.machine.value bytes s → s ≡ status.NoMemory)
      → ((bytes : List ℕ) (v : V) → Says a.machine.value bytes v → Says a.machine.value bytes a.second.value → v ≡ a.second.value)
      → Writes u Says Refuses Makes Lacks M name OUT before after s
      → ((s ≡ status.Ok) ⊎ (s ≡ status.NoMemory)) ⊎ Lacks a.machine.value a.second.value s
  writes_only Says Refuses Makes Lacks M name OUT s a only one (inl fails) = inl (inr (pair_only Says Refuses M name s a only fails))
  writes_only Says Refuses Makes Lacks M name OUT s a only one (inr (b, inl lacks)) =
      inr (for_pair u store Says M name a b one (λ file v. Lacks file v s) lacks.1)
  writes_only Says Refuses Makes Lacks M name OUT s a only one (inr (b, inr ends)) =
      inl (writing_only (Makes b.machine.value b.second.value) OUT s ends)
