-- Runs from block to block, in legs. A leg is the blocks from one transfer up to and with the next; between two
-- transfers the numbers of blocks only rise, so each leg ends.
use Rattle.std.specs.Prelude.{ℕ, suc, List, [], ◌∷◌, drop}
use Rattle.tta_list.specs.Iterate.{iterate}

-- how a block is left: for the next block, by a transfer to a block, by a halt, by a wait for input, or in no way that
-- has a meaning
pub data Leave : Type 0 where
  ToNext : Leave
  ToBlock : (block : ℕ) → Leave
  ToHalt : Leave
  ToWait : Leave
  ToNowhere : Leave

-- whether a run goes on, and else why not
pub data Outcome : Type 0 where
  Running : Outcome
  Halted : Outcome
  Waiting : Outcome
  Undefined : Outcome

-- between two legs: the block that comes next, what there is, and whether the run goes on
pub record Run (S : Type 0) : Type 0 where
  pub block : ℕ
  pub state : S
  pub outcome : Outcome

-- What a leg leaves after block k, by how the block is left: the rest of the leg, or its end. After a block without a
-- meaning there is what was there before it.
abbrev pub after_block : {S : Type 0} → (k : ℕ) → (before after : S) → Leave → (rest : S → Run S) → Run S
after_block k before after ToNext rest = rest after
after_block k before after (ToBlock block) rest = record { block = block; state = after; outcome = Running }
after_block k before after ToHalt rest = record { block = k; state = after; outcome = Halted }
after_block k before after ToWait rest = record { block = k; state = after; outcome = Waiting }
after_block k before after ToNowhere rest = record { block = k; state = before; outcome = Undefined }

-- What a leg leaves that begins with these blocks, the first of which has the number k. `go` says what a block leaves,
-- and how it is left. After the last block there is none.
abbrev pub leg : {B S : Type 0} → (go : ℕ → B → S → S × Leave) → (k : ℕ) → List B → S → Run S
leg go k [] s = record { block = k; state = s; outcome = Undefined }
leg go k (b ∷ bs) s = after_block k s (go k b s).0 (go k b s).1 (λ t. leg go (suc k) bs t)

-- one leg more, by how the run stands
abbrev pub next_of : {B S : Type 0} → (go : ℕ → B → S → S × Leave) → List B → Run S → Outcome → Run S
next_of go blocks r Running = leg go r.block (drop r.block blocks) r.state
next_of go blocks r Halted = r
next_of go blocks r Waiting = r
next_of go blocks r Undefined = r

-- one leg more of a run that goes on; a run that is over stays
abbrev pub next_leg : {B S : Type 0} → (go : ℕ → B → S → S × Leave) → List B → Run S → Run S
next_leg go blocks r = next_of go blocks r r.outcome

-- what a run from the first block leaves after at most n legs
abbrev pub legs : {B S : Type 0} → (go : ℕ → B → S → S × Leave) → List B → S → ℕ → Run S
legs go blocks s n = iterate n (next_leg go blocks) (record { block = 0; state = s; outcome = Running })

-- ---- two lists of blocks

-- each element of a list with the one at its place in another
abbrev pub AllPairs : {A B : Type 0} → (A → B → Type 0) → List A → List B → Type 0
AllPairs P [] [] = Unit {0}
AllPairs P [] (y ∷ ys) = ⊥
AllPairs P (x ∷ xs) [] = ⊥
AllPairs P (x ∷ xs) (y ∷ ys) = P x y × AllPairs P xs ys
