-- One cycle of a placed list: the items of its word, and what they read.
use Rattle.std.proofs.Common.{◌≡◌, ℕ, ◌+◌, ◌<◌, true, List, ◌++◌, Some, refl, ap, ◌∙◌, arith, get_or}
use Rattle.std.specs.List.{filter_map}
use Rattle.std.proofs.lemmas.Option.{slice_get-get_or, slice_get_within, get_or_from_slice_get}
use Rattle.tta_sched_laws.specs.Cited.{Source, Calls, Control, Effect, Place, KeptReg, KeptImm, KeptRa, KeptPort, Written, moved, bring, Brought, write_of, Start, start_of, State, read_source, effects_of, read_held, place_of, Instruction}
use Rattle.tta_arch.specs.declared.ends.Source.TheVariants as source
use Rattle.tta_sched_laws.proofs.Total.{Timed, is_control}
use Rattle.tta_sched_laws.proofs.Cut.{IsCut}
use Rattle.tta_sched_laws.proofs.Pick.{Has}
use Rattle.tta_sched_laws.proofs.Starts.{Covers, covers_set}
use Rattle.tta_sched_laws.proofs.Touches.{reads_source, reads_guard, moved_same, ReadSame, set_guard, set_source}
use Rattle.tta_sched_laws.proofs.Placing.{idle}
use Rattle.tta_sched_laws.proofs.Listed.{Run, n, move_at, cycle_at, held_at, read_at, writes, shows, cut_at_read, ctl, Stands}

timed_is : (x : Timed) (c : ℕ) → x.cycle ≡ c → x ≡ record { does = x.does; cycle = c }
timed_is x c e = ap (λ (k : ℕ). record x { cycle = k }) e

-- a cycle of a list, and the machine there
pub record Now : Type 0 where
  pub run : Run
  pub c : ℕ
  pub s : State
  pub lt : c < run.len
  pub st : Stands run c s

module _ (moment : Now) where
  open moment use {run, c, s, lt, st}
  open run use {u, m, back, placed, h, len, f, code, base, begin, carries, back_is}

  abbrev pub word : Instruction
  word = carries.word c lt

  abbrev pub vs : List Effect
  vs = effects_of m word

  abbrev pub bs : List Brought
  bs = filter_map (bring (read_source s)) vs

  abbrev pub ret : ℕ
  ret = s.pc + 1 + m.control.delay

  abbrev pub new : Written
  new = filter_map (write_of m ret) bs ++ s.written

  abbrev pub ts : List Start
  ts = filter_map (start_of m new) bs

  -- a move of this cycle is one of the list
  pub item_of : (v : Effect) → Has vs v → (j : ℕ) × (j < n run) × (move_at run j ≡ v) × (cycle_at run j ≡ c)
  item_of v p =
      let q = carries.only c lt v p in
      let e = get_or_from_slice_get placed q.0 _ idle q.1 in
      (q.0, slice_get_within placed q.0 _ q.1, ap (λ (x : Timed). x.does) e, ap (λ (x : Timed). x.cycle) e)

  pub has_item : (j : ℕ) → j < n run → cycle_at run j ≡ c → Has vs (move_at run j)
  has_item j lj e = carries.all c lt (move_at run j) (j, slice_get-get_or placed j idle lj ∙ ap Some (timed_is (get_or placed j idle) c e))

  -- what a move reads is what it reads in the list
  pub at_read : (x : Place) (j : ℕ) → j < n run → cycle_at run j ≡ c → read_at run x j ≡ Some 0 → IsCut (writes run x) (shows run x) (n run) c j
  at_read x j lj e r = let g : cycle_at run j + 0 ≡ c = omega arith in rw g at (cut_at_read run x j 0 lj r)

  pub source_covers : (j : ℕ) → j < n run → cycle_at run j ≡ c → Covers (read_source s (move_at run j).src) (read_held (held_at run j).written (move_at run j).src)
  source_covers j lj e = on (move_at run j).src refl where
    on : (src : Source) → (move_at run j).src ≡ src → Covers (read_source s src) (read_held (held_at run j).written src)
    on (source.Reg f i) q = st.kept (KeptReg f i) refl j (omega arith) (at_read (KeptReg f i) j lj e (reads_source m (move_at run j) (KeptReg f i) (ap place_of q)))
    on (source.Imm f i) q = st.kept (KeptImm f i) refl j (omega arith) (at_read (KeptImm f i) j lj e (reads_source m (move_at run j) (KeptImm f i) (ap place_of q)))
    on (source.Shown unit) q = st.ports unit j (omega arith) (at_read (KeptPort unit) j lj e (reads_source m (move_at run j) (KeptPort unit) (ap place_of q)))
    on source.Ra q = st.kept KeptRa refl j (omega arith) (at_read KeptRa j lj e (reads_source m (move_at run j) KeptRa (ap place_of q)))
    on (source.Value w) q = λ w' e'. e'

  pub reads_same : (j : ℕ) → j < n run → cycle_at run j ≡ c → ReadSame (read_source s) (read_held (held_at run j).written) (move_at run j)
  reads_same j lj e = (
    λ g q. covers_set _ _ (st.kept (KeptReg g.file g.index) refl j (omega arith) (at_read (KeptReg g.file g.index) j lj e (reads_guard m (move_at run j) g q))) (set_guard m (held_at run j) (move_at run j) g (f.sets j lj) q),
    λ a. covers_set _ _ (source_covers j lj e) (set_source m (held_at run j) (move_at run j) (f.sets j lj) a),
  )

  pub taken : (j : ℕ) → j < n run → cycle_at run j ≡ c → moved (read_source s) (move_at run j) ≡ moved (read_held (held_at run j).written) (move_at run j)
  taken j lj e = moved_same (read_source s) (read_held (held_at run j).written) (move_at run j) (reads_same j lj e)

  pub back_same : (j : ℕ) → j < n run → cycle_at run j ≡ c → (move_at run j).target ≡ (Control Calls) → s.pc + 1 + m.control.delay ≡ back
  back_same j lj e d =
      let is : ctl run j ≡ true = ap is_control d in
      let a = f.ends j lj is in
      let p = st.pc in
      omega (arith, back_is)
