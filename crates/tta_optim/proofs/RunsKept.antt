-- Lists that keep the meaning of others, block by block, run as the others do.
use Rattle.std.proofs.Common.{◌≡◌, ◌≢◌, ℕ, ◌+◌, Bool, true, false, List, [], ◌∷◌, length, Option, None, refl, sym, ap, subst, ◌∙◌}
use Rattle.std.proofs.lemmas.List.{length-replicate}
use Rattle.std.specs.Prelude.{if◌then◌else◌, filter, map, slice_index}
use Rattle.tta_optim.specs.Cited.{Units, Machine, Place, same_place, Written, kept, BlockList, Exit, Next, Leaves, Waits, is_waiting, Held, effect_of, do_items, has_meaning, ToWait, ToNowhere, lives, restart, leave_of, go_list, begin}
use Rattle.tta_moves.proofs.Places.{either}
use Rattle.tta_moves.proofs.LegsKept.{LeaveAlike, legs_alike}
use Rattle.tta_optim.specs.Kept.{StandsFor, KeepsRuns}
use Rattle.tta_optim.proofs.Alone.{Same, same_refl, Ends, same_list}
use Rattle.tta_optim.proofs.FrameKept.{frame_all}
use Rattle.tta_arch.proofs.Places.{same_is}

-- ---- what a restart keeps

kept_filter : (p : Place → Bool) (ws : Written) (x : Place) → kept (filter (λ w. p w.0) ws) x ≡ (if p x then kept ws x else None)
kept_filter p [] x = on (p x) where
  on : (b : Bool) → ◌≡◌ {A = Option ℕ} None (if b then None else None)
  on true = refl
  on false = refl
kept_filter p (w ∷ ws) x = either (p w.0)
    (λ stays. rw stays (either (same_place w.0 x)
    (λ s. let here : p x ≡ true = ap p (sym (same_is w.0 x s)) ∙ stays in rw (s, here) refl)
    (λ s. rw s (kept_filter p ws x))))
    (λ goes. rw goes (either (same_place w.0 x)
    (λ s. let here : p x ≡ false = ap p (sym (same_is w.0 x s)) ∙ goes in kept_filter p ws x ∙ rw here refl)
    (λ s. rw s (kept_filter p ws x))))

same_filter : (live : List (ℕ × ℕ)) (vs ws : Written) → ((p : Place) → lives live p ≡ true → kept vs p ≡ kept ws p)
    → Same (filter (λ w. lives live w.0) vs) (filter (λ w. lives live w.0) ws)
same_filter live vs ws h = record {
  all = λ p. kept_filter (lives live) vs p ∙ either (lives live p) (λ l. rw l (h p l)) (λ l. rw l refl) ∙ sym (kept_filter (lives live) ws p);
}

-- ---- states

abbrev held_of : (memory frame rest output : List ℕ) → Exit → Written → Held
held_of memory frame rest output exit written = record { written = written; memory = memory; frame = frame; rest = rest; output = output; exit = exit }

-- a state that is equal to another but for its writes
equal_but : (a b : Held) → b.memory ≡ a.memory → b.frame ≡ a.frame → b.rest ≡ a.rest → b.output ≡ a.output → b.exit ≡ a.exit → b ≡ record a { written = b.written }
equal_but a b m f r o e =
    ap (λ x. held_of x b.frame b.rest b.output b.exit b.written) m
    ∙ ap (λ x. held_of a.memory x b.rest b.output b.exit b.written) f
    ∙ ap (λ x. held_of a.memory a.frame x b.output b.exit b.written) r
    ∙ ap (λ x. held_of a.memory a.frame a.rest x b.exit b.written) o
    ∙ ap (λ (x : Exit). held_of a.memory a.frame a.rest a.output x b.written) e

-- two states with the same words, and the machine's frame
pub record Framed (m : Machine) (h k : Held) : Type 0 where
  pub same : Ends Same h k
  pub long : length h.frame ≡ m.frame_words

-- what is compared at the end of a run
pub record EndAlike (h k : Held) : Type 0 where
  pub memory : k.memory ≡ h.memory
  pub rest : k.rest ≡ h.rest
  pub output : k.output ≡ h.output

waits_not : (addr : List ℕ) (e : Exit) → leave_of addr e ≢ ToWait → is_waiting e ≡ false
waits_not addr Next h = refl
waits_not addr (Leaves kind word) h = refl
waits_not addr Waits h = absurd (h refl)

-- ---- one block

block_alike : (u : Units) (m : Machine) (addr : List ℕ) (k : ℕ) (b c : BlockList) (h t : Held) → StandsFor m b c → Framed m h t → (go_list u m addr k b h).1 ≢ ToNowhere
    → LeaveAlike (Framed m) EndAlike (go_list u m addr k b h) (go_list u m addr k c t)
block_alike u m addr k b c h t stands framed somewhere =
    either (has_meaning u m addr back h b.items) (λ ok. means ok) (λ no_meaning. absurd (somewhere (rw no_meaning refl))) where
      back : ℕ
      back = slice_index addr (k + 1)

      fits : Ends Same h t
      fits = framed.same

      means : has_meaning u m addr back h b.items ≡ true → LeaveAlike (Framed m) EndAlike (go_list u m addr k b h) (go_list u m addr k c t)
      means ok =
          let ok_c = stands.meaning.meaning u addr back h framed.long ok in
          let alike = stands.meaning.end u addr back h framed.long ok in
          let from = same_list u m back (map (effect_of addr) c.items) h fits.writes fits.fits in
          let ok_t : has_meaning u m addr back t c.items ≡ true = ap (λ (s : Held). has_meaning u m addr back s c.items) fits.equal ∙ from.0 ∙ ok_c in
          let B : Held = do_items u m addr back h b.items in
          let C : Held = do_items u m addr back h c.items in
          let D : Held = do_items u m addr back t c.items in
          let d_is : D ≡ record C { written = from.1.writes } = ap (λ (s : Held). do_items u m addr back s c.items) fits.equal ∙ from.1.equal in
          let memory : D.memory ≡ B.memory = ap (λ (s : Held). s.memory) d_is ∙ alike.memory in
          let frame : D.frame ≡ B.frame = ap (λ (s : Held). s.frame) d_is ∙ alike.frame in
          let rest : D.rest ≡ B.rest = ap (λ (s : Held). s.rest) d_is ∙ alike.rest in
          let output : D.output ≡ B.output = ap (λ (s : Held). s.output) d_is ∙ alike.output in
          let exit : D.exit ≡ B.exit = ap (λ (s : Held). s.exit) d_is ∙ alike.exit in
          let same : LeaveAlike (Framed m) EndAlike (restart b.live_out B, leave_of addr B.exit) (restart c.live_out D, leave_of addr D.exit) = record {
            leave = ap (leave_of addr) exit;
            fits = λ goes_on. record {
              long = frame_all u m back (map (effect_of addr) b.items) h ∙ framed.long;
              same = record {
                writes = filter (λ w. lives c.live_out w.0) D.written;
                equal = equal_but (restart b.live_out B) (restart c.live_out D) memory frame rest output refl;
                fits = subst (λ (l : List (ℕ × ℕ)). Same (filter (λ w. lives l w.0) D.written) (filter (λ w. lives b.live_out w.0) B.written)) (sym stands.live)
                    (same_filter b.live_out D.written B.written (λ p l.
                    ap (λ (s : Held). kept s.written p) d_is ∙ from.1.fits.all p ∙ alike.registers (waits_not addr B.exit goes_on) p l));
              };
            };
            ends = record { memory = memory; rest = rest; output = output };
          } in
          rw (ok, ok_t) same

-- ---- the runs

pub keeps_runs : KeepsRuns
keeps_runs u m lists others addr memory input n pairs defined =
    let start : Held = begin m memory input in
    let alike = legs_alike (Framed m) EndAlike (StandsFor m) (go_list u m addr) (go_list u m addr)
    (λ k b c s t stands fits somewhere. block_alike u m addr k b c s t stands fits somewhere)
    lists others start start n pairs
    (record { same = record { writes = start.written; equal = refl; fits = same_refl start.written }; long = let zero : ℕ = 0 in length-replicate m.frame_words zero })
    (record { memory = refl; rest = refl; output = refl }) defined in
    record { outcome = alike.outcome; memory = alike.ends.memory; rest = alike.ends.rest; output = alike.ends.output }
