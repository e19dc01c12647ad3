-- The frame of a list keeps its length.
use Rattle.std.proofs.Common.{◌≡◌, ℕ, Bool, true, false, List, [], ◌∷◌, length, Option, Some, None, refl, ◌∙◌, length-set}
use Rattle.std.specs.Prelude.{if◌then◌else◌, fold}
use Rattle.std.specs.Option.{option_map_or, option_to_list}
use Rattle.tta_optim.specs.Cited.{Units, Op, Ldw, Stw, Ldf, Stf, Out, Take, Set, Machine, Effect, moved, bring, Start, start_of, operand_word, store_frame, Waits, is_waiting, Held, read_held, acts, waits_for, arrives, does, does_all}

pub store_long : (w : List ℕ) (s : Start) (o : Op) → s.does.op ≡ o → length (store_frame w s) ≡ length w
store_long w s Ldw is = rw is refl
store_long w s Stw is = rw is refl
store_long w s Ldf is = rw is refl
store_long w s Stf is = rw is (length-set w (operand_word s) s.word)
store_long w s Out is = rw is refl
store_long w s Take is = rw is refl
store_long w s (Set id) is = rw is refl

pub frame_long : (u : Units) (m : Machine) (back : ℕ) (h : Held) (e : Effect) → length (does u m back h e).frame ≡ length h.frame
unfolding does
frame_long u m back h e = waited (is_waiting h.exit) where
  started : (o : Option Start) → length (fold store_frame h.frame (option_to_list o)) ≡ length h.frame
  started None = refl
  started (Some s) = store_long h.frame s s.does.op refl

  by : (w : ℕ) (c : Bool) → length (if c then record h { exit = Waits } else acts u m back h (e.target, w) (option_to_list (start_of m h.written (e.target, w)))).frame ≡ length h.frame
  by w true = refl
  by w false = started (start_of m h.written (e.target, w))

  on : (o : Option ℕ) → length (arrives u m back h (option_map_or (λ word. Some (e.target, word)) o None)).frame ≡ length h.frame
  on None = refl
  on (Some w) = by w (waits_for h (option_to_list (start_of m h.written (e.target, w))))

  waited : (c : Bool) → length (if c then h else arrives u m back h (bring (read_held h.written) e)).frame ≡ length h.frame
  waited true = refl
  waited false = on (moved (read_held h.written) e)

pub frame_all : (u : Units) (m : Machine) (back : ℕ) (es : List Effect) (h : Held) → length (does_all u m back h es).frame ≡ length h.frame
frame_all u m back [] h = refl
frame_all u m back (e ∷ es) h = frame_all u m back es (does u m back h e) ∙ frame_long u m back h e
