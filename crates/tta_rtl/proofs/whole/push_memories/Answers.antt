use Rattle.std.proofs.Common.{List, ℕ, [], ◌++◌, length, replicate, sym, ap, ◌∙◌}
use Rattle.std.specs.Prelude.{codes}
use Rattle.std.specs.List.{flat_map, enumerate_from}
use Rattle.std.proofs.lemmas.List.{length-replicate}
use Rattle.tta_list.proofs.Lists.{then_more}
use Rattle.tta_list.proofs.Results.{onward}
use Rattle.tta_rtl.specs.Cited.{Machine, rom, array_start, first_line}
use Rattle.tta_rtl.specs.Memories.{space_text, words_in}
use Rattle.tta_rtl.specs.Module.{memory_of}
use Rattle.tta_rtl.proofs.Modules.{no_lines}
use Rattle.tta_rtl.proofs.Texts.{alone}
use Rattle.tta_rtl.proofs.whole.push_memories.Goals as goal

pub returns : goal.returns
returns g c =
    let core = c.args.core.now in
    let m = core.on.now.m.now in
    let old = c.args.out.now.items in
    let code = memory_of m core.rom (rom m (words_in m core.body.now core.words)) in
    let space = space_text (codes "data") core.first.now in
    let frame : ℕ → List ℕ → List ℕ = λ n l. array_start (codes "frame") 32 n ++ (l ++ codes "end\n") in
    let zeros = replicate m.frame_words 0 in
    let lines = flat_map (λ k. first_line (codes "frame") 32 k.0 k.1) (enumerate_from 0 zeros) in
    let had = c.m.inside.frame_words in
    onward c.push_empty_memory.result (λ last.
    then_more _ _ _ code (space ++ (frame had [] ++ [])) c.in_ok-push_rom.ensures
    (then_more _ _ _ space (frame had [] ++ []) c.in_ok-push_memory.ensures
    (alone _ _ (frame had []) last))
    ∙ ap (λ (x : Machine). old ++ (code ++ (space ++ (frame x.frame_words [] ++ [])))) c.m.view_is
    ∙ ap (λ (n : ℕ). old ++ (code ++ (space ++ (frame n [] ++ [])))) (sym (length-replicate m.frame_words 0))
    ∙ ap (λ (l : List ℕ). old ++ (code ++ (space ++ (frame (length zeros) l ++ [])))) (sym (no_lines (codes "frame") 0 m.frame_words)))
    c.push_empty_memory.ensures
