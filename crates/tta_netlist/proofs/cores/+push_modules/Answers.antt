use Rattle.std.proofs.Common.{ℕ, ◌<◌, ◌++◌, List, length, sym, ap, arith, ◌∙◌}
use Rattle.std.proofs.lemmas.List.{append-nil}
use Rattle.tta_list.proofs.Lists.{then_more}
use Rattle.tta_list.proofs.Results.{onward}
use Rattle.tta_netlist.proofs.Firsts.{one_more, few_others, others_sound, first_text, no_text, put_same}
use Rattle.tta_netlist.proofs.cores.+push_modules.Goals as goal

pub push_modules-requires : goal.push_modules-requires
push_modules-requires g t c =
    let is = c.in-Some.ensures in
    let more = one_more c.args.cores.items c.in-Some.rest.items c.in-Some.core is in
    let less : length c.in-Some.rest.items < t = omega (arith, more, c.decreases) in (
      less,
      (
        few_others c.args.k _ _ _ is c.requires.few,
        others_sound (λ v. v.items) _ _ _ c.args.memories.now is c.in-len1-up.len_at_least c.requires.sound,
      ),
    )

pub returns-in-empty : goal.returns-in-empty
returns-in-empty g t c =
    sym (append-nil c.args.out.now.items)
    ∙ ap (λ (l : List ℕ). c.args.out.now.items ++ l)
    (sym (no_text (λ v. v.items) _ c.args.k c.args.cores.items c.args.memories.now c.in-empty.len_below))

pub returns-in_ok-push_module-in-len1-up : goal.returns-in_ok-push_module-in-len1-up
returns-in_ok-push_module-in-len1-up g t c =
    onward c.push_modules.result (λ last.
    then_more c.args.out.now.items _ _ _ _
    (put_same _ _ _ _ _ _ _ c.in_ok-push_module-in-len1-up.ensures c.as_slice.ensures.value) last
    ∙ ap (λ (l : List ℕ). c.args.out.now.items ++ l)
    (first_text (λ v. v.items) _ c.args.k c.args.cores.items c.in-Some.rest.items c.in-Some.core c.args.memories.now c.first-item.result
    c.in-Some.ensures c.in-len1-up.len_at_least c.first-item.is)) c.push_modules.ensures
