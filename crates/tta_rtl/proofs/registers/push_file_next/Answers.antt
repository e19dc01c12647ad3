use Rattle.std.proofs.Common.{List, ℕ, Bool, ◌++◌, length, sym, ap, ◌∙◌}
use Rattle.std.specs.List.{flat_map}
use Rattle.tta_list.proofs.Lists.{then_more}
use Rattle.tta_list.proofs.Results.{onward}
use Rattle.tta_arch.specs.declared.ends.Dest.TheVariants as dest
use Rattle.tta_rtl.specs.Cited.{KeptReg, numbers, place_name}
use Rattle.tta_rtl.specs.Kept.{brought}
use Rattle.tta_rtl.proofs.RegisterTexts.{file_next}
use Rattle.tta_rtl.proofs.registers.push_file_next.Goals as goal

pub returns : goal.returns
returns c =
    let m = c.args.on.now.m.now in
    let file = c.args.file in
    let index = c.args.index in
    let old = c.args.out.now.items in
    let name = place_name m (KeptReg file index) in
    let brings : Bool → List ℕ = λ b. flat_map (brought m (dest.Reg file index) b) (numbers (length m.buses)) in
    onward c.push_register.result (λ last.
    then_more _ _ _ (brings c.has_one_bit-one_bit.result) name c.in_ok-push_all_brought.ensures last
    ∙ ap (λ (b : Bool). old ++ (brings b ++ name)) c.has_one_bit-one_bit.ensures
    ∙ ap (λ (t : List ℕ). old ++ t) (sym (file_next m file index))) c.push_register.ensures
