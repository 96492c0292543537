use Rattle.std.proofs.Common.{◌∙◌, ℕ, [], get_or, fold, ap, refl}
use Rattle.claxon_md5.specs.declared.block.TheConstants.{SINES}
use Rattle.claxon_md5.specs.Md5.{words_of_bytes, operation, added, process}
use Rattle.claxon_md5.specs.Md5.{auxiliary_f, auxiliary_g, auxiliary_h, auxiliary_i}
use Rattle.claxon_md5.specs.Md5.{round_1, round_2, round_3, round_4}
use Rattle.claxon_md5.proofs.Rounds.{over_sums}
use Rattle.claxon_md5.proofs.block.process.Goals as goal

pub returns : goal.returns
unfolding process
returns c =
    let words = words_of_bytes c.args.block.now in
    let sines = λ (n : ℕ). get_or SINES n [] in
    let start = c.args.state in
    let abcd_1 = c.round_1-abcd.result in
    let abcd_2 = c.round_2-abcd.result in
    let abcd_3 = c.round_3-abcd.result in
    let after_1 = c.round_1-abcd.ensures
    ∙ over_sums auxiliary_f words (sines 0) c.sums.result c.sums.ensures.are_sums round_1 start refl in
    let after_2 = c.round_2-abcd.ensures
    ∙ over_sums auxiliary_g words (sines 1) c.sums-2.result c.sums-2.ensures.are_sums round_2 abcd_1 refl in
    let after_3 = c.round_3-abcd.ensures
    ∙ over_sums auxiliary_h words (sines 2) c.sums-3.result c.sums-3.ensures.are_sums round_3 abcd_2 refl in
    let after_4 = c.round_4-abcd.ensures
    ∙ over_sums auxiliary_i words (sines 3) c.sums-4.result c.sums-4.ensures.are_sums round_4 abcd_3 refl in
    ap (added start)
    (after_4 ∙ ap (λ n. fold (operation auxiliary_i words) n round_4)
    (after_3 ∙ ap (λ n. fold (operation auxiliary_h words) n round_3)
    (after_2 ∙ ap (λ n. fold (operation auxiliary_g words) n round_2) after_1)))
