use Rattle.std.proofs.Common.{◌∙◌, Bool, List, ℕ, slice_index_or, subst}
use Rattle.std.specs.Prelude.{All}
use Rattle.check_load.specs.Kept.{piece_at}
use Rattle.check_load.specs.Views.{loaded_view}
use Rattle.elf_model.proofs.Rests.{all_more}
use Rattle.keep_judge.specs.Collected.{IsPieceRight, IsRightIn, is_there}
use Rattle.keep_judge.proofs.object_sections.are_right_among.Goals as goal

pub loop-section-preserved : goal.loop-section-preserved
loop-section-preserved c =
    let n = c.args.number in
    let o = loaded_view c.args.loaded.now in
    let drops = c.args.drops.now in
    let xs : List ℕ = c.args.sections.now in
    let P : ℕ → Type 0 = λ i. IsRightIn drops n o (piece_at n o i) in
    let x = slice_index_or xs c.loop-section.section-index 0 in
    all_more (All P xs) P xs c.loop-section.section-index 0 c.loop-section-test.true
    (subst (λ (b : Bool). IsPieceRight drops b (is_there drops n o (piece_at n o x).header.sh_link) (piece_at n o x))
    (c.is_marked-is_member.ensures ∙ c.requires x) (c.is_section_right.ensures.0 c.if-not-is_section_right.false))
    c.loop-section.invariant
