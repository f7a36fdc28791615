use Rattle.std.proofs.Common.{ℕ, List, ◌∙◌, ap, subst, sym}
use Rattle.std.specs.Prelude.{All, IsTrue, map}
use Rattle.std.specs.List.Sorted.{IsNonDecreasingBy}
use Rattle.elf_model.specs.Image.MemoryImage.{loads}
use Rattle.elf_model.specs.declared.thing.Thing.{Thing}
use Rattle.checker.specs.Filled.{part_of}
use Rattle.check_places.specs.Sweeps.{EndFits, RegionFilled}
use Rattle.checker.proofs.Parts.{gaps_iff, parts_fit, parts_rise}
use Rattle.elf_model.proofs.Rests.{Left}
use Rattle.checker.proofs.c11_fill.are_file_gaps_zero.Goals as goal

pub are_gaps_zero-zero-requires-clause-fits : goal.are_gaps_zero-zero-requires-clause-fits
are_gaps_zero-zero-requires-clause-fits c =
    let e = c.deref.ensures.value ∙ (c.in_ok-parts.ensures ∙ ap (map part_of) c.segments.ensures) in
    subst (All EndFits) (sym e) (parts_fit c.args.memory.now c.image-image.ensures.accepted)

pub are_gaps_zero-zero-requires-clause-rising : goal.are_gaps_zero-zero-requires-clause-rising
are_gaps_zero-zero-requires-clause-rising c =
    let e = c.deref.ensures.value ∙ (c.in_ok-parts.ensures ∙ ap (map part_of) c.segments.ensures) in
    subst (IsNonDecreasingBy (λ (t : Thing). t.at)) (sym e) (parts_rise c.args.memory.now c.image-image.ensures.accepted)

pub returns : goal.returns
returns c =
    let e = c.deref.ensures.value ∙ (c.in_ok-parts.ensures ∙ ap (map part_of) c.segments.ensures) in
    gaps_iff c.args.memory.now c.are_gaps_zero-zero.result
    (subst (λ (end : ℕ). Left (IsTrue c.are_gaps_zero-zero.result) (RegionFilled c.args.memory.now 0 end 0 (map part_of (loads c.args.memory.now)))) c.requires
    (subst (λ (image : List ℕ). Left (IsTrue c.are_gaps_zero-zero.result) (RegionFilled image 0 c.args.end 0 (map part_of (loads c.args.memory.now)))) c.image-image.ensures.bytes
    (subst (λ (parts : List Thing). Left (IsTrue c.are_gaps_zero-zero.result) (RegionFilled c.image-image.result.now 0 c.args.end 0 parts)) e
    c.are_gaps_zero-zero.ensures)))
