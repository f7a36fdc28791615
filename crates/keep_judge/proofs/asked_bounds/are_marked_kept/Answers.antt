use Rattle.std.proofs.Common.{ap, map, refl, sym, ◌∙◌}
use Rattle.std.specs.Prelude.{All}
use Rattle.std.proofs.lemmas.Bool.{false≢true}
use Rattle.check_load.specs.KeptRelocations.{relocation_at}
use Rattle.check_load.specs.Views.{loaded_view}
use Rattle.elf_model.specs.Inputs.ObjectFile.{rela_symbol}
use Rattle.elf_model.specs.Link.Relocation.{relocations_from}
use Rattle.keep_judge.specs.Collected.{IsBoundKept, has_name}
use Rattle.link_fields.proofs.Lists.{left_all, left_end, left_more, left_stop}
use Rattle.keep_judge.proofs.asked_bounds.are_marked_kept.Goals as goal

pub loop-relocation-init : goal.loop-relocation-init
loop-relocation-init c =
    let at = relocation_at c.args.number (loaded_view c.args.loaded.now) in
    let P = IsBoundKept c.args.names.now c.args.drops.now (has_name c.args.lost.now) in
    left_all P (relocations_from c.args.number (loaded_view c.args.loaded.now)) (map at c.into_iter-relocation-iterator.result)
    (ap (map at) c.into_iter-relocation-iterator.ensures.into_iter_gives ∙ c.relocations-relocation-items.ensures.relocations c.args.number)

pub loop-relocation-preserved : goal.loop-relocation-preserved
loop-relocation-preserved c =
    let at = relocation_at c.args.number (loaded_view c.args.loaded.now) in
    let P = IsBoundKept c.args.names.now c.args.drops.now (has_name c.args.lost.now) in
    let j = rela_symbol c.in-Some.relocation.entry in
    left_more P (All P (relocations_from c.args.number (loaded_view c.args.loaded.now))) (map at c.loop-relocation.relocation-iterator)
    (at c.in-Some.relocation) (map at c.next.new.self) (ap (map at) c.in-Some.ensures.steps)
    (λ there. sym (c.requires j) ∙ c.is_bound_kept.ensures.0 c.if-not-is_bound_kept.false there) c.loop-relocation.invariant

pub returns-then-not-is_bound_kept : goal.returns-then-not-is_bound_kept
returns-then-not-is_bound_kept c =
    let at = relocation_at c.args.number (loaded_view c.args.loaded.now) in
    let P = IsBoundKept c.args.names.now c.args.drops.now (has_name c.args.lost.now) in
    let j = rela_symbol c.in-Some.relocation.entry in (
      λ e. absurd (false≢true e),
      λ all. absurd
          (left_stop P (All P (relocations_from c.args.number (loaded_view c.args.loaded.now)))
          (map at c.loop-relocation.relocation-iterator) (at c.in-Some.relocation) (map at c.next.new.self) (ap (map at) c.in-Some.ensures.steps)
          (λ h. false≢true (sym c.if-not-is_bound_kept.true ∙ c.is_bound_kept.ensures.1 (λ there. c.requires j ∙ h there)))
          c.loop-relocation.invariant all),
    )

pub returns : goal.returns
returns c =
    let at = relocation_at c.args.number (loaded_view c.args.loaded.now) in
    let P = IsBoundKept c.args.names.now c.args.drops.now (has_name c.args.lost.now) in (
      λ e.
          left_end P (All P (relocations_from c.args.number (loaded_view c.args.loaded.now)))
          (map at c.loop-relocation.relocation-iterator) (ap (map at) c.in-None.ensures.steps.0) c.loop-relocation.invariant,
      λ all. refl,
    )
