use Rattle.std.proofs.Common.{ap, map, sym, ◌∙◌}
use Rattle.std.specs.List.{list_any}
use Rattle.check_load.specs.KeptRelocations.{relocation_at}
use Rattle.check_load.specs.Views.{loaded_view}
use Rattle.elf_model.specs.Link.Relocation.{relocations_from}
use Rattle.link_judge.proofs.SharedCode.{is_first, not_first}
use Rattle.link_judge.specs.Rewritten.{is_shared_thread_in}
use Rattle.link_judge.proofs.rewrites.has_shared.Goals as goal

pub returns-then-is_shared : goal.returns-then-is_shared
returns-then-is_shared c =
    let o = loaded_view c.args.loaded.now in
    let at = relocation_at c.args.number o in
    let test = is_shared_thread_in c.args.drops.now in
    is_first test (list_any test (relocations_from c.args.number o)) (map at c.loop-relocation.relocation-iterator) c.loop-relocation.invariant
    (at c.in-Some.relocation) (map at c.next.new.self) (ap (map at) c.in-Some.ensures.steps) (sym (c.is_shared.ensures o) ∙ c.if-is_shared.true)

pub loop-relocation-preserved : goal.loop-relocation-preserved
loop-relocation-preserved c =
    let o = loaded_view c.args.loaded.now in
    let at = relocation_at c.args.number o in
    let test = is_shared_thread_in c.args.drops.now in
    not_first test (list_any test (relocations_from c.args.number o)) (map at c.loop-relocation.relocation-iterator) c.loop-relocation.invariant
    (at c.in-Some.relocation) (map at c.next.new.self) (ap (map at) c.in-Some.ensures.steps) (sym (c.is_shared.ensures o) ∙ c.if-is_shared.false)
