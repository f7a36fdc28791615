use Rattle.std.proofs.Common.{drop}
use Rattle.std.specs.Prelude.{All}
use Rattle.search.specs.Views.{loaded_view}
use Rattle.layout.specs.Kinds.{HasLawfulKinds}
use Rattle.elf_model.proofs.Rests.{Left}
use Rattle.layout.proofs.section_kinds.are_lawful_objects.Given as goal

abbrev pub invariant-loop-loaded : goal.invariant-loop-loaded
invariant-loop-loaded l = Left (All (λ o. HasLawfulKinds (loaded_view o)) l.objects) (All (λ o. HasLawfulKinds (loaded_view o)) (drop l.loaded-index l.objects))
