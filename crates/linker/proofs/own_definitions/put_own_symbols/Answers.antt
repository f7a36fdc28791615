use Rattle.std.proofs.Common.{subst}
use Rattle.std.specs.Prelude.{All}
use Rattle.elf_model.specs.Own.OwnLayout.{own_in_load_order}
use Rattle.elf_model.proofs.Listed.{All-unmap}
use Rattle.image_write.specs.Maps.{LiesWithin}
use Rattle.resolve.specs.Views.{meaning_view}
use Rattle.linker.specs.OwnDefinitions.{meanings_of}
use Rattle.linker.specs.declared.own_definitions.OwnDefinitions.{OwnDefinitions}
use Rattle.linker.proofs.own_definitions.put_own_symbols.Goals as goal

pub put_symbols-requires-clause-within : goal.put_symbols-requires-clause-within
put_symbols-requires-clause-within g c =
    let ps = own_in_load_order c.args.placement.now.base c.args.placement.now.objects in
    All-unmap (LiesWithin ps) meaning_view c.in-Listed.listed.now
    (subst (λ (d : OwnDefinitions). All (LiesWithin ps) (meanings_of d)) c.in-Listed.is c.requires.within)
