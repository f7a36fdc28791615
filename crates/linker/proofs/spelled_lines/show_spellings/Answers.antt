use Rattle.std.proofs.Common.{◌∙◌, ◌<◌, ◌^◌, List, ap, length, map, subst}
use Rattle.std.specs.Prelude.{All, option_to_list}
use Rattle.elf_model.specs.Link.Commons.{Block, blocks}
use Rattle.elf_model.specs.Link.Loading.{LoadedObject}
use Rattle.elf_model.specs.Image.MapText.{AreBytes, FitsDrop, FitsGot, FitsObject, FitsPlace, FitsSlot}
use Rattle.elf_model.specs.Link.Meaning.{Common}
use Rattle.elf_model.specs.Own.OwnLayout.{own_got, own_slots}
use Rattle.elf_model.specs.Link.Pieces.{AreLawfulKinds, kept_sections}
use Rattle.elf_model.specs.Link.Resolution.{AreSoundSymbols}
use Rattle.elf_model.specs.Image.RightLink.{drop_rows, object_rows}
use Rattle.layout.specs.Placements.{Basis}
use Rattle.relocate.specs.Uses.{line_views}
use Rattle.resolve.specs.Blocks.{block_views}
use Rattle.image_write.specs.Maps.{own_row}
use Rattle.linker.specs.Spelled.{FitsLines}
use Rattle.linker.proofs.SpelledMaps.{spelled_map}
use Rattle.linker.proofs.spelled_lines.show_spellings.Goals as goal

pub returns-clause-spelled : goal.returns-clause-spelled
returns-clause-spelled c =
    let p = c.args.loaded.now.plan in
    let objects = c.args.loaded.now.objects in
    let placed = c.requires.same in
    let exact = c.objects-objects.ensures.exact in
    spelled_map p objects (line_views c.args.linkers.now) c.requires.linkers
    (subst (λ (b : Basis). AreLawfulKinds b.objects) placed c.requires.kinds) c.requires.room
    (subst AreSoundSymbols c.requires.resolved c.definitions-definitions.ensures.defined.sound)
    (subst (All (λ (o : LoadedObject). AreBytes o.bytes)) exact c.show_contents.ensures)
    (subst (λ (os : List LoadedObject). length os < 2 ^ 64) exact c.show_count.ensures)
    (subst (All (λ (b : Block). FitsLines (record { base = p.base; objects = objects }) (Common b)))
    (c.blocks-2.ensures.exact ∙ ap blocks c.requires.resolved)
    (subst (λ (y : Basis). All (λ (b : Block). FitsLines y (Common b)) (block_views c.blocks-2.result.now)) placed c.show_blocks.ensures))
    (subst (λ (y : Basis). All (FitsLines y) (line_views c.args.linkers.now)) placed c.show_linkers.ensures)
    (subst (λ (os : List LoadedObject). All FitsObject (object_rows 0 os)) exact c.show_objects.ensures)
    (subst (λ (os : List LoadedObject). All FitsDrop (drop_rows 0 os)) exact c.show_drops.ensures)
    (subst (λ (y : Basis). All FitsPlace (map (own_row y) (kept_sections objects))) placed
    (subst (λ (os : List LoadedObject). All FitsPlace (map (own_row c.args.placement.now) (kept_sections os))) exact c.show_places.ensures))
    (subst (λ (y : Basis). All FitsGot (option_to_list (own_got y.base y.objects))) placed c.show_got.ensures)
    (subst (λ (y : Basis). All FitsSlot (own_slots y.base y.objects)) placed c.show_slots.ensures)
