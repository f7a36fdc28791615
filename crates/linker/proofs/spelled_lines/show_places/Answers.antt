use Rattle.std.proofs.Common.{List, length, map, ◌<◌, ◌^◌, subst, sym}
use Rattle.std.specs.Prelude.{All}
use Rattle.elf_model.specs.Link.Loading.{AreObjects, LoadedObject}
use Rattle.elf_model.specs.Image.MapText.{AreBytes, FitsPlace}
use Rattle.elf_model.specs.Link.Pieces.{kept_sections}
use Rattle.image_write.specs.Maps.{own_row}
use Rattle.linker.proofs.PlaceLines.{all_places_fit}
use Rattle.linker.proofs.spelled_lines.show_places.Goals as goal

pub returns : goal.returns
returns c =
    let b = c.args.placement.now in
    let back = sym c.requires.same in
    subst (λ (os : List LoadedObject). All FitsPlace (map (own_row b) (kept_sections os))) c.requires.same
    (all_places_fit b.base b.objects c.requires.fits (subst AreObjects back c.requires.objects)
    (subst (All (λ (o : LoadedObject). AreBytes o.bytes)) back c.show_contents.ensures)
    (subst (λ (os : List LoadedObject). length os < 2 ^ 64) back c.show_count.ensures))
