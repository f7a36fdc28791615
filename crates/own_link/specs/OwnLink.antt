-- The statement that the linker's own layout is a right link.
use Rattle.std.specs.Prelude.{ℕ, ◌^◌, ◌<◌, List}
use Rattle.elf_model.specs.Own.Causes.{IsLinkable}
use Rattle.elf_model.specs.Inputs.Command.{IsBase, Plan}
use Rattle.elf_model.specs.Inputs.Files.{File}
use Rattle.elf_model.specs.Own.ImageFile.{image_file, own_entry, own_tabled, IsOwnMap}
use Rattle.elf_model.specs.Link.Loading.{loaded_objects}
use Rattle.elf_model.specs.Image.MapRecord.{MapRecord}
use Rattle.elf_model.specs.Image.MapText.{IsMap, text}
use Rattle.elf_model.specs.Image.RightLink.{IsRightLink}

-- where no cause of a refusal stands, the image file of the own layout and the text of its map are a right
-- link of these files and words. Beside that it asks for what every plan that is read has, a base address;
-- that the entry's value is an address of 64 bits; and that the own map is one that has a text. The image's symbol table,
-- where the words ask for one, is that of the map's lines.
abbrev pub OwnLinkIsRight : Type 0
OwnLinkIsRight =
    (files : List File) (words : List (List ℕ)) (p : Plan) (m : MapRecord)
    → IsLinkable files words p
    → IsBase p.base
    → own_entry p.base (loaded_objects files p) p.entry < 2 ^ 64
    → IsOwnMap p.base (loaded_objects files p) p.strip m
    → IsMap m
    → IsRightLink files words
    (image_file p.base (loaded_objects files p) (own_entry p.base (loaded_objects files p) p.entry) (own_tabled p.strip (loaded_objects files p) m.symbols))
    (text m)
