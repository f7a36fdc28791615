-- Lines of which each is asked for when it is loaded.
use Rattle.std.specs.Prelude.{List, [], ◌∷◌, IsSomeAnd, slice_get}
use Rattle.elf_model.specs.Image.MapRecord.{ObjectRow}
use Rattle.elf_model.specs.Inputs.Command.{Plan}
use Rattle.elf_model.specs.Inputs.Opening.{Opened}
use Rattle.elf_model.specs.Link.Loading.{LoadedObject}
use Rattle.judge_model.specs.Loaded.{with_row}
use Rattle.order_judge.specs.MemberNames.{IsAskedFor}

abbrev pub IsRowAskedFor : List Opened → Plan → List LoadedObject → ObjectRow → Type 0
IsRowAskedFor os plan before row = IsSomeAnd (slice_get os row.item) (IsAskedFor plan before row.offset)

abbrev pub AreAskedFor : List Opened → Plan → List LoadedObject → List ObjectRow → Type 0
AreAskedFor os plan before [] = Unit {0}
AreAskedFor os plan before (row ∷ rows) = IsRowAskedFor os plan before row × AreAskedFor os plan (with_row os before row) rows
