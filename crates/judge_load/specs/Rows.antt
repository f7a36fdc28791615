-- When the objects of lines can be loaded.
use Rattle.std.specs.Prelude.{List}
use Rattle.elf_model.specs.Image.MapRecord.{ObjectRow}
use Rattle.elf_model.specs.Inputs.Command.{Plan}
use Rattle.elf_model.specs.Inputs.Files.{File}
use Rattle.elf_model.specs.Link.Loading.{AreObjects, HaveLawfulGroups}
use Rattle.elf_model.specs.Inputs.Opening.{AreArchives, AreFilesThere, HaveIndexes, opened}
use Rattle.judge_model.specs.Loaded.{objects_in_order}

-- each item has a file, the archives among them are archives and have the indexes that a search needs, and the objects of the
-- lines are objects with lawful groups
pub record CanLoadRows (files : List File) (plan : Plan) (rows : List ObjectRow) : Type 0 where
  pub files_there : AreFilesThere files plan
  pub archives : AreArchives (opened files plan)
  pub indexes : HaveIndexes (opened files plan)
  pub objects : AreObjects (objects_in_order files plan rows)
  pub groups : HaveLawfulGroups (objects_in_order files plan rows)
