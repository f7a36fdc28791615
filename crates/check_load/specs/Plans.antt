-- When the objects of a plan can be loaded.
use Rattle.elf_model.specs.Inputs.Command.{Plan}
use Rattle.elf_model.specs.Inputs.Files.{File}
use Rattle.elf_model.specs.Link.Loading.{AreObjects, HaveLawfulGroups, loaded_objects}
use Rattle.elf_model.specs.Inputs.Opening.{AreArchives, AreFilesThere, HaveIndexes, opened}
use Rattle.std.specs.Prelude.{List}

-- each item has a file, the archives among them are archives and have the indexes that a search needs, and what
-- loading comes to are objects with lawful groups
pub record CanLoad (files : List File) (plan : Plan) : Type 0 where
  pub files_there : AreFilesThere files plan
  pub archives : AreArchives (opened files plan)
  pub indexes : HaveIndexes (opened files plan)
  pub objects : AreObjects (loaded_objects files plan)
  pub groups : HaveLawfulGroups (loaded_objects files plan)
