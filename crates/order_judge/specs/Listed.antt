-- What is decided of lines before any of their objects is loaded.
use Rattle.std.specs.Prelude.{AllPairs, IsPermutation, List, map}
use Rattle.elf_model.specs.Image.MapRecord.{ObjectRow}
use Rattle.elf_model.specs.Inputs.Command.{Plan}
use Rattle.elf_model.specs.Inputs.Files.{File}
use Rattle.elf_model.specs.Inputs.Opening.{opened}
use Rattle.elf_model.specs.Link.Loading.{loaded_objects}
use Rattle.judge_model.specs.Loaded.{origin_of}
use Rattle.order_judge.specs.Lines.{AreLines}
use Rattle.order_judge.specs.Origins.{origin_of_row}
use Rattle.order_judge.specs.Turns.{AreOriginsInTurn}

-- they are lines of the objects that the command loads, and those that it names are in its order
pub record AreListed (files : List File) (plan : Plan) (rows : List ObjectRow) : Type 0 where
  pub same : IsPermutation (map origin_of (loaded_objects files plan)) (map origin_of_row rows)
  pub lines : AreLines (opened files plan) 0 rows
  pub turns : AllPairs (AreOriginsInTurn (opened files plan)) (map origin_of_row rows)
