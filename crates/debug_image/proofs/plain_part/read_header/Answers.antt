use Rattle.std.proofs.Common.{◌≤◌, ℕ, List, length, subst}
use Rattle.std.specs.Prelude.{SomeIff}
use Rattle.elf_model.specs.Inputs.Records.{file_header}
use Rattle.debug_image.proofs.plain_part.read_header.Goals as goal

pub returns : goal.returns
returns c = subst (λ (xs : List ℕ). SomeIff c.read.result (64 ≤ length xs) (file_header xs)) c.new.ensures c.read.ensures
