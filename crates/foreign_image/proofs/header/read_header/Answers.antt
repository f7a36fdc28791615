use Rattle.std.proofs.Common.{ℕ, ◌≤◌, List, length, subst}
use Rattle.std.specs.Prelude.{SomeIff}
use Rattle.elf_model.specs.Inputs.Records.{file_header}
use Rattle.foreign_image.proofs.header.read_header.Goals as goal

pub returns : goal.returns
returns c =
    subst (λ (bytes : List ℕ). SomeIff c.read.result (64 ≤ length bytes) (file_header bytes)) c.new.ensures c.read.ensures
