use Rattle.elf_read.proofs.Whole.{header_found}
use Rattle.elf_read.proofs.object_file.good_header.Goals as goal

pub returns-clause-good : goal.returns-clause-good
returns-clause-good c =
    let found = c.read_header.ensures in
    header_found c.args.file.now c.read_header.result found.header found.long found.elf64 found.relocatable found.machine found.ehsize found.table found.size
