use Rattle.elf_model.specs.Image.SymbolTable.{tabled}
use Rattle.check_tables.proofs.TableParts.{unpadded}
use Rattle.check_tables.proofs.c14_tables.strip_tables.Goals as goal

pub returns-clause-left : goal.returns-clause-left
returns-clause-left c = λ others.
    let b = c.args.bindings.now in
    let ms = tabled b.objects c.args.lines.now.rows in
    let zeros = unpadded b.places ms c.args.padding c.args.bytes.now c.args.count others c.in_ok-bytes.bytes c.in_ok-bytes.ensures in
    let front = c.in_ok-tables.ensures.tables b.places ms others in
    let lines = c.strip_lines.ensures.left others in (
      λ a. lines.0 (front.0 (zeros.0 a)),
      λ s. zeros.1 (front.1 (lines.1 s)),
    )
