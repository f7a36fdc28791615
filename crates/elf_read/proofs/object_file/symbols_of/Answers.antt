use Rattle.std.proofs.Common.{length, subst, sym}
use Rattle.elf_model.specs.Inputs.ObjectFile.{LiesInside}
use Rattle.elf_read.proofs.SectionLemmas.{table_inside}
use Rattle.elf_read.proofs.Whole.{symbols_by_table}
use Rattle.elf_read.proofs.object_file.symbols_of.Goals as goal

pub symbols_in-requires : goal.symbols_in-requires
symbols_in-requires c =
    let len = length c.args.file.now in
    subst (LiesInside len) (sym c.symbol_table.ensures) (table_inside len c.args.sections.now c.requires.ranges)

pub returns : goal.returns
returns c = symbols_by_table c.args.file.now c.args.sections.now c.symbol_table.result c.symbols_in.result c.symbol_table.ensures c.symbols_in.ensures
