use Rattle.std.proofs.Common.{refl}
use Rattle.elf_model.specs.Link.Relocation.{relocation_of}
use Rattle.search.specs.Views.{loaded_view}
use Rattle.wrong_references.proofs.overlaps.field_of.Goals as goal

pub returns : goal.returns
returns c =
    let wide = c.width.ensures (relocation_of c.args._object (loaded_view c.args._one.now) c.args.rela.target c.args.entry.now) refl in
    λ j. record {
      section = c.from.ensures j;
      start = c.args.entry.now.r_offset;
      width = wide j;
      entry = record { table = c.from-2.ensures j; number = c.args.number };
    }
