use Rattle.std.proofs.Common.{◌≡◌, ◌%◌, ◌^◌, arith}
use Rattle.std.proofs.lemmas.Grind.{common_steps}
use Rattle.elf_model.specs.Link.ThreadStorage.{block_in}
use Rattle.reloc_values.specs.ThreadOffsets.{thread_pointer}
use Rattle.debug_image.specs.DebugLayouts.{data_in}
use Rattle.debug_image.specs.DebugValues.{where_of}
use Rattle.debug_image.proofs.debug_values.terms.Goals as goal

pub returns : goal.returns
returns c =
    let d = data_in c.args.layout.now in
    let value : c.args.symbol ≡ c.args.symbol % 2 ^ 64 = grind (arith, common_steps) in
    record {
      symbol = value;
      addend = grind (arith, common_steps);
      place = c.place_of.ensures;
      slot = grind (arith, common_steps);
      got = c.requires.layout.got;
      size = c.requires.size;
      thread = c.offset_from.ensures c.args.symbol (thread_pointer (block_in (where_of d))) value c.requires.layout.pointer;
    }
