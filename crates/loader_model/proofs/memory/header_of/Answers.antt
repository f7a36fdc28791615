use Rattle.std.proofs.Common.{length, subst}
use Rattle.elf_model.specs.Image.MemoryImage.{IsImageHeader}
use Rattle.elf_model.specs.declared.records.FileHeader.{FileHeader}
use Rattle.loader_model.proofs.memory.header_of.Goals as goal

pub returns-clause-good : goal.returns-clause-good
returns-clause-good c = record {
  long = c.in-Some.ensures.0;
  header =
      subst (λ (h : FileHeader). IsImageHeader (length c.args.file.now) h) c.in-Some.ensures.1
      (c.is_image_header.ensures.0 c.if-not-is_image_header.false);
}
