use Rattle.std.proofs.Common.{length, refl, subst}
use Rattle.elf_model.specs.declared.records.FileHeader.{FileHeader}
use Rattle.judge_model.specs.Headers.{IsFileHeader}
use Rattle.foreign_image.proofs.header.header_of.Goals as goal

pub returns-clause-good : goal.returns-clause-good
returns-clause-good c = (
  λ t. record {
    long = c.in_ok-header.ensures.0;
    file =
        subst (λ (h : FileHeader). IsFileHeader (length c.args.file.now) h) c.in_ok-header.ensures.1
        (c.is_file_header.ensures.0 c.if-not-is_file_header.false);
  },
  λ h. refl,
)
