use Rattle.std.proofs.Common.{List, [], ◌∷◌, ◌++◌, ◌∙◌, ap, sym, arith}
use Rattle.std.specs.Prelude.{map}
use Rattle.std.specs.List.{range_with_len}
use Rattle.elf_model.specs.declared.records.ProgramHeader.{ProgramHeader}
use Rattle.std.proofs.lemmas.List.FromFn.{map-range_with_len_more}
use Rattle.elf_model.specs.Image.MemoryImage.{program_header_at}
use Rattle.foreign_image.proofs.image.table_of.Goals as goal

pub loop-i-preserved : goal.loop-i-preserved
loop-i-preserved c =
    let e = map-range_with_len_more (program_header_at c.args.file.now) 0 c.loop-i.i c.loop-i.i (omega arith) in
    c.in_ok-push.ensures.items
    ∙ (ap (λ (v : List ProgramHeader). v ++ c.header_at.result ∷ []) c.loop-i.invariant
    ∙ (ap (λ (r : ProgramHeader). map (program_header_at c.args.file.now) (range_with_len 0 c.loop-i.i) ++ r ∷ []) c.header_at.ensures
    ∙ sym e))
