use Rattle.std.proofs.Common.{ℕ, List, ap, sym, ◌∙◌}
use Rattle.std.specs.Prelude.{Some, find, option_map}
use Rattle.elf_model.specs.Image.MemoryImage.{Cell, maps, segment_byte}
use Rattle.elf_model.specs.declared.records.ProgramHeader.{ProgramHeader}
use Rattle.loader_model.proofs.MemoryLemmas.{found_cell}
use Rattle.foreign_image.proofs.image.ForeignImage.byte.Goals as goal

pub returns : goal.returns
returns c =
    let f =
    found_cell c.args.self.now c.self.inside.file.now c.self.inside.segments.items c.args.addr c.in_ok-segment.segment.now
    c.self.view_is c.self.invariant.segments_are
    (c.in_ok-segment.ensures.found ∙ ap (λ (hs : List ProgramHeader). find (λ g. maps g c.args.addr) hs) c.deref.ensures.value) in
    let b = c.byte_in.ensures ∙ ap (λ (file : List ℕ). segment_byte file c.in_ok-segment.segment.now c.args.addr) c.self.view_is in
    ap Some b ∙ sym (ap (option_map (λ (x : Cell). x.byte)) f)
