-- An image from its header and its table, and the fault that stands.
use Rattle.std.proofs.Common.{◌≡◌, ℕ, ◌+◌, ◌*◌, ◌≤◌, List, length, subst, ◌∙◌, ap, arith}
use Rattle.std.specs.Prelude.{map}
use Rattle.std.specs.List.{range_with_len}
use Rattle.std.proofs.lemmas.List.FromFn.{length-map-range_with_len}
use Rattle.elf_model.specs.Image.MemoryImage.{HasImageHeader, IsImage, LoadFaultStands, program_header_at, program_headers}
use Rattle.elf_model.specs.Inputs.Records.{file_header}
use Rattle.elf_model.specs.declared.faults.LoadFault.{LoadFault}
use Rattle.elf_model.specs.declared.faults.LoadFault.TheVariants as fault
use Rattle.elf_model.specs.declared.records.FileHeader.{FileHeader}
use Rattle.elf_model.specs.declared.records.ProgramHeader.{ProgramHeader}
use Rattle.loader_model.specs.Table.{FaultInTable, IsGoodTable}

abbrev pub table_by : List ℕ → FileHeader → List ProgramHeader
table_by image h = map (program_header_at image) (range_with_len 0 h.e_phnum)

pub table_is :
    (image file : List ℕ) (h : FileHeader) (hs kept : List ProgramHeader) →
    file ≡ image → h ≡ file_header file → kept ≡ table_by file h → hs ≡ kept → hs ≡ program_headers image
table_is image file h hs kept same header kept_is hs_is =
    hs_is ∙ (kept_is ∙ (ap (table_by file) header ∙ ap program_headers same))

pub image_of :
    (image : List ℕ) (hs : List ProgramHeader) →
    HasImageHeader image → hs ≡ program_headers image → IsGoodTable (length image) hs → IsImage image
image_of image hs header table good =
    let g : IsGoodTable (length image) (program_headers image) = subst (IsGoodTable (length image)) table good in record {
      header = header;
      order = g.order;
      segments = g.segments;
      pages = g.pages;
    }

stands : (image : List ℕ) (f : LoadFault) → HasImageHeader image → FaultInTable (length image) (program_headers image) f → LoadFaultStands image f
stands image fault.Memory header s = tt
stands image fault.BadHeader header s = absurd s
stands image fault.BadSegment header s = (header, s)
stands image fault.Order header s = (header, s)
stands image fault.SharedPage header s = (header, s)

pub fault_of :
    (image : List ℕ) (hs : List ProgramHeader) (f : LoadFault) →
    HasImageHeader image → hs ≡ program_headers image → FaultInTable (length image) hs f → LoadFaultStands image f
fault_of image hs f header table s =
    stands image f header (subst (λ (ts : List ProgramHeader). FaultInTable (length image) ts f) table s)

pub table_inside :
    (file : List ℕ) (h : FileHeader) (hs kept : List ProgramHeader) →
    HasImageHeader file → h ≡ file_header file → kept ≡ table_by file h → hs ≡ kept →
    64 + 56 * length hs ≤ length file
table_inside file h hs kept header h_is kept_is hs_is =
    let n = ap length (hs_is ∙ kept_is) ∙ length-map-range_with_len (program_header_at file) 0 h.e_phnum in
    let m : h.e_phnum ≡ (file_header file).e_phnum = ap (λ (x : FileHeader). x.e_phnum) h_is in
    let i = header.header.inside in
    omega (arith, n, m, i)
