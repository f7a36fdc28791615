-- A program from its file header and its program headers.
use Rattle.std.proofs.Common.{◌≡◌, ℕ, ◌+◌, ◌*◌, ◌≤◌, List, length, subst, sym, ◌∙◌, ap, arith}
use Rattle.std.specs.Prelude.{Any, map}
use Rattle.std.specs.List.{range_with_len}
use Rattle.std.proofs.lemmas.List.FromFn.{length-map-range_with_len}
use Rattle.elf_model.specs.Image.MemoryImage.{loads_in, program_header_at, program_headers}
use Rattle.elf_model.specs.Inputs.Records.{file_header}
use Rattle.elf_model.specs.declared.records.FileHeader.{FileHeader}
use Rattle.elf_model.specs.declared.records.ProgramHeader.{ProgramHeader}
use Rattle.judge_model.specs.Headers.{HasTable, IsProgram}
use Rattle.foreign_image.specs.Images.{AreGoodHeaders, HasFileHeader, HoldsTable}

table_length : (image : List ℕ) → length (program_headers image) ≡ (file_header image).e_phnum
table_length image = length-map-range_with_len (program_header_at image) 0 (file_header image).e_phnum

pub file_header_of : (image : List ℕ) → IsProgram image → HasFileHeader image
file_header_of image p = record { long = p.long; file = p.file }

pub program_of :
    (image : List ℕ) (hs : List ProgramHeader) → HasFileHeader image → hs ≡ program_headers image →
    AreGoodHeaders (length image) hs → IsProgram image
unfolding HasTable
program_of image hs header table good =
    let g : AreGoodHeaders (length image) (program_headers image) = subst (AreGoodHeaders (length image)) table good in record {
      long = header.long;
      file = header.file;
      types = g.types;
      loads_are = g.loads_are;
      parts = g.parts;
      table = g.table;
      mapped = subst (λ (n : ℕ). Any (HoldsTable (64 + 56 * n)) (loads_in (program_headers image))) (table_length image) g.mapped;
    }

pub good_of :
    (image : List ℕ) (hs : List ProgramHeader) → hs ≡ program_headers image → IsProgram image → AreGoodHeaders (length image) hs
unfolding HasTable
good_of image hs table p =
    let good : AreGoodHeaders (length image) (program_headers image) = record {
      types = p.types;
      loads_are = p.loads_are;
      parts = p.parts;
      table = p.table;
      mapped = subst (λ (n : ℕ). Any (HoldsTable (64 + 56 * n)) (loads_in (program_headers image))) (sym (table_length image)) p.mapped;
    } in
    subst (AreGoodHeaders (length image)) (sym table) good

abbrev pub table_by : List ℕ → FileHeader → List ProgramHeader
table_by image h = map (program_header_at image) (range_with_len 0 h.e_phnum)

pub table_is :
    (file : List ℕ) (h : FileHeader) (hs : List ProgramHeader) → h ≡ file_header file → hs ≡ table_by file h → hs ≡ program_headers file
table_is file h hs header hs_is = hs_is ∙ ap (table_by file) header

pub table_inside :
    (file : List ℕ) (h : FileHeader) (hs : List ProgramHeader) →
    HasFileHeader file → h ≡ file_header file → hs ≡ table_by file h → 64 + 56 * length hs ≤ length file
table_inside file h hs has header hs_is =
    let n : length hs ≡ (file_header file).e_phnum = ap length (table_is file h hs header hs_is) ∙ table_length file in
    let i = has.file.inside in
    omega (arith, n, i)
