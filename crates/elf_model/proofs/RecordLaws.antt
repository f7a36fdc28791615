-- What is read of a record's spelling is the record, whatever stands behind it.
use Rattle.std.proofs.Common.{◌+◌, ◌≡◌, ℕ, List, [], ◌++◌, length, refl, ap, sym, ◌∙◌, arith, append_assoc}
use Rattle.std.specs.Int.{w64, cast_signed, cast_unsigned}
use Rattle.std.proofs.Math.Facts.{Fits-of_z}
use Rattle.std.proofs.lemmas.Int.{to_z-of_z}
use Rattle.std.proofs.lemmas.List.{append-nil, length-append, take_at}
use Rattle.byteview.specs.Numbers.{le, le_at, le_bytes}
use Rattle.byteview.proofs.NumberLaws.{le-le_bytes, part-behind}
use Rattle.elf_model.specs.declared.records.FileHeader.{FileHeader}
use Rattle.elf_model.specs.declared.records.SectionHeader.{SectionHeader}
use Rattle.elf_model.specs.declared.records.Symbol.{Symbol}
use Rattle.elf_model.specs.declared.records.Rela.{Rela}
use Rattle.elf_model.specs.declared.records.ProgramHeader.{ProgramHeader}
use Rattle.elf_model.specs.Inputs.Records.{file_header, file_header_bytes, FitsFileHeader, section_header, section_header_bytes, FitsSectionHeader, symbol, symbol_bytes, FitsSymbol, rela, rela_bytes, FitsRela, program_header, program_header_bytes, FitsProgramHeader}

pub section_header-again : (h : SectionHeader) (rest : List ℕ) → FitsSectionHeader h → section_header (section_header_bytes h ++ rest) ≡ h
unfolding section_header_bytes le_bytes
section_header-again h rest fits = λ i. record {
  sh_name = le-le_bytes 4 h.sh_name fits.sh_name i;
  sh_type = le-le_bytes 4 h.sh_type fits.sh_type i;
  sh_flags = le-le_bytes 8 h.sh_flags fits.sh_flags i;
  sh_addr = le-le_bytes 8 h.sh_addr fits.sh_addr i;
  sh_offset = le-le_bytes 8 h.sh_offset fits.sh_offset i;
  sh_size = le-le_bytes 8 h.sh_size fits.sh_size i;
  sh_link = le-le_bytes 4 h.sh_link fits.sh_link i;
  sh_info = le-le_bytes 4 h.sh_info fits.sh_info i;
  sh_addralign = le-le_bytes 8 h.sh_addralign fits.sh_addralign i;
  sh_entsize = le-le_bytes 8 h.sh_entsize fits.sh_entsize i;
}

pub section_header_written : (h : SectionHeader) (out : List ℕ) → out ≡ section_header_bytes h → FitsSectionHeader h → section_header out ≡ h
unfolding section_header_bytes le_bytes
section_header_written h out e fits = ap section_header e ∙ section_header-again h [] fits

pub symbol-again : (s : Symbol) (rest : List ℕ) → FitsSymbol s → symbol (symbol_bytes s ++ rest) ≡ s
unfolding symbol_bytes le_bytes
symbol-again s rest fits = λ i. record {
  st_name = le-le_bytes 4 s.st_name fits.st_name i;
  st_info = le-le_bytes 1 s.st_info fits.st_info i;
  st_other = le-le_bytes 1 s.st_other fits.st_other i;
  st_shndx = le-le_bytes 2 s.st_shndx fits.st_shndx i;
  st_value = le-le_bytes 8 s.st_value fits.st_value i;
  st_size = le-le_bytes 8 s.st_size fits.st_size i;
}

pub symbol_written : (s : Symbol) (out : List ℕ) → out ≡ symbol_bytes s → FitsSymbol s → symbol out ≡ s
unfolding symbol_bytes le_bytes
symbol_written s out e fits = ap symbol e ∙ symbol-again s [] fits

pub rela-again : (r : Rela) (rest : List ℕ) → FitsRela r → rela (rela_bytes r ++ rest) ≡ r
unfolding rela_bytes le_bytes
rela-again r rest fits = λ i. record {
  r_offset = le-le_bytes 8 r.r_offset fits.r_offset i;
  r_info = le-le_bytes 8 r.r_info fits.r_info i;
  r_addend = (ap (cast_signed w64) (le-le_bytes 8 (cast_unsigned w64 r.r_addend) (Fits-of_z {w = w64} fits.r_addend).fits) ∙ to_z-of_z w64 r.r_addend fits.r_addend) i;
}

pub rela_written : (r : Rela) (out : List ℕ) → out ≡ rela_bytes r → FitsRela r → rela out ≡ r
unfolding rela_bytes le_bytes
rela_written r out e fits = ap rela e ∙ rela-again r [] fits

pub program_header-again : (h : ProgramHeader) (rest : List ℕ) → FitsProgramHeader h → program_header (program_header_bytes h ++ rest) ≡ h
unfolding program_header_bytes le_bytes
program_header-again h rest fits = λ i. record {
  p_type = le-le_bytes 4 h.p_type fits.p_type i;
  p_flags = le-le_bytes 4 h.p_flags fits.p_flags i;
  p_offset = le-le_bytes 8 h.p_offset fits.p_offset i;
  p_vaddr = le-le_bytes 8 h.p_vaddr fits.p_vaddr i;
  p_paddr = le-le_bytes 8 h.p_paddr fits.p_paddr i;
  p_filesz = le-le_bytes 8 h.p_filesz fits.p_filesz i;
  p_memsz = le-le_bytes 8 h.p_memsz fits.p_memsz i;
  p_align = le-le_bytes 8 h.p_align fits.p_align i;
}

pub program_header_written : (h : ProgramHeader) (out : List ℕ) → out ≡ program_header_bytes h → FitsProgramHeader h → program_header out ≡ h
unfolding program_header_bytes le_bytes
program_header_written h out e fits = ap program_header e ∙ program_header-again h [] fits

-- the numbers behind e_ident
unfoldable header_numbers : FileHeader → List ℕ
header_numbers h =
    le_bytes 2 h.e_type ++ le_bytes 2 h.e_machine ++ le_bytes 4 h.e_version ++ le_bytes 8 h.e_entry ++ le_bytes 8 h.e_phoff ++ le_bytes 8 h.e_shoff ++ le_bytes 4 h.e_flags ++ le_bytes 2 h.e_ehsize ++ le_bytes 2 h.e_phentsize ++ le_bytes 2 h.e_phnum ++ le_bytes 2 h.e_shentsize ++ le_bytes 2 h.e_shnum ++ le_bytes 2 h.e_shstrndx

header_parts : (h : FileHeader) → file_header_bytes h ≡ h.e_ident ++ header_numbers h
unfolding file_header_bytes header_numbers
header_parts h = simp append_assoc

header_number : (n k at x : ℕ) (h : FileHeader) (rest : List ℕ) → length h.e_ident ≡ 16 → at ≡ 16 + k → le_at n (header_numbers h ++ rest) k ≡ x
    → le_at n (h.e_ident ++ (header_numbers h ++ rest)) at ≡ x
header_number n k at x h rest len e is = ap le (part-behind h.e_ident (header_numbers h ++ rest) at k n (omega (arith, len, e))) ∙ is

header_from_parts : (h : FileHeader) (rest : List ℕ) → FitsFileHeader h → file_header (h.e_ident ++ (header_numbers h ++ rest)) ≡ h
unfolding header_numbers le_bytes
header_from_parts h rest fits = λ i. record {
  e_ident = take_at h.e_ident (header_numbers h ++ rest) 16 fits.e_ident i;
  e_type = header_number 2 0 16 h.e_type h rest fits.e_ident refl (le-le_bytes 2 h.e_type fits.e_type) i;
  e_machine = header_number 2 2 18 h.e_machine h rest fits.e_ident refl (le-le_bytes 2 h.e_machine fits.e_machine) i;
  e_version = header_number 4 4 20 h.e_version h rest fits.e_ident refl (le-le_bytes 4 h.e_version fits.e_version) i;
  e_entry = header_number 8 8 24 h.e_entry h rest fits.e_ident refl (le-le_bytes 8 h.e_entry fits.e_entry) i;
  e_phoff = header_number 8 16 32 h.e_phoff h rest fits.e_ident refl (le-le_bytes 8 h.e_phoff fits.e_phoff) i;
  e_shoff = header_number 8 24 40 h.e_shoff h rest fits.e_ident refl (le-le_bytes 8 h.e_shoff fits.e_shoff) i;
  e_flags = header_number 4 32 48 h.e_flags h rest fits.e_ident refl (le-le_bytes 4 h.e_flags fits.e_flags) i;
  e_ehsize = header_number 2 36 52 h.e_ehsize h rest fits.e_ident refl (le-le_bytes 2 h.e_ehsize fits.e_ehsize) i;
  e_phentsize = header_number 2 38 54 h.e_phentsize h rest fits.e_ident refl (le-le_bytes 2 h.e_phentsize fits.e_phentsize) i;
  e_phnum = header_number 2 40 56 h.e_phnum h rest fits.e_ident refl (le-le_bytes 2 h.e_phnum fits.e_phnum) i;
  e_shentsize = header_number 2 42 58 h.e_shentsize h rest fits.e_ident refl (le-le_bytes 2 h.e_shentsize fits.e_shentsize) i;
  e_shnum = header_number 2 44 60 h.e_shnum h rest fits.e_ident refl (le-le_bytes 2 h.e_shnum fits.e_shnum) i;
  e_shstrndx = header_number 2 46 62 h.e_shstrndx h rest fits.e_ident refl (le-le_bytes 2 h.e_shstrndx fits.e_shstrndx) i;
}

pub file_header-again : (h : FileHeader) (rest : List ℕ) → FitsFileHeader h → file_header (file_header_bytes h ++ rest) ≡ h
file_header-again h rest fits = rw (header_parts h, append_assoc) (header_from_parts h rest fits)

pub file_header_written : (h : FileHeader) (out : List ℕ) → out ≡ file_header_bytes h → FitsFileHeader h → file_header out ≡ h
file_header_written h out e fits = ap file_header (e ∙ sym (append-nil (file_header_bytes h))) ∙ file_header-again h [] fits

pub length-section_header_bytes : (h : SectionHeader) → length (section_header_bytes h) ≡ 64
unfolding section_header_bytes le_bytes
length-section_header_bytes h = refl

pub length-symbol_bytes : (s : Symbol) → length (symbol_bytes s) ≡ 24
unfolding symbol_bytes le_bytes
length-symbol_bytes s = refl

pub length-program_header_bytes : (h : ProgramHeader) → length (program_header_bytes h) ≡ 56
unfolding program_header_bytes le_bytes
length-program_header_bytes h = refl

pub length-file_header_bytes : (h : FileHeader) → length h.e_ident ≡ 16 → length (file_header_bytes h) ≡ 64
unfolding header_numbers le_bytes
length-file_header_bytes h len = ap length (header_parts h) ∙ length-append h.e_ident (header_numbers h) ∙ ap (λ (k : ℕ). k + 48) len
