-- What is read of a file header and program headers, however many, is what they were made of.
use Rattle.std.proofs.Common.{◌≡◌, ℕ, suc, ◌+◌, ◌*◌, List, [], ◌∷◌, ◌++◌, length, refl, sym, ◌∙◌, ap, arith, append_assoc, take}
use Rattle.std.specs.Prelude.{All, map}
use Rattle.std.specs.List.{flat_map, range_with_len}
use Rattle.std.proofs.lemmas.List.{take_at, drop_at, length-append}
use Rattle.std.proofs.lemmas.List.Elements.{All-head, All-tail}
use Rattle.byteview.specs.Numbers.{part}
use Rattle.elf_model.proofs.RecordLaws.{file_header-again, program_header_written, length-program_header_bytes, length-file_header_bytes}
use Rattle.elf_model.specs.Image.MemoryImage.{program_headers, program_header_at}
use Rattle.elf_model.specs.Inputs.Records.{file_header, file_header_bytes, program_header_bytes, FitsFileHeader, FitsProgramHeader}
use Rattle.elf_model.specs.declared.records.FileHeader.{FileHeader}
use Rattle.elf_model.specs.declared.records.ProgramHeader.{ProgramHeader}

part_exact : (xs ys zs : List ℕ) (n m : ℕ) → length xs ≡ n → length ys ≡ m → part (xs ++ (ys ++ zs)) n m ≡ ys
part_exact xs ys zs n m xn ym = ap (take m) (drop_at xs (ys ++ zs) n xn) ∙ take_at ys zs m ym

-- program headers behind others
behind_front :
    (front : List ℕ) (hs : List ProgramHeader) (rest : List ℕ) (n : ℕ) → length front ≡ 64 + 56 * n → All FitsProgramHeader hs →
    map (program_header_at (front ++ (flat_map program_header_bytes hs ++ rest))) (range_with_len n (length hs)) ≡ hs
behind_front front [] rest n len fit = refl
behind_front front (h ∷ hs) rest n len fit =
    let mine = program_header_bytes h in
    let others = flat_map program_header_bytes hs ++ rest in
    let whole : front ++ ((mine ++ flat_map program_header_bytes hs) ++ rest) ≡ front ++ (mine ++ others) =
    ap (λ (xs : List ℕ). front ++ xs) (append_assoc mine (flat_map program_header_bytes hs) rest) in
    let first : program_header_at (front ++ (mine ++ others)) n ≡ h =
    program_header_written h _ (part_exact front mine others (64 + 56 * n) 56 len (length-program_header_bytes h))
    (All-head FitsProgramHeader h hs fit) in
    let longer : length (front ++ mine) ≡ 64 + 56 * (n + 1) =
    length-append front mine ∙ omega (arith, len, length-program_header_bytes h) in
    let later : map (program_header_at (front ++ (mine ++ others))) (range_with_len (n + 1) (length hs)) ≡ hs =
    ap (λ (xs : List ℕ). map (program_header_at xs) (range_with_len (n + 1) (length hs))) (sym (append_assoc front mine others))
    ∙ behind_front (front ++ mine) hs rest (n + 1) longer (All-tail FitsProgramHeader h hs fit) in
    ap (λ (xs : List ℕ). map (program_header_at xs) (range_with_len n (suc (length hs)))) whole
    ∙ (λ i. first i ∷ later i)

-- a file header, program headers and what is behind them
abbrev pub headed : FileHeader → List ProgramHeader → List ℕ → List ℕ
headed h hs rest = file_header_bytes h ++ (flat_map program_header_bytes hs ++ rest)

pub headed-header : (h : FileHeader) (hs : List ProgramHeader) (rest : List ℕ) → FitsFileHeader h → file_header (headed h hs rest) ≡ h
headed-header h hs rest fit = file_header-again h (flat_map program_header_bytes hs ++ rest) fit

pub headed-table :
    (h : FileHeader) (hs : List ProgramHeader) (rest : List ℕ) → FitsFileHeader h → All FitsProgramHeader hs → h.e_phnum ≡ length hs →
    program_headers (headed h hs rest) ≡ hs
headed-table h hs rest fit all count =
    let n : (file_header (headed h hs rest)).e_phnum ≡ length hs = ap (λ (g : FileHeader). g.e_phnum) (headed-header h hs rest fit) ∙ count in
    ap (λ (k : ℕ). map (program_header_at (headed h hs rest)) (range_with_len 0 k)) n
    ∙ behind_front (file_header_bytes h) hs rest 0 (length-file_header_bytes h fit.e_ident ∙ omega arith) all

-- the bytes of the headers
length-table : (hs : List ProgramHeader) → length (flat_map program_header_bytes hs) ≡ 56 * length hs
length-table [] = omega arith
length-table (h ∷ hs) =
    length-append (program_header_bytes h) (flat_map program_header_bytes hs)
    ∙ omega (arith, length-program_header_bytes h, length-table hs)

pub length-headers :
    (h : FileHeader) (hs : List ProgramHeader) → length h.e_ident ≡ 16 →
    length (file_header_bytes h ++ flat_map program_header_bytes hs) ≡ 64 + 56 * length hs
length-headers h hs ident =
    length-append (file_header_bytes h) (flat_map program_header_bytes hs)
    ∙ omega (arith, length-file_header_bytes h ident, length-table hs)
