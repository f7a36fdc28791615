-- What is kept of an object, listed: the pieces of the sections, and the relocations of the RELA sections.
use Rattle.std.proofs.Common.{◌≡◌, ℕ, suc, ◌+◌, ◌<◌, ◌^◌, ◌*◌, Bool, true, false, cond, List, [], ◌∷◌, ◌++◌, get_or, length, refl, sym, ap, ◌∙◌, arith}
use Rattle.std.specs.Prelude.{All}
use Rattle.std.proofs.lemmas.List.Elements.{All-cons, All-nil}
use Rattle.std.proofs.lemmas.List.FromFn.{length-map-range_with_len}
use Rattle.std.proofs.lemmas.Option.{slice_get-get_or}
use Rattle.byteview.specs.Numbers.{part}
use Rattle.elf_model.specs.Link.Loading.{LoadedObject}
use Rattle.elf_model.specs.Inputs.ObjectFile.{IsObject, null_section, section, sections}
use Rattle.elf_model.specs.Link.Pieces.{Piece, is_kept, piece_of, pieces_from}
use Rattle.elf_model.specs.Inputs.Records.{file_header, section_header}
use Rattle.elf_model.specs.Link.Relocation.{Relocation, is_kept_rela, relocations_behind, relocations_from, relocations_in}
use Rattle.elf_model.specs.declared.records.SectionHeader.{SectionHeader}
use Rattle.search.specs.KeptLists.{IsKeptRela, IsKeptSection, kept_behind, kept_numbers, kept_relas, pieces_at, relas_behind, relocations_of_relas}

-- the number of a section of an object is below 2 ^ 32
pub section_numbered : (bytes : List ℕ) (hs : List SectionHeader) (i : ℕ) → IsObject bytes → hs ≡ sections bytes → i < length hs → i < 2 ^ 32
section_numbered bytes hs i o are within =
    let h = file_header bytes in
    let same = ap (λ (ys : List SectionHeader). length ys) are in
    let counted : length (sections bytes) ≡ h.e_shnum = length-map-range_with_len (λ j. section_header (part bytes (h.e_shoff + 64 * j) 64)) 0 h.e_shnum in
    omega (arith, within, same, counted, o.table.table.few)

-- sections from number i on of all
abbrev Reads : List SectionHeader → ℕ → List SectionHeader → Type 0
Reads all i hs = (k j : ℕ) → j ≡ i + k → k < length hs → (j < length all) × (get_or all j null_section ≡ get_or hs k null_section)

later : (all : List SectionHeader) (i : ℕ) (h : SectionHeader) (hs : List SectionHeader) → Reads all i (h ∷ hs) → Reads all (i + 1) hs
later all i h hs reads k j at low = reads (suc k) j (omega (arith, at)) (omega (arith, low))

module _ (n : ℕ) (o : LoadedObject) where
  whole_reads : Reads (sections o.bytes) 0 (sections o.bytes)
  whole_reads k j at low = let same : k ≡ j = omega (arith, at) in (omega (arith, same, low), ap (λ (m : ℕ). get_or (sections o.bytes) m null_section) (sym same))

  first_reads : (h : SectionHeader) (hs : List SectionHeader) (i : ℕ) → Reads (sections o.bytes) i (h ∷ hs) → (i < length (sections o.bytes)) × (section (sections o.bytes) i ≡ h)
  first_reads h hs i reads = reads 0 i (omega arith) (omega arith)

  -- The sections.
  pieces_are :
      (hs : List SectionHeader) (i : ℕ) → Reads (sections o.bytes) i hs →
      pieces_from n o i hs ≡ pieces_at n o (kept_behind o.dropped i hs)
  pieces_are [] i reads = refl
  pieces_are (h ∷ hs) i reads = by (is_kept o i h) (pieces_are hs (i + 1) (later (sections o.bytes) i h hs reads))
    where
      by :
          (b : Bool) → pieces_from n o (i + 1) hs ≡ pieces_at n o (kept_behind o.dropped (i + 1) hs) →
          cond b (piece_of n o.bytes i h ∷ pieces_from n o (i + 1) hs) (pieces_from n o (i + 1) hs)
          ≡ pieces_at n o (cond b (i ∷ []) [] ++ kept_behind o.dropped (i + 1) hs)
      by true rest =
          ap (λ (ps : List Piece). piece_of n o.bytes i h ∷ ps) rest
          ∙ ap (λ (g : SectionHeader). piece_of n o.bytes i g ∷ pieces_at n o (kept_behind o.dropped (i + 1) hs)) (sym (first_reads h hs i reads).1)
      by false rest = rest

  pub pieces_listed : pieces_from n o 0 (sections o.bytes) ≡ pieces_at n o (kept_numbers o)
  pieces_listed = pieces_are (sections o.bytes) 0 whole_reads

  all_kept : (hs : List SectionHeader) (i : ℕ) → Reads (sections o.bytes) i hs → All (IsKeptSection o) (kept_behind o.dropped i hs)
  all_kept [] i reads = All-nil (IsKeptSection o)
  all_kept (h ∷ hs) i reads = by (is_kept o i h) refl (all_kept hs (i + 1) (later (sections o.bytes) i h hs reads))
    where
      by :
          (b : Bool) → is_kept o i h ≡ b → All (IsKeptSection o) (kept_behind o.dropped (i + 1) hs) →
          All (IsKeptSection o) (cond b (i ∷ []) [] ++ kept_behind o.dropped (i + 1) hs)
      by true e rest =
          let first = first_reads h hs i reads in
          All-cons (IsKeptSection o) i (kept_behind o.dropped (i + 1) hs)
          (record {
            there = slice_get-get_or (sections o.bytes) i null_section first.0;
            kept = ap (is_kept o i) first.1 ∙ e;
          }) rest
      by false e rest = rest

  pub sections_kept : All (IsKeptSection o) (kept_numbers o)
  sections_kept = all_kept (sections o.bytes) 0 whole_reads

  -- The RELA sections.
  relocations_are :
      (hs : List SectionHeader) (i : ℕ) → Reads (sections o.bytes) i hs →
      relocations_behind n o i hs ≡ relocations_of_relas n o (relas_behind o.bytes o.dropped i hs)
  relocations_are [] i reads = refl
  relocations_are (h ∷ hs) i reads = by (is_kept_rela o i h) (relocations_are hs (i + 1) (later (sections o.bytes) i h hs reads))
    where
      by :
          (b : Bool) → relocations_behind n o (i + 1) hs ≡ relocations_of_relas n o (relas_behind o.bytes o.dropped (i + 1) hs) →
          cond b (relocations_in n o h) [] ++ relocations_behind n o (i + 1) hs
          ≡ relocations_of_relas n o (cond b (record { target = h.sh_info; number = i } ∷ []) [] ++ relas_behind o.bytes o.dropped (i + 1) hs)
      by true rest =
          ap (λ (rs : List Relocation). relocations_in n o h ++ rs) rest
          ∙ ap (λ (g : SectionHeader). relocations_in n o g ++ relocations_of_relas n o (relas_behind o.bytes o.dropped (i + 1) hs)) (sym (first_reads h hs i reads).1)
      by false rest = rest

  pub relocations_listed : relocations_from n o ≡ relocations_of_relas n o (kept_relas o)
  relocations_listed = relocations_are (sections o.bytes) 0 whole_reads

  all_relas : (hs : List SectionHeader) (i : ℕ) → Reads (sections o.bytes) i hs → All (IsKeptRela o) (relas_behind o.bytes o.dropped i hs)
  all_relas [] i reads = All-nil (IsKeptRela o)
  all_relas (h ∷ hs) i reads = by (is_kept_rela o i h) refl (all_relas hs (i + 1) (later (sections o.bytes) i h hs reads))
    where
      by :
          (b : Bool) → is_kept_rela o i h ≡ b → All (IsKeptRela o) (relas_behind o.bytes o.dropped (i + 1) hs) →
          All (IsKeptRela o) (cond b (record { target = h.sh_info; number = i } ∷ []) [] ++ relas_behind o.bytes o.dropped (i + 1) hs)
      by true e rest =
          let first = first_reads h hs i reads in
          All-cons (IsKeptRela o) (record { target = h.sh_info; number = i }) (relas_behind o.bytes o.dropped (i + 1) hs)
          (record {
            there = slice_get-get_or (sections o.bytes) i null_section first.0;
            kept = ap (is_kept_rela o i) first.1 ∙ e;
            target_is = ap (λ (g : SectionHeader). g.sh_info) (sym first.1);
          }) rest
      by false e rest = rest

  pub relas_kept : All (IsKeptRela o) (kept_relas o)
  relas_kept = all_relas (sections o.bytes) 0 whole_reads
