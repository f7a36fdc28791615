-- What is kept of an object, listed: the pieces of its sections, and its RELA sections.
use Rattle.std.proofs.Common.{◌≡◌, ℕ, suc, ◌+◌, ◌<◌, ◌^◌, ◌*◌, Bool, true, false, cond, List, [], ◌∷◌, ◌++◌, Some, length, map, refl, sym, ap, ◌∙◌, arith}
use Rattle.std.specs.Prelude.{All}
use Rattle.std.specs.List.{slice_get}
use Rattle.std.proofs.lemmas.List.Elements.{All-cons, All-nil}
use Rattle.std.proofs.lemmas.List.FromFn.{length-map-range_with_len}
use Rattle.std.proofs.lemmas.Option.{get_or_from_slice_get}
use Rattle.byteview.specs.Numbers.{part}
use Rattle.elf_model.specs.Link.Loading.{LoadedObject}
use Rattle.elf_model.specs.Inputs.ObjectFile.{IsObject, null_section, section, sections}
use Rattle.elf_model.specs.Link.Pieces.{Piece, is_kept, piece_of, pieces_from}
use Rattle.elf_model.specs.Inputs.Records.{file_header, section_header}
use Rattle.elf_model.specs.Link.Relocation.{is_kept_rela}
use Rattle.elf_model.specs.declared.records.SectionHeader.{SectionHeader}
use Rattle.check_load.specs.Kept.{IsKeptRela, IsKeptSection, kept_numbers, kept_relas, numbers_behind, piece_at, rela_at, relas_behind}

-- the number of a section of an object is below 2 ^ 32
pub section_numbered : (bytes : List ℕ) (hs : List SectionHeader) (i : ℕ) → IsObject bytes → hs ≡ sections bytes → i < length hs → i < 2 ^ 32
section_numbered bytes hs i o are within =
    let h = file_header bytes in
    let same = ap (λ (ys : List SectionHeader). length ys) are in
    let counted : length (sections bytes) ≡ h.e_shnum = length-map-range_with_len (λ j. section_header (part bytes (h.e_shoff + 64 * j) 64)) 0 h.e_shnum in
    omega (arith, within, same, counted, o.table.table.few)

-- a list stands in another from number i on
abbrev pub StandsAt : {X : Type 0} → List X → ℕ → List X → Type 0
StandsAt {X} all i xs = (j : ℕ) (x : X) → slice_get xs j ≡ Some x → slice_get all (i + j) ≡ Some x

pub whole_stands : {X : Type 0} (all : List X) → StandsAt all 0 all
whole_stands all j x at = let same : 0 + j ≡ j = omega arith in ap (slice_get all) same ∙ at

pub first_stands : {X : Type 0} (all : List X) (i : ℕ) (x : X) (xs : List X) → StandsAt all i (x ∷ xs) → slice_get all i ≡ Some x
first_stands all i x xs stands = let same : i ≡ i + 0 = omega arith in ap (slice_get all) same ∙ stands 0 x refl

pub others_stand : {X : Type 0} (all : List X) (i : ℕ) (x : X) (xs : List X) → StandsAt all i (x ∷ xs) → StandsAt all (i + 1) xs
others_stand all i x xs stands j y at = let same : i + 1 + j ≡ i + suc j = omega arith in ap (slice_get all) same ∙ stands (suc j) y at

-- the section of a number, where it is there
pub section_there : (hs : List SectionHeader) (i : ℕ) (h : SectionHeader) → slice_get hs i ≡ Some h → section hs i ≡ h
section_there hs i h there = get_or_from_slice_get hs i h null_section there

module _ (o : LoadedObject) where
  -- The sections.
  pieces_are :
      (n : ℕ) (hs : List SectionHeader) (i : ℕ) → StandsAt (sections o.bytes) i hs →
      pieces_from n o i hs ≡ map (piece_at n o) (numbers_behind o.dropped i hs)
  pieces_are n [] i stands = refl
  pieces_are n (h ∷ hs) i stands =
      by (is_kept o i h) (section_there (sections o.bytes) i h (first_stands (sections o.bytes) i h hs stands))
      (pieces_are n hs (i + 1) (others_stand (sections o.bytes) i h hs stands))
    where
      by :
          (b : Bool) → section (sections o.bytes) i ≡ h → pieces_from n o (i + 1) hs ≡ map (piece_at n o) (numbers_behind o.dropped (i + 1) hs) →
          cond b (piece_of n o.bytes i h ∷ pieces_from n o (i + 1) hs) (pieces_from n o (i + 1) hs)
          ≡ map (piece_at n o) (cond b (i ∷ []) [] ++ numbers_behind o.dropped (i + 1) hs)
      by true here rest =
          ap (λ (ps : List Piece). piece_of n o.bytes i h ∷ ps) rest
          ∙ ap (λ (g : SectionHeader). piece_of n o.bytes i g ∷ map (piece_at n o) (numbers_behind o.dropped (i + 1) hs)) (sym here)
      by false here rest = rest

  pub pieces_listed : (n : ℕ) → pieces_from n o 0 (sections o.bytes) ≡ map (piece_at n o) (kept_numbers o)
  pieces_listed n = pieces_are n (sections o.bytes) 0 (whole_stands (sections o.bytes))

  numbers_are : (hs : List SectionHeader) (i : ℕ) → StandsAt (sections o.bytes) i hs → All (IsKeptSection o) (numbers_behind o.dropped i hs)
  numbers_are [] i stands = All-nil (IsKeptSection o)
  numbers_are (h ∷ hs) i stands =
      by (is_kept o i h) refl (first_stands (sections o.bytes) i h hs stands) (numbers_are hs (i + 1) (others_stand (sections o.bytes) i h hs stands))
    where
      by :
          (b : Bool) → is_kept o i h ≡ b → slice_get (sections o.bytes) i ≡ Some h → All (IsKeptSection o) (numbers_behind o.dropped (i + 1) hs) →
          All (IsKeptSection o) (cond b (i ∷ []) [] ++ numbers_behind o.dropped (i + 1) hs)
      by true e there rest =
          let here = section_there (sections o.bytes) i h there in
          All-cons (IsKeptSection o) i (numbers_behind o.dropped (i + 1) hs) (record {
            there = there ∙ ap Some (sym here);
            kept = ap (is_kept o i) here ∙ e;
          }) rest
      by false e there rest = rest

  pub sections_kept : All (IsKeptSection o) (kept_numbers o)
  sections_kept = numbers_are (sections o.bytes) 0 (whole_stands (sections o.bytes))

  -- The RELA sections.
  relas_are : (hs : List SectionHeader) (i : ℕ) → StandsAt (sections o.bytes) i hs → All (IsKeptRela o) (relas_behind o.dropped o.bytes i hs)
  relas_are [] i stands = All-nil (IsKeptRela o)
  relas_are (h ∷ hs) i stands =
      by (is_kept_rela o i h) refl (first_stands (sections o.bytes) i h hs stands) (relas_are hs (i + 1) (others_stand (sections o.bytes) i h hs stands))
    where
      by :
          (b : Bool) → is_kept_rela o i h ≡ b → slice_get (sections o.bytes) i ≡ Some h → All (IsKeptRela o) (relas_behind o.dropped o.bytes (i + 1) hs) →
          All (IsKeptRela o) (cond b (rela_at i h ∷ []) [] ++ relas_behind o.dropped o.bytes (i + 1) hs)
      by true e there rest =
          let here = section_there (sections o.bytes) i h there in
          All-cons (IsKeptRela o) (rela_at i h) (relas_behind o.dropped o.bytes (i + 1) hs) (record {
            there = there ∙ ap Some (sym here);
            kept = ap (is_kept_rela o i) here ∙ e;
            target_is = ap (λ (g : SectionHeader). g.sh_info) (sym here);
          }) rest
      by false e there rest = rest

  pub relas_kept : All (IsKeptRela o) (kept_relas o)
  relas_kept = relas_are (sections o.bytes) 0 (whole_stands (sections o.bytes))
