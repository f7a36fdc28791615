-- Lines of merged strings and constants: what they say is something, and lies in a segment as its area does.
use Rattle.std.proofs.Common.{◌≡◌, ℕ, Bool, true, false, ◌<◌, List, Option, None, Some, refl, arith}
use Rattle.std.specs.Prelude.{All, Any, IsSomeAnd, find}
use Rattle.std.proofs.lemmas.List.Elements.{All-contains}
use Rattle.elf_model.proofs.Finding.{find-found}
use Rattle.elf_model.specs.Image.MemoryImage.{Encloses}
use Rattle.elf_model.specs.Link.Pieces.{Piece, has_flag}
use Rattle.elf_model.specs.declared.constants.TheConstants.{SHF_STRINGS}
use Rattle.elf_model.specs.declared.records.ProgramHeader.{ProgramHeader}
use Rattle.judge_model.specs.Merged.{IsMergedRight, IsPieceRight, IsPiece, IsWithin, is_section_of}
use Rattle.judge_model.specs.declared.certificate.MergedLine.{MergedLine}
use Rattle.judge_model.specs.declared.certificate.StretchLine.{StretchLine}
use Rattle.merge_judge.specs.Lines.{IsSized}

piece_size : (p : Piece) (offset size : ℕ) → IsSized p → IsPiece p offset size → 0 < size
piece_size p offset size sized h = by (has_flag SHF_STRINGS p.header) refl
  where
    by : (b : Bool) → has_flag SHF_STRINGS p.header ≡ b → 0 < size
    by true is = let s = h.string is in s.some
    by false is = let s = h.constant is in let e = s.unit in omega (arith, e, sized)

pub found_sized : (ps : List Piece) (m : MergedLine) (p : Piece) → All IsSized ps → find (is_section_of m) ps ≡ Some p → IsSized p
found_sized ps m p sized is = All-contains IsSized ps p sized (find-found (is_section_of m) ps p is).there

pub some_size :
    (image : List ℕ) (ps : List Piece) (areas : List StretchLine) (m : MergedLine) → All IsSized ps →
    IsMergedRight image ps areas m → 0 < m.size
some_size image ps areas m sized h = by (find (is_section_of m) ps) refl h.section
  where
    by : (o : Option Piece) → find (is_section_of m) ps ≡ o → IsSomeAnd o (IsPieceRight image m) → 0 < m.size
    by None is never = absurd never
    by (Some p) is right = piece_size p m.offset m.size (found_sized ps m p sized is) right.piece

pub enclosed_in :
    (hs : List ProgramHeader) (areas : List StretchLine) (m : MergedLine) →
    All (λ a. Any (λ h. Encloses h a.address a.size) hs) areas → Any (IsWithin m) areas → Any (λ h. Encloses h m.address m.size) hs
enclosed_in hs areas m enclosed (i, a, low, is, within) =
    let has = All-contains (λ (x : StretchLine). Any (λ h. Encloses h x.address x.size) hs) areas a enclosed (i, low, is) in
    let e = has.4 in
    let begins = e.0 in
    let ends = e.1 in
    let first = within.0 in
    let last = within.1 in
    (has.0, has.1, has.2, has.3, (omega (arith, begins, first), omega (arith, ends, last)))
