-- A section with bytes has as many of them as its header says.
use Rattle.std.proofs.Common.{◌≡◌, ℕ, ◌==◌, ◌||◌, Bool, false, List, Some, inl, inr, length, drop, ap, sym, ◌∙◌, arith}
use Rattle.std.specs.List.{All, slice_get}
use Rattle.std.proofs.lemmas.Bool.{eq-eqb, false≢true}
use Rattle.std.proofs.lemmas.List.{length-drop, length-take-le}
use Rattle.std.proofs.Math.Bool.{or-true}
use Rattle.elf_model.specs.Inputs.ObjectFile.{IsPlaced, LiesInside, contents, has_no_bytes, section}
use Rattle.elf_model.specs.declared.records.SectionHeader.{SectionHeader}
use Rattle.elf_read.proofs.Lookups.{all_at}
use Rattle.std.proofs.lemmas.Option.{get_or_from_slice_get}
use Rattle.elf_model.specs.Inputs.ObjectFile.{null_section}

inside_with_bytes : (len : ℕ) (s : SectionHeader) → IsPlaced len s → has_no_bytes s ≡ false → LiesInside len s
inside_with_bytes len s placed some = elim placed.range [
  | inl null ↦ absurd (false≢true (sym some ∙ ap (λ (b : Bool). b || (s.sh_type == 8)) (eq-eqb s.sh_type 0 null)))
  | inr other ↦ elim other [
    | inl nobits ↦ absurd (false≢true (sym some ∙ ap (λ (b : Bool). (s.sh_type == 0) || b) (eq-eqb s.sh_type 8 nobits) ∙ or-true (s.sh_type == 0)))
    | inr inside ↦ inside
  ]
]

contents_size : (bytes : List ℕ) (s : SectionHeader) → LiesInside (length bytes) s → length (contents bytes s) ≡ s.sh_size
contents_size bytes s inside =
    length-take-le s.sh_size (drop s.sh_offset bytes) (omega (arith, length-drop s.sh_offset bytes, inside))

pub size_told : (bytes : List ℕ) (ss : List SectionHeader) (i : ℕ) (s : SectionHeader) (found : List ℕ) → All (IsPlaced (length bytes)) ss
    → slice_get ss i ≡ Some s → has_no_bytes s ≡ false → found ≡ contents bytes s → length found ≡ (section ss i).sh_size
size_told bytes ss i s found placed there some is =
    ap (λ (xs : List ℕ). length xs) is
    ∙ contents_size bytes s (inside_with_bytes (length bytes) s (all_at (IsPlaced (length bytes)) ss i s placed there) some)
    ∙ ap (λ (x : SectionHeader). x.sh_size) (sym (get_or_from_slice_get ss i s null_section there))
