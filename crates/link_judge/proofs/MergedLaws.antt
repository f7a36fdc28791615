-- Merged strings and constants of a link, by what is at hand of it.
use Rattle.std.proofs.Common.{◌≡◌, ◌&&◌, ◌==◌, ◌<◌, ℕ, Bool, true, List, subst, arith}
use Rattle.std.specs.Prelude.{◌↔◌, All, Any, not}
use Rattle.std.proofs.lemmas.Bool.{and_parts, eqb-false, not-true}
use Rattle.std.proofs.lemmas.List.Elements.{All-weaker, filter_passes}
use Rattle.elf_model.specs.Image.MemoryImage.{loads}
use Rattle.elf_model.specs.Link.Pieces.{Piece, has_flag}
use Rattle.elf_model.specs.declared.constants.TheConstants.{SHF_MERGE}
use Rattle.judge_model.specs.Links.{ForeignLink, is_merged, is_mergeable, is_placed, is_read_only, merged_of, pieces_of}
use Rattle.judge_model.specs.Merged.{HoldsArea, IsMergedRight, may_write_all}
use Rattle.judge_model.specs.declared.certificate.MergedLine.{MergedLine}
use Rattle.judge_model.specs.declared.certificate.StretchLine.{StretchLine}
use Rattle.merge_judge.specs.Lines.{AreSized, IsSized}

some_size : (n : ℕ) → not (n == 0) ≡ true → 0 < n
some_size n e = let other = eqb-false n 0 (not-true (n == 0) e) in omega (arith, other)

module _ (l : ForeignLink) where
  sized_one : (p : Piece) → is_merged l p ≡ true → IsSized p
  sized_one p is =
      let mergeable = (and_parts (is_mergeable p) (not (is_placed l p)) is).0 in
      let rest = (and_parts (has_flag SHF_MERGE p.header) (not (p.header.sh_entsize == 0) && is_read_only p.header) mergeable).1 in
      some_size p.header.sh_entsize (and_parts (not (p.header.sh_entsize == 0)) (is_read_only p.header) rest).0

  pub sized : AreSized (merged_of l)
  sized = All-weaker (λ p. is_merged l p ≡ true) IsSized sized_one (merged_of l) (filter_passes (is_merged l) (pieces_of l))

  abbrev pub AreHeld : List ℕ → List StretchLine → Bool → Type 0
  AreHeld image areas anyway = All (λ a. Any (HoldsArea anyway a) (loads image)) areas

  pub held_iff : (image : List ℕ) (areas : List StretchLine) (anyway : Bool) → image ≡ l.image → areas ≡ l.certificate.areas → anyway ≡ may_write_all l →
      AreHeld image areas anyway ↔ AreHeld l.image l.certificate.areas (may_write_all l)
  held_iff image areas anyway images all_areas may =
      subst (λ (i : List ℕ). AreHeld image areas anyway ↔ AreHeld i l.certificate.areas (may_write_all l)) images
      (subst (λ (bs : List StretchLine). AreHeld image areas anyway ↔ AreHeld image bs (may_write_all l)) all_areas
      (subst (λ (w : Bool). AreHeld image areas anyway ↔ AreHeld image areas w) may (λ h. h, λ h. h)))

  abbrev pub AreLines : List ℕ → List Piece → List StretchLine → List MergedLine → Type 0
  AreLines image ps areas lines = All (IsMergedRight image ps areas) lines

  pub lines_iff : (image : List ℕ) (ps : List Piece) (areas : List StretchLine) (lines : List MergedLine) →
      image ≡ l.image → ps ≡ merged_of l → areas ≡ l.certificate.areas → lines ≡ l.certificate.merged →
      AreLines image ps areas lines ↔ AreLines l.image (merged_of l) l.certificate.areas l.certificate.merged
  lines_iff image ps areas lines images pieces all_areas all_lines =
      subst (λ (i : List ℕ). AreLines image ps areas lines ↔ AreLines i (merged_of l) l.certificate.areas l.certificate.merged) images
      (subst (λ (qs : List Piece). AreLines image ps areas lines ↔ AreLines image qs l.certificate.areas l.certificate.merged) pieces
      (subst (λ (bs : List StretchLine). AreLines image ps areas lines ↔ AreLines image ps bs l.certificate.merged) all_areas
      (subst (λ (ms : List MergedLine). AreLines image ps areas lines ↔ AreLines image ps areas ms) all_lines (λ h. h, λ h. h))))
