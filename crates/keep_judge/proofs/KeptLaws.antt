-- Sections that are left out exactly where no image has them are those of a right link that collects none.
use Rattle.std.proofs.Common.{◌≡◌, ◌∙◌, ◌||◌, Bool, List, None, Option, ap, false, not, refl, sym, true}
use Rattle.std.specs.Prelude.{All}
use Rattle.std.proofs.lemmas.Bool.{false≢true}
use Rattle.elf_model.specs.Link.Pieces.{Piece, kept_sections}
use Rattle.judge_model.specs.Certificates.{is_left_out}
use Rattle.judge_model.specs.Kept as kept
use Rattle.judge_model.specs.Kept.{IsKept}
use Rattle.judge_model.specs.Links.{ForeignLink, is_in_image, objects_of}
use Rattle.judge_model.specs.Plans.{Script, is_match}
use Rattle.std.specs.List.{list_any, slice_index_or}
use Rattle.std.specs.Option.{option_map_or}
use Rattle.keep_judge.specs.Kept.{IsKeptIn, is_excluded}

or_false : (a : Bool) → (a || false) ≡ a
or_false true = refl
or_false false = refl

module _ (l : ForeignLink) (whole : l.plan.collects ≡ false) (bare : l.plan.script ≡ None) where
  same : (p : Piece) → kept.is_excluded l p ≡ is_excluded p
  same p = ap (λ (s : Option Script). is_excluded p || option_map_or (λ t. list_any (λ n. is_match n p.name) t.discards) s false) bare ∙ or_false (is_excluded p)

  out : (p : Piece) → is_left_out l.certificate.drops p.object p.section ≡ true → is_in_image l p ≡ false
  out p e = ap not e

  within : (p : Piece) → is_left_out l.certificate.drops p.object p.section ≡ false → is_in_image l p ≡ true
  within p e = ap not e

  is_out : (b : Bool) → not b ≡ false → b ≡ true
  is_out true e = refl
  is_out false e = sym e

  is_within : (b : Bool) → not b ≡ true → b ≡ false
  is_within true e = sym e
  is_within false e = refl

  one : (p : Piece) → (kept.is_excluded l p ≡ true → is_in_image l p ≡ false) → (kept.is_excluded l p ≡ false → is_in_image l p ≡ true) → IsKeptIn l.certificate.drops p
  one p out_there in_there = by (is_excluded p) refl
    where
      by : (b : Bool) → is_excluded p ≡ b → IsKeptIn l.certificate.drops p
      by true e = record { kept = is_out _ (out_there (same p ∙ e)) ∙ sym e }
      by false e = record { kept = is_within _ (in_there (same p ∙ e)) ∙ sym e }

  abbrev ps : List Piece
  ps = kept_sections (objects_of l)

  pub all_kept : All (IsKeptIn l.certificate.drops) (kept_sections (objects_of l)) → IsKept l
  all_kept all = record {
    excluded = λ k d low e. let p = slice_index_or ps k d in out p ((all k d low).kept ∙ (sym (same p) ∙ e));
    all = λ c k d low e. let p = slice_index_or ps k d in within p ((all k d low).kept ∙ (sym (same p) ∙ e));
    collected = λ c. absurd (false≢true (sym whole ∙ c));
  }

  pub kept_all : IsKept l → All (IsKeptIn l.certificate.drops) (kept_sections (objects_of l))
  kept_all is = λ k d low. one (slice_index_or ps k d) (is.excluded k d low) (is.all whole k d low)
