-- The notes of a link are right exactly where they are by what decides it.
use Rattle.std.proofs.Common.{◌⊎◌, inl, inr, List, ℕ, subst}
use Rattle.std.specs.Prelude.{◌↔◌, bit_or}
use Rattle.std.proofs.lemmas.List.Elements.{All-weaker}
use Rattle.elf_model.specs.Link.Loading.{LoadedObject}
use Rattle.judge_model.specs.Links.{ForeignLink, objects_of}
use Rattle.judge_model.specs.Notes.{AreNotesRight, IsBuildId, IsNoteRight, IsPropertyNote, allowed_bits, common_bits}
use Rattle.judge_model.specs.declared.certificate.StretchLine.{StretchLine}
use Rattle.note_judge.specs.Notes.{AreNotesBy, IsNoteBy, IsOfLink, IsPropertyBy}

module _ (l : ForeignLink) where
  kind_of : (n : StretchLine) → IsBuildId l.image n ⊎ IsPropertyBy l.image (allowed_bits l) n → IsBuildId l.image n ⊎ IsPropertyNote l n
  kind_of n (inl id) = inl id
  kind_of n (inr p) = inr (record { bits = p.bits; allowed = p.few; size = p.size; holds = p.holds })

  of_kind : (n : StretchLine) → IsBuildId l.image n ⊎ IsPropertyNote l n → IsBuildId l.image n ⊎ IsPropertyBy l.image (allowed_bits l) n
  of_kind n (inl id) = inl id
  of_kind n (inr p) = inr (record { bits = p.bits; few = p.allowed; size = p.size; holds = p.holds })

  own_right : AreNotesBy l.image (allowed_bits l) l.certificate.notes ↔ AreNotesRight l
  own_right = (
    λ r. record {
      each = All-weaker (IsNoteBy l.image (allowed_bits l)) (IsNoteRight l) (λ n p. record { aligned = p.aligned; inside = p.inside; kind = kind_of n p.kind }) l.certificate.notes r.each;
      two = r.two;
    },
    λ r. record {
      each = All-weaker (IsNoteRight l) (IsNoteBy l.image (allowed_bits l)) (λ n p. record { aligned = p.aligned; inside = p.inside; kind = of_kind n p.kind }) l.certificate.notes r.each;
      two = r.two;
    },
  )

  -- by what the code has of a link
  pub right_by : (image : List ℕ) (os : List LoadedObject) (notes : List StretchLine) (features : ℕ) → IsOfLink l image os notes features
      → AreNotesBy image (bit_or (common_bits os) features) notes ↔ AreNotesRight l
  right_by image os notes features of =
      subst (λ (i : List ℕ). AreNotesBy i (bit_or (common_bits os) features) notes ↔ AreNotesRight l) of.image_is
      (subst (λ (o : List LoadedObject). AreNotesBy l.image (bit_or (common_bits o) features) notes ↔ AreNotesRight l) of.objects_are
      (subst (λ (ns : List StretchLine). AreNotesBy l.image (bit_or (common_bits (objects_of l)) features) ns ↔ AreNotesRight l) of.notes_are
      (subst (λ (f : ℕ). AreNotesBy l.image (bit_or (common_bits (objects_of l)) f) l.certificate.notes ↔ AreNotesRight l) of.features_are
      own_right)))
