-- A link that the profile's check accepts has all its sections, and their bytes.
use Rattle.std.proofs.Common.{◌∙◌, ap, arith, refl, subst, sym}
use Rattle.std.specs.Prelude.{◌≡◌, ◌+◌, ◌-◌, ◌<◌, ◌≤◌, ◌==◌, ◌||◌, ℕ, Bool, true, false, List, Option, Some, IsSome, All, Contains, bit_and, option_map, unwrap_or}
use Rattle.std.proofs.lemmas.Bool.{eqb-true, false≢true}
use Rattle.std.proofs.lemmas.List.Elements.{All-contains}
use Rattle.std.proofs.lemmas.Nat.{and_assoc}
use Rattle.std.specs.Int.Bits.{and_zero_r}
use Rattle.elf_model.proofs.Finding.{find-none}
use Rattle.elf_model.proofs.Listed.{All-from_contains}
use Rattle.elf_model.proofs.RelocationFields.{in_field}
use Rattle.elf_model.specs.Image.RightLink as right
use Rattle.elf_model.specs.Image.RightLink.{HoldsPiece, Subject, byte_at}
use Rattle.elf_model.specs.Inputs.ObjectFile.{rela_type}
use Rattle.elf_model.specs.Link.Loading.{LoadedObject}
use Rattle.elf_model.specs.Link.Pieces.{IsLawfulKind, Piece, has_flag, kept_sections, lawful_flags}
use Rattle.elf_model.specs.Link.Placement.{Placed}
use Rattle.elf_model.specs.Link.Relocation.{IsLawfulRelocation, Kind, Relocation, is_in_field, kind_of, relocation_kind, relocations}
use Rattle.elf_model.specs.Link.Relocation as profile
use Rattle.elf_model.specs.Link.WantedBytes.{byte_or_field}
use Rattle.elf_model.specs.declared.records.SectionHeader.{SectionHeader}
use Rattle.elf_model.specs.declared.verdict.Clause.{Clause}
use Rattle.elf_model.specs.declared.verdict.Clause.TheVariants.{C3, C9, C10}
use Rattle.judge_model.specs.Fields as foreign
use Rattle.judge_model.specs.Fields.{HoldsRest, IsInPlace}
use Rattle.judge_model.specs.Rewrites.{front_of}
use Rattle.judge_model.specs.Kept.{is_excluded, shf_exclude}
use Rattle.judge_model.specs.Links.{is_in_image, objects_of, placed_of, relocations_of}
use Rattle.judge_model.specs.Plans.{is_discarded}
use Rattle.judge_law.proofs.SameParts.{AreInOrder, in_order, placed_same, relocations_same}
use Rattle.judge_law.proofs.EntryConserved.{entry_right}
use Rattle.judge_law.proofs.ThreadConserved.{thread_block_right}
use Rattle.judge_law.specs.Conservative.{CheckedLinksAreRight, foreign_of}

-- lawful flags have no SHF_EXCLUDE
not_excluded : (h : SectionHeader) → bit_and h.sh_flags lawful_flags ≡ h.sh_flags → has_flag shf_exclude h ≡ false
not_excluded h lawful =
    let z : bit_and h.sh_flags shf_exclude ≡ 0 = ap (λ f. bit_and f shf_exclude) (sym lawful) ∙ and_assoc shf_exclude h.sh_flags lawful_flags ∙ and_zero_r h.sh_flags in
    rw z refl

-- the type that the profile doesn't know
not_known : (t : ℕ) → 31 ≡ t → IsSome (kind_of t) → ⊥
unfolding kind_of
not_known t e k = false≢true (subst (λ n. IsSome (kind_of n)) (sym e) k)

-- a kind of the profile is the same for a judge
kind_same : (r : Relocation) → IsSome (relocation_kind r) → foreign.kind_of r ≡ relocation_kind r
unfolding kind_of
kind_same r known = by (31 == rela_type r.entry) refl
  where
    by : (b : Bool) → (31 == rela_type r.entry) ≡ b → foreign.kind_of r ≡ relocation_kind r
    by true e = absurd (not_known (rela_type r.entry) (eqb-true 31 (rela_type r.entry) e) known)
    by false e = rw e refl

-- a field lies in its place
in_place : (front width offset k : ℕ) → offset ≤ k → k < offset + width → ((offset - front) ≤ k) × (k < (offset - front) + (front + width))
in_place front width offset k low high = (omega (arith, low), omega (arith, high))

module _ (s : Subject) (order : AreInOrder s) (holds : (c : Clause) → right.Holds c s) where
  known : (r : Relocation) → Contains (relocations (right.objects_of s)) r → IsSome (relocation_kind r)
  known r c = (All-contains (IsLawfulRelocation (right.objects_of s)) (relocations (right.objects_of s)) r (holds C9).lawful.each c).known

  no_field :
      (q : Placed) (k : ℕ)
      → All (λ r. r.object ≡ q.piece.object → r.section ≡ q.piece.section → ¬ IsInPlace r k) (relocations_of (foreign_of s))
      → All (λ r. is_in_field q.piece.object q.piece.section k r ≡ false) (relocations (right.objects_of s))
  no_field q k outside = All-from_contains (λ r. is_in_field q.piece.object q.piece.section k r ≡ false) (relocations (right.objects_of s)) each
    where
      here : All (λ (r : Relocation). r.object ≡ q.piece.object → r.section ≡ q.piece.section → ¬ IsInPlace r k) (relocations (right.objects_of s))
      here =
          subst (All (λ (r : Relocation). r.object ≡ q.piece.object → r.section ≡ q.piece.section → ¬ IsInPlace r k)) (relocations_same s order holds) outside

      each : (r : Relocation) → Contains (relocations (right.objects_of s)) r → is_in_field q.piece.object q.piece.section k r ≡ false
      each r c = by (is_in_field q.piece.object q.piece.section k r) refl
        where
          by : (b : Bool) → is_in_field q.piece.object q.piece.section k r ≡ b → is_in_field q.piece.object q.piece.section k r ≡ false
          by false e = e
          by true e =
              let f = in_field q.piece.object q.piece.section k r e in
              let w : profile.width_of r ≡ foreign.width_of r = ap (λ (o : Option Kind). unwrap_or (option_map (λ k. k.width) o) 0) (sym (kind_same r (known r c))) in
              absurd
              (All-contains (λ (r : Relocation). r.object ≡ q.piece.object → r.section ≡ q.piece.section → ¬ IsInPlace r k)
              (relocations (right.objects_of s)) r here c f.0 f.1
              (in_place (front_of r.entry) (foreign.width_of r) r.entry.r_offset k f.2 (subst (λ n. k < r.entry.r_offset + n) w f.3)))

  rest : (q : Placed) → Contains (right.placed_of s) q → HoldsRest (foreign_of s) q
  rest q c = record {
    bytes = λ k below outside.
        (All-contains (HoldsPiece (right.objects_of s) (right.where_of s) s.image) (right.placed_of s) q (holds C10) c).bytes k below
        ∙ ap (λ (o : Option Relocation). Some (byte_or_field (right.objects_of s) (right.where_of s) q.piece k o))
        (find-none (is_in_field q.piece.object q.piece.section k) (relocations (right.objects_of s)) (no_field q k outside));
  }

  all_rest : All (HoldsRest (foreign_of s)) (placed_of (foreign_of s))
  all_rest =
      subst (All (HoldsRest (foreign_of s))) (sym (placed_same s order holds))
      (All-from_contains (HoldsRest (foreign_of s)) (right.placed_of s) rest)

  none_excluded : All (λ p. is_excluded (foreign_of s) p ≡ true → is_in_image (foreign_of s) p ≡ false) (kept_sections (objects_of (foreign_of s)))
  none_excluded =
      subst (λ (os : List LoadedObject). All (λ p. is_excluded (foreign_of s) p ≡ true → is_in_image (foreign_of s) p ≡ false) (kept_sections os))
      (sym order)
      (All-from_contains (λ p. is_excluded (foreign_of s) p ≡ true → is_in_image (foreign_of s) p ≡ false) (kept_sections (right.objects_of s))
      (λ p c e.
      let lawful = All-contains (λ (p : Piece). IsLawfulKind p.header) (kept_sections (right.objects_of s)) p (holds C3).kinds c in
      absurd (false≢true (sym (ap (λ (b : Bool). b || is_discarded (foreign_of s).plan p.name) (not_excluded p.header lawful.flags)) ∙ e))))

pub checked_links_right : CheckedLinksAreRight
checked_links_right s holds = let order = in_order s holds in record {
  kept = record {
    excluded = none_excluded s order holds;
    all = λ none k p within other. refl;
    collected = λ e. absurd (false≢true e);
  };
  bytes = all_rest s order holds;
  thread_block = thread_block_right s order holds;
  entry = entry_right s order holds;
}
