-- The place of a relocation of one object is right among all objects.
use Rattle.std.proofs.Common.{◌≡◌, ℕ, ◌<◌, inl, inr, Bool, false, List, [], length, get_or, Some, ap, sym, subst, ◌∙◌, arith}
use Rattle.std.specs.Prelude.{◌↔◌, IsTrue, option_map, unwrap_or}
use Rattle.std.specs.List.{slice_get}
use Rattle.std.specs.Option.{option_and_then, option_map_or}
use Rattle.std.proofs.lemmas.Option.{slice_get-get_or, slice_get-map}
use Rattle.check_load.specs.KeptRelocations.{relocation_at}
use Rattle.check_load.specs.Views.{loaded_view, loaded_views}
use Rattle.check_load.specs.declared.kept_relocations.KeptRelocation.{KeptRelocation}
use Rattle.check_load.specs.declared.loaded.Loaded.{Loaded}
use Rattle.elf_model.specs.Inputs.ObjectFile.{rela_type, section, section_bytes, sections}
use Rattle.elf_model.specs.Link.Loading.{LoadedObject}
use Rattle.elf_model.specs.Link.Pieces.{is_executable}
use Rattle.elf_model.specs.declared.thing.Thing.{Thing}
use Rattle.field_judge.specs.Given.{Given}
use Rattle.field_judge.specs.Rewritten.{IsOfKind, IsPlaceRight}
use Rattle.judge_model.specs.Fields.{instruction_of, is_code_in}
use Rattle.judge_model.specs.Rewrites.{Instruction, front_of, instruction_in}
use Rattle.link_fields.specs.Parts.{IsPlaceRightIn, Parts, given}

-- an object that is read is there
pub object_there : (xs : List Loaded) (k : ℕ) (x : Loaded) → k < length xs → x ≡ get_or xs k x → slice_get (loaded_views xs) k ≡ Some (loaded_view x)
object_there xs k x low is =
    slice_get-map loaded_view xs k
    ∙ (ap (option_map loaded_view) (slice_get-get_or xs k x low) ∙ ap (λ (y : Loaded). Some (loaded_view y)) (sym is))

-- a place without an instruction is right where its field is
pub field_alone :
    (image : List ℕ) (things : List Thing) (g : Given) (type front : ℕ) (code : Bool) (i : Instruction) (b : Bool) → front ≡ 0 →
    IsTrue b ↔ IsOfKind image things g type → IsTrue b ↔ IsPlaceRight image things g type front code i
field_alone image things g type front code i b none both = (
  λ t. inl (record { front_is = λ some. absurd (omega (arith, some, none)); field = both.0 t }),
  by,
)
  where
    by : IsPlaceRight image things g type front code i → IsTrue b
    by (inl same) = both.1 same.field
    by (inr row) = let some = row.told in absurd (omega (arith, some, none))

module _ (p : Parts) (things : List Thing) (number : ℕ) (o : LoadedObject) (k : KeptRelocation) (image : List ℕ) (b : Bool) (same : image ≡ p.image) (own : slice_get p.objects number ≡ Some o) where
  abbrev g : Given
  g = given p (relocation_at number o k)

  code_of : is_executable (section (sections o.bytes) k.section) ≡ is_code_in p.objects (relocation_at number o k)
  code_of = ap (λ x. option_map_or (λ (q : LoadedObject). is_executable (section (sections q.bytes) k.section)) x false) (sym own)

  instruction_is : instruction_in (unwrap_or (section_bytes o.bytes k.section) []) k.entry ≡ instruction_of p.objects (relocation_at number o k)
  instruction_is =
      ap (λ x. instruction_in (unwrap_or (option_and_then (λ (q : LoadedObject). section_bytes q.bytes k.section) x) []) k.entry) (sym own)

  pub alone_right :
      (type front : ℕ) → type ≡ rela_type k.entry → front ≡ front_of k.entry → front ≡ 0 →
      IsTrue b ↔ IsOfKind image things g type → IsTrue b ↔ IsPlaceRightIn p things (relocation_at number o k)
  alone_right type front type_is front_is none both =
      field_alone p.image things g (rela_type k.entry) (front_of k.entry) (is_code_in p.objects (relocation_at number o k))
      (instruction_of p.objects (relocation_at number o k)) b (sym front_is ∙ none)
      (subst (λ (i : List ℕ). IsTrue b ↔ IsOfKind i things g (rela_type k.entry)) same
      (subst (λ (t : ℕ). IsTrue b ↔ IsOfKind image things g t) type_is both))

  pub place_right :
      (type front : ℕ) (code : Bool) (i : Instruction) → type ≡ rela_type k.entry → front ≡ front_of k.entry →
      code ≡ is_executable (section (sections o.bytes) k.section) → i ≡ instruction_in (unwrap_or (section_bytes o.bytes k.section) []) k.entry →
      IsTrue b ↔ IsPlaceRight image things g type front code i → IsTrue b ↔ IsPlaceRightIn p things (relocation_at number o k)
  place_right type front code i type_is front_is code_is i_is both =
      subst (λ (m : List ℕ). IsTrue b ↔ IsPlaceRight m things g (rela_type k.entry) (front_of k.entry) (is_code_in p.objects (relocation_at number o k)) (instruction_of p.objects (relocation_at number o k))) same
      (subst (λ (t : ℕ). IsTrue b ↔ IsPlaceRight image things g t (front_of k.entry) (is_code_in p.objects (relocation_at number o k)) (instruction_of p.objects (relocation_at number o k))) type_is
      (subst (λ (f : ℕ). IsTrue b ↔ IsPlaceRight image things g type f (is_code_in p.objects (relocation_at number o k)) (instruction_of p.objects (relocation_at number o k))) front_is
      (subst (λ (c : Bool). IsTrue b ↔ IsPlaceRight image things g type front c (instruction_of p.objects (relocation_at number o k))) (code_is ∙ code_of)
      (subst (λ (j : Instruction). IsTrue b ↔ IsPlaceRight image things g type front code j) (i_is ∙ instruction_is) both))))
