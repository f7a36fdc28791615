-- What isn't right by a link's parts isn't right.
use Rattle.std.proofs.Common.{◌≡◌, Bool, true, false, List, None, Option, Some, refl, subst, sym, ◌∙◌}
use Rattle.std.specs.Prelude.{Contains, IfSome, map, not}
use Rattle.std.proofs.lemmas.Bool.{false≢true}
use Rattle.check_link.specs.Views.{placed_view}
use Rattle.check_link.specs.declared.things.Placed as things
use Rattle.elf_model.proofs.Listed.{Contains-filter, Contains-map}
use Rattle.elf_model.specs.Link.Placement.{Placed}
use Rattle.elf_model.specs.Link.Relocation.{Relocation, relocations}
use Rattle.elf_model.specs.declared.link_map.DropLine.{DropLine}
use Rattle.elf_model.specs.declared.thing.Thing.{Thing}
use Rattle.judge_model.specs.Certificates.{is_left_out}
use Rattle.judge_model.specs.Fields.{HoldsRest, IsFieldRight}
use Rattle.judge_model.specs.Links.{ForeignLink, is_in_image_too, objects_of, placed_of, relocations_of}
use Rattle.link_fields.proofs.BesideRelocations.{rest_right}
use Rattle.link_fields.proofs.ForeignFields.{right_in}
use Rattle.link_fields.specs.Parts.{AreTaken, IsFieldRightUnlessOut, parts_of}
use Rattle.link_fields.specs.Rests.{HoldsRestIn}
use Rattle.link_fields.specs.Wrong.{IsDenied, IsWrongField, IsWrongRest, field_named, rest_named}
use Rattle.link_fields.specs.declared.wrong_places.WrongField.{WrongField}
use Rattle.link_fields.specs.declared.wrong_places.WrongRest.{WrongRest}

module _ (l : ForeignLink) (taken : List Thing) (are : AreTaken l taken) (drops : List DropLine) (same : l.certificate.drops ≡ drops) where
  -- a field that isn't right is one of a section that isn't left out
  kept : (r : Relocation) (b : Bool) → not (is_left_out drops r.object r.section) ≡ b → ¬ IsFieldRightUnlessOut (parts_of l) taken drops r → b ≡ true
  kept r true is denied = refl
  kept r false is denied = absurd (denied (record { right = λ there. absurd (false≢true (sym is ∙ there)) }))

  wrong_field_of : (w : WrongField) → IsDenied (IsFieldRightUnlessOut (parts_of l) taken drops) field_named (relocations (objects_of l)) w → IsWrongField l w
  wrong_field_of w d =
      let there : is_in_image_too l d.one ≡ true =
      subst (λ (ds : List DropLine). not (is_left_out ds d.one.object d.one.section) ≡ true) (sym same)
      (kept d.one (not (is_left_out drops d.one.object d.one.section)) refl d.denied) in
      record {
        one = d.one;
        among = Contains-filter (is_in_image_too l) (relocations (objects_of l)) d.one d.among there;
        called_is = d.called_is;
        denied = λ h. d.denied (record { right = λ here. right_in l taken are d.one h });
      }

  pub wrong_fields :
      (o : Option WrongField) → IfSome o (IsDenied (IsFieldRightUnlessOut (parts_of l) taken drops) field_named (relocations (objects_of l))) →
      IfSome o (IsWrongField l)
  wrong_fields None d = tt
  wrong_fields (Some w) d = wrong_field_of w d

-- likewise of the bytes beside fields
pub wrong_rest_of :
    (l : ForeignLink) (drops : List DropLine) → l.certificate.drops ≡ drops → (xs : List things.Placed) → map placed_view xs ≡ placed_of l →
    (o : Option WrongRest) → IfSome o (IsDenied (λ q. HoldsRestIn (parts_of l) drops (placed_view q)) (λ q. rest_named (placed_view q)) xs) →
    IfSome o (IsWrongRest l)
wrong_rest_of l drops same xs placed None d = tt
wrong_rest_of l drops same xs placed (Some w) d = record {
  one = placed_view d.one;
  among = subst (λ (qs : List Placed). Contains qs (placed_view d.one)) placed (Contains-map placed_view xs d.one d.among);
  called_is = d.called_is;
  denied = λ h. d.denied ((rest_right l drops same (placed_view d.one)).1 h);
}
