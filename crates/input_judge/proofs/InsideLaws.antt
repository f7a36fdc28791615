-- Fields of the sections of an image, among all.
use Rattle.std.proofs.Common.{◌≡◌, List, subst, sym, true, not}
use Rattle.std.specs.Prelude.{◌↔◌, All}
use Rattle.std.proofs.lemmas.List.Elements.{All-weaker}
use Rattle.elf_model.specs.Link.Loading.{LoadedObject}
use Rattle.elf_model.specs.Link.Relocation.{Relocation, relocations}
use Rattle.elf_model.specs.declared.link_map.DropLine.{DropLine}
use Rattle.judge_model.specs.Certificates.{is_left_out}
use Rattle.judge_model.specs.Fields.{IsInside}
use Rattle.judge_model.specs.Links.{ForeignLink, is_in_image_too, objects_of, relocations_of}
use Rattle.link_fields.proofs.Lists.{passing}
use Rattle.input_judge.specs.Inside.{IsInsideUnlessOut}

pub all_inside :
    (l : ForeignLink) (objects : List LoadedObject) (drops : List DropLine) → objects_of l ≡ objects → l.certificate.drops ≡ drops →
    All (IsInsideUnlessOut drops) (relocations objects) ↔ All IsInside (relocations_of l)
all_inside l objects drops same dropped = (
  λ all.
      (passing IsInside (is_in_image_too l) (relocations (objects_of l))).1
      (All-weaker (IsInsideUnlessOut drops) (λ (r : Relocation). is_in_image_too l r ≡ true → IsInside r)
      (λ r h there. h.inside (subst (λ (ds : List DropLine). not (is_left_out ds r.object r.section) ≡ true) dropped there))
      (relocations (objects_of l)) (subst (λ (os : List LoadedObject). All (IsInsideUnlessOut drops) (relocations os)) (sym same) all)),
  λ all.
      subst (λ (os : List LoadedObject). All (IsInsideUnlessOut drops) (relocations os)) same
      (All-weaker (λ (r : Relocation). is_in_image_too l r ≡ true → IsInside r) (IsInsideUnlessOut drops)
      (λ r h. record { inside = λ there. h (subst (λ (ds : List DropLine). not (is_left_out ds r.object r.section) ≡ true) (sym dropped) there) })
      (relocations (objects_of l)) ((passing IsInside (is_in_image_too l) (relocations (objects_of l))).0 all)),
)
