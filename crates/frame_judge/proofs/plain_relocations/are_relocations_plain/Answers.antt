use Rattle.std.proofs.Common.{◌≡◌, List, not, subst, sym, true}
use Rattle.std.specs.Prelude.{◌↔◌, All}
use Rattle.std.proofs.lemmas.List.Elements.{All-weaker}
use Rattle.check_load.specs.Views.{loaded_views}
use Rattle.elf_model.specs.Link.Loading.{LoadedObject}
use Rattle.elf_model.specs.Link.Pieces.{Piece}
use Rattle.elf_model.specs.Link.Relocation.{Relocation, relocations}
use Rattle.elf_model.specs.declared.link_map.DropLine.{DropLine}
use Rattle.judge_model.specs.Certificates.{is_left_out}
use Rattle.judge_model.specs.Frames.{IsPlain}
use Rattle.judge_model.specs.Links.{framed_of, is_in_image_too, objects_of, relocations_of}
use Rattle.link_fields.proofs.Lists.{passing}
use Rattle.frame_judge.specs.Plain.{IsPlainUnlessOut}
use Rattle.frame_judge.proofs.plain_relocations.are_relocations_plain.Goals as goal

pub returns : goal.returns
returns c = λ l same dropped framed.
    let ps = c.args.framed.now in
    let drops = c.args.drops.now in
    let objects = loaded_views c.args.objects.now in
    let pass = passing (IsPlain (framed_of l)) (is_in_image_too l) (relocations (objects_of l)) in
    let there : (r : Relocation) → IsPlainUnlessOut ps drops r → is_in_image_too l r ≡ true → IsPlain (framed_of l) r =
    λ r h in_image. subst (λ (qs : List Piece). IsPlain qs r) (sym framed) (h.plain (subst (λ (ds : List DropLine). not (is_left_out ds r.object r.section) ≡ true) dropped in_image)) in
    let back : (r : Relocation) → (is_in_image_too l r ≡ true → IsPlain (framed_of l) r) → IsPlainUnlessOut ps drops r =
    λ r h. record { plain = λ kept. subst (λ (qs : List Piece). IsPlain qs r) framed (h (subst (λ (ds : List DropLine). not (is_left_out ds r.object r.section) ≡ true) (sym dropped) kept)) } in (
      λ t. pass.1 (All-weaker (IsPlainUnlessOut ps drops) (λ (r : Relocation). is_in_image_too l r ≡ true → IsPlain (framed_of l) r) there
          (relocations (objects_of l)) (subst (λ (os : List LoadedObject). All (IsPlainUnlessOut ps drops) (relocations os)) (sym same) (c.are_all_plain.ensures.0 t))),
      λ all. c.are_all_plain.ensures.1 (subst (λ (os : List LoadedObject). All (IsPlainUnlessOut ps drops) (relocations os)) same
          (All-weaker (λ (r : Relocation). is_in_image_too l r ≡ true → IsPlain (framed_of l) r) (IsPlainUnlessOut ps drops) back (relocations (objects_of l)) (pass.0 all))),
    )
