-- What a check says of an image for tools excludes that it is the one: a cause of a refusal denies the link, and the numbers of one link can
-- be said or can't.
use Rattle.std.proofs.Common.{◌≡◌, ℕ, List, inl, inr, subst}
use Rattle.std.specs.Prelude.{None, Ok, Option, Some, false}
use Rattle.std.proofs.lemmas.Bool.{true≢false}
use Rattle.elf_model.specs.Inputs.Command.{Plan, command_of}
use Rattle.elf_model.specs.Inputs.Files.{File}
use Rattle.elf_model.specs.Link.Loading.{loaded_objects}
use Rattle.elf_model.specs.Own.Causes.{Cause, HasRoom, IsLinkable}
use Rattle.elf_model.specs.Own.OwnLayout.{OwnValuesFit}
use Rattle.elf_model.specs.declared.faults.LinkError.{LinkError}
use Rattle.elf_model.specs.declared.faults.LinkError.TheVariants as error
use Rattle.image_write.specs.Linkages.{own_image}
use Rattle.linker.proofs.FinalRefusals.{denies_links}
use Rattle.debug_image.specs.declared.debug_file.Wanted.{Wanted}
use Rattle.debug_main.specs.Verdicts.{IsNone, IsRefused, IsToolImage, IsTooLarge, is_memory}
use Rattle.debug_main.specs.declared.verdict.Difference.{Difference}
use Rattle.debug_main.proofs.OneImage.{one_said, same_ok}

module _ (files : List File) (words : List (List ℕ)) (w : Wanted) (image : List ℕ) (one : IsToolImage files words w image) where
  linkable : IsLinkable files words one.link.plan
  linkable = one.prepared.linkable

  -- what holds of the plan of the words holds of the link's
  of_plan : (P : Plan → Type 0) (p : Plan) → command_of words ≡ Ok p → P p → P one.link.plan
  of_plan P p is here = subst P (same_ok p one.link.plan (command_of words) is linkable.before.before.before.before.before.before.words_are) here

  -- a final refusal denies each link, and what the linker's own layout is refused for denies its own
  denied : (e : LinkError) → Cause files words e → is_memory e ≡ false → ⊥
  denied error.Memory c other = true≢false other
  denied error.TooLarge c other =
      of_plan (λ p. ¬ HasRoom p (loaded_objects files p)) c.0 c.1.before.before.before.before.words_are c.2 linkable.before.room
  denied error.Overflow c other =
      of_plan (λ p. ¬ OwnValuesFit p.base (loaded_objects files p)) c.0 c.1.before.before.before.before.before.words_are c.2 linkable.fits
  denied (error.Command f) c other = denies_links files words (error.Command f) c tt (own_image one.link) one.own.text one.own.right
  denied (error.BadObject f) c other = denies_links files words (error.BadObject f) c tt (own_image one.link) one.own.text one.own.right
  denied (error.BadArchive f) c other = denies_links files words (error.BadArchive f) c tt (own_image one.link) one.own.text one.own.right
  denied (error.BadGroup f) c other = denies_links files words (error.BadGroup f) c tt (own_image one.link) one.own.text one.own.right
  denied (error.Duplicate name) c other = denies_links files words (error.Duplicate name) c tt (own_image one.link) one.own.text one.own.right
  denied (error.Undefined name) c other = denies_links files words (error.Undefined name) c tt (own_image one.link) one.own.text one.own.right
  denied e c other = denies_links files words e c tt (own_image one.link) one.own.text one.own.right

  pub refused : IsRefused files words → ⊥
  refused is = denied is.error is.cause is.other

  large : IsTooLarge files words w → ⊥
  large is = is.large (one_said files words w one.link is.link one.names is.names one.prepared is.prepared one.listing is.listing one.said)

pub refused_excludes : (files : List File) (words : List (List ℕ)) (w : Wanted) (image : List ℕ) → IsRefused files words → IsToolImage files words w image → ⊥
refused_excludes files words w image is one = refused files words w image one is

pub none_excludes :
    (files : List File) (words : List (List ℕ)) (w : Wanted) (image : List ℕ) (d : Option Difference) → IsNone files words w image d →
    IsToolImage files words w image → ⊥
none_excludes files words w image None (inl bare) one = bare.2.none one
none_excludes files words w image None (inr (inl is)) one = refused files words w image one is
none_excludes files words w image None (inr (inr is)) one = large files words w image one is
none_excludes files words w image (Some d) other one = other.none one
