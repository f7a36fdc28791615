use Rattle.std.proofs.Common.{◌≡◌, ◌+◌, ◌-◌, ◌∷◌, [], ◌∙◌, ℕ, List, ap, length, subst, take, arith}
use Rattle.std.specs.Prelude.{slice_index}
use borrow.Rule.Slice.PartMut.{put_mid}
use Rattle.byteview.proofs.NumberLaws.{low_first_is, take-le_bytes}
use Rattle.debug_image.specs.DebugValues.{byte_under}
use Rattle.debug_image.specs.DebugViews.{field_view}
use Rattle.debug_image.proofs.FieldSteps.{written}
use Rattle.debug_image.proofs.fields.write.Goals as goal

pub returns : goal.returns
returns c = λ k low.
    let f = c.args.field.now in
    let bytes = c.args.bytes.now in
    let new = c.copy_from_slice.new.self in
    let same : f.width ≡ f.at + f.width - f.at = omega arith in
    subst (λ (n : ℕ). slice_index (put_mid f.at n bytes new) k ≡ byte_under k (slice_index bytes k) (field_view f ∷ [])) same
    (written (field_view f) bytes new k
    (c.copy_from_slice.ensures.after
    ∙ (c.split_at.ensures.front
    ∙ (ap (λ (bs : List ℕ). take f.width bs) (c.to_le_bytes-spelled.ensures ∙ low_first_is 8 f.value)
    ∙ take-le_bytes f.width 8 f.value c.requires.narrow)))
    (ap (λ (bs : List ℕ). length bs) c.copy_from_slice.ensures.after ∙ c.split_at.ensures.front_len) c.requires.inside)
