use Rattle.std.proofs.Common.{List, arith, ap, length, subst, sym, take, ℕ, ◌+◌, ◌-◌, ◌≡◌, ◌∷◌, [], ◌∙◌}
use Rattle.std.specs.Prelude.{slice_index}
use borrow.Rule.Slice.PartMut.{put_mid}
use Rattle.byteview.proofs.NumberLaws.{low_first_is}
use Rattle.reloc_values.specs.Patches.{patched_byte}
use Rattle.reloc_values.proofs.Overlaid.{written}
use Rattle.reloc_values.proofs.patch.write.Goals as goal

pub returns-then-count-eq-WORD : goal.returns-then-count-eq-WORD
returns-then-count-eq-WORD c = λ k low.
    let p = c.args.patch.now in
    let from = c.args.from in
    let bytes = c.args.bytes.now in
    let at = c.saturating_sub-at.result in
    let new = c.copy_from_slice.new.self in
    let same : 4 ≡ at + 4 - at = omega arith in
    subst (λ (n : ℕ). slice_index (put_mid at n bytes new) k ≡ patched_byte from bytes (p ∷ []) k) same
    (written p from at c.saturating_sub-earlier.result 4 k bytes c.to_le_bytes-spelled.result new
    (record {
      at_is = c.saturating_sub-at.ensures;
      earlier_is = c.saturating_sub-earlier.ensures;
      some = c.if-earlier-width.false;
      within = c.if-at-bytes.false;
      count_is = sym c.if-count-eq-WORD.true ∙ c.min-count.ensures;
    })
    c.requires.narrow (c.to_le_bytes-spelled.ensures ∙ low_first_is 8 p.value)
    (c.copy_from_slice.ensures.after ∙ (c.split_at-then-count-eq-WORD.ensures.front ∙ ap (λ (bs : List ℕ). take 4 bs) c.split_at.ensures.back))
    (ap (λ (bs : List ℕ). length bs) c.copy_from_slice.ensures.after ∙ c.split_at-then-count-eq-WORD.ensures.front_len) low)

pub returns : goal.returns
returns c = λ k low.
    let p = c.args.patch.now in
    let from = c.args.from in
    let bytes = c.args.bytes.now in
    let at = c.saturating_sub-at.result in
    let count = c.min-count.result in
    let new = c.copy_from_slice-2.new.self in
    let same : count ≡ at + count - at = omega arith in
    subst (λ (n : ℕ). slice_index (put_mid at n bytes new) k ≡ patched_byte from bytes (p ∷ []) k) same
    (written p from at c.saturating_sub-earlier.result count k bytes c.to_le_bytes-spelled.result new
    (record {
      at_is = c.saturating_sub-at.ensures;
      earlier_is = c.saturating_sub-earlier.ensures;
      some = c.if-earlier-width.false;
      within = c.if-at-bytes.false;
      count_is = c.min-count.ensures;
    })
    c.requires.narrow (c.to_le_bytes-spelled.ensures ∙ low_first_is 8 p.value)
    (c.copy_from_slice-2.ensures.after ∙ (c.split_at-2.ensures.front ∙ ap (λ (bs : List ℕ). take count bs) c.split_at.ensures.back))
    (ap (λ (bs : List ℕ). length bs) c.copy_from_slice-2.ensures.after ∙ c.split_at-2.ensures.front_len) low)
