use Rattle.std.proofs.Common.{rules, ◌≡◌, ◌++◌, ◌∙◌, List, ap, arith, length, sym, ℕ}
use Rattle.std.specs.Prelude.{map, slice_index}
use Rattle.std.specs.List.{range_with_len}
use Rattle.std.proofs.lemmas.List.FromFn.{length-map-range_with_len}
use Rattle.elf_model.specs.Own.OwnLayout.{own_where}
use Rattle.elf_model.specs.Link.WantedBytes.{wanted_byte}
use Rattle.image_write.specs.Sections.{wanted_run}
use Rattle.image_write.proofs.PieceSteps.{back_is, front_is, put_is}
use Rattle.image_write.proofs.buffer.Buffer.add_relocated.Goals as goal

pub returns : goal.returns
returns c = λ p of part.
    let out = c.args.self.now in
    let bytes = c.args.bytes.now in
    let objects = c.args.patches.now.objects in
    let w = own_where c.args.patches.now.base objects in
    let d : c.deref_mut.result.now ≡ out ++ bytes =
    c.deref_mut.ensures.value ∙ (c.in-Ok.ensures.items ∙ ap (λ (xs : List ℕ). xs ++ bytes) c.self.view_is) in
    let count : c.len-at.result ≡ length c.self.inside.bytes.items = search rules in
    let at : c.len-at.result ≡ length out = count ∙ ap (λ (xs : List ℕ). length xs) c.self.view_is in
    let f = front_is out bytes c.deref_mut.result.now c.split_at_mut-part.result.0.now c.len-at.result at d c.split_at_mut-part.ensures.front in
    let b = back_is out bytes c.deref_mut.result.now c.split_at_mut-part.result.1.now c.len-at.result at d c.split_at_mut-part.ensures.back in
    let size : length c.split_at_mut-part.result.1.now ≡ length bytes = ap (λ (xs : List ℕ). length xs) b in
    let n : c.apply_part.new.bytes ≡ wanted_run objects w p c.args.from (length bytes) =
    c.apply_part.ensures p of.object of.section
    (λ k low. ap (λ (xs : List ℕ). slice_index xs k) b ∙ part k (omega (arith, low, size)))
    ∙ ap (λ (k : ℕ). map (wanted_byte objects w p) (range_with_len c.args.from k)) size in
    put_is out bytes c.split_at_mut-part.result.0.now c.apply_part.new.bytes (wanted_run objects w p c.args.from (length bytes)) _ c.extend_from_slice.new.self.len f n
    (length-map-range_with_len (wanted_byte objects w p) c.args.from (length bytes))
    (sym c.deref_mut.ensures.len ∙ ap (λ (xs : List ℕ). length xs) d)
