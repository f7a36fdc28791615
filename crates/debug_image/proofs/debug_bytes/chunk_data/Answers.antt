use Rattle.std.proofs.Common.{◌≡◌, ◌∙◌, ◌<◌, ◌++◌, ℕ, List, ap, arith, drop, length, map, sym, take}
use Rattle.std.specs.Prelude.{slice_index}
use Rattle.std.specs.List.{range_with_len}
use Rattle.std.proofs.lemmas.List.{ext_get_or}
use Rattle.std.proofs.lemmas.List.FromFn.{get_or-map-range_with_len, length-map-range_with_len}
use Rattle.std.proofs.Math.Seq.{take-append_seam}
use Rattle.placing.specs.PlaceViews.{place_view}
use Rattle.debug_image.specs.DebugLayouts.{data_in}
use Rattle.std.proofs.Common.{◌||◌, Bool, rules}
use Rattle.std.specs.Prelude.{replicate}
use Rattle.std.proofs.lemmas.List.{get_or-replicate, length-replicate}
use Rattle.debug_image.specs.DebugValues.{Field, byte_under, entries_left, fields}
use Rattle.debug_image.specs.Marks.{has_twice}
use Rattle.debug_image.proofs.FieldSteps.{marked}
use Rattle.debug_image.proofs.debug_bytes.chunk_data.Goals as goal

written_back_any : (old new : List ℕ) (n : ℕ) → n ≡ length new → take n (new ++ drop (length new) old) ≡ new
written_back_any old new n size = ap (λ m. take m (new ++ drop (length new) old)) size ∙ take-append_seam new (drop (length new) old)

-- bytes over which fields are written
under_all :
    (old new : List ℕ) (fs : List Field) → length new ≡ length old →
    ((k : ℕ) → k < length old → slice_index new k ≡ byte_under k (slice_index old k) fs) →
    new ≡ map (λ k. byte_under k (slice_index old k) fs) (range_with_len 0 (length old))
under_all old new fs long each =
    let f : ℕ → ℕ = λ k. byte_under k (slice_index old k) fs in
    let n = length-map-range_with_len f 0 (length old) in
    ext_get_or 0 new (map f (range_with_len 0 (length old))) (long ∙ sym n)
    (λ k low. each k (omega (arith, low, long)) ∙ sym (get_or-map-range_with_len f 0 (length old) k k 0 (omega (arith, low, long)) (omega arith)))

pub returns-clause-bytes : goal.returns-clause-bytes
returns-clause-bytes c =
    let q = place_view c.args.chunk.now.place in
    let fs = fields (data_in c.args.layout.now) q in
    let old = c.deref_mut.result.now in
    let new = c.write_wanted-left.new.bytes in
    let is : old ≡ q.piece.bytes = c.deref_mut.ensures.value ∙ c.in_ok-bytes.ensures.items in
    written_back_any c.in_ok-bytes.bytes.items new c.in_ok-bytes.bytes.len (sym (c.write_wanted-left.auto.bytes ∙ c.deref_mut.ensures.len))
    ∙ under_all old new fs c.write_wanted-left.auto.bytes c.write_wanted-left.ensures.bytes
    ∙ ap (λ (xs : List ℕ). map (λ k. byte_under k (slice_index xs k) fs) (range_with_len 0 (length xs))) is

pub returns-clause-left : goal.returns-clause-left
returns-clause-left c =
    let q = place_view c.args.chunk.now.place in
    let d = data_in c.args.layout.now in
    let fs = fields d q in
    let old = c.deref_mut-2.result.now in
    let new = c.write_wanted-left.new.marks in
    let n = length q.piece.bytes in
    let size : c.len.result ≡ n = c.len.ensures ∙ c.in_ok-bytes.ensures.len in
    let is : old ≡ replicate c.len.result 0 = c.deref_mut-2.ensures.value ∙ c.in_ok-marks.ensures.items_if_clones_equal (λ y k. search rules) in
    let long : length old ≡ n = ap (λ (xs : List ℕ). length xs) is ∙ (length-replicate c.len.result 0 ∙ size) in
    c.either-has_left.ensures
    ∙ (ap (λ (b : Bool). b || c.has_twice.result) c.write_wanted-left.ensures.left
    ∙ ap (λ (b : Bool). entries_left d q || b)
    (c.has_twice.ensures
    ∙ (ap has_twice
    (c.deref.ensures.value ∙ written_back_any c.in_ok-marks.marks.items new c.in_ok-marks.marks.len (sym (c.write_wanted-left.auto.marks ∙ c.deref_mut-2.ensures.len)))
    ∙ marked old new n fs (c.write_wanted-left.auto.marks ∙ long) long
    (λ k low. ap (λ (xs : List ℕ). slice_index xs k) is ∙ get_or-replicate c.len.result k 0 0 (omega (arith, low, size)))
    (λ k low. c.write_wanted-left.ensures.marks k (omega (arith, low, long))))))
