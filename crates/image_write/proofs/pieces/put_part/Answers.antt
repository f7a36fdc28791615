use Rattle.std.proofs.Common.{◌≡◌, ◌+◌, ◌-◌, ◌≤◌, ◌<◌, ◌++◌, ◌∙◌, List, [], ap, arith, drop, length, sym, take, ℕ}
use Rattle.std.specs.Prelude.{map, slice_index}
use Rattle.std.specs.List.{range_with_len}
use Rattle.elf_model.specs.Own.OwnLayout.{own_where}
use Rattle.elf_model.specs.Link.WantedBytes.{wanted_byte}
use Rattle.placing.specs.Views.{piece_view}
use Rattle.image_write.specs.Sections.{wanted_run}
use Rattle.image_write.proofs.SectionRuns.{part_at, part_is, run_parts}
use Rattle.image_write.proofs.StreamLaws.{breaks_are, breaks_on, grows_are, grows_held, whatever}
use Rattle.image_write.proofs.pieces.put_part.Goals as goal

-- bytes that a function gives up to a number, and further ones of it
run_with :
    (f : ℕ → ℕ) (bytes : List ℕ) (from next size : ℕ) → from ≤ next → next ≤ size → bytes ≡ map f (range_with_len from (next - from)) →
    bytes ++ map f (range_with_len next (size - next)) ≡ map f (range_with_len from (size - from))
run_with f bytes from next size low high is =
    ap (λ (xs : List ℕ). xs ++ map f (range_with_len next (size - next))) is ∙ sym (run_parts f from next size low high)

-- bytes that are those of the function from a number on, up to another one
untouched_run :
    (f : ℕ → ℕ) (bytes : List ℕ) (from next : ℕ) → from ≤ next → next ≤ length bytes →
    ((k : ℕ) → from ≤ k → k < next → f k ≡ slice_index bytes k) → take (next - from) (drop from bytes) ≡ map f (range_with_len from (next - from))
untouched_run f bytes from next low high same =
    part_is f bytes from (next - from) (omega (arith, low, high)) (λ k l h. same k l (omega (arith, h, low)))

pub returns-in_err-put_untouched-clause-breaks : goal.returns-in_err-put_untouched-clause-breaks
returns-in_err-put_untouched-clause-breaks g c =
    let f : ℕ → ℕ = wanted_byte c.args.patches.now.objects (own_where c.args.patches.now.base c.args.patches.now.objects) (piece_view c.args.piece.now) in
    let low : c.args.from ≤ c.min-next.result = omega (arith, c.min-next.ensures, c.next_field.ensures.from, c.requires.inside) in
    let high : c.min-next.result ≤ length c.args.piece.now.bytes.now = omega (arith, c.min-next.ensures) in
    let is = untouched_run f c.args.piece.now.bytes.now c.args.from c.min-next.result low high
    (λ k l h. c.next_field.ensures.untouched (piece_view c.args.piece.now) c.section_of-section.ensures.object c.section_of-section.ensures.section k l (omega (arith, h, c.min-next.ensures))) in
    whatever _ c.from_residual.result
    (breaks_are _ _ _ _ (run_with f _ c.args.from c.min-next.result (length c.args.piece.now.bytes.now) low high is)
    (breaks_on _ _ (take (c.min-next.result - c.args.from) (drop c.args.from c.args.piece.now.bytes.now))
    (map f (range_with_len c.min-next.result (length c.args.piece.now.bytes.now - c.min-next.result))) c.in_err-put_untouched.ensures.breaks))

pub returns-then-next-from-ge-BUFFER_SIZE-clause-grows : goal.returns-then-next-from-ge-BUFFER_SIZE-clause-grows
returns-then-next-from-ge-BUFFER_SIZE-clause-grows g c =
    let f : ℕ → ℕ = wanted_byte c.args.patches.now.objects (own_where c.args.patches.now.base c.args.patches.now.objects) (piece_view c.args.piece.now) in
    let low : c.args.from ≤ c.min-next.result = omega (arith, c.min-next.ensures, c.next_field.ensures.from, c.requires.inside) in
    let high : c.min-next.result ≤ length c.args.piece.now.bytes.now = omega (arith, c.min-next.ensures) in
    grows_are _ _ _ _
    (untouched_run f c.args.piece.now.bytes.now c.args.from c.min-next.result low high
    (λ k l h. c.next_field.ensures.untouched (piece_view c.args.piece.now) c.section_of-section.ensures.object c.section_of-section.ensures.section k l (omega (arith, h, c.min-next.ensures))))
    c.in_ok-put_untouched.ensures.grows

pub returns-in_err-make_room-clause-breaks : goal.returns-in_err-make_room-clause-breaks
returns-in_err-make_room-clause-breaks g c =
    let objects = c.args.patches.now.objects in
    whatever _ c.from_residual-in_err-make_room.result
    (breaks_on _ _ []
    (wanted_run objects (own_where c.args.patches.now.base objects) (piece_view c.args.piece.now) c.args.from (length c.args.piece.now.bytes.now - c.args.from))
    c.in_err-make_room.ensures.puts.breaks)

pub returns-clause-grows : goal.returns-clause-grows
returns-clause-grows g c =
    let objects = c.args.patches.now.objects in
    let p = piece_view c.args.piece.now in
    let f : ℕ → ℕ = wanted_byte objects (own_where c.args.patches.now.base objects) p in
    let bytes = c.args.piece.now.bytes.now in
    let from = c.args.from in
    let count = c.min-count.result in
    let len = c.part_of.ensures.len in
    let inside = c.requires.inside in
    let m = c.min-count.ensures in
    let within : from + count ≤ length bytes = omega (arith, m, inside) in
    let size : length c.part_of.result.now ≡ (from + count) - from = omega (arith, len) in
    grows_are _ _ _ _ (ap (λ (n : ℕ). map f (range_with_len from n)) size)
    (grows_held _ _ _ _ _ [] (map f (range_with_len from (length c.part_of.result.now)))
    (c.add_relocated.ensures p c.section_of-section.ensures
    (λ k low. ap (λ (xs : List ℕ). slice_index xs k) c.part_of.ensures.part ∙ part_at bytes from count k within (omega (arith, low, len))))
    c.in_ok-make_room.ensures.puts.grows)
