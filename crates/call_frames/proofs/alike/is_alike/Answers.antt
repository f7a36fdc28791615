use Rattle.std.proofs.Common.{◌≡◌, ◌+◌, ◌≤◌, length, ◌∙◌}
use Rattle.call_frames.proofs.AlikeLaws.{alike_from, alike_to}
use Rattle.call_frames.proofs.alike.is_alike.Goals as goal

pub returns : goal.returns
returns c =
    let frame = c.args.frame.now in
    let copy = c.args.copy.now in
    let spans = c.args.fields.now in
    let near = c.near-spans.result.now in
    let bytes = c.part-bytes.result.now in
    let part = c.part.result.now in
    let held = c.split_at.result.0.now in
    let zeros = c.split_at.result.1.now in
    let front = c.split_at.ensures.by_index.1 in
    let back = c.split_at.ensures.by_index.2 in
    let common = c.min-common.result in
    let len : length zeros + common ≡ copy.size = c.split_at.ensures.back_len ∙ c.part.ensures.size in
    let none = c.all_byte.ensures.0 c.if-not-all_byte.false in (
      λ t. alike_from c.args.frames.now c.args.list.now spans near frame copy bytes part held zeros common c.min-common.ensures c.part-bytes.ensures.same
          c.part.ensures.same (λ k low. front k 0 low) (λ k. back k 0) len c.near-spans.ensures.same none (c.are_equal_beside.ensures.0 t),
      λ alike. c.are_equal_beside.ensures.1
          (alike_to c.args.frames.now c.args.list.now spans near frame copy bytes part held zeros common c.min-common.ensures c.part-bytes.ensures.same
          c.part.ensures.same (λ k low. front k 0 low) (λ k. back k 0) len c.near-spans.ensures.same none alike),
    )
