use Rattle.std.proofs.Common.{◌≡◌, ◌+◌, ◌≤◌, List, ℕ, length, subst, sym, ◌∙◌, arith}
use Rattle.judge_model.specs.Frames.{records_of}
use Rattle.call_frames.proofs.FrameLaws.{in_order, placed_in}
use Rattle.call_frames.proofs.frames.CallFrames.part.Goals as goal

pub returns-clause-size : goal.returns-clause-size
returns-clause-size c =
    let list = c.args.self.now in
    let view : c.self.inside.bytes.now ≡ list = c.self.view_is in
    let placed = placed_in (length list) (records_of list) (in_order list) c.args.frame.now c.requires in
    c.part.ensures.len
    (subst (λ (bytes : List ℕ). c.args.frame.now.offset + c.args.frame.now.size ≤ length bytes) (sym (c.new.ensures ∙ view)) placed.inside)

pub returns-clause-fits : goal.returns-clause-fits
returns-clause-fits c =
    let list = c.args.self.now in
    let view : c.self.inside.bytes.now ≡ list = c.self.view_is in
    let placed = placed_in (length list) (records_of list) (in_order list) c.args.frame.now c.requires in
    let inside =
    subst (λ (bytes : List ℕ). c.args.frame.now.offset + c.args.frame.now.size ≤ length bytes) (sym view) placed.inside in
    omega (arith, inside, c.self.told.0)
