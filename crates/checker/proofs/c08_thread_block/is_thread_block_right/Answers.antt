use Rattle.std.proofs.Common.{◌≡◌, true, false}
use Rattle.checker.proofs.ThreadBlocks.{before_of, block_right, clear_of, held_of}
use Rattle.checker.proofs.c08_thread_block.is_thread_block_right.Goals as goal

pub returns-then-not-begin_after : goal.returns-then-not-begin_after
returns-then-not-begin_after c = (
  λ e. absurd (let f : false ≡ true = e in cc),
  λ right. absurd
      (let f : false ≡ true =
      c.if-not-begin_after.ensures.1
      (before_of c.args.base c.args.got.now c.args.placed.now c.args.memory.now c.end_of-end.result c.thread_blocks-headers.result.now
      c.thread_blocks-headers.ensures c.end_of-end.ensures right) in cc),
)

pub returns-then-not-are_clear_to : goal.returns-then-not-are_clear_to
returns-then-not-are_clear_to c = (
  λ e. absurd (let f : false ≡ true = e in cc),
  λ right. absurd
      (let f : false ≡ true =
      c.if-not-are_clear_to.ensures.1
      (clear_of c.args.base c.args.got.now c.args.placed.now c.args.memory.now c.end_of-end.result c.thread_blocks-headers.result.now
      c.thread_blocks-headers.ensures c.end_of-end.ensures right) in cc),
)

pub returns : goal.returns
returns c = (
  λ e. block_right c.args.base c.args.got.now c.args.placed.now c.args.memory.now c.end_of-end.result c.thread_blocks-headers.result.now
      c.thread_blocks-headers.ensures c.end_of-end.ensures (c.are_headers_right.ensures.0 c.if-not-are_headers_right.false)
      (c.begin_after.ensures.0 c.if-not-begin_after.false) (c.are_clear_to.ensures.0 c.if-not-are_clear_to.false) (c.hold_initial.ensures.0 e),
  λ right. c.hold_initial.ensures.1
      (held_of c.args.base c.args.got.now c.args.placed.now c.args.memory.now c.end_of-end.result c.thread_blocks-headers.result.now
      c.thread_blocks-headers.ensures c.end_of-end.ensures right),
)
