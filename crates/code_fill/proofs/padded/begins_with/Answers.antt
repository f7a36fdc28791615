use Rattle.std.proofs.Common.{◌∙◌, arith, sym}
use Rattle.code_fill.proofs.Padding.{begins_by, begins_not, lesser}
use Rattle.code_fill.proofs.padded.begins_with.Goals as goal

pub returns-then-not-starts_with : goal.returns-then-not-starts_with
returns-then-not-starts_with c =
    let run = c.args.run in
    let text = c.args.text.now in
    let n = c.min.ensures in
    record {
      exact = begins_not run.bytes.now text c.split_at.result.0.now c.split_at.result.1.now run.zeros c.min.result (omega (arith, n)) (omega (arith, n))
          (lesser c.min.result _ _ n) c.split_at.ensures.front c.split_at.ensures.back (sym c.starts_with.ensures.exact ∙ c.if-not-starts_with.true);
    }

pub returns : goal.returns
returns c =
    let run = c.args.run in
    let text = c.args.text.now in
    let n = c.min.ensures in
    record {
      exact = begins_by run.bytes.now text c.split_at.result.0.now c.split_at.result.1.now run.zeros c.min.result (omega (arith, n)) (omega (arith, n))
          (lesser c.min.result _ _ n) c.split_at.ensures.front c.split_at.ensures.back c.are_so_many_zeros.result
          (sym c.starts_with.ensures.exact ∙ c.if-not-starts_with.false) c.are_so_many_zeros.ensures;
    }
