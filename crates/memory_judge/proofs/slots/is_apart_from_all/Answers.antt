use Rattle.memory_judge.proofs.SpanLaws.{clear_of}
use Rattle.memory_judge.proofs.slots.is_apart_from_all.Goals as goal

pub returns : goal.returns
returns c =
    let both = clear_of c.args.at c.args.taken.now c.spans.result.now c.spans.ensures c.requires in
    (λ e. both.0 (c.is_apart_from_spans.ensures.0 e), λ all. c.is_apart_from_spans.ensures.1 (both.1 all))
