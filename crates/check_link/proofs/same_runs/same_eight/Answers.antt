use Rattle.std.proofs.Common.{◌∙◌, List, ℕ, ap}
use Rattle.byteview.specs.Numbers.{le_at}
use Rattle.check_link.proofs.RunParts.{by_word}
use Rattle.check_link.proofs.same_runs.same_eight.Goals as goal

pub returns : goal.returns
returns c =
    by_word c.args.a.now c.args.b.now c.args.at 8 c.u64_inside.result c.u64_inside-2.result c.are_bytes.ensures c.are_bytes-2.ensures c.requires.a
    c.requires.b (c.u64_inside.ensures ∙ ap (λ (l : List ℕ). le_at 8 l c.args.at) c.new.ensures)
    (c.u64_inside-2.ensures ∙ ap (λ (l : List ℕ). le_at 8 l c.args.at) c.new-2.ensures)
