use Rattle.std.proofs.Common.{◌∙◌, List, ℕ, ap, sym}
use Rattle.std.proofs.lemmas.Bool.{eq-eqb, eqb-true}
use Rattle.byteview.specs.Numbers.{le, le_at, part}
use Rattle.check_link.proofs.RunParts.{part_bytes, part_long, same_number}
use Rattle.checker.proofs.same_runs.has_long.Goals as goal

pub returns : goal.returns
returns c =
    let a = c.args.held.now in
    let b = c.args.spelled.now in
    let x = c.u64_inside.ensures ∙ ap (λ (l : List ℕ). le_at 8 l c.args.at) c.new.ensures in
    let y = c.u64_inside-2.ensures ∙ ap (λ (l : List ℕ). le_at 8 l 0) c.new-2.ensures in (
      λ e. same_number (part a c.args.at 8) (part b 0 8) 8 (part_bytes a c.args.at 8 c.are_bytes.ensures c.requires.held) (part_bytes b 0 8 c.are_bytes-2.ensures c.requires.spelled)
          (part_long a c.args.at 8 c.requires.held) (part_long b 0 8 c.requires.spelled)
          (sym x ∙ (eqb-true c.u64_inside.result c.u64_inside-2.result e ∙ y)),
      λ same. eq-eqb c.u64_inside.result c.u64_inside-2.result (x ∙ (ap le same ∙ sym y)),
    )
