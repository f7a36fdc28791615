use Rattle.std.proofs.Common.{◌≡◌, ◌∙◌, ◌++◌, List, ap, arith, map, subst, sym}
use Rattle.std.proofs.lemmas.List.{append-nil, drop_all}
use Rattle.elf_model.specs.Image.MapRecord.{place_row}
use Rattle.elf_model.specs.Image.MapText.{Ascends, DropBefore}
use Rattle.elf_model.specs.declared.link_map.PlaceLine.{PlaceLine}
use Rattle.judge_stages.specs.Stages.{key_of}
use Rattle.place_judge.proofs.Orders.{rows_rise}
use Rattle.judge_stages.proofs.keys.keys_of.Goals as goal

pub returns-clause-rising : goal.returns-clause-rising
returns-clause-rising c =
    let items = c.loop-line.keys.items in
    let is : items ≡ map key_of (map place_row c.args.lines.now) =
    sym (append-nil items)
    ∙ (ap (λ (rest : List PlaceLine). items ++ map key_of (map place_row rest))
    (sym (drop_all c.loop-line.line-index c.args.lines.now (omega (arith, c.loop-line-test.false))))
    ∙ c.loop-line.invariant) in
    subst (Ascends DropBefore) (sym is) ((rows_rise DropBefore key_of (map place_row c.args.lines.now)).0 c.requires)
