use Rattle.std.proofs.Common.{subst, sym}
use Rattle.std.specs.List.Sorted.{IsNonDecreasingBy}
use Rattle.std.proofs.lemmas.List.Sorted.{IsNonDecreasingBy-take}
use Rattle.symbol_judge.specs.declared.locals.Local.{Local}
use Rattle.symbol_judge.proofs.PartLaws.{part_iff}
use Rattle.symbol_judge.proofs.locals.has_local.Goals as goal

pub count_through-requires : goal.count_through-requires
count_through-requires c = c.requires.rising

pub count_before-requires : goal.count_before-requires
count_before-requires c =
    subst (IsNonDecreasingBy (λ (x : Local). x.key)) (sym c.split_at.ensures.front)
    (IsNonDecreasingBy-take (λ (x : Local). x.key) c.count_through.result c.args.table.now c.requires.rising)

pub returns : goal.returns
returns c =
    let law =
    part_iff c.args.table.now c.split_at.result.0.now c.split_at-2.result.1.now c.key_of-key.result c.count_before.result c.count_through.result
    c.split_at.ensures.front c.split_at-2.ensures.back c.count_before.ensures.before c.count_through.ensures.behind c.requires.keys
    c.args.sections.now c.args.number c.args.entry.now c.key_of-key.ensures in (
      λ t. law.0 (c.any_local.ensures.0 t),
      λ some. c.any_local.ensures.1 (law.1 some),
    )
