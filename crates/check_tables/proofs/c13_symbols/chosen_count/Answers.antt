use Rattle.std.proofs.Common.{◌≡◌, ◌+◌, ◌<◌, ℕ, List, ap, arith, drop, length, subst, sym, ◌∙◌}
use Rattle.std.specs.Prelude.{All, filter}
use Rattle.std.proofs.lemmas.Option.{get_or_from_slice_get}
use Rattle.elf_model.proofs.Rests.{all_more}
use Rattle.elf_model.specs.Link.ChosenSymbols.{is_chosen}
use Rattle.elf_model.specs.Link.Meaning.{meanings_of}
use Rattle.elf_model.specs.Link.Resolution.{SymbolOf}
use Rattle.check_tables.specs.Listed.{IsChosenIfStrong}
use Rattle.check_link.proofs.Positions.{drop_there, get_or_some}
use Rattle.check_tables.proofs.OwnChoices.{other_there, own_there}
use Rattle.check_tables.proofs.SymbolLines.{count_there, lawful_there, more_lines}
use Rattle.check_tables.proofs.c13_symbols.chosen_count.Goals as goal

pub is_chosen_by-chosen-requires-clause-own : goal.is_chosen_by-chosen-requires-clause-own
is_chosen_by-chosen-requires-clause-own c = λ e.
    own_there c.args.bindings.now.objects c.args.definitions.now c.args.own.now c.loop-i.i c.requires.own (sym c.mark_at.ensures ∙ e)

pub is_chosen_by-chosen-requires-clause-others : goal.is_chosen_by-chosen-requires-clause-others
is_chosen_by-chosen-requires-clause-others c = λ e.
    other_there c.args.bindings.now.objects c.args.definitions.now c.args.own.now c.loop-i.i c.requires.others (sym c.mark_at.ensures ∙ e)

pub loop-i-preserved : goal.loop-i-preserved
loop-i-preserved c =
    let L = c.args.bindings.now.objects in
    let xs = c.args.definitions.now in
    let i = c.loop-i.i in
    let within : i < length xs = omega (arith, c.loop-i-test.true, c.len-i-end.ensures) in
    let some = get_or_some xs i within in
    let here = some.0 in
    let rest = drop (i + 1) xs in
    let few = rw c.in-Some.is at c.line_count.ensures.few in
    let own = count_there L _ here c.line_count.result c.in-Some.more some.1 c.in-Some.is c.line_count.ensures.count in
    let lawful = lawful_there L _ here c.line_count.result c.in-Some.more some.1 c.in-Some.is c.line_count.ensures.lawful in
    let split : length (meanings_of L (filter (is_chosen L) (drop i xs))) ≡ c.in-Some.more + length (meanings_of L (filter (is_chosen L) rest)) =
    ap (λ (ys : List SymbolOf). length (meanings_of L (filter (is_chosen L) ys))) (drop_there xs i here some.1)
    ∙ more_lines L here rest
    ∙ ap (λ (n : ℕ). n + length (meanings_of L (filter (is_chosen L) rest))) (sym own) in
    let before = c.loop-i.invariant.few in
    let whole = c.loop-i.invariant.count in
    record {
      few = omega (arith, few, before);
      count = omega (arith, split, whole);
      unique =
          all_more (All (IsChosenIfStrong L) xs) (IsChosenIfStrong L) xs i here
          within (subst (IsChosenIfStrong L) (sym (get_or_from_slice_get xs i here here some.1)) lawful) c.loop-i.invariant.unique;
    }
