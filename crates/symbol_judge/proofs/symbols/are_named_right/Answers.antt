use Rattle.std.proofs.Common.{◌∙◌, List, subst, sym}
use Rattle.std.specs.Prelude.{All, IsPermutation}
use Rattle.std.proofs.lemmas.Bool.{false≢true}
use Rattle.elf_model.specs.declared.records.Symbol.{Symbol}
use Rattle.symbol_judge.specs.Entries.{IsRightNamed}
use Rattle.symbol_judge.proofs.NamedLaws.{entries_by, there_by}
use Rattle.symbol_judge.proofs.symbols.are_named_right.Goals as goal

pub returns-then-not-has_names : goal.returns-then-not-has_names
returns-then-not-has_names c = λ l parts sections strings symbols strips.
    let p = c.in_ok-meanings.meanings in
    let own = parts ∙ sym c.in_ok-meanings.ensures.parts in
    let none = c.in_ok-meanings.ensures.script in
    let others = c.deref.result.now in
    let order = subst (λ (xs : List Symbol). IsPermutation c.split_at.result.1.now xs) (sym c.deref.ensures.value) c.in_ok-others.ensures in
    let law =
    there_by l p c.args.sections.now c.args.strings.now c.args.entries.now c.split_at.result.0.now c.split_at.result.1.now others
    c.in_ok-names.names c.args.strips own none sections strings symbols strips c.split_at.ensures.front c.split_at.ensures.back order
    c.in_ok-names.ensures in (
      λ t. absurd (false≢true t),
      λ r. absurd (false≢true (sym c.if-not-has_names.true ∙ c.has_names.ensures.1 (law.1 r.there))),
    )

pub returns : goal.returns
returns c = λ l parts sections strings symbols strips.
    let p = c.in_ok-meanings.meanings in
    let own = parts ∙ sym c.in_ok-meanings.ensures.parts in
    let none = c.in_ok-meanings.ensures.script in
    let others = c.deref.result.now in
    let order = subst (λ (xs : List Symbol). IsPermutation c.split_at.result.1.now xs) (sym c.deref.ensures.value) c.in_ok-others.ensures in
    let law =
    there_by l p c.args.sections.now c.args.strings.now c.args.entries.now c.split_at.result.0.now c.split_at.result.1.now others
    c.in_ok-names.names c.args.strips own none sections strings symbols strips c.split_at.ensures.front c.split_at.ensures.back order
    c.in_ok-names.ensures in
    let P = IsRightNamed p c.args.sections.now c.args.strings.now c.in_ok-names.names c.in_ok-locals.locals in
    let same = c.deref-2.ensures.value ∙ sym c.deref.ensures.value in
    let each =
    entries_by l p c.args.sections.now c.args.strings.now c.args.entries.now c.split_at.result.0.now c.split_at.result.1.now
    others c.in_ok-names.names c.args.strips own none sections strings symbols strips c.split_at.ensures.front
    c.split_at.ensures.back order c.in_ok-names.ensures c.in_ok-locals.locals c.in_ok-locals.ensures in (
      λ t. record {
        entries_are = each.0 (subst (λ (xs : List Symbol). All P xs) same (c.are_entries_right.ensures.0 t));
        there = law.0 (c.has_names.ensures.0 c.if-not-has_names.false);
      },
      λ r. c.are_entries_right.ensures.1 (subst (λ (xs : List Symbol). All P xs) (sym same) (each.1 r.entries_are)),
    )
