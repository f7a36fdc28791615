use Rattle.std.proofs.Common.{Bool, List, ap, arith, length, refl, subst, sym, ◌∙◌}
use Rattle.std.proofs.lemmas.Bool.{false≢true}
use Rattle.std.proofs.lemmas.List.{length-map}
use Rattle.std.specs.Prelude.{All, filter}
use Rattle.elf_model.specs.Link.ChosenSymbols.{is_chosen}
use Rattle.elf_model.specs.Link.Meaning.{meanings_of}
use Rattle.elf_model.specs.Link.Resolution.{SymbolOf}
use Rattle.check_link.specs.Views.{meaning_view, meaning_views}
use Rattle.check_tables.proofs.SymbolLines.{listed, unique_told}
use Rattle.check_link.specs.Chosen.{AreOtherChoices, AreOwnChoices}
use Rattle.check_tables.specs.Listed.{IsChosenIfStrong}
use Rattle.check_tables.proofs.c13_symbols.listed_choices.Goals as goal

pub returns-in_default-clause-listed : goal.returns-in_default-clause-listed
returns-in_default-clause-listed c =
    let L = c.args.bindings.now.objects in
    let told = rw c.in_default.is at c.chosen_count.ensures.unique in (
      λ t. absurd (false≢true t),
      λ h. absurd (false≢true (told.1 (subst (All (IsChosenIfStrong L)) (sym c.definitions-definitions.ensures) ((unique_told L).1 h.1)))),
    )

pub returns-then-not-is_sum-clause-listed : goal.returns-then-not-is_sum-clause-listed
returns-then-not-is_sum-clause-listed c =
    let L = c.args.bindings.now.objects in
    let rows = c.args.lines.now.rows in
    let count = rw c.in-Some.is at c.chosen_count.ensures.count in
    let own = count ∙ ap (λ (ss : List SymbolOf). length (meanings_of L (filter (is_chosen L) ss))) c.definitions-definitions.ensures in
    let lines = listed L c.args.bindings.now.places rows (meaning_views c.in_ok-linkers.linkers.items) c.in-Some.count c.in_ok-linkers.ensures c.requires own in
    let a = c.len.ensures in
    let b = length-map c.in_ok-linkers.linkers.items meaning_view in (
      λ t. absurd (false≢true t),
      λ h. absurd (false≢true (sym c.if-not-is_sum.true ∙ c.is_sum.ensures.1 (let e = (lines.1 h.2).1 in omega (arith, a, b, e)))),
    )

pub returns-then-not-are_right_lines-clause-listed : goal.returns-then-not-are_right_lines-clause-listed
returns-then-not-are_right_lines-clause-listed c =
    let L = c.args.bindings.now.objects in
    let w = c.args.bindings.now.places in
    let rows = c.args.lines.now.rows in
    let count = rw c.in-Some.is at c.chosen_count.ensures.count in
    let own = count ∙ ap (λ (ss : List SymbolOf). length (meanings_of L (filter (is_chosen L) ss))) c.definitions-definitions.ensures in
    let lines = listed L w rows (meaning_views c.in_ok-linkers.linkers.items) c.in-Some.count c.in_ok-linkers.ensures c.requires own in (
      λ t. absurd (false≢true t),
      λ h. absurd
          (false≢true (sym c.if-not-are_right_lines.true ∙ c.are_right_lines.ensures.1 (lines.1 h.2).0)),
    )

pub returns-clause-listed : goal.returns-clause-listed
returns-clause-listed c =
    let L = c.args.bindings.now.objects in
    let w = c.args.bindings.now.places in
    let rows = c.args.lines.now.rows in
    let count = rw c.in-Some.is at c.chosen_count.ensures.count in
    let told = rw c.in-Some.is at c.chosen_count.ensures.unique in
    let unique = (unique_told L).0 (subst (All (IsChosenIfStrong L)) c.definitions-definitions.ensures (told.0 refl)) in
    let own = count ∙ ap (λ (ss : List SymbolOf). length (meanings_of L (filter (is_chosen L) ss))) c.definitions-definitions.ensures in
    let lines = listed L w rows (meaning_views c.in_ok-linkers.linkers.items) c.in-Some.count c.in_ok-linkers.ensures c.requires own in
    let a = c.len.ensures in
    let b = length-map c.in_ok-linkers.linkers.items meaning_view in
    let sum = c.is_sum.ensures.0 c.if-not-is_sum.false in
    let right = c.are_right_lines.ensures.0 c.if-not-are_right_lines.false in (
      λ e. (c.are_sound.ensures.0 c.if-not-are_sound.false, unique, lines.0 (right, omega (arith, a, b, sum))),
      λ h. refl,
    )

pub chosen_count-requires-clause-own : goal.chosen_count-requires-clause-own
chosen_count-requires-clause-own c =
    let L = c.args.bindings.now.objects in
    subst (λ (marks : List Bool). AreOwnChoices L c.definitions-definitions.result.now marks) (sym c.deref.ensures.value)
    (subst (λ (ss : List SymbolOf). AreOwnChoices L ss c.in_ok-own.own.items) (sym c.definitions-definitions.ensures) c.in_ok-own.ensures.own)

pub chosen_count-requires-clause-others : goal.chosen_count-requires-clause-others
chosen_count-requires-clause-others c =
    let L = c.args.bindings.now.objects in
    subst (λ (marks : List Bool). AreOtherChoices L c.definitions-definitions.result.now marks) (sym c.deref.ensures.value)
    (subst (λ (ss : List SymbolOf). AreOtherChoices L ss c.in_ok-own.own.items) (sym c.definitions-definitions.ensures) c.in_ok-own.ensures.others)
