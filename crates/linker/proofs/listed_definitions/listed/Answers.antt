use Rattle.std.proofs.Common.{◌≡◌, ◌∙◌, ◌++◌, List, ap, subst, sym}
use Rattle.elf_model.specs.Link.Meaning.{Meaning}
use Rattle.relocate.specs.Uses.{line_views}
use Rattle.resolve.specs.Chosen.{defined_in}
use Rattle.resolve.specs.Views.{meaning_views}
use Rattle.resolve.specs.declared.definition.Definition as code
use Rattle.linker.specs.InOrder.{AreInOrder, meanings_at, meanings_in}
use Rattle.linker.proofs.InOrderLaws.{is_listing}
use Rattle.linker.proofs.listed_definitions.listed.Goals as goal

pub returns : goal.returns
returns c =
    let o = c.in_ok-order.order in
    let found : List Meaning = meanings_in o in
    let none = ap (λ (ms : List code.Definition). meaning_views ms ++ meanings_at o.resolved.now (defined_in o.names.symbols) (line_views o.names.linkers.now) c.keys.result.now) c.in_ok-listed.ensures.items in
    let same : meaning_views c.add_definitions.new.listed.items ≡ found =
    c.in_ok-add_definitions.ensures
    ∙ none
    ∙ ap (meanings_at o.resolved.now (defined_in o.names.symbols) (line_views o.names.linkers.now)) c.keys.ensures in
    is_listing c.args.resolved.now c.add_definitions.new.listed.items c.in_ok-order.ensures.sound
    (subst (AreInOrder c.args.resolved.now) (sym same) c.in_ok-order.ensures.order)
