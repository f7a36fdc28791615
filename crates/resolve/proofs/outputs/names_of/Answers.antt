use Rattle.std.proofs.Common.{◌∙◌, ◌+◌, ◌||◌, ap, drop, sym, arith}
use Rattle.std.specs.List.{list_any}
use Rattle.std.proofs.lemmas.List.{at_drop_all, at_drop_more}
use Rattle.elf_model.specs.Link.UsedNames.{is_among}
use Rattle.resolve.specs.OutputSections.{is_named}
use Rattle.resolve.proofs.NamedOutputs.{name_more, nothing_left}
use Rattle.resolve.proofs.outputs.names_of.Goals as goal

pub loop-section-preserved : goal.loop-section-preserved
loop-section-preserved c = λ n.
    let xs = c.args.sections.now in
    let i = c.loop-section.section-index in
    name_more _ (is_among c.loop-section.names n) (list_any (is_named n) (drop (i + 1) xs)) _ (is_among c.add_name.new.names n) (c.in_ok-add_name.ensures n)
    (ap (λ b. is_among c.loop-section.names n || b) (sym (at_drop_more (list_any (is_named n)) xs i _ c.loop-section-test.true)) ∙ c.loop-section.invariant n)

pub returns : goal.returns
returns c = λ n.
    let xs = c.args.sections.now in
    let i = c.loop-section.section-index in
    sym (ap (λ b. is_among c.loop-section.names n || b) (at_drop_all (list_any (is_named n)) xs i (omega (arith, c.loop-section-test.false))) ∙ nothing_left (is_among c.loop-section.names n))
    ∙ c.loop-section.invariant n
