use Rattle.std.proofs.Common.{◌∙◌, ◌+◌, ◌||◌, ap, drop, map, sym, arith}
use Rattle.std.specs.Prelude.{Bool}
use Rattle.std.proofs.lemmas.List.{at_drop_all, at_drop_more}
use Rattle.elf_model.specs.Link.UsedNames.{is_among}
use Rattle.resolve.specs.OutputSections.{output_view}
use Rattle.layout.specs.Mixed.{is_twice_from}
use Rattle.layout.proofs.MixedOutputs.{none_more, twice_more}
use Rattle.layout.proofs.mixed_outputs.twice_named.Goals as goal

pub loop-section-preserved : goal.loop-section-preserved
loop-section-preserved c = λ n.
    let xs = c.args.sections.now in
    let i = c.loop-section.section-index in
    let seen = is_among c.loop-section.seen n in
    twice_more _ seen (is_among c.loop-section.twice n) seen _ (is_among c.add_name.new.twice n) (is_among c.add_name.new.seen n)
    (λ (b : Bool). is_twice_from n b (map output_view (drop (i + 1) xs)))
    (c.in_ok-add_name.ensures.seen n) (c.in_ok-add_name.ensures.twice n)
    (ap (λ b. is_among c.loop-section.twice n || b) (sym (at_drop_more (λ ys. is_twice_from n seen (map output_view ys)) xs i _ c.loop-section-test.true))
    ∙ c.loop-section.invariant n)

pub returns : goal.returns
returns c = λ n.
    let xs = c.args.sections.now in
    let i = c.loop-section.section-index in
    let twice = is_among c.loop-section.twice n in
    sym (ap (λ b. twice || b) (at_drop_all (λ ys. is_twice_from n (is_among c.loop-section.seen n) (map output_view ys)) xs i (omega (arith, c.loop-section-test.false)))
    ∙ none_more twice)
    ∙ c.loop-section.invariant n
