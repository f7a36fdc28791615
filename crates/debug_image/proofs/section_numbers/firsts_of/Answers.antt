use Rattle.std.proofs.Common.{◌≡◌, ◌+◌, ◌++◌, ◌∷◌, ◌∙◌, [], List, ap, arith, get_or, refl, subst, sym, take, take_all}
use Rattle.std.proofs.lemmas.List.{length-map, length-take-le, map-append, take_more}
use Rattle.placing.proofs.RunSteps.{no_place}
use Rattle.debug_image.specs.SectionNumbers.{AreFirsts}
use Rattle.debug_image.specs.Sections as spec
use Rattle.debug_image.specs.SectionViews.{section_view, section_views}
use Rattle.debug_image.specs.declared.sections.Section.{Section}
use Rattle.debug_image.proofs.section_numbers.firsts_of.Goals as goal

abbrev pub no_section : Section
no_section = record { first = no_place; end = 0; align = 0 }

pub loop-k-preserved : goal.loop-k-preserved
loop-k-preserved c =
    let ss = c.args.sections.now in
    let k = c.loop-k.k in
    let within = c.loop-k-test.true in
    let next : section_views (take (k + 1) ss) ≡ section_views (take k ss) ++ section_view (get_or ss k no_section) ∷ [] =
    ap section_views (take_more ss k no_section within) ∙ map-append section_view (take k ss) (get_or ss k no_section ∷ []) in
    subst (λ (xs : List spec.Section). AreFirsts c.args.count xs c.add_first.new.firsts) (sym next)
    (c.in_ok-add_first.ensures (section_views (take k ss)) (section_view (get_or ss k no_section)) refl
    (sym (length-map (take k ss) section_view ∙ length-take-le k ss (omega (arith, within)))) c.loop-k.invariant)

pub returns : goal.returns
returns c =
    subst (λ (xs : List Section). AreFirsts c.args.count (section_views xs) c.loop-k.firsts)
    (take_all c.loop-k.k c.args.sections.now c.loop-k-test.false) c.loop-k.invariant
